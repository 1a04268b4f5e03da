use Rattle.std.proofs.Common.{ap, refl}
use Rattle.gen_local.specs.declared.heads.Ending.{Ending}
use Rattle.gen_local.proofs.Reported.{with_head}
use Rattle.gen_local.proofs.reporting.reading_of.Goals as goal

pub returns-in_ok-put_if-in-Own-clause-reading : goal.returns-in_ok-put_if-in-Own-clause-reading
returns-in_ok-put_if-in-Own-clause-reading c =
    let h = c.args.header.now in
    let general = c.args.exhibit.now.general in
    let is = rw c.in-Own.is at c.requires.opening in
    let ending = rw c.in-Own.is at c.requires.ending in
    let head = c.head_of.ensures h (rw c.general-general.ensures (ap (λ (e : Ending). e.link) ending)) in
    let sealed = ap (λ (e : Ending). e.sealed) ending in
    rw is.read (
      refl,
      record {
        fits_run = is.fits_run;
        says = is.says;
        unsigned = rw c.entries.ensures at c.in_ok-unsigned-in-Own.ensures.first;
        sealed = sealed;
        departs = c.departs-departure.ensures.departs general is.says.starts;
        follows = c.departs-departure.ensures.follows general is.says.starts;
        texts = with_head h general c.in-Own.log _ _ c.args.ending.now.sealed (rw (c.new-texts.ensures.items, c.entries.ensures) at c.in_ok-unsigned-in-Own.ensures.texts) sealed (rw (head, c.head.ensures, c.general-general.ensures) at c.in_ok-put_if-in-Own.ensures);
      },
    )
