use Rattle.std.proofs.Common.{◌≡◌, true, ◌<◌, sym, subst, ◌∙◌}
use Rattle.gen_net.specs.Header.{RunHeader}
use Rattle.gen_net.specs.SameHeaders.{same_header}
use Rattle.gen_net.specs.SameHeaderLaws.{header_decides}
use Rattle.gen_convict.specs.AcrossFinding.{is_rival}
use Rattle.gen_convict.proofs.AcrossTests.{tests_rivals}
use Rattle.gen_convict.proofs.SharingTests.{not_true, twice_not}
use Rattle.gen_convict.proofs.across_checking.is_across_from.Goals as goal

pub returns-then-ne : goal.returns-then-ne
returns-then-ne c = (
  (λ t. absurd cc),
  (λ k. absurd (not_true (same_header c.args.header.now c.args.first.now.header) (sym c.ne.ensures ∙ c.if-ne.true) ((header_decides c.args.header.now c.args.first.now.header).1 (sym k.of_first)))),
)

pub returns-then-not-is_rival : goal.returns-then-not-is_rival
returns-then-not-is_rival c = (
  (λ t. absurd cc),
  (λ k. let e = (tests_rivals c.args.first.now c.args.second.now).1 k.across.rivals in let was = c.is_rival.ensures in let not_so = c.if-not-is_rival.true in absurd cc),
)

pub text_verifies-requires : goal.text_verifies-requires
text_verifies-requires c =
    let e : same_header c.args.header.now c.args.first.now.header ≡ true = twice_not (same_header c.args.header.now c.args.first.now.header) (sym c.ne.ensures ∙ c.if-ne.false) in
    subst (λ (h : RunHeader). c.args.general < h.network.generals) ((header_decides c.args.header.now c.args.first.now.header).0 e) c.requires

pub text_verifies-requires-then-text_verifies : goal.text_verifies-requires-then-text_verifies
text_verifies-requires-then-text_verifies c =
    let same : same_header c.args.header.now c.args.first.now.header ≡ true = twice_not (same_header c.args.header.now c.args.first.now.header) (sym c.ne.ensures ∙ c.if-ne.false) in
    let was = c.is_rival.ensures in
    let so = c.if-not-is_rival.false in
    let e : is_rival c.args.first.now c.args.second.now ≡ true = cc in
    let r = (tests_rivals c.args.first.now c.args.second.now).0 e in
    subst (λ n. c.args.general < n) r.runs.generals (subst (λ (h : RunHeader). c.args.general < h.network.generals) ((header_decides c.args.header.now c.args.first.now.header).0 same) c.requires)

pub returns-then-text_verifies : goal.returns-then-text_verifies
returns-then-text_verifies c =
    let same : same_header c.args.header.now c.args.first.now.header ≡ true = twice_not (same_header c.args.header.now c.args.first.now.header) (sym c.ne.ensures ∙ c.if-ne.false) in
    let was = c.is_rival.ensures in
    let so = c.if-not-is_rival.false in
    let e : is_rival c.args.first.now c.args.second.now ≡ true = cc in
    let r = (tests_rivals c.args.first.now c.args.second.now).0 e in (
      (λ t. record {
        of_first = sym ((header_decides c.args.header.now c.args.first.now.header).0 same);
        across = record { one = c.text_verifies.ensures.0 c.if-text_verifies.true; other = c.text_verifies-then-text_verifies.ensures.0 t; rivals = r };
      }),
      (λ k. c.text_verifies-then-text_verifies.ensures.1 k.across.other),
    )

pub returns-else-text_verifies : goal.returns-else-text_verifies
returns-else-text_verifies c = (
  (λ t. absurd cc),
  (λ k. let told = c.text_verifies.ensures.1 k.across.one in let not_so = c.if-text_verifies.false in absurd cc),
)
