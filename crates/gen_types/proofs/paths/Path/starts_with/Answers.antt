use Rattle.std.proofs.Common.{length, drop}
use Rattle.std.proofs.lemmas.Slice.Eq.{starts_is}
use Rattle.std.proofs.lemmas.Bool.Decides.{Decides-eqb}
use Rattle.gen_types.proofs.paths.Path.starts_with.Goals as goal

pub returns : goal.returns
returns c =
    let h = starts_is Decides-eqb c.args.self.now c.args.front.now c.starts_with.result (rw (← c.generals.ensures, ← c.generals-2.ensures) c.starts_with.ensures.value) in
    ((λ e. (drop (length c.args.front.now) c.args.self.now, h.0 e)), λ r. h.1 r.0 r.1)
