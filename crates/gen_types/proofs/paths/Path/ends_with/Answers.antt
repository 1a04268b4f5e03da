use Rattle.std.proofs.Common.{◌-◌, [], ◌∷◌, length, take}
use Rattle.std.proofs.lemmas.Slice.Eq.{ends_is}
use Rattle.std.proofs.lemmas.Bool.Decides.{Decides-eqb}
use Rattle.gen_types.proofs.paths.Path.ends_with.Goals as goal

pub returns : goal.returns
returns c =
    let h = ends_is Decides-eqb c.args.self.now (c.args.general ∷ []) c.ends_with.result (rw (← c.generals.ensures) c.ends_with.ensures.value) in
    ((λ e. (take (length c.args.self.now - 1) c.args.self.now, h.0 e)), λ r. h.1 r.0 r.1)
