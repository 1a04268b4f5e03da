use Rattle.std.proofs.Common.{◌≡◌, ◌∙◌, ℕ, List, Bor, Bool, filter, map, sym, subst, rules}
use Rattle.std.specs.List.{range_with_len}
use Rattle.gen_asked.specs.Faulty.{generals_named, is_named, names_general}
use Rattle.gen_asked.proofs.Named.{any_mapped, left_out, put_in}
use Rattle.gen_asked.proofs.faulty.generals_named.Goals as goal
use Rattle.gen_asked.proofs.faulty.generals_named.Goals.{then-is_named, else-is_named}

pub generals-preserved : goal.generals-preserved
generals-preserved c =
    let P : ℕ → Bool = is_named (map (λ (x : Bor (List ℕ)). x.now) c.args.texts.now) in
    let k = c.generals.number in
    let told : c.is_named.result ≡ P k = c.is_named.ensures ∙ any_mapped (names_general k) c.args.texts.now in
    elim c.if-is_named.branch [
      | then-is_named w ↦ rw w.set-is (put_in P k c.generals.set _ c.generals.invariant (sym told ∙ w.if-is_named.true) (rw c.at-general.ensures at w.insert.ensures.members))
      | else-is_named w ↦ rw w.set-is (left_out P k c.generals.set c.generals.invariant (sym told ∙ w.if-is_named.false))
    ]

pub returns : goal.returns
unfolding generals_named
returns c =
    let all : c.generals.number ≡ 16 = search rules in
    subst (λ (n : ℕ). c.generals.set ≡ filter (is_named (map (λ (x : Bor (List ℕ)). x.now) c.args.texts.now)) (range_with_len 0 n)) all c.generals.invariant
