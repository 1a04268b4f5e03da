use Rattle.std.proofs.Common.{◌+◌, ◌≤◌, Bool, true, false, cond, not, List, [], ◌∷◌, length, arith}
use Rattle.std.specs.List.{position_or_len}
use Rattle.gen_net.specs.SameHeaders.{same_header}
use Rattle.gen_judging.proofs.facts.conviction_told.Goals as goal

-- a place is at most the number of all
within : {X : Type 0} (p : X → Bool) (xs : List X) → position_or_len p xs ≤ length xs
within p [] = omega arith
within p (x ∷ xs) =
    let rest = within p xs in
    elim (p x) as (λ b. cond (not b) (1 + position_or_len p xs) 0 ≤ length (x ∷ xs)) [ true ↦ omega arith | false ↦ omega (arith, rest) ]

pub overflow_cast-one : goal.overflow_cast-one
overflow_cast-one c =
    let upto = within (λ b. same_header b.header c.in-Across.first.header) c.args.bundles.now in
    omega (arith, c.place_of-one.ensures, upto, c.requires)

pub overflow_cast-other : goal.overflow_cast-other
overflow_cast-other c =
    let upto = within (λ b. same_header b.header c.in-Across.second.header) c.args.bundles.now in
    omega (arith, c.place_of-other.ensures, upto, c.requires)
