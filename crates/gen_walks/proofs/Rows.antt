-- The rows of levels, one general after the other.
use Rattle.std.proofs.Common.{◌≡◌, ℕ, ◌+◌, ◌<◌, inl, inr, List, [], ◌∷◌, ◌++◌, length, get_or, sym, subst, arith, length-append}
use Rattle.std.proofs.lemmas.Bool.{cases_eq}
use Rattle.std.proofs.lemmas.List.{get_or_append_left}
use Rattle.std.proofs.Math.Seq.{get_or-append_seam}
use Rattle.gen_net.specs.Network.{Network}
use Rattle.gen_walks.specs.Walks.{AreJoined}
use Rattle.gen_walks.specs.Levels.{level}
use Rattle.gen_walks.specs.Loops.Search.{AreLevels, AreLevelRows}

pub no_row : (net : Network) (rest : List ℕ) → AreLevelRows net rest 0 []
no_row net rest = record { long = omega arith; each = λ g row l. absurd (omega arith) }

pub row_added : (net : Network) (rest : List ℕ) (n : ℕ) (rows : List (List ℕ)) (new : List ℕ) → AreLevelRows net rest n rows → AreLevels (AreJoined net rest) n (level new) → AreLevelRows net rest (n + 1) (rows ++ new ∷ [])
row_added net rest n rows new so levels = record {
  long = omega (arith, so.long, length-append rows (new ∷ []));
  each = λ g row l. elim (cases_eq g n) [
    | inl e ↦
        let at : length rows ≡ g = omega (arith, so.long) in
        let is : get_or (rows ++ new ∷ []) g row ≡ new = subst (λ k. get_or (rows ++ new ∷ []) k row ≡ new) at (get_or-append_seam rows new [] row) in
        rw is (subst (λ k. AreLevels (AreJoined net rest) k (level new)) (sym e) levels)
    | inr ne ↦ rw (get_or_append_left rows (new ∷ []) row g (omega (arith, so.long, l, ne))) (so.each g row (omega (arith, l, ne)))
  ];
}

-- the row at the place of a general is his
pub row_at : (net : Network) (rest : List ℕ) (n : ℕ) (rows : List (List ℕ)) (g i : ℕ) (row : List ℕ) → AreLevelRows net rest n rows → g < n → i ≡ g → row ≡ get_or rows i row → AreLevels (AreJoined net rest) g (level row)
row_at net rest n rows g i row so l place is =
    let found : get_or rows g row ≡ row = subst (λ k. get_or rows k row ≡ row) place (sym is) in
    subst (λ r. AreLevels (AreJoined net rest) g (level r)) found (so.each g row l)
