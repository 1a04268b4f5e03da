-- Roots and files of roots that are made piece by piece.
use Rattle.std.specs.Prelude.{ℕ, ◌≡◌, ◌+◌, List, ◌++◌}
use Rattle.gen_types.specs.declared.heights.TreeHeight.{TreeHeight}
use Rattle.gen_identity.specs.Sets.{set_roots}
use Rattle.gen_identity.specs.States.{state_after}
use Rattle.gen_enroll.specs.RootFiles.{RootFile, file_spelling, head_of, head_spelling, roots_spelling}

-- the roots of m + n sets are those of the first m, and those of n sets from the state behind them on
abbrev pub SecretsJoin : Type 0
SecretsJoin = (state : List ℕ) (height : TreeHeight) (m n : ℕ)
    → set_roots state height (m + n)
    ≡ set_roots state height m ++ set_roots (state_after state m) height n

-- the bytes of a file whose roots are two pieces are those of its head, of the first piece, and of the second
abbrev pub FilesJoin : Type 0
FilesJoin = (f : RootFile) (first second : List (List ℕ)) → f.roots ≡ first ++ second
    → file_spelling f
    ≡ (head_spelling (head_of f) ++ roots_spelling first) ++ roots_spelling second
