-- A test that says whether a number is a member of a list.
use Rattle.std.proofs.Common.{◌≡◌, ◌↔◌, ℕ, Bool, true, false, List, sym, refl}
use Rattle.std.specs.Prelude.{Contains, IsTrue}
use Rattle.std.proofs.lemmas.Bool.{false≢true}
use Rattle.gen_types.specs.Ends.{is_among}
use Rattle.gen_types.proofs.Among.{in_among, out_among}

pub held : (b : Bool) (xs : List ℕ) (x : ℕ) → (IsTrue b ↔ Contains xs x) → b ≡ is_among xs x
held true xs x exactly = sym (in_among xs x (exactly.0 refl))
held false xs x exactly = sym (out_among xs x (λ c. false≢true (exactly.1 c)))
