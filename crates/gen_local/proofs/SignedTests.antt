-- What a call says of a signature is what the test says.
use Rattle.std.proofs.Common.{◌≡◌, ◌↔◌, IsTrue, ℕ, Bool, true, false, List, Result, Ok, Err, IfOk, sym}
use Rattle.gen_types.specs.declared.heights.TreeHeight.{TreeHeight}
use Rattle.gen_tree.specs.Signatures.{Verifies}
use Rattle.gen_net.specs.Header.{RunHeader}
use Rattle.gen_chain.specs.declared.statements.Statement.{Statement}
use Rattle.gen_chain.specs.Verifying.{HasSigned}
use Rattle.gen_chain.specs.Verified.{has_signed, is_under}
use Rattle.gen_chain.proofs.TestedChains.{signed_has, signed_gives, under_has, under_gives}

pub same_told : (a b : Bool) → (IsTrue a → IsTrue b) → (IsTrue b → IsTrue a) → a ≡ b
same_told true true f g = cc
same_told true false f g = sym (f cc)
same_told false true f g = g cc
same_told false false f g = cc

pub signed_told : (h : RunHeader) (g : ℕ) (t : Statement) (signature : List ℕ) (told : Bool) → IsTrue told ↔ HasSigned h g t signature → told ≡ has_signed h g t signature
signed_told h g t signature told is = same_told told (has_signed h g t signature) (λ e. signed_gives h g t signature (is.0 e)) (λ e. is.1 (signed_has h g t signature e))

pub under_told : (root : List ℕ) (height : TreeHeight) (leaf : ℕ) (digest signature : List ℕ) (told : Bool) → IsTrue told ↔ Verifies root height leaf digest signature → told ≡ is_under root height leaf digest signature
under_told root height leaf digest signature told is = same_told told (is_under root height leaf digest signature) (λ e. under_gives root height leaf digest signature (is.0 e)) (λ e. is.1 (under_has root height leaf digest signature e))

pub signed_answer : {E : Type 0} (h : RunHeader) (g : ℕ) (t : Statement) (signature : List ℕ) (r : Result Bool E) → IfOk r (λ told. IsTrue told ↔ HasSigned h g t signature) → IfOk r (λ told. told ≡ has_signed h g t signature)
signed_answer h g t signature (Ok told) is = signed_told h g t signature told is
signed_answer h g t signature (Err e) is = is
