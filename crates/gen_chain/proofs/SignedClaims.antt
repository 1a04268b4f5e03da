-- Signings side by side: their claims, and the answers to these.
use Rattle.std.proofs.Common.{◌≡◌, ◌↔◌, ℕ, ◌<◌, ◌≤◌, Bool, IsTrue, false, List, [], ◌∷◌, length, map, slice_index_or, take, subst, arith}
use Rattle.std.proofs.lemmas.List.{get_or-take, length-take-le}
use Rattle.sha_lanes.specs.declared.words.TheConstants.{LANES}
use Rattle.gen_net.specs.Header.{RunHeader}
use Rattle.gen_tree.specs.Claims.{Stands}
use Rattle.gen_tree.specs.declared.claims.SignatureClaim.{SignatureClaim}
use Rattle.gen_chain.specs.Signings.{IsSigned, triple_of}
use Rattle.gen_chain.specs.declared.signings.Signing.{Signing}
use Rattle.gen_chain.specs.Store.{Triple}
use Rattle.gen_chain.proofs.SignedFour.{through}

-- the claim in each of the first lanes stands where the signing is true
abbrev pub AreClaims : RunHeader → List Signing → ℕ → List SignatureClaim → Type 0
AreClaims h xs n claims =
    (j : ℕ) → j < n → (d : SignatureClaim) → (other : Triple)
    → Stands (slice_index_or claims j d) ↔ IsSigned h (slice_index_or (map triple_of xs) j other)

-- so the answers to the claims are those to the signings
pub claims_answer : (h : RunHeader) (xs : List Signing) (claims : List SignatureClaim) (answers : List Bool) (n : ℕ) → length claims ≡ LANES → n ≤ LANES
    → AreClaims h xs n claims
    → ((j : ℕ) → j < length (take n claims) → (other : SignatureClaim) → IsTrue (slice_index_or answers j false) ↔ Stands (slice_index_or (take n claims) j other))
    → (j : ℕ) → j < n → (other : Triple) → IsTrue (slice_index_or answers j false) ↔ IsSigned h (slice_index_or (map triple_of xs) j other)
claims_answer h xs [] answers n wide few are told j below other = absurd (omega (arith, wide))
claims_answer h xs (x ∷ claims) answers n wide few are told j below other =
    let long : length (take n (x ∷ claims)) ≡ n = length-take-le n (x ∷ claims) (omega (arith, wide)) in
    let at : IsTrue (slice_index_or answers j false) ↔ Stands (slice_index_or (x ∷ claims) j x) =
    subst (λ y. IsTrue (slice_index_or answers j false) ↔ Stands y) (get_or-take n (x ∷ claims) j x below) (told j (omega (arith, long)) x) in
    through at (are j below x other)
