-- Signers one by one: what holds of those who were looked at, and one signer more.
use Rattle.std.proofs.Common.{◌≡◌, inl, inr, ℕ, List, [], ◌∷◌, ◌++◌, refl, sym, ap, subst, ◌∙◌, append_assoc}
use Rattle.std.proofs.lemmas.List.{append-nil, map-append}
use Rattle.gen_types.proofs.Lists.{not_nil, split_longer}
use Rattle.gen_net.specs.Header.{RunHeader}
use Rattle.gen_chain.specs.declared.chains.Signer.{Signer}
use Rattle.gen_chain.specs.Chain.{signed_path}
use Rattle.gen_chain.specs.Verifying.{HasSigned, HasSignedBehind, EachHasSigned}

pub none_signed : (h : RunHeader) (order : ℕ) → EachHasSigned h order []
none_signed h order front back s e = absurd (not_nil front s back (sym e))

pub signed-push : (h : RunHeader) (order : ℕ) (signers : List Signer) (last : Signer) → EachHasSigned h order signers → HasSignedBehind h order signers last → EachHasSigned h order (signers ++ last ∷ [])
signed-push h order signers last all signed front back s e = elim (split_longer front back signers s last (sym e)) [
  | inl both ↦
      let same : last ≡ s = sym both.0 in
      let before : signers ≡ front = sym both.1 in
      subst (λ (t : Signer). HasSignedBehind h order front t) same (subst (λ (f : List Signer). HasSignedBehind h order f last) before signed)
  | inr inside ↦ all front inside.0 s inside.1
]

-- the signers before the rest are those whose path this is, and each of them has signed
pub record SignedSoFar (h : RunHeader) (order : ℕ) (signers rest : List Signer) (path : List ℕ) : Type 0 where
  pub front : List Signer
  pub parts : signers ≡ front ++ rest
  pub path_is : path ≡ signed_path front
  pub signed : EachHasSigned h order front

pub at_first : (h : RunHeader) (order : ℕ) (signers : List Signer) → SignedSoFar h order signers signers []
at_first h order signers = record { front = []; parts = refl; path_is = refl; signed = none_signed h order }

pub joined : (h : RunHeader) (order : ℕ) (signers rest : List Signer) (path : List ℕ) → SignedSoFar h order signers rest path → path ++ signed_path rest ≡ signed_path signers
joined h order signers rest path so_far =
    ap (λ (p : List ℕ). p ++ signed_path rest) so_far.path_is ∙ sym (map-append (λ (s : Signer). s.general) so_far.front rest) ∙ ap signed_path (sym so_far.parts)

behind : (h : RunHeader) (order : ℕ) (signers rest : List Signer) (path longer : List ℕ) (s : Signer) (so_far : SignedSoFar h order signers rest path) → longer ≡ path ++ s.general ∷ [] → longer ≡ signed_path so_far.front ++ s.general ∷ []
behind h order signers rest path longer s so_far pushed = pushed ∙ ap (λ (p : List ℕ). p ++ s.general ∷ []) so_far.path_is

pub goes_on : (h : RunHeader) (order : ℕ) (signers rest others : List Signer) (path longer : List ℕ) (s : Signer) → rest ≡ s ∷ others → longer ≡ path ++ s.general ∷ [] → HasSigned h s.general (record { order = order; path = longer }) s.signature
    → SignedSoFar h order signers rest path → SignedSoFar h order signers others longer
goes_on h order signers rest others path longer s e pushed signed so_far =
    let is = behind h order signers rest path longer s so_far pushed in
    record {
      front = so_far.front ++ s ∷ [];
      parts = so_far.parts ∙ ap (λ (r : List Signer). so_far.front ++ r) e ∙ sym (append_assoc so_far.front (s ∷ []) others);
      path_is = is ∙ sym (map-append (λ (t : Signer). t.general) so_far.front (s ∷ []));
      signed = signed-push h order so_far.front s so_far.signed (subst (λ (p : List ℕ). HasSigned h s.general (record { order = order; path = p }) s.signature) is signed);
    }

-- where all have signed, so has the next
pub next_signed : (h : RunHeader) (order : ℕ) (signers rest others : List Signer) (path longer : List ℕ) (s : Signer) → rest ≡ s ∷ others → longer ≡ path ++ s.general ∷ [] → SignedSoFar h order signers rest path → EachHasSigned h order signers
    → HasSigned h s.general (record { order = order; path = longer }) s.signature
next_signed h order signers rest others path longer s e pushed so_far all =
    let is = behind h order signers rest path longer s so_far pushed in
    let signed = all so_far.front others s (so_far.parts ∙ ap (λ (r : List Signer). so_far.front ++ r) e) in
    subst (λ (p : List ℕ). HasSigned h s.general (record { order = order; path = p }) s.signature) (sym is) signed

pub stops : (h : RunHeader) (order : ℕ) (signers rest others : List Signer) (path longer : List ℕ) (s : Signer) → rest ≡ s ∷ others → longer ≡ path ++ s.general ∷ [] → (HasSigned h s.general (record { order = order; path = longer }) s.signature → ⊥)
    → SignedSoFar h order signers rest path → EachHasSigned h order signers → ⊥
stops h order signers rest others path longer s e pushed unsigned so_far all =
    unsigned (next_signed h order signers rest others path longer s e pushed so_far all)

pub at_last : (h : RunHeader) (order : ℕ) (signers rest : List Signer) (path : List ℕ) → rest ≡ [] → SignedSoFar h order signers rest path → EachHasSigned h order signers
at_last h order signers rest path e so_far =
    let whole : signers ≡ so_far.front = so_far.parts ∙ ap (λ (r : List Signer). so_far.front ++ r) e ∙ append-nil so_far.front in
    subst (EachHasSigned h order) (sym whole) so_far.signed
