-- The test of verifying says exactly whether a chain verifies.
use Rattle.std.proofs.Common.{◌≡◌, ℕ, Bool, true, ◌&&◌, eqb, eq-eqb, length, List, [], ◌∷◌, ◌++◌, refl, sym, ap, subst, ◌∙◌, append_assoc, inl, inr}
use Rattle.std.specs.Prelude.{nat_lt}
use Rattle.std.specs.Bool.{nat_eq}
use Rattle.std.specs.Cmp.Lexicographic.{pointwise, same_text, other_text}
use Rattle.std.proofs.lemmas.Bool.{ltb-true, lt-ltb, eqb-true}
use Rattle.std.proofs.Math.Bool.{and-eq-true_iff}
use Rattle.gen_types.proofs.Lists.{bool_cases, not_nil}
use Rattle.gen_types.specs.declared.heights.TreeHeight.{TreeHeight}
use Rattle.gen_types.specs.Heights.{leaves_of}
use Rattle.gen_tree.specs.Signatures.{implied_root, Verifies}
use Rattle.gen_tree.specs.Sizes.{signature_length}
use Rattle.gen_net.specs.Header as headers
use Rattle.gen_net.specs.Header.{RunHeader, height_of}
use Rattle.gen_chain.specs.declared.chains.Signer.{Signer}
use Rattle.gen_chain.specs.declared.statements.Statement.{Statement}
use Rattle.gen_chain.specs.Chain.{signed_path}
use Rattle.gen_chain.specs.Leaves.{leaf_of_order}
use Rattle.gen_chain.specs.Texts.{statement_digest}
use Rattle.gen_chain.specs.Verifying.{HasSigned}
use Rattle.gen_chain.specs.Verified.{is_under, has_signed, are_signed, is_verified, TestsVerifying}

pub both : (a b : Bool) → (a && b) ≡ true → (a ≡ true) × (b ≡ true)
both a b e = (and-eq-true_iff a b).0 e

pub and_so : (a b : Bool) → a ≡ true → b ≡ true → (a && b) ≡ true
and_so a b p q = (and-eq-true_iff a b).1 (p, q)

pub same_list : (xs : List ℕ) → pointwise nat_eq xs xs ≡ true
same_list xs = elim (bool_cases (pointwise nat_eq xs xs)) [
  | inl e ↦ e
  | inr e ↦ absurd (other_text xs xs (sym e) refl)
]

pub under_has : (root : List ℕ) (height : TreeHeight) (leaf : ℕ) (digest signature : List ℕ) → is_under root height leaf digest signature ≡ true → Verifies root height leaf digest signature
unfolding is_under
under_has root height leaf digest signature e =
    let p = both (eqb (length signature) (signature_length height) && nat_lt leaf (leaves_of height)) (pointwise nat_eq (implied_root height leaf digest signature) root) e in
    let q = both (eqb (length signature) (signature_length height)) (nat_lt leaf (leaves_of height)) p.0 in
    record { one_each = eqb-true _ _ q.0; below = ltb-true _ _ q.1; leads = same_text (implied_root height leaf digest signature) root (sym p.1) }

pub under_gives : (root : List ℕ) (height : TreeHeight) (leaf : ℕ) (digest signature : List ℕ) → Verifies root height leaf digest signature → is_under root height leaf digest signature ≡ true
unfolding is_under
under_gives root height leaf digest signature v =
    let same : pointwise nat_eq (implied_root height leaf digest signature) root ≡ true = subst (λ (r : List ℕ). pointwise nat_eq (implied_root height leaf digest signature) r ≡ true) v.leads (same_list (implied_root height leaf digest signature)) in
    and_so (eqb (length signature) (signature_length height) && nat_lt leaf (leaves_of height)) (pointwise nat_eq (implied_root height leaf digest signature) root) (and_so (eqb (length signature) (signature_length height)) (nat_lt leaf (leaves_of height)) (eq-eqb _ _ v.one_each) (lt-ltb _ _ v.below)) same

pub signed_has : (h : RunHeader) (g : ℕ) (t : Statement) (signature : List ℕ) → has_signed h g t signature ≡ true → HasSigned h g t signature
unfolding has_signed
signed_has h g t signature e =
    let p = both (nat_lt g h.network.generals) (is_under (headers.root_of h g) (height_of h) (leaf_of_order h t.order) (statement_digest h t) signature) e in
    (ltb-true _ _ p.0, under_has (headers.root_of h g) (height_of h) (leaf_of_order h t.order) (statement_digest h t) signature p.1)

pub signed_gives : (h : RunHeader) (g : ℕ) (t : Statement) (signature : List ℕ) → HasSigned h g t signature → has_signed h g t signature ≡ true
unfolding has_signed
signed_gives h g t signature v = and_so (nat_lt g h.network.generals) (is_under (headers.root_of h g) (height_of h) (leaf_of_order h t.order) (statement_digest h t) signature) (lt-ltb _ _ v.0) (under_gives (headers.root_of h g) (height_of h) (leaf_of_order h t.order) (statement_digest h t) signature v.1)

-- each of these signers has signed, behind a path
abbrev SignedAfter : RunHeader → ℕ → List ℕ → List Signer → Type 0
SignedAfter h order path signers = (front back : List Signer) (s : Signer) → signers ≡ front ++ s ∷ back → HasSigned h s.general (record { order = order; path = path ++ (signed_path front ++ s.general ∷ []) }) s.signature

all_has : (h : RunHeader) (order : ℕ) (path : List ℕ) (signers : List Signer) → are_signed h order path signers ≡ true → SignedAfter h order path signers
unfolding are_signed
all_has h order path [] t front back s e = absurd (not_nil front s back (sym e))
all_has h order path (x ∷ signers) t [] back s e =
    let p = both (has_signed h x.general (record { order = order; path = path ++ x.general ∷ [] }) x.signature) (are_signed h order (path ++ x.general ∷ []) signers) t in
    let same : x ≡ s = cc in
    subst (λ (y : Signer). HasSigned h y.general (record { order = order; path = path ++ y.general ∷ [] }) y.signature) same (signed_has h x.general (record { order = order; path = path ++ x.general ∷ [] }) x.signature p.0)
all_has h order path (x ∷ signers) t (f ∷ front) back s e =
    let p = both (has_signed h x.general (record { order = order; path = path ++ x.general ∷ [] }) x.signature) (are_signed h order (path ++ x.general ∷ []) signers) t in
    let same : x ≡ f = cc in
    let tail : signers ≡ front ++ s ∷ back = cc in
    let there = all_has h order (path ++ x.general ∷ []) signers p.1 front back s tail in
    let joined : (path ++ x.general ∷ []) ++ (signed_path front ++ s.general ∷ []) ≡ path ++ (f.general ∷ (signed_path front ++ s.general ∷ [])) = append_assoc path (x.general ∷ []) (signed_path front ++ s.general ∷ []) ∙ ap (λ (y : Signer). path ++ (y.general ∷ (signed_path front ++ s.general ∷ []))) same in
    subst (λ (q : List ℕ). HasSigned h s.general (record { order = order; path = q }) s.signature) joined there

all_give : (h : RunHeader) (order : ℕ) (path : List ℕ) (signers : List Signer) → SignedAfter h order path signers → are_signed h order path signers ≡ true
unfolding are_signed
all_give h order path [] all = refl
all_give h order path (x ∷ signers) all =
    and_so (has_signed h x.general (record { order = order; path = path ++ x.general ∷ [] }) x.signature) (are_signed h order (path ++ x.general ∷ []) signers)
    (signed_gives h x.general (record { order = order; path = path ++ x.general ∷ [] }) x.signature (all [] signers x refl))
    (all_give h order (path ++ x.general ∷ []) signers (λ front back s e.
    subst (λ (q : List ℕ). HasSigned h s.general (record { order = order; path = q }) s.signature) (sym (append_assoc path (x.general ∷ []) (signed_path front ++ s.general ∷ []))) (all (x ∷ front) back s (ap (λ (ys : List Signer). x ∷ ys) e))))

pub tests_verifying : TestsVerifying
unfolding is_verified
tests_verifying h c = (
  (λ e.
      let p = both (nat_lt c.order h.network.orders) (are_signed h c.order [] c.signers) e in
      (ltb-true _ _ p.0, λ front back s split. all_has h c.order [] c.signers p.1 front back s split)),
  (λ v. and_so (nat_lt c.order h.network.orders) (are_signed h c.order [] c.signers) (lt-ltb _ _ v.0) (all_give h c.order [] c.signers (λ front back s split. v.1 front back s split))),
)
