-- A chain that was received.
use Rattle.std.proofs.Common.{◌≡◌, ◌⊎◌, ◌↔◌, IsTrue, inl, inr, ℕ, Bool, true, false, ◌||◌, ◌&&◌, eqb, List, [], ◌∷◌, length, map, Contains, refl, sym, ap, subst, ◌∙◌}
use Rattle.std.specs.Bool.{nat_eq}
use Rattle.std.specs.List.{list_any}
use Rattle.std.specs.Cmp.Lexicographic.{pointwise, same_text, other_text}
use Rattle.std.proofs.lemmas.Bool.{eqb-true, eq-eqb}
use Rattle.std.proofs.lemmas.List.{length-map}
use Rattle.gen_types.proofs.Lists.{Contains_here, Contains_there, Contains_cases, Contains_nil, bool_cases}
use Rattle.gen_chain.specs.Chain.{signed_path}
use Rattle.gen_chain.specs.declared.chains.Signer.{Signer}
use Rattle.gen_net.specs.Log.{LogEntry, Received}
use Rattle.gen_log.specs.Entry.{erase}
use Rattle.gen_log.specs.declared.entries.Entry.{Entry}
use Rattle.gen_log.specs.declared.entries.Entry.TheVariants.{Start, Sign, Send, Recv, Decide}
use Rattle.gen_local.specs.Recvs.{HasRecv, is_recv_of}

both : (a b : Bool) → (a && b) ≡ true → (a ≡ true) × (b ≡ true)
both true true e = (refl, refl)
both true false e = absurd cc
both false b e = absurd cc

either : (a b : Bool) → (a || b) ≡ true → (a ≡ true) ⊎ (b ≡ true)
either true b e = inl refl
either false b e = inr e

or_right : (a b : Bool) → b ≡ true → (a || b) ≡ true
or_right true b e = refl
or_right false b e = e

recv_is : (v : ℕ) (path : List ℕ) (e : Entry) → is_recv_of v path e ≡ true → (from : ℕ) × (erase e ≡ Received from v path)
recv_is v path (Start general own) t = absurd cc
recv_is v path (Sign order other signature) t = absurd cc
recv_is v path (Send to order other) t = absurd cc
recv_is v path (Recv from chain) t =
    let p = both (eqb chain.order v) (eqb (length chain.signers) (length path) && pointwise nat_eq (signed_path chain.signers) path) t in
    let q = both (eqb (length chain.signers) (length path)) (pointwise nat_eq (signed_path chain.signers) path) p.1 in
    let same : chain.order ≡ v = eqb-true chain.order v p.0 in
    let path_same : signed_path chain.signers ≡ path = same_text (signed_path chain.signers) path (sym q.1) in
    (from, ap (λ (w : ℕ). Received from w (signed_path chain.signers)) same ∙ ap (λ (w : List ℕ). Received from v w) path_same)
recv_is v path (Decide orders order) t = absurd cc

same_path : (path : List ℕ) → pointwise nat_eq path path ≡ true
same_path path = elim (bool_cases (pointwise nat_eq path path)) [
  | inl e ↦ e
  | inr e ↦ absurd (other_text path path (sym e) refl)
]

is_recv : (from v : ℕ) (path : List ℕ) (e : Entry) → erase e ≡ Received from v path → is_recv_of v path e ≡ true
is_recv from v path (Start general own) q = absurd cc
is_recv from v path (Sign order other signature) q = absurd cc
is_recv from v path (Send to order other) q = absurd cc
is_recv from v path (Recv sender chain) q =
    let e1 : chain.order ≡ v = cc in
    let e2 : signed_path chain.signers ≡ path = cc in
    let len : length chain.signers ≡ length path = sym (length-map chain.signers (λ (t : Signer). t.general)) ∙ ap length e2 in
    let a : eqb chain.order v ≡ true = eq-eqb chain.order v e1 in
    let b : eqb (length chain.signers) (length path) ≡ true = eq-eqb (length chain.signers) (length path) len in
    let c : pointwise nat_eq (signed_path chain.signers) path ≡ true = ap (λ (p : List ℕ). pointwise nat_eq p path) e2 ∙ same_path path in
    rw (a, b, c) refl
is_recv from v path (Decide orders order) q = absurd cc

pub received_found : (v : ℕ) (path : List ℕ) (es : List Entry) → list_any (is_recv_of v path) es ≡ true → HasRecv (map erase es) v path
received_found v path [] t = absurd cc
received_found v path (e ∷ es) t = elim (either (is_recv_of v path e) (list_any (is_recv_of v path) es) t) [
  | inl here ↦ let is = recv_is v path e here in (is.0, subst (λ (f : LogEntry). Contains (erase e ∷ map erase es) f) is.1 (Contains_here (erase e) (map erase es)))
  | inr there ↦ let r = received_found v path es there in (r.0, Contains_there (erase e) (Received r.0 v path) (map erase es) r.1)
]

pub received_told : (v : ℕ) (path : List ℕ) (es : List Entry) → HasRecv (map erase es) v path → list_any (is_recv_of v path) es ≡ true
received_told v path [] h = absurd (Contains_nil (Received h.0 v path) h.1)
received_told v path (e ∷ es) h = elim (Contains_cases (erase e) (Received h.0 v path) (map erase es) h.1) [
  | inl same ↦ let is : is_recv_of v path e ≡ true = is_recv h.0 v path e same in rw is refl
  | inr there ↦ or_right (is_recv_of v path e) (list_any (is_recv_of v path) es) (received_told v path es (h.0, there))
]

-- the test tells whether the chain was received
pub received_decides : (told : Bool) (v : ℕ) (path : List ℕ) (es : List Entry) → told ≡ list_any (is_recv_of v path) es → IsTrue told ↔ HasRecv (map erase es) v path
received_decides told v path es e = ((λ t. received_found v path es (sym e ∙ t)), (λ h. e ∙ received_told v path es h))
