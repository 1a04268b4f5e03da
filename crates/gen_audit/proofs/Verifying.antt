-- Whether signatures verify is decided, and which entry of a log is the first whose signatures don't.
use Rattle.std.proofs.Common.{◌≡◌, ℕ, suc, ◌<◌, ◌⊎◌, inl, inr, List, [], ◌∷◌, ◌++◌, length, refl, ap, ◌∙◌, subst, arith}
use Rattle.std.specs.List.{AllByRecursion}
use Rattle.std.proofs.lemmas.Bool.{cases_eq, cases_lt}
use Rattle.gen_types.specs.declared.heights.TreeHeight.{TreeHeight}
use Rattle.gen_types.specs.Heights.{leaves_of}
use Rattle.gen_tree.specs.Signatures.{Verifies, implied_root}
use Rattle.gen_tree.specs.Sizes.{signature_length}
use Rattle.gen_net.specs.Header.{RunHeader, height_of, root_of}
use Rattle.gen_chain.specs.declared.chains.Signer.{Signer}
use Rattle.gen_chain.specs.declared.statements.Statement.{Statement}
use Rattle.gen_chain.specs.Chain.{Chain, signed_path}
use Rattle.gen_chain.specs.Leaves.{leaf_of_order, leaf_of_head}
use Rattle.gen_chain.specs.Texts.{statement_digest, head_digest}
use Rattle.gen_chain.specs.Verifying.{HasSigned, HasSignedBehind, EachHasSigned, ChainVerifies}
use Rattle.gen_log.specs.declared.entries.Entry.{Entry}
use Rattle.gen_log.specs.declared.entries.Entry.TheVariants.{Start, Sign, Send, Recv, Decide}
use Rattle.gen_log.specs.Log.{RunLog}
use Rattle.gen_log.specs.Links.{HeadVerifies, head_over}
use Rattle.gen_log.specs.Verifying.{IsSignedByLast, EntryVerifies}
use Rattle.gen_audit.specs.Findings.{FailsAt}
use Rattle.gen_audit.proofs.Deciding.{Dec, both, same_path, some_position, not_dec}

pub less : (a b : ℕ) → Dec (a < b)
less a b = elim (cases_lt a b) [ inl l ↦ inl l | inr m ↦ inr (λ l. omega arith) ]

verifies : (root : List ℕ) (height : TreeHeight) (leaf : ℕ) (digest signature : List ℕ) → Dec (Verifies root height leaf digest signature)
verifies root height leaf digest signature = elim (cases_eq (length signature) (signature_length height)) [
  | inr other ↦ inr (λ v. other v.one_each)
  | inl siblings ↦ elim (less leaf (leaves_of height)) [
    | inr other ↦ inr (λ v. other v.below)
    | inl below ↦ elim (same_path (implied_root height leaf digest signature) root) [
      | inr other ↦ inr (λ v. other v.leads)
      | inl leads ↦ inl (record { one_each = siblings; below = below; leads = leads })
    ]
  ]
]

pub head_verifies : (h : RunHeader) (g : ℕ) (log : RunLog) → Dec (HeadVerifies h g log)
head_verifies h g log = verifies (root_of h g) (height_of h) (leaf_of_head h) (head_digest h (head_over h g log.entries)) log.head

has_signed : (h : RunHeader) (g : ℕ) (statement : Statement) (signature : List ℕ) → Dec (HasSigned h g statement signature)
has_signed h g statement signature = both (g < h.network.generals) (Verifies (root_of h g) (height_of h) (leaf_of_order h statement.order) (statement_digest h statement) signature)
    (less g h.network.generals) (verifies (root_of h g) (height_of h) (leaf_of_order h statement.order) (statement_digest h statement) signature)

are_signed : (h : RunHeader) (order : ℕ) (signers : List Signer) → Dec (EachHasSigned h order signers)
are_signed h order signers = elim (some_position Unsigned (λ front s back. not_dec (HasSignedBehind h order front s) (signs front s)) signers) [
  | inl p ↦ inr (λ all. p.holds (all p.front p.behind p.here p.parts))
  | inr none ↦ inl (λ front back s parts. elim (signs front s) [
    | inl h ↦ h
    | inr fails ↦ absurd (none (record { front = front; here = s; behind = back; parts = parts; holds = fails }))
  ])
]
  where
    Unsigned : List Signer → Signer → List Signer → Type 0
    Unsigned front s back = HasSignedBehind h order front s → ⊥

    signs : (front : List Signer) (s : Signer) → Dec (HasSignedBehind h order front s)
    signs front s = has_signed h s.general (record { order = order; path = signed_path front ++ s.general ∷ [] }) s.signature

chain_verifies : (h : RunHeader) (c : Chain) → Dec (ChainVerifies h c)
chain_verifies h c = both (c.order < h.network.orders) (EachHasSigned h c.order c.signers) (less c.order h.network.orders) (are_signed h c.order c.signers)

abbrev Last : RunHeader → ℕ → List ℕ → List ℕ → List ℕ → ℕ → List ℕ → Type 0
Last h order path signature front last behind = (behind ≡ []) × HasSigned h last (record { order = order; path = path }) signature

signed_by_last : (h : RunHeader) (order : ℕ) (path signature : List ℕ) → Dec (IsSignedByLast h order path signature)
signed_by_last h order path signature = elim (some_position (Last h order path signature) (λ front last behind. both (behind ≡ []) (HasSigned h last (record { order = order; path = path }) signature) (same_path behind []) (has_signed h last (record { order = order; path = path }) signature)) path) [
  | inl p ↦ inl (p.here, (p.front, p.parts ∙ ap (λ xs. p.front ++ p.here ∷ xs) p.holds.0), p.holds.1)
  | inr none ↦ inr (λ s. none (record { front = s.1.0; here = s.0; behind = []; parts = s.1.1; holds = (refl, s.2) }))
]

entry_verifies : (h : RunHeader) (e : Entry) → Dec (EntryVerifies h e)
entry_verifies h (Start general own) = inl tt
entry_verifies h (Sign order path signature) = signed_by_last h order path signature
entry_verifies h (Send to order path) = inl tt
entry_verifies h (Recv from chain) = chain_verifies h chain
entry_verifies h (Decide orders order) = inl tt

-- the first entry that fails, or all verify
pub first_failing : (h : RunHeader) (entries : List Entry) → ((p : ℕ) × FailsAt h entries p) ⊎ AllByRecursion (EntryVerifies h) entries
first_failing h [] = inr tt
first_failing h (e ∷ entries) = elim (entry_verifies h e) [
  | inr fails ↦ inl (0, record { before = []; entry = e; behind = entries; parts = refl; index = refl; verified = tt; fails = fails })
  | inl good ↦ elim (first_failing h entries) [
    | inr all ↦ inr (good, all)
    | inl f ↦ inl (
      suc f.0,
      record {
        before = e ∷ f.1.before;
        entry = f.1.entry;
        behind = f.1.behind;
        parts = ap (λ es. e ∷ es) f.1.parts;
        index = ap suc f.1.index;
        verified = (good, f.1.verified);
        fails = f.1.fails;
      },
    )
  ]
]

one_of_all : (h : RunHeader) (before behind : List Entry) (e : Entry) → AllByRecursion (EntryVerifies h) (before ++ e ∷ behind) → EntryVerifies h e
one_of_all h [] behind e all = all.0
one_of_all h (x ∷ before) behind e all = one_of_all h before behind e all.1

pub none_fails : (h : RunHeader) (entries : List Entry) (p : ℕ) → AllByRecursion (EntryVerifies h) entries → FailsAt h entries p → ⊥
none_fails h entries p all f = f.fails (one_of_all h f.before f.behind f.entry (subst (AllByRecursion (EntryVerifies h)) f.parts all))
