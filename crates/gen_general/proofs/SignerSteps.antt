-- Looking for a general's tree, and signing by one general after another.
use Rattle.std.proofs.Common.{◌≡◌, ◌≢◌, ◌<◌, ◌+◌, ◌-◌, ℕ, suc, true, false, List, [], ◌∷◌, ◌++◌, refl, sym, ap, subst, ◌∙◌, eqb, Some, None, inl, inr, take, drop, length, get_or, Contains, AllPairs, arith}
use Rattle.std.proofs.lemmas.List.{take_more, take_all, append-nil}
use Rattle.std.proofs.Math.Seq.{split_at}
use Rattle.std.proofs.lemmas.List.Elements.{Contains-get_or, Contains-append_cases}
use Rattle.gen_chain.specs.Chain.{Chain, signed_path}
use Rattle.gen_chain.specs.Making.{begun, extended}
use Rattle.gen_chain.proofs.DistinctPaths.{not_before}
use Rattle.gen_scenario.specs.declared.signer_trees.SignerTree.{SignerTree}
use Rattle.gen_scenario.specs.SignerTrees.{tree_in}
use Rattle.gen_scenario.specs.Signing.{Keys, order_key, signers_along, made, lengthened}
use Rattle.gen_scenario.proofs.GoodChains.{lengthened_path}
use Rattle.gen_scenario.proofs.Stepping.{one_signer_more, begun_by_commander}

pub tree_here : (g : ℕ) (xs others : List SignerTree) (x : SignerTree) → xs ≡ x ∷ others → eqb x.general g ≡ true → tree_in xs g ≡ Some x.tree
unfolding tree_in
tree_here g xs others x e here = rw (e, here) refl

pub tree_later : (g : ℕ) (xs others : List SignerTree) (x : SignerTree) → xs ≡ x ∷ others → eqb x.general g ≡ false → tree_in xs g ≡ tree_in others g
unfolding tree_in
tree_later g xs others x e other = rw (e, other) refl

pub tree_nowhere : (g : ℕ) (xs : List SignerTree) → xs ≡ [] → tree_in xs g ≡ None
unfolding tree_in
tree_nowhere g xs e = rw e refl

-- ---- one signer after another

pub by_none : (k : Keys) (c : Chain) → lengthened k c [] ≡ c
unfolding signers_along
by_none k c = λ i. record { order = c.order; signers = append-nil c.signers i }

pub along_one : (k : Keys) (c : Chain) (path : List ℕ) (i g : ℕ) (mid new : Chain) → i < length path → g ≡ get_or path i g → mid ≡ lengthened k c (take i path) → new ≡ extended k.header mid g (order_key k g mid.order) → new ≡ lengthened k c (take (i + 1) path)
along_one k c path i g mid new within at before now =
    let grown : take (i + 1) path ≡ take i path ++ g ∷ [] = take_more path i g within ∙ ap (λ v. take i path ++ v ∷ []) (sym at) in
    now ∙ ap (λ (x : Chain). extended k.header x g (order_key k g x.order)) before
    ∙ sym (one_signer_more k c (take i path) g) ∙ ap (lengthened k c) (sym grown)

-- a general of a path of distinct ones, none of whom signed a chain, is new to the chain that those before him lengthened
pub next_new : (k : Keys) (c mid : Chain) (path : List ℕ) (i g : ℕ) → i < length path → g ≡ get_or path i g → mid ≡ lengthened k c (take i path) → AllPairs (λ a b. a ≢ b) path → ((h : ℕ) → Contains path h → Contains (signed_path c.signers) h → ⊥) → Contains (signed_path mid.signers) g → ⊥
next_new k c mid path i g within at before distinct new there =
    let along : signed_path mid.signers ≡ signed_path c.signers ++ take i path = ap (λ (x : Chain). signed_path x.signers) before ∙ lengthened_path k c (take i path) in
    elim (Contains-append_cases (signed_path c.signers) (take i path) g (subst (λ (p : List ℕ). Contains p g) along there)) [
      | inl old ↦ new g (subst (Contains path) (sym at) (Contains-get_or path i g within)) old
      | inr early ↦ not_before (take i path) (drop (suc i) path) (get_or path i g) (subst (λ (p : List ℕ). AllPairs (λ a b. a ≢ b) p) (split_at path i g within) distinct) (subst (Contains (take i path)) at early)
    ]

-- ---- the path behind the commander

pub behind_first : (path generals rest : List ℕ) → generals ≡ path → path ≡ 0 ∷ rest → take (length generals - 1) (drop 1 generals) ≡ rest
behind_first path generals rest same first =
    let e : generals ≡ 0 ∷ rest = same ∙ first in
    rw e (take_all (suc (length rest) - 1) rest (omega arith))

pub first_signed : (k : Keys) (order : ℕ) (path rest : List ℕ) (c new : Chain) → path ≡ 0 ∷ rest → c ≡ begun k.header order (order_key k 0 order) → new ≡ lengthened k c rest → new ≡ made k order path
first_signed k order path rest c new first is longer =
    longer ∙ ap (λ (x : Chain). lengthened k x rest) is ∙ sym (begun_by_commander k order rest) ∙ ap (made k order) (sym first)
