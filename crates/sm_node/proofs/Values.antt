-- The machine values of a loose box and of a node, taken apart and made. Assumes `Logic`.
use Rattle.std.proofs.Common.{◌≡◌, ℕ, List, [], ◌∷◌, ◌++◌, refl, ap, ◌∙◌}
use mathlib.Core.Bool.{true, ◌&&◌}
use lib.Dec.{T}
use seplogic.Ra.Ura.{Ura}
use mir.Syntax.{impl, tnil, dnil}
use mir.Raw.{raw as bare}
use mir.Val.{Val, vptr, vstruct, vcons, vnil, of_list, has_ty, WT}
use base.Fraction.{full_share}
use base.Fml.{Fml}
use base.Logic.{never, fst∗, snd∗, via, guard_i}
use types.Logic.{Logic, sem}
use types.Kit.{Item, Goal, Seq, Step, step, ‵, given, ◌$◌, move, drop, fsplit, fjoin, fpick, fpack, feq_i, feq_l, use1, learn}
use contract.Monad.{fact_use}
use denote.RattleType.{RattleType, Valss}
use denote.Memory.{lone}
use denote.RawPtr.{Ptr, RawPtr, block_ptr, null_ptr, ptr_val, lies_at, in_a_block, Testable}
use denote.Steps.{nothing}
use denote.Param.{layout}
use denote.Param.Laws.{Laws}
use denote.Struct.Struct.{within}
use denote.Struct.Owning.{shape}
use Rattle.core.specs.declared.alloc.Allocator.{Ghosts}
use Rattle.core.proofs.alloc.Calls.{Al, handle_tells}
use Rattle.core.proofs.atomic.Steps.{Ptr-Good}
use Rattle.core.proofs.cell.Inside.{Good}
use Rattle.std_alloc.specs.Box.Ownership.{box_owns}
use Rattle.std_alloc.proofs.ResultValues.{and_tt}
use Rattle.std.specs.declared.option.Option.{Option}
use Rattle.std.specs.declared.option.Option.TheVariants.{None, Some}
use Rattle.std.specs.declared.alloc.Global.{Global}
use Rattle.std.specs.contracts.impls.GlobalAllocator.TheImpl.{ghosts}
use Rattle.std.proofs.GlobalToken.{dealloc_token-Testable}
use Rattle.sm_node.specs.Owning.{node_owns}
use Rattle.sm_node.specs.declared.held.NodeHandle.{NodeHandle}
use Rattle.sm_node.specs.contracts.held.NodeHandle as held
use Rattle.sm_node.specs.contracts.loose.Loose as loose
use Rattle.sm_node.specs.contracts.opaque.SmNode as node

-- a pointer and a handle
abbrev pub both : ℕ → ℕ → Val → Val
both b o h = vstruct (vcons (vptr b o) (vcons h vnil))

module _ (R Z : RattleType) (L : Laws Z) (g : Ghosts Z.Denot) where
  abbrev pub Loose : RattleType
  Loose = loose.the_row R Z g

  abbrev pub handles : Al
  handles = record { row = Z; laws = L; g = g; d = impl [] tnil dnil; drops = impl [] tnil dnil }

  pub both_good : (b o : ℕ) (h : Val) → Good (layout Z) h → T (has_ty (layout Z) h && true) × WT (both b o h)
  both_good b o h fits = (and_tt (has_ty (layout Z) h) fits.0, (tt, (fits.1, tt)))

  module _ {M : Type 1} {𝓤 : Ura M} {𝓛 : Logic 𝓤} {K : Type 0} {Γ : List (Item 𝓤)} {G : Goal 𝓤 𝓛.H} where
    pub loose_out : K → (d : Loose.Denot) (vs : List Val)
        → ((b o : ℕ) (h : Val) → d.at ≡ block_ptr b o → vs ≡ both b o h ∷ [] → Good (layout Z) h
        → Seq K 𝓛 (‵ (box_owns (g.dealloc_token d.alloc) R (block_ptr b o) d.value) ∷ ‵ (Z.own_val d.alloc (h ∷ [])) ∷ Γ) G)
        → Seq K 𝓛 (‵ (Loose.own_val d vs) ∷ Γ) G
    loose_out t d vs k =
        fsplit t $ fpick t (λ vss. fsplit t $ feq_l t (λ whole. fsplit t $ feq_l t (λ first. fsplit t $
        handle_tells handles t d.alloc vss.1.0 (λ h second fits. move t (1 ∷ []) $ drop t $ move t (1 ∷ []) $
        in_a_block t d.at (λ p. box_owns (g.dealloc_token d.alloc) R p d.value) (fst∗ 𝓤 (never 𝓤) (sem 𝓛 (g.dealloc_token d.alloc (bare (lone R.mir)) null_ptr)))
        (λ b o e. k b o h e (whole ∙ (λ j. vstruct (of_list ((first ∙ ap (λ (p : Ptr). ptr_val p ∷ []) e) j ++ (second j ++ []))) ∷ [])) fits)))))

    pub loose_in : K → (b o : ℕ) (h : Val) (a : Z.Denot) (x : R.Denot)
        → Step K 𝓛 (‵ (Loose.own_val (record { at = block_ptr b o; alloc = a; value = x }) (both b o h ∷ [])) ∷ Γ) G
        (‵ (box_owns (g.dealloc_token a) R (block_ptr b o) x) ∷ ‵ (Z.own_val a (h ∷ [])) ∷ Γ) G
    loose_in t b o h a x = step (λ s.
        nothing t $ move t (2 ∷ 0 ∷ []) $ fjoin t $ feq_i t (List Val) (vptr b o ∷ []) (vptr b o ∷ []) refl $ fjoin t $
        feq_i t (List Val) (both b o h ∷ []) (both b o h ∷ []) refl $ fjoin t $
        fpack t (Valss (RawPtr ∷ Z ∷ [])) (within (shape (loose.the_type R Z g)) (block_ptr b o, (a, tt)) (both b o h ∷ [])) (vptr b o ∷ [], (h ∷ [], tt)) $ fjoin t $ s)

-- the one pointer of a node
abbrev pub word : Ptr → Val
word p = vstruct (vcons (ptr_val p) vnil)

abbrev pub Word : RattleType
Word = node.the_row

pub word_good : (p : Ptr) → Good (layout Word) (word p)
word_good (block_ptr b o) = (tt, (tt, tt))
word_good null_ptr = (tt, ((Ptr-Good null_ptr).1, tt))

-- the box at a pointer
abbrev pub boxed : Global → Ptr → NodeHandle → Fml
boxed a p x = box_owns (ghosts.dealloc_token a) held.the_row p x

module _ {M : Type 1} {𝓤 : Ura M} {𝓛 : Logic 𝓤} {K : Type 0} {Γ : List (Item 𝓤)} {G : Goal 𝓤 𝓛.H} where
  owned : (a : Global) → K → (p : Ptr) (h : Option NodeHandle)
      → (p ≡ null_ptr → h ≡ None → Seq K 𝓛 Γ G)
      → ((b o : ℕ) (x : NodeHandle) → p ≡ block_ptr b o → h ≡ Some x → Testable (block_ptr b o) → Seq K 𝓛 (‵ (boxed a (block_ptr b o) x) ∷ Γ) G)
      → Seq K 𝓛 (‵ (node_owns p h) ∷ Γ) G
  owned a t p None empty full = fpick t (λ e. drop t $ empty e refl)
  owned a t p (Some x) empty full = fpick t (λ alloc.
      in_a_block t p (λ q. boxed a q x) (fst∗ 𝓤 (never 𝓤) (sem 𝓛 (ghosts.dealloc_token a (bare (lone held.the_row.mir)) null_ptr))) (λ b o e. let q : Ptr = block_ptr b o in
      use1 𝓛 (given (Testable q) (‵ (boxed a q x))) (fact_use 𝓤 (Testable q) (via 𝓤 _ (snd∗ 𝓤 (sem 𝓛 (lies_at held.the_row full_share q x)) (sem 𝓛 (ghosts.dealloc_token a (bare (lone held.the_row.mir)) q)))
      (dealloc_token-Testable 𝓛 a (bare (lone held.the_row.mir)) q)) (guard_i 𝓤 (Testable q) (sem 𝓛 (boxed a q x)))) $ learn t (λ ok. full b o x e refl ok)))

  pub node_out : (a : Global) → K → (s : Word.Denot) (vs : List Val)
      → (s.at ≡ null_ptr → s.held ≡ None → vs ≡ word null_ptr ∷ [] → Seq K 𝓛 Γ G)
      → ((b o : ℕ) (x : NodeHandle) → s.held ≡ Some x → Testable (block_ptr b o) → vs ≡ word (block_ptr b o) ∷ [] → Seq K 𝓛 (‵ (boxed a (block_ptr b o) x) ∷ Γ) G)
      → Seq K 𝓛 (‵ (Word.own_val s vs) ∷ Γ) G
  node_out a t s vs empty full =
      fsplit t $ fpick t (λ vss. fsplit t $ feq_l t (λ whole. fsplit t $ feq_l t (λ first. drop t $
      let told : (p : Ptr) → s.at ≡ p → vs ≡ word p ∷ [] = λ p e. whole ∙ (λ j. vstruct (of_list ((first ∙ ap (λ (q : Ptr). ptr_val q ∷ []) e) j ++ [])) ∷ []) in
      owned a t s.at s.held (λ e none. empty e none (told null_ptr e)) (λ b o x e some ok. full b o x some ok (told (block_ptr b o) e)))))

  pub node_in : K → (p : Ptr) (h : Option NodeHandle) → Step K 𝓛 (‵ (Word.own_val (record { at = p; held = h }) (word p ∷ [])) ∷ Γ) G (‵ (node_owns p h) ∷ Γ) G
  node_in t p h = step (λ s.
      nothing t $ feq_i t (List Val) (ptr_val p ∷ []) (ptr_val p ∷ []) refl $ fjoin t $ feq_i t (List Val) (word p ∷ []) (word p ∷ []) refl $ fjoin t $
      fpack t (Valss (RawPtr ∷ [])) (within (shape node.the_type) (p, tt) (word p ∷ [])) (ptr_val p ∷ [], tt) $ fjoin t $ s)
