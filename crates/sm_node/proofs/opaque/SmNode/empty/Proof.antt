-- `empty` owns nothing.
use Rattle.std.proofs.Common.{◌≡◌, [], ◌∷◌, refl}
use base.Logic.{emp}
use base.Fml.{ftrue}
use types.Kit.{raw, ◌$◌, ◌∵◌, !, qed, by, keep, fpack, use0}
use types.Run.{lit, no_more, and_then, returns, enter}
use types.ByLocal.{alloc_all, pass_all, free_all, look_at, sets}
use types.Part.{agg}
use contract.Monad.{fact, fact_i}
use denote.RawPtr.{null_ptr}
use denote.Steps.{nothing}
use denote.Triple.Entry.{on_entry}
use denote.Triple.Walked.{Stays, walk_of}
use Rattle.std.specs.declared.option.Option.{Option}
use Rattle.std.specs.declared.option.Option.TheVariants.{None}
use Rattle.std.proofs.raw_atomic.Walks.{proved, leaves}
use Rattle.sm_node.proofs.Values.{word, word_good, node_in}
use Rattle.sm_node.specs.declared.held.NodeHandle.{NodeHandle}
use Rattle.sm_node.specs.contracts.opaque.SmNode.empty as f
use Rattle.sm_node.proofs.opaque.SmNode.empty.Statement.{statement}
use Rattle.sm_node.proofs.opaque.SmNode.empty.Code as code

abbrev stayed : Stays f.ended.signature.params f.ended.kept
stayed = tt

pub empty_spec : {M : Type 1} → statement M
empty_spec 𝓤 𝓛 𝓜 𝓡 wired =
    let c = f.clauses 𝓛 𝓜.mem 𝓡.returns in
    proved 𝓛 f.ended stayed c 𝓜 𝓡 tt f.Key.name code.function (code.unfolded 𝓤 𝓛.H 𝓜 𝓡 wired) (λ κs. tt) (λ κs. tt) (λ κs qs bounds a n are.
    let y : (walk_of 𝓛 f.ended stayed c).Ghost = ((κs, qs, bounds, a, tt), tt) in let none : Option NodeHandle = None in
    qed 𝓛 (raw (on_entry 𝓛 f.signature κs qs a tt) ∷ raw ((c κs a).requires n) ∷ []) ∵
    enter ! _ _ _ _ _ $ alloc_all ! (λ l. pass_all ! refl tt $
    sets ! (agg ! (and_then ! (lit ! tt) (no_more !))) refl (word_good null_ptr) $
    nothing ! $ fpack ! (null_ptr ≡ null_ptr) (λ _. ftrue) refl $ node_in ! null_ptr None $
    use0 𝓛 (raw (fact 𝓤 (none ≡ none))) (fact_i 𝓤 (none ≡ none) (emp 𝓤) refl) $ nothing ! $ nothing ! $
    returns ! (look_at ! 0 refl) $ free_all ! refl $ keep ! (0 ∷ 1 ∷ 3 ∷ 2 ∷ []) $ by ! (leaves 𝓛 f.ended stayed c y (word null_ptr) (record { at = null_ptr; held = None }) tt tt)))
