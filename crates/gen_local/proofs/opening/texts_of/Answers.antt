use Rattle.std.proofs.Common.{◌≡◌, ◌∷◌, [], ◌++◌, ℕ, refl, sym, ap, ◌∙◌}
use Rattle.std.proofs.lemmas.List.{append-nil}
use Rattle.gen_log.specs.Log.{RunLog}
use Rattle.gen_log.specs.Texts.{GeneralsLog}
use Rattle.gen_local.specs.declared.opening.Opening.{Opening}
use Rattle.gen_local.specs.declared.opening.Opening.TheVariants.{Unreadable, Foreign, Own}
use Rattle.gen_local.specs.Opened.{logs_of, own_logs}
use Rattle.gen_local.proofs.Grouped.{texts_more}
use Rattle.gen_local.proofs.opening.texts_of.Goals as goal
use Rattle.gen_local.proofs.opening.texts_of.Goals.{in-Own+in_ok-text+in_ok-push, in_default}

-- without a log there is none to append
no_log : (general : ℕ) (o : Opening) → ((log : RunLog) → o ≡ Own log → ⊥) → own_logs general o ≡ []
no_log general (Unreadable fault) none = refl
no_log general Foreign none = refl
no_log general (Own log) none = absurd (none log refl)

pub opened-preserved : goal.opened-preserved
opened-preserved c =
    let texts = c.opened.texts.items in
    let one = c.one-item.result in
    let added : c.match-one.texts.items ≡ texts ++ logs_of one = elim c.match-one.branch [
      | in-Own+in_ok-text+in_ok-push w ↦
          rw w.texts-is (w.in_ok-push.ensures.items
          ∙ ap (λ (t : GeneralsLog). texts ++ t ∷ []) (w.in_ok-text.ensures ∙ ap (λ g. record { general = g; log = w.in-Own.log }) w.general.ensures)
          ∙ ap (λ (o : Opening). texts ++ own_logs one.exhibit.general o) (sym w.in-Own.is))
      | in_default w ↦ rw w.texts-is (sym (append-nil texts) ∙ ap (λ ls. texts ++ ls) (sym (no_log one.exhibit.general one.opening w.in_default.not-Own)))
    ] in
    rw added (texts_more c.args.opened.now texts c.opened.one-index one c.opened-test.true c.one-item.is c.opened.invariant)
