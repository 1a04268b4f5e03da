use Rattle.std.proofs.Common.{rules, ◌≡◌, ◌∙◌, ◌++◌, [], ◌∷◌, ℕ, List, ap, drop, map, sym, subst}
use Rattle.std.specs.Vec.Iter.{into_iter_items}
use Rattle.std.proofs.lemmas.List.{append_assoc}
use Rattle.std.proofs.lemmas.Slice.Zip.{all_zipped_more}
use Rattle.gen_log.specs.Writing.{LogBytes}
use Rattle.gen_scenario.specs.Rows.{logs_of_all}
use Rattle.gen_scenario.specs.Scenario.{Scenario}
use Rattle.gen_making.specs.Campaigning.{AreTextsOf, IsTextOf}
use Rattle.gen_making.proofs.campaigning.texts_of_runs.Goals as goal

pub loop-logs-preserved : goal.loop-logs-preserved
loop-logs-preserved c =
    let i = c.loop-logs.invariant in
    let s = c.in-Some-split_first.scenario.now in
    let others = c.in-Some-split_first.others.now in
    let e = c.in-Some-split_first.ensures.cases.0 in
    let t = c.in_ok-new.field-0 in
    let is_text : IsTextOf s t = (c.in_ok-bundle.bundle, c.in_ok-bundle.ensures, c.in_ok-new.ensures) in
    let pushed : c.push.new.self.items ≡ c.loop-logs.texts.items ++ t ∷ [] = search rules in
    let steps : into_iter_items c.loop-logs.logs-iterator ≡ c.in-Some.logs ∷ into_iter_items c.next.new.self = search rules in
    let are = all_zipped_more IsTextOf i.0 c.loop-logs.texts.items s t i.1 is_text in
    let whole = ap (map (λ logs. logs.items)) (sym steps) ∙ i.3 ∙ ap (map logs_of_all) e in (
      i.0 ++ s ∷ [],
      subst (λ (texts : List (List ℕ)). AreTextsOf (i.0 ++ s ∷ []) texts) (sym pushed) are,
      append_assoc i.0 (s ∷ []) others ∙ ap (λ (xs : List Scenario). i.0 ++ xs) (sym e) ∙ i.2,
      ap (λ (ls : List (List LogBytes)). drop 1 ls) whole,
    )
