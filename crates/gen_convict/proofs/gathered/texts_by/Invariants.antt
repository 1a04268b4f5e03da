use Rattle.std.proofs.Common.{◌≡◌, ◌++◌, drop, map, filter}
use Rattle.gen_convict.specs.Exhibits.{is_by}
use Rattle.gen_convict.specs.Finding.{his_texts}
use Rattle.gen_convict.proofs.gathered.texts_by.Given as goal

abbrev pub invariant-loop-report : goal.invariant-loop-report
invariant-loop-report l = map (λ t. t.now) l.texts.items ++ his_texts l.general (drop l.report-index l.reports) ≡ his_texts l.general l.reports

abbrev pub invariant-loop-text : goal.invariant-loop-text
invariant-loop-text l = map (λ t. t.now) l.texts.items ++ filter (is_by l.general) (drop l.text-index l.text-items) ≡ map (λ t. t.now) l.initial.texts.items ++ filter (is_by l.general) l.text-items
