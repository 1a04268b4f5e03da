-- Who is convicted: each of whom the exhibits hold a contradiction, and nobody else.
use Rattle.std.proofs.Common.{◌⊎◌, ℕ, List, [], Contains, refl, subst, inl, inr}
use Rattle.gen_types.proofs.Lists.{bool_cases, Contains_cases, Contains_nil, Contains_flat_mapped, Contains_mapped}
use Rattle.gen_net.specs.Header.{RunHeader, IsHeader}
use Rattle.gen_log.specs.Fields.{AreBelow}
use Rattle.gen_log.specs.Writing.{LogBytes}
use Rattle.gen_local.specs.Report.{LocalReport}
use Rattle.gen_convict.specs.Convictions.{AreConvictions, ConvictsWhereHeld, shown_in}
use Rattle.gen_convict.specs.Evidence.{Accusation}
use Rattle.gen_convict.specs.Exhibits.{AllBytes, HeldLog, logs_of}
use Rattle.gen_convict.specs.FindingClaims.{departs}
use Rattle.gen_convict.specs.First.{DepartsSomewhere, IsFirstClaim}
use Rattle.gen_convict.proofs.FoundLogs.{AreOf, his_log, his_logs_are, depart_singles}
use Rattle.gen_convict.proofs.Given.{given_where_held}

module _ (h : RunHeader) (reports : List LocalReport) (are : AreOf h reports) where
  -- a report tells of its log whether it departs
  departs_or_not : (general : ℕ) (l : HeldLog) → Contains (logs_of h (shown_in reports) general) l → DepartsSomewhere h l ⊎ (DepartsSomewhere h l → ⊥)
  departs_or_not general l c =
      let f = Contains_flat_mapped (his_log general) reports l (subst (λ ls. Contains ls l) (his_logs_are h reports general are) c) in
      let single = depart_singles h general f.0 (are.reads f.0 f.1) in
      elim (bool_cases (departs general f.0)) [
        | inr fails ↦ inr (single.none fails l f.2)
        | inl passes ↦
            let one = single.one passes in
            elim (Contains_cases one.0 l [] (subst (λ ls. Contains ls l) one.1 f.2)) [
              | inl same ↦ inl (subst (DepartsSomewhere h) same one.2)
              | inr none ↦ absurd (Contains_nil l none)
            ]
      ]

  all_bytes : AllBytes (shown_in reports)
  all_bytes x c =
      let m = Contains_mapped (λ (r : LocalReport). r.exhibit) reports x c in
      subst (λ (y : LogBytes). AreBelow 256 y.bytes) m.2 (are.bytes m.0 m.1)

  pub convicts_where_held : IsHeader h → (convictions : List Accusation) → AreConvictions h (shown_in reports) convictions → ConvictsWhereHeld h (shown_in reports) convictions
  convicts_where_held ok convictions are_so general below =
      let given = given_where_held h (shown_in reports) general ok all_bytes (departs_or_not general) in (
        (λ held. let first = given.0 held in (record { accused = general; claim = first.0 }, are_so.each general first.0 below first.1, refl)),
        (λ x. given.1 (x.0.claim, subst (λ (g : ℕ). IsFirstClaim h (shown_in reports) g x.0.claim) x.2 (are_so.first x.0 x.1).1)),
      )
