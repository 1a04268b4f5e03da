-- The bundle of a scenario's own run supports a yes.
use Rattle.std.proofs.Common.{◌≡◌, ℕ, zero, suc, ◌+◌, ◌<◌, ◌≤◌, inl, inr, List, [], ◌∷◌, ◌++◌, map, filter, Contains, Some, refl, sym, ap, ◌∙◌, subst, arith}
use Rattle.std.specs.Bool.{nat_eq}
use Rattle.std.specs.List.{range_with_len, flat_map}
use Rattle.std.proofs.lemmas.Bool.{cases_eq, eqb-true, eq-eqb}
use Rattle.std.proofs.lemmas.List.{map-append, append-nil}
use Rattle.std.proofs.lemmas.List.Elements.{filter-append}
use Rattle.std.proofs.lemmas.List.Concat.{flat_map-cons}
use Rattle.gen_types.specs.Members.{bool_cases}
use Rattle.gen_types.specs.Spelled.{Spells}
use Rattle.gen_types.proofs.Lists.{Contains_here}
use Rattle.gen_net.specs.Network.{IsLoyal}
use Rattle.gen_log.specs.Log.{RunLog, IsLog, log_spelling}
use Rattle.gen_log.specs.Verifying.{LogVerifies}
use Rattle.gen_log.proofs.LogLaws.{log_only}
use Rattle.gen_local.specs.Erased.{erased}
use Rattle.gen_log.specs.Writing.{LogBytes}
use Rattle.gen_scenario.specs.Scenario.{Scenario, header_of, scripted}
use Rattle.gen_scenario.specs.SignedWorld.{messages_of}
use Rattle.gen_scenario.specs.WorldLaws.{conduct_of}
use Rattle.gen_scenario.specs.WorldLogs as worlds
use Rattle.gen_scenario.proofs.LogEntries.{followers_keep}
use Rattle.gen_scenario.proofs.TraitorFrames.{no_raw_is_signed}
use Rattle.gen_scenario.proofs.VerifiedLogs.{all_verify}
use Rattle.gen_audit.specs.Bundle.{exhibits_of, logs_of}
use Rattle.gen_audit.specs.Supported.{HasSoleLog, IsSupported}
use Rattle.gen_audit.specs.declared.verdicts.Verdict.{Verdict}
use Rattle.gen_audit.specs.declared.verdicts.Verdict.TheVariants.{Agreed, Explained, No}
use Rattle.gen_audit.specs.Verdict.{IsVerdict}
use Rattle.gen_audit.specs.Headline.{IsYes}
use Rattle.gen_audit.specs.WorldBundle.{bundle_of, IsAcceptable, WorldIsSupported, WorldIsAccepted, ShownAreLogs}
use Rattle.gen_scenario.specs.WorldLogs.{log_bytes}
use Rattle.gen_scenario.specs.Rows.{logs_of_all}
use Rattle.gen_audit.proofs.Supporting.{counts, supported_is_clean}
use Rattle.gen_audit.proofs.Answering.{unclean}

-- ---- what is shown as a general's

-- the sealed logs of a general
abbrev sealed_of : Scenario → ℕ → List LogBytes
sealed_of s g = map (log_bytes g) (worlds.logs_of s g)

his_kept : (g : ℕ) (logs : List RunLog) → filter (λ (x : LogBytes). nat_eq x.general g) (map (log_bytes g) logs) ≡ map (log_bytes g) logs
his_kept g [] = refl
his_kept g (log ∷ logs) = rw (eq-eqb g g refl) (ap (λ xs. log_bytes g log ∷ xs) (his_kept g logs))

others_gone : (g h : ℕ) → (h ≡ g → ⊥) → (logs : List RunLog) → filter (λ (x : LogBytes). nat_eq x.general g) (map (log_bytes h) logs) ≡ []
others_gone g h apart [] = refl
others_gone g h apart (log ∷ logs) = elim (bool_cases (nat_eq h g)) [
  | inl e ↦ absurd (apart (eqb-true h g e))
  | inr e ↦ rw e (others_gone g h apart logs)
]

module _ (s : Scenario) (g : ℕ) where
  abbrev kept_in : ℕ → ℕ → List LogBytes
  kept_in a n = exhibits_of (flat_map (sealed_of s) (range_with_len a n)) g

  one_more : (a n : ℕ) → kept_in a (suc n) ≡ exhibits_of (sealed_of s a) g ++ kept_in (a + 1) n
  one_more a n =
      ap (λ xs. exhibits_of xs g) (flat_map-cons (sealed_of s) a (range_with_len (a + 1) n))
      ∙ filter-append (λ (x : LogBytes). nat_eq x.general g) (sealed_of s a) (flat_map (sealed_of s) (range_with_len (a + 1) n))

  none_behind : (a n : ℕ) → g < a → kept_in a n ≡ []
  none_behind a zero less = refl
  none_behind a (suc n) less =
      one_more a n
      ∙ ap (λ xs. xs ++ kept_in (a + 1) n) (others_gone g a (λ e. omega (arith, e)) (worlds.logs_of s a))
      ∙ none_behind (a + 1) n (omega arith)

  his_in : (a n : ℕ) → a ≤ g → g < a + n → kept_in a n ≡ sealed_of s g
  his_in a zero low high = absurd (omega arith)
  his_in a (suc n) low high = elim (cases_eq a g) [
    | inl e ↦
        one_more a n
        ∙ ap (λ xs. xs ++ kept_in (a + 1) n) (ap (λ k. exhibits_of (sealed_of s k) g) e ∙ his_kept g (worlds.logs_of s g))
        ∙ ap (λ xs. sealed_of s g ++ xs) (none_behind (a + 1) n (omega (arith, e)))
        ∙ append-nil (sealed_of s g)
    | inr ne ↦
        one_more a n
        ∙ ap (λ xs. xs ++ kept_in (a + 1) n) (others_gone g a ne (worlds.logs_of s a))
        ∙ his_in (a + 1) n (omega arith) (omega arith)
  ]

-- ---- the bundle

module _ (s : Scenario) (walks : List (List ℕ)) (fine : IsAcceptable s walks) where
  sole_of : (g : ℕ) → IsLoyal s.net (scripted s.scripts) g → HasSoleLog (bundle_of s walks) g
  unfolding logs_of_all
  sole_of g loyal =
      let k = followers_keep s fine.scenario g loyal in
      let log : RunLog = k.0 in
      let x : LogBytes = log_bytes g log in
      let has : Contains (worlds.logs_of s g) log = subst (λ logs. Contains logs log) (sym k.1) (Contains_here log []) in
      let verified : LogVerifies (header_of s) g log = all_verify s fine.scenario g loyal.0 log has in
      let spelled : Spells (IsLog (header_of s)) log_spelling (log_spelling log) log = record { fits = verified.fits_run; spelled = refl } in
      record {
        exhibit = x;
        sole = his_in s g 0 s.net.generals (omega arith) (omega (arith, loyal.0)) ∙ ap (map (log_bytes g)) k.1;
        log = log;
        reads = log_only (header_of s) fine.scenario.network.ranges.few_orders (log_spelling log) log spelled;
        verifies = verified;
      }

  logged : (g : ℕ) (loyal : IsLoyal s.net (scripted s.scripts) g) → logs_of (bundle_of s walks) g ≡ Some (erased (sole_of g loyal).log.entries)
  logged g loyal =
      let one = sole_of g loyal in
      counts (bundle_of s walks) g one.exhibit one.log one.sole one.reads one.verifies.says

  supported : IsSupported (bundle_of s walks)
  unfolding sole_of
  supported = record {
    somebody = fine.somebody;
    each = sole_of;
    rest = fine.rest;
    of_rest = fine.of_rest;
    bound = fine.bound;
    explained = record {
      run = messages_of s;
      conducts = conduct_of s;
      signed = no_raw_is_signed s fine.scenario fine.no_raw;
      keeps = λ g loyal. let k = followers_keep s fine.scenario g loyal in (erased k.0.entries, logged g loyal, k.2);
    };
  }

  accepted : (verdict : Verdict) → IsVerdict (bundle_of s walks) verdict → IsYes verdict
  accepted (Agreed order) is = tt
  accepted (Explained decisions) is = tt
  accepted (No findings) is = unclean (bundle_of s walks) findings is.0 is.1 (supported_is_clean (bundle_of s walks) supported)

pub world_is_supported : WorldIsSupported
world_is_supported s walks fine = supported s walks fine

pub world_is_accepted : WorldIsAccepted
world_is_accepted s walks fine verdict is = accepted s walks fine verdict is

-- ---- the bytes

his_bytes : (g : ℕ) (logs : List RunLog) → map (λ (x : LogBytes). x.bytes) (map (log_bytes g) logs) ≡ map log_spelling logs
his_bytes g [] = refl
his_bytes g (log ∷ logs) = ap (λ xs. log_spelling log ∷ xs) (his_bytes g logs)

all_bytes : (s : Scenario) (generals : List ℕ) → map (λ (x : LogBytes). x.bytes) (flat_map (sealed_of s) generals) ≡ map log_spelling (flat_map (worlds.logs_of s) generals)
all_bytes s [] = refl
all_bytes s (g ∷ generals) =
    ap (map (λ (x : LogBytes). x.bytes)) (flat_map-cons (sealed_of s) g generals)
    ∙ map-append (λ (x : LogBytes). x.bytes) (sealed_of s g) (flat_map (sealed_of s) generals)
    ∙ ap (λ xs. xs ++ map (λ (x : LogBytes). x.bytes) (flat_map (sealed_of s) generals)) (his_bytes g (worlds.logs_of s g))
    ∙ ap (λ xs. map log_spelling (worlds.logs_of s g) ++ xs) (all_bytes s generals)
    ∙ sym (map-append log_spelling (worlds.logs_of s g) (flat_map (worlds.logs_of s) generals))
    ∙ ap (map log_spelling) (sym (flat_map-cons (worlds.logs_of s) g generals))

pub shown_are_logs : ShownAreLogs
unfolding logs_of_all
shown_are_logs s = all_bytes s (range_with_len 0 s.net.generals)
