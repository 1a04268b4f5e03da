-- What is printed of a judgement has no floats, and nests a few levels deep.
use Rattle.std.proofs.Common.{◌≡◌, ℕ, ◌≤◌, List, false, refl, arith}
use Rattle.std.specs.Prelude.{Option, Some, None}
use Rattle.std.specs.List.{range_with_len}
use Rattle.serde_json.specs.Data.{depth}
use Rattle.serde_json.specs.Written.{has_float}
use Rattle.gen_plan.specs.EqualRoots.{equal_roots}
use Rattle.gen_plan.specs.Parted.{parted_pair}
use Rattle.gen_match.specs.declared.finding.Finding.{Finding}
use Rattle.gen_match.specs.declared.finding.Finding.TheVariants.{Missing, Several, Unreadable, Foreign, Unsigned, Unsealed, Departs, Unmatched, Underivable, Unjoined, Nobody}
use Rattle.gen_convict.specs.Evidence.{Accusation}
use Rattle.gen_audit.specs.Bundle.{Bundle}
use Rattle.gen_audit.specs.declared.verdicts.Verdict.{Verdict}
use Rattle.gen_audit.specs.declared.verdicts.Verdict.TheVariants.{Agreed, Explained, No}
use Rattle.gen_audit.specs.Verdict.{findings_in}
use Rattle.gen_json_parts.specs.FindingData.{finding_data}
use Rattle.gen_facts.specs.Statuses.{status_of}
use Rattle.gen_json_parts.specs.StatusData.{status_data}
use Rattle.gen_json.specs.DecisionData.{decided_data}
use Rattle.gen_json.specs.ConvictionData.{conviction_data}
use Rattle.gen_json.specs.JsonData.{pair_data}
use Rattle.gen_json.specs.OriginData.{Origin}
use Rattle.gen_json_parts.specs.VerdictData.{decisions_in, judgement_data, order_data}
use Rattle.gen_json.proofs.Plain.{items_plain, items_shallow, numbers_plain, numbers_shallow}
use Rattle.gen_json.proofs.PlainLogs.{logs_plain, logs_shallow}
use Rattle.gen_json.proofs.PlainOrigins.{asked_plain, asked_shallow, input_plain, input_shallow, maybe_plain, maybe_shallow}

finding_plain : (f : Finding) → has_float (finding_data f) ≡ false
finding_plain (Missing g) = refl
finding_plain (Several g) = refl
finding_plain (Unreadable g fault) = refl
finding_plain (Foreign g) = refl
finding_plain (Unsigned g entry) = refl
finding_plain (Unsealed g) = refl
finding_plain (Departs g entry) = refl
finding_plain (Unmatched from to round order) = refl
finding_plain (Underivable from to round order) = refl
finding_plain (Unjoined first second) = refl
finding_plain Nobody = refl

finding_shallow : (f : Finding) → depth (finding_data f) ≤ 1
finding_shallow (Missing g) = omega arith
finding_shallow (Several g) = omega arith
finding_shallow (Unreadable g fault) = omega arith
finding_shallow (Foreign g) = omega arith
finding_shallow (Unsigned g entry) = omega arith
finding_shallow (Unsealed g) = omega arith
finding_shallow (Departs g entry) = omega arith
finding_shallow (Unmatched from to round order) = omega arith
finding_shallow (Underivable from to round order) = omega arith
finding_shallow (Unjoined first second) = omega arith
finding_shallow Nobody = omega arith

order_plain : (v : Verdict) → has_float (order_data v) ≡ false
order_plain (Agreed order) = refl
order_plain (Explained decisions) = refl
order_plain (No findings) = refl

order_shallow : (v : Verdict) → depth (order_data v) ≤ 0
order_shallow (Agreed order) = omega arith
order_shallow (Explained decisions) = omega arith
order_shallow (No findings) = omega arith

pub judgement_plain : (o : Option Origin) (b : Bundle) (v : Verdict) (xs : List Accusation)
    → has_float (judgement_data o b v xs) ≡ false
judgement_plain None b v xs =
    rw (
      items_plain conviction_data (λ x. refl) xs,
      items_plain decided_data (λ d. refl) (decisions_in v),
      items_plain pair_data (λ p. refl) (equal_roots b.header),
      numbers_plain b.faulty,
      items_plain finding_data finding_plain (findings_in v),
      logs_plain b.header b.exhibits,
      order_plain v,
      maybe_plain pair_data (λ p. refl) (parted_pair b.header.network b.faulty),
      items_plain (λ g. status_data g (status_of b.faulty (findings_in v) xs g)) (λ g. refl) (range_with_len 0 b.header.network.generals),
    )
    refl
judgement_plain (Some o) b v xs =
    rw (
      asked_plain o,
      items_plain conviction_data (λ x. refl) xs,
      items_plain decided_data (λ d. refl) (decisions_in v),
      items_plain pair_data (λ p. refl) (equal_roots b.header),
      numbers_plain b.faulty,
      items_plain finding_data finding_plain (findings_in v),
      input_plain o,
      logs_plain b.header b.exhibits,
      order_plain v,
      maybe_plain pair_data (λ p. refl) (parted_pair b.header.network b.faulty),
      items_plain (λ g. status_data g (status_of b.faulty (findings_in v) xs g)) (λ g. refl) (range_with_len 0 b.header.network.generals),
    )
    refl

pub judgement_shallow : (o : Option Origin) (b : Bundle) (v : Verdict) (xs : List Accusation)
    → depth (judgement_data o b v xs) ≤ 3
judgement_shallow None b v xs =
    omega (
      arith,
      items_shallow conviction_data 1 (λ x. omega arith) xs,
      items_shallow decided_data 1 (λ d. omega arith) (decisions_in v),
      items_shallow pair_data 1 (λ p. omega arith) (equal_roots b.header),
      numbers_shallow b.faulty,
      items_shallow finding_data 1 finding_shallow (findings_in v),
      logs_shallow b.header b.exhibits,
      order_shallow v,
      maybe_shallow pair_data 1 (λ p. omega arith) (parted_pair b.header.network b.faulty),
      items_shallow (λ g. status_data g (status_of b.faulty (findings_in v) xs g)) 1 (λ g. omega arith) (range_with_len 0 b.header.network.generals),
    )
judgement_shallow (Some o) b v xs =
    omega (
      arith,
      asked_shallow o,
      items_shallow conviction_data 1 (λ x. omega arith) xs,
      items_shallow decided_data 1 (λ d. omega arith) (decisions_in v),
      items_shallow pair_data 1 (λ p. omega arith) (equal_roots b.header),
      numbers_shallow b.faulty,
      items_shallow finding_data 1 finding_shallow (findings_in v),
      input_shallow o,
      logs_shallow b.header b.exhibits,
      order_shallow v,
      maybe_shallow pair_data 1 (λ p. omega arith) (parted_pair b.header.network b.faulty),
      items_shallow (λ g. status_data g (status_of b.faulty (findings_in v) xs g)) 1 (λ g. omega arith) (range_with_len 0 b.header.network.generals),
    )

pub judgement_within : (o : Option Origin) (b : Bundle) (v : Verdict) (xs : List Accusation)
    → depth (judgement_data o b v xs) ≤ 127
judgement_within o b v xs = omega (arith, judgement_shallow o b v xs)
