-- The runs that an admission admits: their numbers, their ids, and which node each general is.
use Rattle.std.specs.Prelude.{ℕ, ◌≡◌, List, map, Option, Some, None, Ok, Err}
use Rattle.std.specs.List.{range_with_len}
use Rattle.gen_types.specs.declared.reading.ReadError.{ReadError}
use Rattle.gen_types.specs.declared.reading.ReadError.TheVariants as errors
use Rattle.gen_net.specs.Header.{run_id_of}
use Rattle.gen_system.specs.Admissions.{SetAdmission}
use Rattle.gen_system.specs.AdmissionReading.{whole_admission}
use Rattle.gen_system.specs.Admitting.{Holds, header_of_run}
use Rattle.gen_system.specs.Runs.{node_of, run_by, runs_of_set}
use Rattle.gen_system.specs.Systems.{RunSystem, system_id_of}
use Rattle.gen_enrolling.specs.Admitting.{IsFailing}
use Rattle.gen_enrolling.specs.declared.enroll_fault.EnrollFault.{EnrollFault}
use Rattle.gen_enrolling.specs.declared.enroll_fault.EnrollFault.TheVariants as faults
use Rattle.gen_enrolling.specs.declared.admitted.AdmittedRun.{AdmittedRun}
use Rattle.gen_enrolling.specs.declared.admitted.AdmittedRuns.{AdmittedRuns}

-- a run: its number, its id, and the node that each general is
pub record RunTold : Type 0 where
  pub number : ℕ
  pub id : List ℕ
  pub nodes : List ℕ

abbrev pub told_run : AdmittedRun → RunTold
told_run r = record { number = r.number; id = r.id; nodes = r.nodes.items }

-- the nodes that the generals of a run are, general by general
abbrev pub nodes_of_run : RunSystem → ℕ → List ℕ
nodes_of_run s run = map (λ general. node_of s run general) (range_with_len 0 s.header.network.generals)

-- the run with this number: its id is that of the header that the admission has for it
abbrev pub run_in : SetAdmission → ℕ → RunTold
run_in a run = record {
  number = run;
  id = run_id_of (header_of_run a run);
  nodes = nodes_of_run a.system run;
}

-- the runs of the set of an admission, ascending by number
abbrev pub runs_in_set : SetAdmission → List RunTold
runs_in_set a =
    map (λ slot. run_in a (run_by a.system.header.version a.set slot))
    (range_with_len 0 (runs_of_set a.system.header.version))

-- the id of a system is the one that is asked for, if one is
abbrev pub IsWanted : Option (List ℕ) → List ℕ → Type 0
IsWanted None id = Unit {0}
IsWanted (Some wanted) id = id ≡ wanted

-- The bytes are an admission that holds, of the system that is told and asked for, and these are the runs of
-- its set.
pub record AreAdmitted (wanted : Option (List ℕ)) (bytes : List ℕ) (told : AdmittedRuns) : Type 0 where
  pub admission : SetAdmission
  pub read : whole_admission bytes ≡ Ok admission
  pub holds : Holds admission
  pub system : told.system ≡ system_id_of admission.system
  pub wanted_is : IsWanted wanted told.system
  pub runs : map told_run told.runs.items ≡ runs_in_set admission

-- the bytes are an admission that holds, of another system than the one that is asked for
pub record IsOfOtherSystem (wanted : Option (List ℕ)) (bytes : List ℕ) : Type 0 where
  pub admission : SetAdmission
  pub read : whole_admission bytes ≡ Ok admission
  pub holds : Holds admission
  pub other : IsWanted wanted (system_id_of admission.system) → ⊥

-- why the bytes give no runs: they are no admission, it does not hold, or it is of another system
abbrev pub IsRunsFault : Option (List ℕ) → List ℕ → EnrollFault → Type 0
IsRunsFault wanted bytes (faults.Admission fault) = whole_admission bytes ≡ Err fault
IsRunsFault wanted bytes faults.Fails = IsFailing bytes
IsRunsFault wanted bytes faults.OtherSystem = IsOfOtherSystem wanted bytes
IsRunsFault wanted bytes _ = ⊥

-- memory was refused, or there is such a fault
abbrev pub LacksRuns : Option (List ℕ) → List ℕ → ReadError EnrollFault → Type 0
LacksRuns wanted bytes errors.Memory = Unit {0}
LacksRuns wanted bytes (errors.Fault fault) = IsRunsFault wanted bytes fault
