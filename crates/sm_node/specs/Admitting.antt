-- What is told of a run that an admission admits, and the number of each answer.
use Rattle.std.specs.Prelude.{ℕ, ◌≡◌, ◌≢◌, List, Ok, Err}
use Rattle.gen_types.specs.declared.reading.ReadError.{ReadError}
use Rattle.gen_types.specs.declared.reading.ReadError.TheVariants as errors
use Rattle.gen_net.specs.Header.{run_id_of}
use Rattle.gen_system.specs.Admissions.{SetAdmission}
use Rattle.gen_system.specs.AdmissionReading.{whole_admission}
use Rattle.gen_system.specs.Admitting.{Admits, Holds, header_of_run}
use Rattle.gen_system.specs.Runs.{node_of, set_of_run}
use Rattle.gen_system.specs.Systems.{system_id_of}
use Rattle.sm_node.specs.declared.admitting.AdmitReply.{AdmitReply}
use Rattle.sm_node.specs.declared.admitting.AdmitReply.TheVariants.{Admitted, Fault, Memory, OtherSystem}
use Rattle.sm_node.specs.declared.admitting.SmAdmitted.{SmAdmitted}
use Rattle.sm_node.specs.declared.faults.AdmitFault.{AdmitFault}
use Rattle.sm_node.specs.declared.faults.AdmitFault.TheVariants.{Bytes, Fails, OtherSet}
use Rattle.sm_node.specs.Faults.{admit_number}

-- the number of an answer
abbrev pub admit_status : AdmitReply → ℕ
admit_status Admitted = 0
admit_status Fault = 3
admit_status Memory = 4
admit_status OtherSystem = 7

-- the returned number is that of an answer, and what goes with the answer holds
abbrev pub IsReplied : (AdmitReply → Type 0) → ℕ → Type 0
IsReplied Holds status = (told : AdmitReply) × (status ≡ admit_status told) × Holds told

-- the bytes are this admission, which holds, and the run is of its set
pub record IsFor (run : ℕ) (bytes : List ℕ) (a : SetAdmission) : Type 0 where
  pub read : whole_admission bytes ≡ Ok a
  pub holds : Holds a
  pub set : a.set ≡ set_of_run a.system.header.version run

-- the bytes are an admission that does not hold
pub record IsFailing (bytes : List ℕ) : Type 0 where
  pub admission : SetAdmission
  pub read : whole_admission bytes ≡ Ok admission
  pub fails : Holds admission → ⊥

-- the bytes are an admission that holds, and the run is of another set
pub record IsOfOtherSet (run : ℕ) (bytes : List ℕ) : Type 0 where
  pub admission : SetAdmission
  pub read : whole_admission bytes ≡ Ok admission
  pub holds : Holds admission
  pub other : admission.set ≢ set_of_run admission.system.header.version run

-- why the bytes are no admission that holds of the run's set
abbrev pub IsAdmitFault : ℕ → List ℕ → AdmitFault → Type 0
IsAdmitFault run bytes (Bytes fault) = whole_admission bytes ≡ Err fault
IsAdmitFault run bytes Fails = IsFailing bytes
IsAdmitFault run bytes OtherSet = IsOfOtherSet run bytes

-- memory was refused, or there is such a fault
abbrev pub LacksAdmission : ℕ → List ℕ → ReadError AdmitFault → Type 0
LacksAdmission run bytes errors.Memory = Unit {0}
LacksAdmission run bytes (errors.Fault fault) = IsAdmitFault run bytes fault

-- what is told of a run: by the header that the admission has for it the run id and the number of traitors
-- that it is planned for, and the node that is general 0, the commander
abbrev pub told_of : SetAdmission → ℕ → SmAdmitted
told_of a run = record {
  run_id = run_id_of (header_of_run a run);
  traitors = (header_of_run a run).network.traitors;
  proposer = node_of a.system run 0;
}

-- The bytes are an admission that admits its header of the run in the system with this id, and this is told
-- of the run.
pub record AdmitsRun (system : List ℕ) (run : ℕ) (bytes : List ℕ) (told : SmAdmitted) : Type 0 where
  pub admission : SetAdmission
  pub read : whole_admission bytes ≡ Ok admission
  pub admits : Admits system run (header_of_run admission run) admission
  pub told_is : told ≡ told_of admission run

-- the bytes are an admission that holds of the run's set, and it is of another system than the one with this
-- id
pub record IsOfOtherSystem (system : List ℕ) (run : ℕ) (bytes : List ℕ) : Type 0 where
  pub admission : SetAdmission
  pub for_run : IsFor run bytes admission
  pub other : system_id_of admission.system ≢ system

-- the run is told that the admission admits; or what was there stays, and the answer says why
abbrev pub TellsAdmitted : List ℕ → ℕ → List ℕ → SmAdmitted → SmAdmitted → ℕ → AdmitReply → Type 0
TellsAdmitted system run bytes old new fault Admitted = (fault ≡ 0) × AdmitsRun system run bytes new
TellsAdmitted system run bytes old new fault Fault =
    (new ≡ old) × ((f : AdmitFault) × IsAdmitFault run bytes f × (fault ≡ admit_number f))
TellsAdmitted system run bytes old new fault OtherSystem =
    (fault ≡ 0) × (new ≡ old) × IsOfOtherSystem system run bytes
TellsAdmitted system run bytes old new fault Memory = (fault ≡ 0) × (new ≡ old)
