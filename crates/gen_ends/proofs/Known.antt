-- What was kept, and what was read whole.
use Rattle.std.proofs.Common.{◌≡◌, ◌≤◌, length, ℕ, List, Option, Some, None, refl, subst}
use Rattle.std.specs.Prelude.{IfSome}
use Rattle.std.specs.Io.KnownBytes.{Keeps}
use Rattle.gen_ends.specs.declared.ends.JobEnd.{JobEnd}
use Rattle.gen_ends.specs.declared.ends.JobEnd.TheVariants.{Done, Negative, Failed}
use Rattle.gen_ends.specs.declared.ends.JobFault.TheVariants as faults
use Rattle.gen_ends.specs.Ends.{IsTaken}

pub kept : (x : Option (List ℕ)) → Keeps x x
kept None = tt
kept (Some xs) = refl

within : (input : List ℕ) (end : JobEnd) → length input ≤ 1073741824 → IsTaken input end
within input Done le = le
within input Negative le = le
within input (Failed faults.Memory) le = tt
within input (Failed faults.Read) le = tt
within input (Failed faults.Thread) le = le
within input (Failed faults.Write) le = le
within input (Failed (faults.Scenario f)) le = le
within input (Failed (faults.Campaign f)) le = le
within input (Failed (faults.Evidence f)) le = le
within input (Failed (faults.Receipt f)) le = le
within input (Failed (faults.Log f)) le = le
within input (Failed (faults.Seed f)) le = le
within input (Failed (faults.EqualRoots a b)) le = le
within input (Failed faults.OtherRun) le = le
within input (Failed faults.Open) le = le

-- an input that was read whole, and whose bytes are within the limit
pub taken : (remaining : Option (List ℕ)) (all : List ℕ) (end : JobEnd) → IfSome remaining (λ input. all ≡ input) → length all ≤ 1073741824 → IfSome remaining (λ input. IsTaken input end)
taken None all end whole le = tt
taken (Some input) all end whole le = within input end (subst (λ (xs : List ℕ). length xs ≤ 1073741824) whole le)
