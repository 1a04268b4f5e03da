-- How a job ends, by what answers its input or by the fault in its place.
use Rattle.std.proofs.Common.{◌≡◌, ℕ, Bool, false, List, Option, Some, None, Result, Ok, Err, subst}
use Rattle.std.specs.Prelude.{IfSome, IfOk, IfErr}
use Rattle.std.specs.Io.KnownBytes.{Keeps}
use Rattle.gen_ends.specs.declared.ends.JobEnd.{JobEnd}
use Rattle.gen_ends.specs.declared.ends.JobEnd.TheVariants.{Done, Negative, Failed}
use Rattle.gen_ends.specs.declared.ends.JobFault.{JobFault}
use Rattle.gen_ends.specs.declared.ends.JobFault.TheVariants as faults
use Rattle.gen_ends.specs.declared.ends.Output.{Output}
use Rattle.gen_ends.proofs.Known.{kept, taken}
use Rattle.gen_ends.specs.Answering.{Answers, Delivers, DeliversText}
use Rattle.gen_ends.specs.Ends.{IsReadFault, IsTaken, IsWritten, KeepsUntilWhole}

by_fault : (A : List ℕ → Bool → Type 0) (F : JobFault → Type 0) (old new : Option (List ℕ)) (f : JobFault) → (F faults.Write → ⊥) → F f → Answers A F old new (Failed f)
by_fault A F old new faults.Memory never h = tt
by_fault A F old new faults.Read never h = tt
by_fault A F old new faults.Write never h = absurd (never h)
by_fault A F old new faults.Thread never h = h
by_fault A F old new (faults.Scenario s) never h = h
by_fault A F old new (faults.Campaign b) never h = h
by_fault A F old new (faults.Evidence e) never h = h
by_fault A F old new (faults.Receipt f) never h = h
by_fault A F old new (faults.Log e) never h = h
by_fault A F old new (faults.Seed e) never h = h
by_fault A F old new (faults.EqualRoots a b) never h = h
by_fault A F old new faults.OtherRun never h = h
by_fault A F old new faults.Open never h = h

by_write : (A : List ℕ → Bool → Type 0) (F : JobFault → Type 0) (old new : Option (List ℕ)) (text : List ℕ) (negative : Bool) (f : JobFault) → A text negative → f ≡ faults.Write → Answers A F old new (Failed f)
by_write A F old new text negative f a e = rw e (text, negative, a)

by_output : (A : List ℕ → Bool → Type 0) (F : JobFault → Type 0) (old new : Option (List ℕ)) (text : List ℕ) (negative : Bool) (end : JobEnd) → A text negative → IsWritten text negative old new end → Answers A F old new end
by_output A F old new text negative Done a w = (text, subst (λ b. A text b) w.0 a, w.1)
by_output A F old new text negative Negative a w = (text, subst (λ b. A text b) w.0 a, w.1)
by_output A F old new text negative (Failed f) a w = by_write A F old new text negative f a w

by_delivery : (A : List ℕ → Bool → Type 0) (F : JobFault → Type 0) (old new : Option (List ℕ)) (answer : Result Output JobFault) (end : JobEnd) → (F faults.Write → ⊥) → IfOk answer (λ o. A o.text.items o.negative) → IfErr answer F → Delivers answer old new end → Answers A F old new end
by_delivery A F old new (Ok output) end never a f d = by_output A F old new output.text.items output.negative end a d
by_delivery A F old new (Err fault) end never a f d = rw d.0 (by_fault A F old new fault never f)

-- what was delivered answers an input that was read whole
pub answered : (A : List ℕ → List ℕ → Bool → Type 0) (F : List ℕ → JobFault → Type 0) (remaining old new : Option (List ℕ)) (all : List ℕ) (answer : Result Output JobFault) (end : JobEnd) → (F all faults.Write → ⊥) → IfSome remaining (λ input. all ≡ input) → IfOk answer (λ o. A all o.text.items o.negative) → IfErr answer (F all) → Delivers answer old new end → IfSome remaining (λ input. Answers (A input) (F input) old new end)
answered A F None old new all answer end never whole a f d = tt
answered A F (Some input) old new all answer end never whole a f d = subst (λ (xs : List ℕ). Answers (A xs) (F xs) old new end) whole (by_delivery (A all) (F all) old new answer end never a f d)

by_text : (A : List ℕ → Bool → Type 0) (F : JobFault → Type 0) (old new : Option (List ℕ)) (answer : Result (List ℕ) JobFault) (end : JobEnd) → (F faults.Write → ⊥) → IfOk answer (λ text. A text false) → IfErr answer F → DeliversText answer old new end → Answers A F old new end
by_text A F old new (Ok text) end never a f d = by_output A F old new text false end a d
by_text A F old new (Err fault) end never a f d = rw d.0 (by_fault A F old new fault never f)

-- the same of a text that never says no
pub answered_text : (A : List ℕ → List ℕ → Bool → Type 0) (F : List ℕ → JobFault → Type 0) (remaining old new : Option (List ℕ)) (all : List ℕ) (answer : Result (List ℕ) JobFault) (end : JobEnd) → (F all faults.Write → ⊥) → IfSome remaining (λ input. all ≡ input) → IfOk answer (λ text. A all text false) → IfErr answer (F all) → DeliversText answer old new end → IfSome remaining (λ input. Answers (A input) (F input) old new end)
answered_text A F None old new all answer end never whole a f d = tt
answered_text A F (Some input) old new all answer end never whole a f d = subst (λ (xs : List ℕ). Answers (A xs) (F xs) old new end) whole (by_text (A all) (F all) old new answer end never a f d)

kept_at : (old new : Option (List ℕ)) (f : JobFault) → Keeps old new → KeepsUntilWhole old new (Failed f)
kept_at old new faults.Memory k = k
kept_at old new faults.Read k = k
kept_at old new faults.Write k = tt
kept_at old new faults.Thread k = k
kept_at old new (faults.Scenario s) k = k
kept_at old new (faults.Campaign b) k = k
kept_at old new (faults.Evidence e) k = k
kept_at old new (faults.Receipt f) k = k
kept_at old new (faults.Log e) k = k
kept_at old new (faults.Seed e) k = k
kept_at old new (faults.EqualRoots a b) k = k
kept_at old new faults.OtherRun k = k
kept_at old new faults.Open k = k

late_output : (old new : Option (List ℕ)) (text : List ℕ) (negative : Bool) (end : JobEnd) → IsWritten text negative old new end → KeepsUntilWhole old new end
late_output old new text negative Done w = tt
late_output old new text negative Negative w = tt
late_output old new text negative (Failed f) w = rw w tt

-- what is delivered is written once it is whole
pub late : (old new : Option (List ℕ)) (answer : Result Output JobFault) (end : JobEnd) → Delivers answer old new end → KeepsUntilWhole old new end
late old new (Ok output) end d = late_output old new output.text.items output.negative end d
late old new (Err fault) end d = rw d.0 (kept_at old new fault d.1)

-- the same of a text that never says no
pub late_text : (old new : Option (List ℕ)) (answer : Result (List ℕ) JobFault) (end : JobEnd) → DeliversText answer old new end → KeepsUntilWhole old new end
late_text old new (Ok text) end d = late_output old new text false end d
late_text old new (Err fault) end d = rw d.0 (kept_at old new fault d.1)

unread : (A : List ℕ → Bool → Type 0) (F : JobFault → Type 0) (old new : Option (List ℕ)) (f : JobFault) → IsReadFault f → Answers A F old new (Failed f)
unread A F old new faults.Memory h = tt
unread A F old new faults.Read h = tt
unread A F old new faults.Write h = absurd h
unread A F old new faults.Thread h = absurd h
unread A F old new (faults.Scenario s) h = absurd h
unread A F old new (faults.Campaign b) h = absurd h
unread A F old new (faults.Evidence e) h = absurd h
unread A F old new (faults.Receipt f) h = absurd h
unread A F old new (faults.Log e) h = absurd h
unread A F old new (faults.Seed e) h = absurd h
unread A F old new (faults.EqualRoots a b) h = absurd h
unread A F old new faults.OtherRun h = absurd h
unread A F old new faults.Open h = absurd h

-- an input that can't be read is answered by this
pub unread_answers : (A : List ℕ → List ℕ → Bool → Type 0) (F : List ℕ → JobFault → Type 0) (remaining old new : Option (List ℕ)) (f : JobFault) → IsReadFault f → IfSome remaining (λ input. Answers (A input) (F input) old new (Failed f))
unread_answers A F None old new f h = tt
unread_answers A F (Some input) old new f h = unread (A input) (F input) old new f h

untaken : (input : List ℕ) (f : JobFault) → IsReadFault f → IsTaken input (Failed f)
untaken input faults.Memory h = tt
untaken input faults.Read h = tt
untaken input faults.Write h = absurd h
untaken input faults.Thread h = absurd h
untaken input (faults.Scenario s) h = absurd h
untaken input (faults.Campaign b) h = absurd h
untaken input (faults.Evidence e) h = absurd h
untaken input (faults.Receipt f) h = absurd h
untaken input (faults.Log e) h = absurd h
untaken input (faults.Seed e) h = absurd h
untaken input (faults.EqualRoots a b) h = absurd h
untaken input faults.OtherRun h = absurd h
untaken input faults.Open h = absurd h

-- of an input that can't be read no length is said
pub unread_taken : (remaining : Option (List ℕ)) (f : JobFault) → IsReadFault f → IfSome remaining (λ input. IsTaken input (Failed f))
unread_taken None f h = tt
unread_taken (Some input) f h = untaken input f h

-- where nothing was written, nothing was written too early
pub unread_late : (x : Option (List ℕ)) (f : JobFault) → KeepsUntilWhole x x (Failed f)
unread_late x f = kept_at x x f (kept x)

-- what an engine's clauses follow from: one that writes an output, and one that writes a text
pub ruleset output_engine = (taken, answered, late, unread_answers, unread_taken, unread_late)

pub ruleset text_engine = (taken, answered_text, late_text, unread_answers, unread_taken, unread_late)
