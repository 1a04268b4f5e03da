-- What is made of an answer about a general that may be no run's.
use native.Mathlib.Omega.{arith}
use Rattle.std.proofs.Common.{◌≡◌, ◌<◌, ◌≤◌, ℕ, Bool, true, false, if◌then◌else◌, List, Option, Some, None, Result, Ok, Err, ◌⊎◌, inl, inr, refl, sym, subst}
use Rattle.std.specs.Prelude.{IfOk, IfErr}
use Rattle.std.proofs.lemmas.Option.{none-some, same_Some}
use Rattle.gen_asked.specs.declared.jobs.Job.{Job}
use Rattle.gen_ends.specs.declared.ends.JobFault.{JobFault}
use Rattle.gen_ends.specs.declared.ends.JobFault.TheVariants as faults
use Rattle.gen_facts.specs.declared.fact.Fact.{Fact}
use Rattle.gen_jobs.specs.declared.in_place.Answered.{Answered}
use Rattle.gen_jobs.specs.Facts.{JobFacts}
use Rattle.gen_jobs.specs.Jobs.{JobAnswers, JobFails}
use Rattle.sm_embed.specs.Knowing.{IsMadeAbout, Knows, MakesKnown}
use Rattle.sm_embed.specs.Loops.Keeping.{Keeps}
use Rattle.sm_embed.specs.Making.{IsMade, MakesJob, line_number}
use Rattle.sm_embed.specs.declared.kept.Kept.{Kept}

-- by an answer, which says no or doesn't
by_answer : (A : List ℕ → Bool → Type 0) (B : List Fact → Type 0) (F : JobFault → Type 0) (negative : Bool) (kept : Kept) (status : ℕ) → A kept.text.items negative → B kept.facts.items → status ≡ (if negative then 1 else 0) → IsMade A B F (Some kept) status
by_answer A B F true kept status a b s = inr (inl (s, (a, b)))
by_answer A B F false kept status a b s = inl (s, (a, b))

-- an answer or the fault in its place
pub is_made : (A : List ℕ → Bool → Type 0) (B : List Fact → Type 0) (F : JobFault → Type 0) (answered : Result Answered JobFault) (held : Option Kept) (status : ℕ) → IfOk answered (λ a. A a.output.text.items a.output.negative) → IfOk answered (λ a. B a.facts.items) → IfErr answered F → Keeps answered held status → IsMade A B F held status
is_made A B F answered None status a b f keeps = inr (inr (inr (keeps, refl)))
is_made A B F (Ok answered) (Some kept) status a b f keeps = by_answer A B F answered.output.negative kept status (subst (λ (k : Kept). A k.text.items answered.output.negative) (sym keeps.0) a) (subst (λ (k : Kept). B k.facts.items) (sym keeps.0) b) keeps.1
is_made A B F (Err fault) (Some kept) status a b f keeps = inr (inr (inl (fault, f, keeps.0, keeps.1)))

-- the same where memory was refused behind the answer
pub is_made_or : (A : List ℕ → Bool → Type 0) (B : List Fact → Type 0) (F : JobFault → Type 0) (answered : Result Answered JobFault) (held : Option Kept) (status : ℕ) → IfOk answered (λ a. A a.output.text.items a.output.negative) → IfOk answered (λ a. B a.facts.items) → IfErr answered (λ f. F f ⊎ (f ≡ faults.Memory)) → Keeps answered held status → IsMade A B F held status
is_made_or A B F answered None status a b f keeps = inr (inr (inr (keeps, refl)))
is_made_or A B F (Ok answered) (Some kept) status a b f keeps = is_made A B F (Ok answered) (Some kept) status a b tt keeps
is_made_or A B F (Err fault) (Some kept) status a b (inl f) keeps = is_made A B F (Err fault) (Some kept) status a b f keeps
is_made_or A B F (Err fault) (Some kept) status a b (inr e) keeps = absurd (none-some status (subst (λ (f : JobFault). line_number f ≡ Some status) e keeps.0))

-- the number for a line is none of an answer
numbered : (f : JobFault) (n : ℕ) → line_number f ≡ Some n → 3 ≤ n
numbered faults.OtherRun n e = let is : 7 ≡ n = same_Some 7 n e in omega arith
numbered (faults.Scenario f) n e = let is : 3 ≡ n = same_Some 3 n e in omega arith
numbered (faults.Campaign f) n e = let is : 3 ≡ n = same_Some 3 n e in omega arith
numbered (faults.Evidence f) n e = let is : 3 ≡ n = same_Some 3 n e in omega arith
numbered (faults.Receipt f) n e = let is : 3 ≡ n = same_Some 3 n e in omega arith
numbered (faults.Log f) n e = let is : 3 ≡ n = same_Some 3 n e in omega arith
numbered (faults.Seed f) n e = let is : 3 ≡ n = same_Some 3 n e in omega arith
numbered (faults.EqualRoots a b) n e = let is : 3 ≡ n = same_Some 3 n e in omega arith
numbered faults.Memory n e = absurd (none-some n e)
numbered faults.Thread n e = absurd (none-some n e)
numbered faults.Open n e = absurd (none-some n e)
numbered faults.Read n e = absurd (none-some n e)
numbered faults.Write n e = absurd (none-some n e)

-- what is made of an answer, if something else is so as well
made_too : (A : List ℕ → Bool → Type 0) (B : List Fact → Type 0) (F : JobFault → Type 0) (K : Type 0) (held : Option Kept) (status : ℕ) → K → IsMade A B F held status → IsMade (λ text negative. A text negative × K) B F held status
made_too A B F K None status k (inl x) = absurd x.1
made_too A B F K (Some kept) status k (inl x) = inl (x.0, ((x.1.0, k), x.1.1))
made_too A B F K None status k (inr (inl x)) = absurd x.1
made_too A B F K (Some kept) status k (inr (inl x)) = inr (inl (x.0, ((x.1.0, k), x.1.1)))
made_too A B F K held status k (inr (inr x)) = inr (inr x)

-- an answer at 0 and 1
answered_at : (A : List ℕ → Bool → Type 0) (B : List Fact → Type 0) (F : JobFault → Type 0) (held : Option Kept) (status : ℕ) → status ≤ 1 → IsMade A B F held status → (text : List ℕ) × (negative : Bool) × A text negative
answered_at A B F None status few (inl x) = absurd x.1
answered_at A B F (Some kept) status few (inl x) = (kept.text.items, false, x.1.0)
answered_at A B F None status few (inr (inl x)) = absurd x.1
answered_at A B F (Some kept) status few (inr (inl x)) = (kept.text.items, true, x.1.0)
answered_at A B F held status few (inr (inr (inl x))) = let more : 3 ≤ status = numbered x.0 status x.2 in absurd (omega arith)
answered_at A B F held status few (inr (inr (inr x))) = let is : status ≡ 4 = x.0 in absurd (omega arith)

-- nothing is answered, so it does not matter whose the general is
pub about_fault : (A : List ℕ → Bool → Type 0) (B : List Fact → Type 0) (F : JobFault → Type 0) (K : Bool → Type 0) (held : Option Kept) (status : ℕ) → 1 < status → IsMade A B F held status → IsMadeAbout K A B F held status
about_fault A B F K held status more (inl x) = let is : status ≡ 0 = x.0 in absurd (omega arith)
about_fault A B F K held status more (inr (inl x)) = let is : status ≡ 1 = x.0 in absurd (omega arith)
about_fault A B F K held status more (inr (inr x)) = inr (inr (inr x))

-- the general is one of a run's
pub about_known : (A : List ℕ → Bool → Type 0) (B : List Fact → Type 0) (F : JobFault → Type 0) (K : Bool → Type 0) (held : Option Kept) (status : ℕ) → IsMade A B F held status → K true → IsMadeAbout K A B F held status
about_known A B F K held status made known = inr (made_too A B F (K true) held status known made)

-- the general is no run's, so what was made is dropped
pub about_nobody : (A : List ℕ → Bool → Type 0) (B : List Fact → Type 0) (F : JobFault → Type 0) (K : Bool → Type 0) (made left : Option Kept) (status : ℕ) → status ≤ 1 → IsMade A B F made status → K false → left ≡ None → IsMadeAbout K A B F left 6
about_nobody A B F K made left status few is nobody empty = inl (refl, empty, (answered_at A B F made status few is, nobody))

pub made_of_fault : (job : Job) (general : ℕ) (input : List ℕ) (held : Option Kept) (status : ℕ) → 1 < status → MakesJob job input held status → MakesKnown job general input held status
made_of_fault job general input held status more made = about_fault (JobAnswers job None input) (JobFacts job input) (JobFails job input) (Knows job general input) held status more made

pub made_of_known : (job : Job) (general : ℕ) (input : List ℕ) (held : Option Kept) (status : ℕ) → MakesJob job input held status → Knows job general input true → MakesKnown job general input held status
made_of_known job general input held status made known = about_known (JobAnswers job None input) (JobFacts job input) (JobFails job input) (Knows job general input) held status made known

pub made_of_nobody : (job : Job) (general : ℕ) (input : List ℕ) (made left : Option Kept) (status : ℕ) → status ≤ 1 → MakesJob job input made status → Knows job general input false → left ≡ None → MakesKnown job general input left 6
made_of_nobody job general input made left status few is nobody empty = about_nobody (JobAnswers job None input) (JobFacts job input) (JobFails job input) (Knows job general input) made left status few is nobody empty
