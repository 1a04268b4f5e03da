-- The loop over the texts of a campaign.
use Rattle.std.proofs.Common.{◌≡◌, ℕ, suc, ◌+◌, ◌-◌, ◌<◌, ◌≤◌, List, [], ◌∷◌, ◌++◌, Result, Ok, Err, refl, sym, ap, ◌∙◌, append_assoc, arith}
use Rattle.std.proofs.lemmas.List.{append-nil}
use Rattle.gen_types.specs.declared.reading.ReadError.{ReadError}
use Rattle.gen_types.specs.declared.reading.ReadError.TheVariants as errors
use Rattle.gen_types.specs.Reading.{◌>>=◌, Fails}
use Rattle.gen_scenario.specs.Scenario.{Scenario}
use Rattle.gen_text.specs.declared.fault.ScenarioFault.{ScenarioFault}
use Rattle.gen_text.specs.Cursor.{Cursor}
use Rattle.gen_campaign.specs.CampaignTextReading.{text_at, texts_at}

-- what was read before, and what is still read
abbrev pub with_front : List Scenario → Result (List Scenario × Cursor) ScenarioFault → Result (List Scenario × Cursor) ScenarioFault
with_front front read = read >>= λ x. Ok (front ++ x.0, x.1)

regroup : (front : List Scenario) (s : Scenario) (read : Result (List Scenario × Cursor) ScenarioFault) → with_front front (read >>= λ x. Ok (s ∷ x.0, x.1)) ≡ with_front (front ++ s ∷ []) read
regroup front s (Ok x) = ap (λ (ss : List Scenario). Ok (ss, x.1)) (sym (append_assoc front (s ∷ []) x.0))
regroup front s (Err f) = refl

pub goes_on : (front : List Scenario) (count i : ℕ) (c : Cursor) (s : Scenario) (rest : Cursor) (total : Result (List Scenario × Cursor) ScenarioFault) → i < count → text_at front c ≡ Ok (s, rest)
    → with_front front (texts_at front (count - i) c) ≡ total → with_front (front ++ s ∷ []) (texts_at (front ++ s ∷ []) (count - (i + 1)) rest) ≡ total
unfolding texts_at
goes_on front count i c s rest total lt h so_far =
    let k : count - i ≡ suc (count - (i + 1)) = omega arith in
    let one : with_front front (texts_at front (count - i) c) ≡ with_front (front ++ s ∷ []) (texts_at (front ++ s ∷ []) (count - (i + 1)) rest) = rw (k, h) (regroup front s (texts_at (front ++ s ∷ []) (count - (i + 1)) rest)) in
    sym one ∙ so_far

pub ends : (e : ReadError ScenarioFault) (front : List Scenario) (count i : ℕ) (c : Cursor) (total : Result (List Scenario × Cursor) ScenarioFault) → i < count → Fails e (text_at front c)
    → with_front front (texts_at front (count - i) c) ≡ total → Fails e total
unfolding texts_at
ends errors.Memory front count i c total lt h so_far = tt
ends (errors.Fault f) front count i c total lt h so_far =
    let k : count - i ≡ suc (count - (i + 1)) = omega arith in
    let one : with_front front (texts_at front (count - i) c) ≡ Err f = rw (k, h) refl in
    sym so_far ∙ one

pub is_done : (front : List Scenario) (count i : ℕ) (c : Cursor) (total : Result (List Scenario × Cursor) ScenarioFault) → count ≤ i → with_front front (texts_at front (count - i) c) ≡ total → total ≡ Ok (front, c)
unfolding texts_at
is_done front count i c total le so_far =
    let k : count - i ≡ 0 = omega arith in
    let one : with_front front (texts_at front (count - i) c) ≡ Ok (front, c) = rw k (ap (λ (ss : List Scenario). Ok (ss, c)) (append-nil front)) in
    sym so_far ∙ one
