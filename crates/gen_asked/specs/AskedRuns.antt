-- Runs that are asked for by their ids.
use Rattle.std.specs.Prelude.{ℕ, ◌≡◌, ◌==◌, List, [], ◌∷◌, Option, Some, None, option_and_then, Result, Ok, Err}
use Rattle.std.specs.List.{slice_split}
use Rattle.hex.specs.Hex.{decode_sized}
use Rattle.hex.specs.declared.error.FromHexError.{FromHexError}
use Rattle.gen_asked.specs.declared.asked_runs.AskedRuns.{AskedRuns}
use Rattle.gen_asked.specs.declared.asked_runs.AskedRuns.TheVariants.{Any, One, Two, Three, Four}

-- the runs with these ids, in their order, are the ones that are asked for
abbrev pub AreAsked : AskedRuns → List (List ℕ) → Type 0
AreAsked Any ids = Unit {0}
AreAsked (One asked) ids = ids ≡ asked
AreAsked (Two asked) ids = ids ≡ asked
AreAsked (Three asked) ids = ids ≡ asked
AreAsked (Four asked) ids = ids ≡ asked

-- the bytes that digits stand for, if they are digits of so many bytes
abbrev pub if_digits : Result (List ℕ) FromHexError → Option (List ℕ)
if_digits (Ok bytes) = Some bytes
if_digits (Err e) = None

-- the run id that 64 hexadecimal digits spell, of either case
unfoldable pub run_id_named : List ℕ → Option (List ℕ)
run_id_named text = if_digits (decode_sized text 32)

-- this id and the others, if all are there
abbrev pub joined : Option (List ℕ) → Option (List (List ℕ)) → Option (List (List ℕ))
joined None others = None
joined (Some id) None = None
joined (Some id) (Some ids) = Some (id ∷ ids)

-- the run ids that texts spell, if each of them spells one
unfoldable pub ids_named : List (List ℕ) → Option (List (List ℕ))
ids_named [] = Some []
ids_named (text ∷ texts) = joined (run_id_named text) (ids_named texts)

-- the runs with these ids, if there are one to four
abbrev pub few_runs : List (List ℕ) → Option AskedRuns
few_runs (a ∷ []) = Some (One (a ∷ []))
few_runs (a ∷ b ∷ []) = Some (Two (a ∷ b ∷ []))
few_runs (a ∷ b ∷ c ∷ []) = Some (Three (a ∷ b ∷ c ∷ []))
few_runs (a ∷ b ∷ c ∷ d ∷ []) = Some (Four (a ∷ b ∷ c ∷ d ∷ []))
few_runs ids = None

-- the texts between commas
abbrev pub parted : List ℕ → List (List ℕ)
parted text = slice_split (λ b. b == 44) text

-- the runs whose ids a text spells, with commas between them
abbrev pub runs_named : List ℕ → Option AskedRuns
runs_named text = option_and_then few_runs (ids_named (parted text))
