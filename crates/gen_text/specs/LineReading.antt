-- One line of a text and what it says, with the line's first fault. The order is: its bytes, its length, its
-- line feed, its shape, its numbers.
use Rattle.std.specs.Prelude.{ℕ, List, [], ◌∷◌, length, Some, None, Result, Ok, Err, nat_lt, ◌==◌, if◌then◌else◌}
use Rattle.std.specs.List.{list_any}
use Rattle.std.specs.Str.{bytes_eq}
use Rattle.gen_types.specs.Texts.{number_of}
use Rattle.gen_text.specs.declared.fault.LineFault.{LineFault}
use Rattle.gen_text.specs.declared.fault.LineFault.TheVariants.{Unfinished, Shape, Number, TooLong, Foreign}
use Rattle.gen_text.specs.declared.fault.ScenarioFault.{ScenarioFault}
use Rattle.gen_text.specs.Text.{is_foreign, longest_line}

-- the fault of this kind in the line k
abbrev pub fault_at : LineFault → ℕ → ScenarioFault
fault_at kind k = record { kind = kind; line = k }

-- the bytes of the line k, and the parts after it; or the first fault
abbrev pub line_at : ℕ → List (List ℕ) → Result (List ℕ × List (List ℕ)) ScenarioFault
line_at k [] = Err (fault_at Unfinished k)
line_at k (line ∷ more) =
    if list_any is_foreign line then Err (fault_at Foreign k)
    else (if nat_lt longest_line (length line) then Err (fault_at TooLong k)
    else (if length more == 0 then Err (fault_at Unfinished k)
    else Ok (line, more)))

-- the number that digits in the line k spell, or Number
abbrev pub number_in : ℕ → List ℕ → Result ℕ ScenarioFault
number_in k digits = elim (number_of digits) [ None ↦ Err (fault_at Number k) | Some n ↦ Ok n ]

-- the number behind a word, if the line k has exactly these two fields; else Shape
unfoldable pub number_behind : ℕ → List ℕ → List (List ℕ) → Result ℕ ScenarioFault
number_behind k word [] = Err (fault_at Shape k)
number_behind k word (w ∷ []) = Err (fault_at Shape k)
number_behind k word (w ∷ x ∷ []) = if bytes_eq w word then number_in k x else Err (fault_at Shape k)
number_behind k word (w ∷ x ∷ y ∷ more) = Err (fault_at Shape k)
