-- The script line that a line spells in the script of the general me, or the line's first fault.
use Rattle.std.specs.Prelude.{ℕ, List, [], ◌∷◌, codes, Result, Ok, Err, if◌then◌else◌}
use Rattle.std.specs.Str.{bytes_eq}
use Rattle.gen_types.specs.Reading.{◌>>=◌}
use Rattle.gen_types.specs.Texts.{fields}
use Rattle.gen_net.specs.Network.{Network}
use Rattle.gen_script.specs.declared.fault.ScriptFault.{ScriptFault}
use Rattle.gen_script.specs.declared.fault.ScriptFault.TheVariants.{Shape}
use Rattle.gen_script.specs.declared.lines.ScriptLine.{ScriptLine}
use Rattle.gen_script.specs.declared.lines.ScriptLine.TheVariants.{Make, Pass, Bend, Raw, Hide, TwoHeads}
use Rattle.gen_script.specs.declared.path_fields.PathKind.TheVariants.{Whole, Added}
use Rattle.gen_script.specs.FieldReading.{round_in, neighbour_in, order_in, parcel_in}
use Rattle.gen_script.specs.PathReading.{path_in}

unfoldable pub make_in : Network → ℕ → List ℕ → List ℕ → List ℕ → List ℕ → Result ScriptLine ScriptFault
make_in net me round to order path = do
  r ← round_in net 1 round
  h ← neighbour_in net me to
  v ← order_in net order
  p ← path_in net me Whole r path
  Ok (Make r h v p)

unfoldable pub pass_in : Network → ℕ → List ℕ → List ℕ → List ℕ → List ℕ → List ℕ
    → Result ScriptLine ScriptFault
pass_in net me round to from order path = do
  r ← round_in net 1 round
  h ← neighbour_in net me to
  k ← neighbour_in net me from
  v ← order_in net order
  p ← path_in net me Added r path
  Ok (Pass r h k v p)

unfoldable pub bend_in : Network → ℕ → List ℕ → List ℕ → List ℕ → List ℕ → Result ScriptLine ScriptFault
bend_in net me round to from order = do
  r ← round_in net 2 round
  h ← neighbour_in net me to
  k ← neighbour_in net me from
  v ← order_in net order
  Ok (Bend r h k v)

unfoldable pub raw_in : Network → ℕ → List ℕ → List ℕ → List ℕ → Result ScriptLine ScriptFault
raw_in net me round to parcel = do
  r ← round_in net 1 round
  h ← neighbour_in net me to
  p ← parcel_in parcel
  Ok (Raw r h p)

unfoldable pub hide_in : Network → ℕ → List ℕ → List ℕ → List ℕ → Result ScriptLine ScriptFault
hide_in net me round from order = do
  r ← round_in net 1 round
  k ← neighbour_in net me from
  v ← order_in net order
  Ok (Hide r k v)

-- the script line of these fields, the first of which is its word
unfoldable pub line_in : Network → ℕ → List (List ℕ) → Result ScriptLine ScriptFault
line_in net me (w ∷ []) = if bytes_eq w (codes "twohead") then Ok TwoHeads else Err Shape
line_in net me (w ∷ a ∷ b ∷ c ∷ []) =
    if bytes_eq w (codes "raw") then raw_in net me a b c
    else (if bytes_eq w (codes "hide") then hide_in net me a b c else Err Shape)
line_in net me (w ∷ a ∷ b ∷ c ∷ d ∷ []) =
    if bytes_eq w (codes "make") then make_in net me a b c d
    else (if bytes_eq w (codes "bend") then bend_in net me a b c d else Err Shape)
line_in net me (w ∷ a ∷ b ∷ c ∷ d ∷ e ∷ []) =
    if bytes_eq w (codes "pass") then pass_in net me a b c d e else Err Shape
line_in net me _ = Err Shape

-- the script line that the bytes of a line spell
abbrev pub script_line_of : Network → ℕ → List ℕ → Result ScriptLine ScriptFault
script_line_of net me line = line_in net me (fields line)
