-- A line that is spelled so is read.
use Rattle.std.proofs.Common.{◌≡◌, ◌≢◌, ℕ, ◌<◌, List, [], ◌∷◌, codes, Ok, refl, ap, ◌∙◌, arith}
use Rattle.std.specs.List.{join_with_byte}
use Rattle.std.specs.Fmt.{decimal}
use Rattle.std.proofs.lemmas.Bool.{lt-ltb, le-leb}
use Rattle.gen_types.specs.Texts.{fields}
use Rattle.gen_types.proofs.Cutting.{IsFree, cut_joined, decimal_free}
use Rattle.gen_net.specs.Network.{Network, IsNetwork, rounds, AreNeighbours}
use Rattle.gen_script.specs.declared.lines.ScriptLine.{ScriptLine}
use Rattle.gen_script.specs.declared.lines.ScriptLine.TheVariants.{Make, Pass, Bend, Raw, Hide, TwoHeads}
use Rattle.gen_script.specs.declared.path_fields.PathKind.TheVariants.{Whole, Added}
use Rattle.gen_script.specs.FieldReading.{round_in, neighbour_in, order_in, some_bytes, parcel_in}
use Rattle.gen_script.specs.LineReading.{make_in, pass_in, bend_in, raw_in, hide_in, line_in, script_line_of}
use Rattle.gen_script.specs.Digits.{SpellsBytes}
use Rattle.gen_script.specs.Line.{HasFields, IsRound, IsScriptLine, SpellsLine}
use Rattle.gen_script.proofs.Hexes.{decoded_again, digits_free}
use Rattle.gen_script.proofs.Joining.{joined_again, joined_below}
use Rattle.gen_script.proofs.PathTexts.{digits_again, path_again, path_free}

-- ---- fields

round_again : (net : Network) (first r : ℕ) → IsNetwork net → IsRound net first r → round_in net first (decimal r) ≡ Ok r
unfolding round_in
round_again net first r ok is = rw (digits_again r (omega (arith, is.1, ok.ranges.few_rounds)), le-leb first r is.0, le-leb r (rounds net) is.1) refl

neighbour_again : (net : Network) (me g : ℕ) → IsNetwork net → AreNeighbours net me g → neighbour_in net me (decimal g) ≡ Ok g
unfolding neighbour_in
neighbour_again net me g ok near = let below = joined_below net ok me g near in rw (digits_again g (omega (arith, below.1, ok.ranges.few_generals)), joined_again me g net.edges near) refl

order_again : (net : Network) (v : ℕ) → IsNetwork net → v < net.orders → order_in net (decimal v) ≡ Ok v
unfolding order_in
order_again net v ok lt = rw (digits_again v (omega (arith, ok.ranges.few_orders)), lt-ltb v net.orders lt) refl

bytes_again : (bytes : List ℕ) → bytes ≢ [] → some_bytes (Ok bytes) ≡ Ok bytes
bytes_again [] some = absurd (some refl)
bytes_again (b ∷ more) some = refl

parcel_again : (digits bytes : List ℕ) → SpellsBytes digits bytes → bytes ≢ [] → parcel_in digits ≡ Ok bytes
parcel_again digits bytes h some = ap some_bytes (decoded_again digits bytes h) ∙ bytes_again bytes some

-- ---- lines

line_again : (net : Network) (me : ℕ) (fs : List (List ℕ)) (said : ScriptLine) → IsNetwork net → HasFields fs said → IsScriptLine net me said → line_in net me fs ≡ Ok said
unfolding line_in make_in pass_in bend_in raw_in hide_in
line_again net me fs (Make r h v p) ok is so =
    ap (line_in net me) is ∙ rw (round_again net 1 r ok so.0, neighbour_again net me h ok so.1, order_again net v ok so.2, path_again net me Whole r p ok.ranges.few_generals so.3 (so.4, so.5)) refl
line_again net me fs (Pass r h k v p) ok is so =
    ap (line_in net me) is ∙ rw (round_again net 1 r ok so.0, neighbour_again net me h ok so.1, neighbour_again net me k ok so.2, order_again net v ok so.3, path_again net me Added r p ok.ranges.few_generals so.4 (so.5, so.6)) refl
line_again net me fs (Bend r h k v) ok is so =
    ap (line_in net me) is ∙ rw (round_again net 2 r ok so.0, neighbour_again net me h ok so.1, neighbour_again net me k ok so.2, order_again net v ok so.3) refl
line_again net me fs (Raw r h parcel) ok is so =
    ap (line_in net me) is.1 ∙ rw (round_again net 1 r ok so.0, neighbour_again net me h ok so.1, parcel_again is.0 parcel is.2 so.2) refl
line_again net me fs (Hide r k v) ok is so =
    ap (line_in net me) is ∙ rw (round_again net 1 r ok so.0, neighbour_again net me k ok so.1, order_again net v ok so.2) refl
line_again net me fs TwoHeads ok is so = ap (line_in net me) is

-- ---- the fields of a line

round_free : (net : Network) (first r : ℕ) → IsNetwork net → IsRound net first r → IsFree 32 (decimal r)
round_free net first r ok is = decimal_free 32 r (omega arith) (omega (arith, is.1, ok.ranges.few_rounds))

neighbour_free : (net : Network) (me g : ℕ) → IsNetwork net → AreNeighbours net me g → IsFree 32 (decimal g)
neighbour_free net me g ok near = let below = joined_below net ok me g near in decimal_free 32 g (omega arith) (omega (arith, below.1, ok.ranges.few_generals))

order_free : (net : Network) (v : ℕ) → IsNetwork net → v < net.orders → IsFree 32 (decimal v)
order_free net v ok lt = decimal_free 32 v (omega arith) (omega (arith, ok.ranges.few_orders))

-- parts that are joined and cut again are the same
abbrev AreParts : List (List ℕ) → Type 0
AreParts fs = fields (join_with_byte 32 fs) ≡ fs

fields_again : (net : Network) (me : ℕ) (fs : List (List ℕ)) (said : ScriptLine) → IsNetwork net → HasFields fs said → IsScriptLine net me said → AreParts fs
fields_again net me fs (Make r h v p) ok is so =
    rw is (cut_joined 32 (codes "make") _ refl (round_free net 1 r ok so.0, (neighbour_free net me h ok so.1, (order_free net v ok so.2, (path_free net me p ok.ranges.few_generals so.3, tt)))))
fields_again net me fs (Pass r h k v p) ok is so =
    rw is (cut_joined 32 (codes "pass") _ refl (round_free net 1 r ok so.0, (neighbour_free net me h ok so.1, (neighbour_free net me k ok so.2, (order_free net v ok so.3, (path_free net me p ok.ranges.few_generals so.4, tt))))))
fields_again net me fs (Bend r h k v) ok is so =
    rw is (cut_joined 32 (codes "bend") _ refl (round_free net 2 r ok so.0, (neighbour_free net me h ok so.1, (neighbour_free net me k ok so.2, (order_free net v ok so.3, tt)))))
fields_again net me fs (Raw r h parcel) ok is so =
    rw is.1 (cut_joined 32 (codes "raw") _ refl (round_free net 1 r ok so.0, (neighbour_free net me h ok so.1, (digits_free 32 is.0 parcel (omega arith) is.2, tt))))
fields_again net me fs (Hide r k v) ok is so =
    rw is (cut_joined 32 (codes "hide") _ refl (round_free net 1 r ok so.0, (neighbour_free net me k ok so.1, (order_free net v ok so.2, tt))))
fields_again net me fs TwoHeads ok is so = rw is (cut_joined 32 (codes "twohead") _ refl tt)

pub script_line_again : (net : Network) (me : ℕ) (line : List ℕ) (said : ScriptLine) → IsNetwork net → SpellsLine net me line said → script_line_of net me line ≡ Ok said
script_line_again net me line said ok spells =
    ap (script_line_of net me) spells.line_is
    ∙ ap (line_in net me) (fields_again net me spells.parts said ok spells.fields spells.lawful)
    ∙ line_again net me spells.parts said ok spells.fields spells.lawful
