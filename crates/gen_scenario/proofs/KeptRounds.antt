-- What came in a round changes nothing of what is signed, sent and written in it.
use Rattle.std.proofs.Common.{◌≡◌, ◌≢◌, inl, inr, ℕ, ◌+◌, ◌-◌, ◌<◌, true, ◌&&◌, List, [], ◌∷◌, ◌++◌, map, filter, length, Contains, refl, sym, ap, ◌∙◌, eqb, Option, Some, None, arith}
use Rattle.std.specs.List.{range_with_len, flat_map}
use Rattle.std.proofs.lemmas.Bool.{eqb-true}
use Rattle.std.proofs.lemmas.List.Concat.{flat_map-cons}
use Rattle.std.proofs.lemmas.List.{length-append}
use Rattle.gen_types.proofs.Lists.{Contains_here, Contains_there, Contains_filtered, bool_cases}
use Rattle.gen_types.specs.Ends.{EndsWith}
use Rattle.gen_chain.specs.Chain.{Chain, chain_spelling}
use Rattle.gen_chain.proofs.TestedChains.{both}
use Rattle.gen_net.specs.Network.{Network}
use Rattle.gen_script.specs.declared.lines.ScriptLine.{ScriptLine}
use Rattle.gen_script.specs.declared.lines.ScriptLine.TheVariants.{Make, Pass, Bend, Raw, Hide, TwoHeads}
use Rattle.gen_script.specs.Line.{IsScriptLine}
use Rattle.gen_scenario.specs.declared.heard.Heard.{Heard}
use Rattle.gen_scenario.specs.Heard.{round_of, first_of, heard_from}
use Rattle.gen_scenario.specs.Signing.{Keys, bent}
use Rattle.gen_scenario.specs.Frames.{Sender, relayed, relays_in, outside_of, passed, signed_by_line, parcels_of, is_for, followers_frame, traitors_frame, frame_by, frame_of}
use Rattle.gen_scenario.specs.RoundEntries.{sign_of, send_of, in_order, is_in, lines_in, signs_by, sends_by, sign_entries, send_entries}
use Rattle.gen_scenario.specs.HeardLaws.{AreOfRound}
use Rattle.gen_scenario.specs.RoundsKept.{SignsKept, FrameKept, SignEntriesKept, SendEntriesKept}
use Rattle.gen_scenario.proofs.FirstHeard.{first_in}

-- ---- what is relayed

first_front : (order : ℕ) (xs ys : List Heard) (x : Heard) → first_of order xs ≡ Some x → first_of order (xs ++ ys) ≡ Some x
unfolding first_of
first_front order [] ys x e = absurd cc
first_front order (y ∷ xs) ys x e = elim (bool_cases (eqb y.chain.order order)) [
  | inl here ↦ let some : Some y ≡ Some x = sym (rw here refl) ∙ e in rw here some
  | inr later ↦ let there : first_of order xs ≡ Some x = rw later at e in rw later (first_front order xs ys x there)
]

first_back : (order : ℕ) (xs ys : List Heard) → first_of order xs ≡ None → first_of order (xs ++ ys) ≡ first_of order ys
unfolding first_of
first_back order [] ys e = refl
first_back order (y ∷ xs) ys e = elim (bool_cases (eqb y.chain.order order)) [
  | inl here ↦ let some : Some y ≡ None = sym (rw here refl) ∙ e in absurd cc
  | inr later ↦ let there : first_of order xs ≡ None = rw later at e in rw later (first_back order xs ys there)
]

not_due : (k : Keys) (me round order : ℕ) (more : List Heard) → AreOfRound round more → (o : Option Heard) → first_of order more ≡ o → relayed k me round o ≡ []
not_due k me round order more long None e = refl
not_due k me round order more long (Some x) e = elim (bool_cases (eqb (round_of x + 1) round)) [
  | inl t ↦ absurd (omega (arith, eqb-true _ _ t, long x (first_in order more x e)))
  | inr f ↦ rw f refl
]

kept_one : (k : Keys) (me round order : ℕ) (heard more : List Heard) → AreOfRound round more → (o : Option Heard) → first_of order heard ≡ o → relayed k me round (first_of order (heard ++ more)) ≡ relayed k me round (first_of order heard)
kept_one k me round order heard more long (Some x) e = rw (e, first_front order heard more x e) refl
kept_one k me round order heard more long None e = rw (e, first_back order heard more e) (not_due k me round order more long (first_of order more) refl)

relays_kept : (k : Keys) (me : ℕ) (heard more : List Heard) (round : ℕ) → AreOfRound round more → relays_in k me (heard ++ more) round ≡ relays_in k me heard round
unfolding relays_in
relays_kept k me heard more round long =
    λ i. flat_map (λ order. kept_one k me round order heard more long (first_of order heard) refl i) (range_with_len 0 k.header.network.orders)

pub signs_kept : SignsKept
signs_kept k me (Some order) heard more round long = refl
signs_kept k me None heard more round long = relays_kept k me heard more round long

-- ---- what lines look for

none_from : (at from order : ℕ) (more : List Heard) → ((x : Heard) → Contains more x → round_of x ≢ at) → heard_from at from order more ≡ None
unfolding heard_from
none_from at from order [] other = refl
none_from at from order (x ∷ more) other = elim (bool_cases (eqb x.from from && (eqb x.chain.order order && eqb (round_of x) at))) [
  | inl here ↦
      let p = both (eqb x.from from) (eqb x.chain.order order && eqb (round_of x) at) here in
      let q = both (eqb x.chain.order order) (eqb (round_of x) at) p.1 in
      absurd (other x (Contains_here x more) (eqb-true _ _ q.1))
  | inr out ↦ rw out (none_from at from order more (λ y h. other y (Contains_there x y more h)))
]

from_kept : (at from order : ℕ) (heard more : List Heard) → ((x : Heard) → Contains more x → round_of x ≢ at) → heard_from at from order (heard ++ more) ≡ heard_from at from order heard
unfolding heard_from
from_kept at from order [] more other = none_from at from order more other
from_kept at from order (x ∷ heard) more other = elim (bool_cases (eqb x.from from && (eqb x.chain.order order && eqb (round_of x) at))) [
  | inl here ↦ rw here refl
  | inr out ↦ rw out (from_kept at from order heard more other)
]

other_round : (round at : ℕ) (more : List Heard) → AreOfRound round more → at < round → (x : Heard) → Contains more x → round_of x ≢ at
other_round round at more long low x h e = absurd (omega (arith, long x h, low, e))

some_path : (path : List ℕ) (me : ℕ) → EndsWith path me → 0 < length path
some_path path me ends = omega (arith, ap length ends.1, length-append ends.0 (me ∷ []))

passed_kept : (k : Keys) (net : Network) (me round at to from order : ℕ) (path : List ℕ) (heard more : List Heard) → IsScriptLine net me (Pass at to from order path) → at ≡ round → AreOfRound round more
    → passed k path (heard_from (at - length path) from order (heard ++ more)) ≡ passed k path (heard_from (at - length path) from order heard)
passed_kept k net me round at to from order path heard more lawful now long =
    let some = some_path path me lawful.4.last in
    let short : length path < at = lawful.6 in
    let early : at - length path < round = omega (arith, now, some, short) in
    ap (passed k path) (from_kept (at - length path) from order heard more (other_round round (at - length path) more long early))

line_kept : (k : Keys) (net : Network) (me round : ℕ) (line : ScriptLine) (heard more : List Heard) → IsScriptLine net me line → is_in round line ≡ true → AreOfRound round more
    → signed_by_line k (heard ++ more) line ≡ signed_by_line k heard line
line_kept k net me round (Make at to order path) heard more lawful now long = refl
line_kept k net me round (Pass at to from order path) heard more lawful now long = passed_kept k net me round at to from order path heard more lawful (eqb-true _ _ now) long
line_kept k net me round (Bend at to from order) heard more lawful now long = refl
line_kept k net me round (Raw at to parcel) heard more lawful now long = refl
line_kept k net me round (Hide at from order) heard more lawful now long = refl
line_kept k net me round TwoHeads heard more lawful now long = refl

sent_kept : (k : Keys) (net : Network) (me round to : ℕ) (line : ScriptLine) (heard more : List Heard) → IsScriptLine net me line → is_for round to line ≡ true → AreOfRound round more
    → signed_by_line k (heard ++ more) line ≡ signed_by_line k heard line
sent_kept k net me round to (Make at t order path) heard more lawful now long = refl
sent_kept k net me round to (Pass at t from order path) heard more lawful now long = passed_kept k net me round at t from order path heard more lawful (eqb-true _ _ (both (eqb at round) (eqb t to) now).0) long
sent_kept k net me round to (Bend at t from order) heard more lawful now long = refl
sent_kept k net me round to (Raw at t parcel) heard more lawful now long = refl
sent_kept k net me round to (Hide at from order) heard more lawful now long = refl
sent_kept k net me round to TwoHeads heard more lawful now long = refl

parcels_kept : (k : Keys) (net : Network) (me round to : ℕ) (line : ScriptLine) (heard more : List Heard) → IsScriptLine net me line → is_for round to line ≡ true → AreOfRound round more
    → parcels_of k me (heard ++ more) line ≡ parcels_of k me heard line
parcels_kept k net me round to (Make at t order path) heard more lawful now long = refl
parcels_kept k net me round to (Pass at t from order path) heard more lawful now long =
    ap (map chain_spelling) (sent_kept k net me round to (Pass at t from order path) heard more lawful now long)
parcels_kept k net me round to (Bend at t from order) heard more lawful now long =
    let at-is : at ≡ round = eqb-true _ _ (both (eqb at round) (eqb t to) now).0 in
    let early : at - 1 < round = omega (arith, at-is, lawful.0.0) in
    ap (λ (o : Option Heard). map (λ (c : Chain). chain_spelling (bent c)) (passed k (me ∷ []) o)) (from_kept (at - 1) from order heard more (other_round round (at - 1) more long early))
parcels_kept k net me round to (Raw at t parcel) heard more lawful now long = refl
parcels_kept k net me round to (Hide at from order) heard more lawful now long = refl
parcels_kept k net me round to TwoHeads heard more lawful now long = refl

flat_same : {X Y : Type 0} (f g : X → List Y) (xs : List X) → ((x : X) → Contains xs x → f x ≡ g x) → flat_map f xs ≡ flat_map g xs
flat_same f g [] same = refl
flat_same f g (x ∷ xs) same =
    flat_map-cons f x xs ∙ (λ i. same x (Contains_here x xs) i ++ flat_same f g xs (λ y h. same y (Contains_there x y xs h)) i) ∙ sym (flat_map-cons g x xs)

-- ---- by lines

module _ (k : Keys) (me : ℕ) (lines : List ScriptLine) (heard more : List Heard) (round : ℕ) (lawful : (line : ScriptLine) → Contains lines line → IsScriptLine k.header.network me line) (long : AreOfRound round more) where
  signed_by_lines : flat_map (signed_by_line k (heard ++ more)) (filter (is_in round) lines) ≡ flat_map (signed_by_line k heard) (filter (is_in round) lines)
  signed_by_lines = flat_same (signed_by_line k (heard ++ more)) (signed_by_line k heard) (filter (is_in round) lines) (λ line h.
      let r = Contains_filtered (is_in round) lines line h in
      line_kept k k.header.network me round line heard more (lawful line r.0) r.1 long)

  sent_by_lines : (to : ℕ) → flat_map (signed_by_line k (heard ++ more)) (filter (is_for round to) lines) ≡ flat_map (signed_by_line k heard) (filter (is_for round to) lines)
  sent_by_lines to = flat_same (signed_by_line k (heard ++ more)) (signed_by_line k heard) (filter (is_for round to) lines) (λ line h.
      let r = Contains_filtered (is_for round to) lines line h in
      sent_kept k k.header.network me round to line heard more (lawful line r.0) r.1 long)

  traitors_kept : (to : ℕ) → traitors_frame k me lines (heard ++ more) round to ≡ traitors_frame k me lines heard round to
  unfolding traitors_frame
  traitors_kept to = flat_same (parcels_of k me (heard ++ more)) (parcels_of k me heard) (filter (is_for round to) lines) (λ line h.
      let r = Contains_filtered (is_for round to) lines line h in
      parcels_kept k k.header.network me round to line heard more (lawful line r.0) r.1 long)

followers_kept : (p : Sender) (heard more : List Heard) (round to : ℕ) → AreOfRound round more → followers_frame p (heard ++ more) round to ≡ followers_frame p heard round to
unfolding followers_frame
followers_kept p heard more round to long = ap (λ (cs : List Chain). map chain_spelling (outside_of to cs)) (signs_kept p.keys p.me p.own heard more round long)

-- ---- by whether he has a script

abbrev AreLawful : Sender → Option (List ScriptLine) → Type 0
AreLawful p script = (line : ScriptLine) → Contains (lines_in script) line → IsScriptLine p.keys.header.network p.me line

by_kept : (p : Sender) (script : Option (List ScriptLine)) (heard more : List Heard) (round to : ℕ) → AreLawful p script → AreOfRound round more → frame_by p script (heard ++ more) round to ≡ frame_by p script heard round to
by_kept p None heard more round to lawful long = followers_kept p heard more round to long
by_kept p (Some lines) heard more round to lawful long = traitors_kept p.keys p.me lines heard more round lawful long to

pub frame_kept : FrameKept
unfolding frame_of
frame_kept p heard more round to lawful long = by_kept p p.script heard more round to lawful long

signs_by_kept : (p : Sender) (script : Option (List ScriptLine)) (heard more : List Heard) (round : ℕ) → AreLawful p script → AreOfRound round more → signs_by p script (heard ++ more) round ≡ signs_by p script heard round
signs_by_kept p None heard more round lawful long = signs_kept p.keys p.me p.own heard more round long
signs_by_kept p (Some lines) heard more round lawful long = signed_by_lines p.keys p.me lines heard more round lawful long

sends_by_kept : (p : Sender) (script : Option (List ScriptLine)) (heard more : List Heard) (round to : ℕ) → AreLawful p script → AreOfRound round more → sends_by p script (heard ++ more) round to ≡ sends_by p script heard round to
sends_by_kept p None heard more round to lawful long = ap (outside_of to) (signs_kept p.keys p.me p.own heard more round long)
sends_by_kept p (Some lines) heard more round to lawful long = sent_by_lines p.keys p.me lines heard more round lawful long to

pub sign_entries_kept : SignEntriesKept
unfolding sign_entries
sign_entries_kept p heard more round lawful long = ap (λ (cs : List Chain). map sign_of (in_order p.keys.header.network.orders cs)) (signs_by_kept p p.script heard more round lawful long)

pub send_entries_kept : SendEntriesKept
unfolding send_entries
send_entries_kept p heard more round to lawful long = ap (λ (cs : List Chain). map (send_of to) (in_order p.keys.header.network.orders cs)) (sends_by_kept p p.script heard more round to lawful long)
