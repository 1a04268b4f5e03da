-- Keys that agree on those who sign give the same chains, frames and entries.
use Rattle.std.proofs.Common.{◌≡◌, ◌-◌, ◌+◌, ℕ, zero, suc, cond, List, [], ◌∷◌, ◌++◌, refl, sym, ap, subst, ◌∙◌, eqb, Option, Some, None, inl, inr, map, filter, length, Contains}
use Rattle.std.specs.List.{flat_map, range_with_len, list_any}
use Rattle.std.proofs.lemmas.List.Concat.{flat_map-cons}
use Rattle.gen_types.specs.Ends.{is_among}
use Rattle.gen_types.proofs.Lists.{Contains_here, Contains_there, Contains_cases, Contains_nil, Contains_filtered}
use Rattle.gen_tree.specs.Rings.{seed_of}
use Rattle.gen_net.specs.Header.{RunHeader}
use Rattle.gen_chain.specs.declared.chains.Signer.{Signer}
use Rattle.gen_chain.specs.Chain.{Chain, signed_path, chain_spelling}
use Rattle.gen_script.specs.declared.lines.ScriptLine.{ScriptLine}
use Rattle.gen_script.specs.declared.lines.ScriptLine.TheVariants.{Make, Pass, Bend, Raw, Hide, TwoHeads}
use Rattle.gen_script.specs.NamedPath.{named_path}
use Rattle.gen_scenario.specs.declared.heard.Heard.{Heard}
use Rattle.gen_scenario.specs.Scenario.{Scenario, IsScenario, header_of, scripted, script_of}
use Rattle.gen_scenario.specs.Signing.{Keys, signer_behind, signers_along, made, lengthened, bent}
use Rattle.gen_scenario.specs.Heard.{first_of, heard_from}
use Rattle.gen_scenario.specs.Frames.{Sender, relayed, relays_in, signed_in, outside_of, passed, signed_by_line, parcels_of, is_for, followers_frame, traitors_frame, frame_by, frame_of}
use Rattle.gen_scenario.specs.SignedWorld.{own_order, sender_of}
use Rattle.gen_scenario.specs.RoundEntries.{sign_of, send_of, in_order, is_in, signs_by, sends_by, sign_entries, send_entries, recv_entries}
use Rattle.gen_scenario.specs.WorldLogs.{logs_over}
use Rattle.gen_scenario.specs.SignerTrees.{seed_under}
use Rattle.gen_scenario.specs.PartLaws.{AreHisKeys, ActAlike, part_by, KeysAreEnough, OwnSeedIsEnough, KnownTreesAreEnough}
use Rattle.gen_scenario.proofs.KnownParts.{tree_found}
use Rattle.gen_scenario.proofs.ScriptsOf.{script_some, script_found}
use Rattle.gen_scenario.proofs.Having.{in_mapped}

-- what two functions give of the same list, where they agree on its members
flat_same : {A B : Type 0} (f g : A → List B) (xs : List A) → ((x : A) → Contains xs x → f x ≡ g x) → flat_map f xs ≡ flat_map g xs
flat_same f g [] same = refl
flat_same {A} {B} f g (x ∷ xs) same =
    flat_map-cons f x xs ∙ ap (λ (ys : List B). ys ++ flat_map f xs) (same x (Contains_here x xs))
    ∙ ap (λ (ys : List B). g x ++ ys) (flat_same f g xs (λ y h. same y (Contains_there x y xs h))) ∙ sym (flat_map-cons g x xs)

abbrev with_seeds : RunHeader → (ℕ → List ℕ) → Keys
with_seeds h seeds = record { header = h; seeds = seeds }

abbrev AgreeOn : (ℕ → List ℕ) → (ℕ → List ℕ) → List ℕ → Type 0
AgreeOn f g path = (x : ℕ) → Contains path x → f x ≡ g x

on_one : (f g : ℕ → List ℕ) (x : ℕ) → f x ≡ g x → AgreeOn f g (x ∷ [])
on_one f g x same y h = elim (Contains_cases x y [] h) [
  | inl e ↦ ap f (sym e) ∙ same ∙ ap g e
  | inr none ↦ absurd (Contains_nil y none)
]

-- ---- chains

signer_same : (h : RunHeader) (f g : ℕ → List ℕ) (order : ℕ) (path : List ℕ) (x : ℕ) → f x ≡ g x → signer_behind (with_seeds h f) order path x ≡ signer_behind (with_seeds h g) order path x
signer_same h f g order path x same = ap (λ (seed : List ℕ). signer_behind (with_seeds h (λ y. seed)) order path x) same

along_same : (h : RunHeader) (f g : ℕ → List ℕ) (order : ℕ) (before path : List ℕ) → AgreeOn f g path → signers_along (with_seeds h f) order before path ≡ signers_along (with_seeds h g) order before path
unfolding signers_along
along_same h f g order before [] same = refl
along_same h f g order before (x ∷ path) same =
    ap (λ (s : Signer). s ∷ signers_along (with_seeds h f) order (before ++ x ∷ []) path) (signer_same h f g order before x (same x (Contains_here x path)))
    ∙ ap (λ (ss : List Signer). signer_behind (with_seeds h g) order before x ∷ ss) (along_same h f g order (before ++ x ∷ []) path (λ y there. same y (Contains_there x y path there)))

made_same : (h : RunHeader) (f g : ℕ → List ℕ) (order : ℕ) (path : List ℕ) → AgreeOn f g path → made (with_seeds h f) order path ≡ made (with_seeds h g) order path
made_same h f g order path same = λ i. record { order = order; signers = along_same h f g order [] path same i }

longer_same : (h : RunHeader) (f g : ℕ → List ℕ) (c : Chain) (path : List ℕ) → AgreeOn f g path → lengthened (with_seeds h f) c path ≡ lengthened (with_seeds h g) c path
longer_same h f g c path same = λ i. record { order = c.order; signers = c.signers ++ along_same h f g c.order (signed_path c.signers) path same i }

-- ---- without a script

relayed_same : (h : RunHeader) (f g : ℕ → List ℕ) (me round : ℕ) (x : Option Heard) → f me ≡ g me → relayed (with_seeds h f) me round x ≡ relayed (with_seeds h g) me round x
relayed_same h f g me round None same = refl
relayed_same h f g me round (Some x) same = ap (λ (c : Chain). cond (eqb (length (signed_path x.chain.signers) + 1) round) (c ∷ []) []) (longer_same h f g x.chain (me ∷ []) (on_one f g me same))

signed_same : (h : RunHeader) (f g : ℕ → List ℕ) (me : ℕ) (own : Option ℕ) (heard : List Heard) (round : ℕ) → f me ≡ g me → ((order : ℕ) → own ≡ Some order → me ≡ 0) → signed_in (with_seeds h f) me own heard round ≡ signed_in (with_seeds h g) me own heard round
unfolding relays_in
signed_same h f g me None heard round same first = flat_same (λ order. relayed (with_seeds h f) me round (first_of order heard)) (λ order. relayed (with_seeds h g) me round (first_of order heard)) (range_with_len 0 h.network.orders) (λ order there. relayed_same h f g me round (first_of order heard) same)
signed_same h f g me (Some order) heard round same first =
    let commander : f 0 ≡ g 0 = subst (λ x. f x ≡ g x) (first order refl) same in
    ap (λ (c : Chain). cond (eqb round 1) (c ∷ []) []) (made_same h f g order (0 ∷ []) (on_one f g 0 commander))

-- ---- with a script

passed_same : (h : RunHeader) (f g : ℕ → List ℕ) (path : List ℕ) (x : Option Heard) → AgreeOn f g path → passed (with_seeds h f) path x ≡ passed (with_seeds h g) path x
passed_same h f g path None same = refl
passed_same h f g path (Some x) same = ap (λ (c : Chain). cond (list_any (is_among (signed_path x.chain.signers)) path) [] (c ∷ [])) (longer_same h f g x.chain path same)

-- the two agree on those who sign in a line
abbrev AgreeIn : (ℕ → List ℕ) → (ℕ → List ℕ) → ScriptLine → Type 0
AgreeIn f g line = (path : List ℕ) → named_path line ≡ Some path → AgreeOn f g path

line_same : (h : RunHeader) (f g : ℕ → List ℕ) (heard : List Heard) (line : ScriptLine) → AgreeIn f g line → signed_by_line (with_seeds h f) heard line ≡ signed_by_line (with_seeds h g) heard line
line_same h f g heard (Make round to order path) same = ap (λ (c : Chain). c ∷ []) (made_same h f g order path (same path refl))
line_same h f g heard (Pass round to from order path) same = passed_same h f g path (heard_from (round - length path) from order heard) (same path refl)
line_same h f g heard (Bend round to from order) same = refl
line_same h f g heard (Raw round to parcel) same = refl
line_same h f g heard (Hide round from order) same = refl
line_same h f g heard TwoHeads same = refl

parcels_same : (h : RunHeader) (f g : ℕ → List ℕ) (me : ℕ) (heard : List Heard) (line : ScriptLine) → f me ≡ g me → AgreeIn f g line → parcels_of (with_seeds h f) me heard line ≡ parcels_of (with_seeds h g) me heard line
parcels_same h f g me heard (Make round to order path) own same = ap (map chain_spelling) (line_same h f g heard (Make round to order path) same)
parcels_same h f g me heard (Pass round to from order path) own same = ap (map chain_spelling) (line_same h f g heard (Pass round to from order path) same)
parcels_same h f g me heard (Bend round to from order) own same = ap (map (λ c. chain_spelling (bent c))) (passed_same h f g (me ∷ []) (heard_from (round - 1) from order heard) (on_one f g me own))
parcels_same h f g me heard (Raw round to parcel) own same = refl
parcels_same h f g me heard (Hide round from order) own same = refl
parcels_same h f g me heard TwoHeads own same = refl

-- ---- generals who agree on what they sign

record Agree (f g : ℕ → List ℕ) (me : ℕ) (own : Option ℕ) (script : Option (List ScriptLine)) : Type 0 where
  mine : f me ≡ g me
  first : (order : ℕ) → own ≡ Some order → me ≡ 0
  theirs : (lines : List ScriptLine) → script ≡ Some lines → (line : ScriptLine) → Contains lines line → AgreeIn f g line

abbrev general : RunHeader → (ℕ → List ℕ) → ℕ → Option ℕ → Option (List ScriptLine) → Sender
general h f me own script = record { keys = with_seeds h f; me = me; own = own; script = script }

frame_same : (h : RunHeader) (f g : ℕ → List ℕ) (me : ℕ) (own : Option ℕ) (all script : Option (List ScriptLine)) (heard : List Heard) (round to : ℕ) → Agree f g me own script → frame_by (general h f me own all) script heard round to ≡ frame_by (general h g me own all) script heard round to
unfolding followers_frame traitors_frame
frame_same h f g me own all None heard round to agree = ap (λ (cs : List Chain). map chain_spelling (outside_of to cs)) (signed_same h f g me own heard round agree.mine agree.first)
frame_same h f g me own all (Some lines) heard round to agree = flat_same (parcels_of (with_seeds h f) me heard) (parcels_of (with_seeds h g) me heard) (filter (is_for round to) lines) (λ line there. parcels_same h f g me heard line agree.mine (agree.theirs lines refl line (Contains_filtered (is_for round to) lines line there).0))

signs_same : (h : RunHeader) (f g : ℕ → List ℕ) (me : ℕ) (own : Option ℕ) (all script : Option (List ScriptLine)) (heard : List Heard) (round : ℕ) → Agree f g me own script → signs_by (general h f me own all) script heard round ≡ signs_by (general h g me own all) script heard round
signs_same h f g me own all None heard round agree = signed_same h f g me own heard round agree.mine agree.first
signs_same h f g me own all (Some lines) heard round agree = flat_same (signed_by_line (with_seeds h f) heard) (signed_by_line (with_seeds h g) heard) (filter (is_in round) lines) (λ line there. line_same h f g heard line (agree.theirs lines refl line (Contains_filtered (is_in round) lines line there).0))

sends_same : (h : RunHeader) (f g : ℕ → List ℕ) (me : ℕ) (own : Option ℕ) (all script : Option (List ScriptLine)) (heard : List Heard) (round to : ℕ) → Agree f g me own script → sends_by (general h f me own all) script heard round to ≡ sends_by (general h g me own all) script heard round to
sends_same h f g me own all None heard round to agree = ap (outside_of to) (signed_same h f g me own heard round agree.mine agree.first)
sends_same h f g me own all (Some lines) heard round to agree = flat_same (signed_by_line (with_seeds h f) heard) (signed_by_line (with_seeds h g) heard) (filter (is_for round to) lines) (λ line there. line_same h f g heard line (agree.theirs lines refl line (Contains_filtered (is_for round to) lines line there).0))

act_alike : (h : RunHeader) (f g : ℕ → List ℕ) (me : ℕ) (own : Option ℕ) (script : Option (List ScriptLine)) → Agree f g me own script → ActAlike (general h f me own script) (general h g me own script)
unfolding frame_of sign_entries send_entries recv_entries
act_alike h f g me own script agree = record {
  frames = λ heard round to. frame_same h f g me own script script heard round to agree;
  signed = λ heard round. signed_same h f g me own heard round agree.mine agree.first;
  signs = λ heard round. ap (λ (cs : List Chain). map sign_of (in_order h.network.orders cs)) (signs_same h f g me own script script heard round agree);
  sends = λ heard round to. ap (λ (cs : List Chain). map (send_of to) (in_order h.network.orders cs)) (sends_same h f g me own script script heard round to agree);
  recvs = λ round from counted. refl;
  logs = λ entries. ap (λ (seed : List ℕ). logs_over (general h (λ x. seed) me own script) entries) agree.mine;
}

-- ---- the keys of a scenario's general

commander_first : (s : Scenario) (g : ℕ) (order : ℕ) → own_order s g ≡ Some order → g ≡ 0
commander_first s zero order e = refl
commander_first s (suc g) order e = absurd cc

his_agree : (s : Scenario) → IsScenario s → (g : ℕ) (k : Keys) → AreHisKeys s g k → Agree k.seeds (λ x. seed_of s.master x) g (own_order s g) (script_of s.scripts g)
his_agree s ok g k his = record {
  mine = his.own;
  first = commander_first s g;
  theirs = λ lines e line there path named x member.
      let is = script_found s.scripts g lines e in
      let himself : Contains (scripted s.scripts) g = subst (Contains (scripted s.scripts)) is.general_is (in_mapped (λ script. script.general) s.scripts is.script is.stands) in
      let stands : Contains is.script.lines line = subst (λ (ls : List ScriptLine). Contains ls line) (sym is.lines_are) there in
      his.others himself x (ok.signers is.script line is.stands stands path named x member);
}

pub keys_are_enough : KeysAreEnough
keys_are_enough s ok g k his =
    let same : k ≡ with_seeds (header_of s) k.seeds = λ i. record { header = his.header i; seeds = k.seeds } in
    subst (λ (l : Keys). ActAlike (part_by s g l) (sender_of s g)) (sym same) (act_alike (header_of s) k.seeds (λ x. seed_of s.master x) g (own_order s g) (script_of s.scripts g) (his_agree s ok g k his))

pub own_seed_is_enough : OwnSeedIsEnough
own_seed_is_enough s g none = record {
  header = refl;
  own = refl;
  others = λ himself. absurd (let some = script_some s.scripts g himself in let e = sym none ∙ some.1 in cc);
}

pub known_trees_are_enough : KnownTreesAreEnough
known_trees_are_enough s g lines some =
    let is = script_found s.scripts g lines some in
    let himself : Contains (scripted s.scripts) g = subst (Contains (scripted s.scripts)) is.general_is (in_mapped (λ script. script.general) s.scripts is.script is.stands) in
    rw some (record {
      header = refl;
      own = ap seed_under (tree_found s (scripted s.scripts) g himself);
      others = λ own h there. ap seed_under (tree_found s (scripted s.scripts) h there);
    })
