-- What a script's lines send in a round: line by line, and as the frames and the chains of the definitions.
use Rattle.std.proofs.Common.{◌≡◌, ◌<◌, ◌+◌, ◌&&◌, ℕ, Bool, true, false, cond, List, [], ◌∷◌, ◌++◌, refl, sym, ap, ◌∙◌, eqb, inl, inr, map, filter, take, length, get_or}
use Rattle.std.specs.List.{flat_map}
use Rattle.std.proofs.lemmas.List.{take_more, append-nil, map-append}
use Rattle.std.proofs.lemmas.List.Elements.{filter-append}
use Rattle.std.proofs.lemmas.List.Concat.{flat_map-cons}
use Rattle.std.proofs.lemmas.Grind.{flat_map-append}
use Rattle.gen_types.proofs.Lists.{bool_cases}
use Rattle.gen_chain.specs.Chain.{Chain, chain_spelling}
use Rattle.gen_script.specs.declared.lines.ScriptLine.{ScriptLine}
use Rattle.gen_script.specs.declared.lines.ScriptLine.TheVariants.{Make, Pass, Bend, Raw, Hide, TwoHeads}
use Rattle.gen_scenario.specs.declared.heard.Heard.{Heard}
use Rattle.gen_general.specs.declared.scripted.Planned.{Planned}
use Rattle.gen_general.specs.declared.scripted.Planned.TheVariants.{Chain as Signed, Bytes}
use Rattle.gen_scenario.specs.Signing.{Keys}
use Rattle.gen_scenario.specs.Frames.{is_for, signed_by_line, parcels_of, traitors_frame}
use Rattle.gen_scenario.specs.RoundEntries.{is_in}
use Rattle.gen_general.specs.Planned.{is_sent_in, planned_of, planned_in, receiver_of, bytes_of, chain_of, planned_to, PlansFrames, PlansSigns, PlansSends}

-- ---- line by line

pub planned_none : (k : Keys) (me : ℕ) (heard : List Heard) (round : ℕ) → planned_in k me [] heard round ≡ []
unfolding planned_in
planned_none k me heard round = refl

-- of one more the list
kept_one : {A : Type 0} (p : A → Bool) (x : A) → filter p (x ∷ []) ≡ cond (p x) (x ∷ []) []
kept_one p x = refl

planned_more : (k : Keys) (me : ℕ) (lines : List ScriptLine) (heard : List Heard) (round i : ℕ) (line : ScriptLine) → i < length lines → line ≡ get_or lines i line → planned_in k me (take (i + 1) lines) heard round ≡ planned_in k me (take i lines) heard round ++ flat_map (planned_of k me heard) (filter (is_sent_in round) (line ∷ []))
unfolding planned_in
planned_more k me lines heard round i line within at =
    let grown : take (i + 1) lines ≡ take i lines ++ line ∷ [] = take_more lines i line within ∙ ap (λ (x : ScriptLine). take i lines ++ x ∷ []) (sym at) in
    ap (λ (ls : List ScriptLine). flat_map (planned_of k me heard) (filter (is_sent_in round) ls)) grown
    ∙ ap (flat_map (planned_of k me heard)) (filter-append (is_sent_in round) (take i lines) (line ∷ []))
    ∙ flat_map-append (planned_of k me heard) (filter (is_sent_in round) (take i lines)) (filter (is_sent_in round) (line ∷ []))

pub planned_yes : (k : Keys) (me : ℕ) (lines : List ScriptLine) (heard : List Heard) (round i : ℕ) (line : ScriptLine) (old one new : List Planned) → i < length lines → line ≡ get_or lines i line → is_sent_in round line ≡ true → old ≡ planned_in k me (take i lines) heard round → one ≡ planned_of k me heard line → new ≡ old ++ one → new ≡ planned_in k me (take (i + 1) lines) heard round
planned_yes k me lines heard round i line old one new within at sent before is now =
    let single : flat_map (planned_of k me heard) (filter (is_sent_in round) (line ∷ [])) ≡ planned_of k me heard line = rw sent (flat_map-cons (planned_of k me heard) line [] ∙ append-nil (planned_of k me heard line)) in
    now ∙ ap (λ (ps : List Planned). ps ++ one) before ∙ ap (λ (ps : List Planned). planned_in k me (take i lines) heard round ++ ps) (is ∙ sym single) ∙ sym (planned_more k me lines heard round i line within at)

pub planned_no : (k : Keys) (me : ℕ) (lines : List ScriptLine) (heard : List Heard) (round i : ℕ) (line : ScriptLine) (old new : List Planned) → i < length lines → line ≡ get_or lines i line → is_sent_in round line ≡ false → old ≡ planned_in k me (take i lines) heard round → new ≡ old → new ≡ planned_in k me (take (i + 1) lines) heard round
planned_no k me lines heard round i line old new within at sent before now =
    let none : flat_map (planned_of k me heard) (filter (is_sent_in round) (line ∷ [])) ≡ [] = rw sent refl in
    now ∙ before ∙ sym (append-nil (planned_in k me (take i lines) heard round)) ∙ ap (λ (ps : List Planned). planned_in k me (take i lines) heard round ++ ps) (sym none) ∙ sym (planned_more k me lines heard round i line within at)

-- ---- as the definitions say it

-- one element more of what a list's elements give that pass a test
flat_filter : {A B : Type 0} (p : A → Bool) (f : A → List B) (x : A) (xs : List A) → flat_map f (filter p (x ∷ xs)) ≡ cond (p x) (f x) [] ++ flat_map f (filter p xs)
flat_filter p f x xs = elim (bool_cases (p x)) [
  | inl here ↦ rw here (flat_map-cons f x (filter p xs))
  | inr out ↦ rw out refl
]

-- a function of lists that goes along with joining them
record Joins {B C : Type 0} (h : List B → List C) : Type 0 where
  none : h [] ≡ []
  both : (xs ys : List B) → h (xs ++ ys) ≡ h xs ++ h ys

line_by_line : {A B C : Type 0} (h : List B → List C) → Joins h → (p q : A → Bool) (f : A → List B) (g : A → List C) → ((x : A) → h (cond (p x) (f x) []) ≡ cond (q x) (g x) []) → (xs : List A) → h (flat_map f (filter p xs)) ≡ flat_map g (filter q xs)
line_by_line h joins p q f g each [] = joins.none
line_by_line {A} {B} {C} h joins p q f g each (x ∷ xs) =
    ap h (flat_filter p f x xs) ∙ joins.both (cond (p x) (f x) []) (flat_map f (filter p xs))
    ∙ ap (λ (cs : List C). cs ++ h (flat_map f (filter p xs))) (each x)
    ∙ ap (λ (cs : List C). cond (q x) (g x) [] ++ cs) (line_by_line h joins p q f g each xs)
    ∙ sym (flat_filter q g x xs)

-- a test before what goes along
tested : {B C : Type 0} (h : List B → List C) → Joins h → (a b : Bool) (xs : List B) (ys : List C) → h xs ≡ cond b ys [] → h (cond a xs []) ≡ cond (a && b) ys []
tested h joins true b xs ys e = e
tested h joins false b xs ys e = joins.none

tested_whole : {B C : Type 0} (h : List B → List C) → Joins h → (a : Bool) (xs : List B) (ys : List C) → h xs ≡ ys → h (cond a xs []) ≡ cond a ys []
tested_whole h joins true xs ys e = e
tested_whole h joins false xs ys e = joins.none

abbrev none_of : {C : Type 0} → List C
none_of = []

none_either : {C : Type 0} (a : Bool) → cond a (none_of {C = C}) [] ≡ []
none_either true = refl
none_either false = refl

-- ---- frames

abbrev frame : ℕ → List Planned → List (List ℕ)
frame to planned = map bytes_of (planned_to to planned)

frame_joins : (to : ℕ) → Joins (frame to)
frame_joins to = record {
  none = refl;
  both = λ xs ys. ap (map bytes_of) (filter-append (λ one. eqb (receiver_of one) to) xs ys) ∙ map-append bytes_of (planned_to to xs) (planned_to to ys);
}

frame_of_chains : (at to : ℕ) (b : Bool) → eqb at to ≡ b → (cs : List Chain) → frame to (map (Signed at) cs) ≡ cond b (map chain_spelling cs) []
frame_of_chains at to true e [] = refl
frame_of_chains at to false e [] = refl
frame_of_chains at to true e (c ∷ cs) = rw e (ap (λ (bs : List (List ℕ)). chain_spelling c ∷ bs) (frame_of_chains at to true e cs))
frame_of_chains at to false e (c ∷ cs) = rw e (frame_of_chains at to false e cs)

frame_of_bytes : (at to : ℕ) (b : Bool) → eqb at to ≡ b → (ps : List (List ℕ)) → frame to (map (Bytes at) ps) ≡ cond b ps []
frame_of_bytes at to true e [] = refl
frame_of_bytes at to false e [] = refl
frame_of_bytes at to true e (p ∷ ps) = rw e (ap (λ (bs : List (List ℕ)). p ∷ bs) (frame_of_bytes at to true e ps))
frame_of_bytes at to false e (p ∷ ps) = rw e (frame_of_bytes at to false e ps)

line_frame : (k : Keys) (me : ℕ) (heard : List Heard) (round to : ℕ) (line : ScriptLine) → frame to (cond (is_sent_in round line) (planned_of k me heard line) []) ≡ cond (is_for round to line) (parcels_of k me heard line) []
line_frame k me heard round to (Make r at order path) = tested (frame to) (frame_joins to) (eqb r round) (eqb at to) _ _ (frame_of_chains at to (eqb at to) refl (signed_by_line k heard (Make r at order path)))
line_frame k me heard round to (Pass r at from order path) = tested (frame to) (frame_joins to) (eqb r round) (eqb at to) _ _ (frame_of_chains at to (eqb at to) refl (signed_by_line k heard (Pass r at from order path)))
line_frame k me heard round to (Bend r at from order) = tested (frame to) (frame_joins to) (eqb r round) (eqb at to) _ _ (frame_of_bytes at to (eqb at to) refl (parcels_of k me heard (Bend r at from order)))
line_frame k me heard round to (Raw r at parcel) = tested (frame to) (frame_joins to) (eqb r round) (eqb at to) _ _ (frame_of_bytes at to (eqb at to) refl (parcel ∷ []))
line_frame k me heard round to (Hide r from order) = refl
line_frame k me heard round to TwoHeads = refl

pub plans_frames : PlansFrames
unfolding planned_in traitors_frame
plans_frames k me lines heard round to = line_by_line (frame to) (frame_joins to) (is_sent_in round) (is_for round to) (planned_of k me heard) (parcels_of k me heard) (line_frame k me heard round to) lines

-- ---- what is signed

chains_join : Joins (flat_map chain_of)
chains_join = record { none = refl; both = flat_map-append chain_of }

chains_of_chains : (at : ℕ) (cs : List Chain) → flat_map chain_of (map (Signed at) cs) ≡ cs
chains_of_chains at [] = refl
chains_of_chains at (c ∷ cs) = flat_map-cons chain_of (Signed at c) (map (Signed at) cs) ∙ ap (λ (ks : List Chain). c ∷ ks) (chains_of_chains at cs)

chains_of_bytes : (at : ℕ) (ps : List (List ℕ)) → flat_map chain_of (map (Bytes at) ps) ≡ []
chains_of_bytes at [] = refl
chains_of_bytes at (p ∷ ps) = flat_map-cons chain_of (Bytes at p) (map (Bytes at) ps) ∙ chains_of_bytes at ps

line_signs : (k : Keys) (me : ℕ) (heard : List Heard) (round : ℕ) (line : ScriptLine) → flat_map chain_of (cond (is_sent_in round line) (planned_of k me heard line) []) ≡ cond (is_in round line) (signed_by_line k heard line) []
line_signs k me heard round (Make r at order path) = tested_whole (flat_map chain_of) chains_join (eqb r round) _ _ (chains_of_chains at (signed_by_line k heard (Make r at order path)))
line_signs k me heard round (Pass r at from order path) = tested_whole (flat_map chain_of) chains_join (eqb r round) _ _ (chains_of_chains at (signed_by_line k heard (Pass r at from order path)))
line_signs k me heard round (Bend r at from order) = tested_whole (flat_map chain_of) chains_join (eqb r round) _ _ (chains_of_bytes at (parcels_of k me heard (Bend r at from order))) ∙ none_either (eqb r round)
line_signs k me heard round (Raw r at parcel) = tested_whole (flat_map chain_of) chains_join (eqb r round) _ _ (chains_of_bytes at (parcel ∷ [])) ∙ none_either (eqb r round)
line_signs k me heard round (Hide r from order) = refl
line_signs k me heard round TwoHeads = refl

pub plans_signs : PlansSigns
unfolding planned_in
plans_signs p lines heard round = line_by_line (flat_map chain_of) chains_join (is_sent_in round) (is_in round) (planned_of p.keys p.me heard) (signed_by_line p.keys heard) (line_signs p.keys p.me heard round) lines

-- ---- what is sent to a neighbour

abbrev sent : ℕ → List Planned → List Chain
sent to planned = flat_map chain_of (planned_to to planned)

sent_joins : (to : ℕ) → Joins (sent to)
sent_joins to = record {
  none = refl;
  both = λ xs ys. ap (flat_map chain_of) (filter-append (λ one. eqb (receiver_of one) to) xs ys) ∙ flat_map-append chain_of (planned_to to xs) (planned_to to ys);
}

sent_chains : (at to : ℕ) (b : Bool) → eqb at to ≡ b → (cs : List Chain) → sent to (map (Signed at) cs) ≡ cond b cs []
sent_chains at to true e [] = refl
sent_chains at to false e [] = refl
sent_chains at to true e (c ∷ cs) = rw e (flat_map-cons chain_of (Signed at c) (planned_to to (map (Signed at) cs)) ∙ ap (λ (ks : List Chain). c ∷ ks) (sent_chains at to true e cs))
sent_chains at to false e (c ∷ cs) = rw e (sent_chains at to false e cs)

sent_bytes : (at to : ℕ) (b : Bool) → eqb at to ≡ b → (ps : List (List ℕ)) → sent to (map (Bytes at) ps) ≡ cond b [] []
sent_bytes at to true e [] = refl
sent_bytes at to false e [] = refl
sent_bytes at to true e (p ∷ ps) = rw e (flat_map-cons chain_of (Bytes at p) (planned_to to (map (Bytes at) ps)) ∙ sent_bytes at to true e ps)
sent_bytes at to false e (p ∷ ps) = rw e (sent_bytes at to false e ps)

line_sends : (k : Keys) (me : ℕ) (heard : List Heard) (round to : ℕ) (line : ScriptLine) → sent to (cond (is_sent_in round line) (planned_of k me heard line) []) ≡ cond (is_for round to line) (signed_by_line k heard line) []
line_sends k me heard round to (Make r at order path) = tested (sent to) (sent_joins to) (eqb r round) (eqb at to) _ _ (sent_chains at to (eqb at to) refl (signed_by_line k heard (Make r at order path)))
line_sends k me heard round to (Pass r at from order path) = tested (sent to) (sent_joins to) (eqb r round) (eqb at to) _ _ (sent_chains at to (eqb at to) refl (signed_by_line k heard (Pass r at from order path)))
line_sends k me heard round to (Bend r at from order) = tested (sent to) (sent_joins to) (eqb r round) (eqb at to) _ _ (sent_bytes at to (eqb at to) refl (parcels_of k me heard (Bend r at from order)))
line_sends k me heard round to (Raw r at parcel) = tested (sent to) (sent_joins to) (eqb r round) (eqb at to) _ _ (sent_bytes at to (eqb at to) refl (parcel ∷ []))
line_sends k me heard round to (Hide r from order) = refl
line_sends k me heard round to TwoHeads = refl

pub plans_sends : PlansSends
unfolding planned_in
plans_sends p lines heard round to = line_by_line (sent to) (sent_joins to) (is_sent_in round) (is_for round to) (planned_of p.keys p.me heard) (signed_by_line p.keys heard) (line_sends p.keys p.me heard round to) lines
