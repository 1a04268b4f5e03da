-- What each general keeps, call by call.
use Rattle.std.proofs.Common.{◌≡◌, ℕ, List, [], ◌∷◌, ◌++◌, refl, sym, ap, subst, ◌∙◌, Some, None, Option, Contains, inl, inr, ◌≤◌, ◌+◌, arith, length, map, take}
use Rattle.gen_tree.specs.Rings.{Ring}
use Rattle.gen_net.specs.Header.{RunHeader}
use Rattle.gen_chain.specs.Chain.{Chain}
use Rattle.gen_chain.specs.Leaves.{leaf_of_order}
use Rattle.gen_scenario.specs.declared.heard.Heard.{Heard}
use Rattle.gen_general.specs.declared.roles.Role.{Role}
use Rattle.gen_general.specs.declared.roles.Role.TheVariants.{Loyal, Scripted}
use Rattle.gen_scenario.specs.Heard.{round_of, first_of}
use Rattle.gen_scenario.specs.Frames.{signed_in, relayed, relays_in, frame_of, followers_frame}
use Rattle.gen_general.specs.Following.{round_signed, IsOthers, AreOthers}
use Rattle.gen_scenario.specs.Part.{Part, IsPart, own_keys}
use Rattle.gen_general.specs.Participant.{MayStart, keys_at}
use Rattle.gen_general.specs.Loops.Acting.{Follower, IsHand, IsFree, HasSignedIt, HasScript, HasPlanned}
use Rattle.gen_general.specs.Loops.Roles.{ring_of, role_chains, role_frame, IsStart, IsRole, MayBegin, RoleBegan, IsParticipant}
use Rattle.std.specs.Prelude.{option_map, filter, false, eqb}
use Rattle.std.specs.List.{range_with_len, flat_map}
use Rattle.std.proofs.lemmas.Bool.{eqb-true}
use Rattle.gen_net.specs.Network.{Network}
use Rattle.gen_script.specs.declared.lines.ScriptLine.{ScriptLine}
use Rattle.gen_script.specs.declared.lines.ScriptLine.TheVariants.{Make, Pass, Bend, Raw, Hide, TwoHeads}
use Rattle.gen_script.specs.Line.{IsScriptLine}
use Rattle.gen_general.specs.declared.scripted.Planned.{Planned}
use Rattle.gen_general.specs.Planned.{is_sent_in, planned_in}
use Rattle.gen_scenario.specs.SignerTrees.{keys_with}
use Rattle.gen_scenario.specs.Signing.{Keys}
use Rattle.gen_general.proofs.Plans.{plans_frames, plans_sends, plans_signs}
use Rattle.std.proofs.lemmas.List.{take-append-le, length-append}
use Rattle.std.proofs.lemmas.List.Elements.{Contains-append_cases}
use Rattle.std.proofs.lemmas.Option.{MatchOption-at_some}
use Rattle.gen_types.proofs.Lists.{Contains_mapped, Contains_here, Contains_there, Contains_nil, bool_cases}
use Rattle.gen_scenario.specs.declared.delivery.Delivery.{Delivery}
use Rattle.gen_scenario.specs.Counted.{counted_of}
use Rattle.gen_scenario.specs.RoundEntries.{sends_by, signs_by}
use Rattle.gen_scenario.specs.SignedWorld.{delivery}
use Rattle.gen_scenario.proofs.HeardKnown.{counted_are_chains}
use Rattle.gen_general.proofs.Relaying.{first_front}

same_round : (r : Option ℕ) (a b : ℕ) → r ≡ Some a → r ≡ Some b → a ≡ b
same_round r a b one two = let e : Some a ≡ Some b = sym one ∙ two in cc

-- the leaves of the next round are free
hand_free : (k : Part) (heard before : List Heard) (round : ℕ) (hand : Follower) → k.header.network.orders ≤ 15 → IsHand k heard before round hand → IsFree k heard (round + 1) hand
hand_free k heard before round hand few ok = record {
  height = ok.height;
  leaf = λ leaf s h.
      let spent = ok.spent s.order (omega (arith, s.known, few)) (subst (λ l. Contains hand.ring.taken l) s.leaf_is h) in
      let same = same_round (round_signed k.own heard s.order) (round + 1) spent.at s.signed spent.signed in
      absurd (omega (arith, same, spent.past));
}

pub role_free : (k : Part) (heard before : List Heard) (round : ℕ) (role : Role) → k.header.network.orders ≤ 15 → IsRole k heard before round role → MayBegin k heard (round + 1) role
role_free k heard before round (Loyal hand) few ok = hand_free k heard before round hand few ok
role_free k heard before round (Scripted planned) few ok = ok.0

-- and then they are spent
hand_began : (k : Part) (heard before : List Heard) (round : ℕ) (old new : Follower) → IsHand k heard before round old → HasSignedIt k heard (round + 1) old new → IsHand k heard heard (round + 1) new
hand_began k heard before round old new ok has = record {
  unscripted = ok.unscripted;
  height = has.ring.height ∙ ok.height;
  signed = has.signed ∙ ap (λ seed. signed_in (own_keys k.header seed) k.me k.own heard (round + 1)) (sym has.ring.seed);
  spent = λ n few h. elim ((has.ring.taken (leaf_of_order k.header n)).0 h) [
    | inl o ↦ let spent = ok.spent n few o in record { at = spent.at; signed = spent.signed; past = omega (arith, spent.past) }
    | inr s ↦
        let same : s.order ≡ n = omega (arith, s.leaf_is) in
        record { at = round + 1; signed = ap (λ v. round_signed k.own heard v) (sym same) ∙ s.signed; past = omega arith }
  ];
}

pub role_began : (k : Part) (heard before : List Heard) (round : ℕ) (old new : Role) → IsRole k heard before round old → RoleBegan k heard (round + 1) old new → IsRole k heard heard (round + 1) new
role_began k heard before round (Loyal old) (Loyal new) ok has = hand_began k heard before round old new ok has
role_began k heard before round (Loyal old) (Scripted new) ok has = absurd has
role_began k heard before round (Scripted old) (Loyal new) ok has = absurd has
role_began k heard before round (Scripted old) (Scripted new) ok has = (ok.0, has)

-- ---- more is heard

-- the round in which an order is signed stays the same
signed_first : (f : Option Heard) (order : ℕ) (heard more : List Heard) (at : ℕ) → first_of order heard ≡ f → option_map (λ x. round_of x + 1) (first_of order heard) ≡ Some at
    → option_map (λ x. round_of x + 1) (first_of order (heard ++ more)) ≡ Some at
signed_first None order heard more at e s = let none : option_map (λ x. round_of x + 1) (first_of order heard) ≡ None = rw e refl in absurd cc
signed_first (Some x) order heard more at e s = rw (first_front order heard more x e) (rw e at s)

signed_more : (own : Option ℕ) (heard more : List Heard) (order at : ℕ) → round_signed own heard order ≡ Some at → round_signed own (heard ++ more) order ≡ Some at
signed_more (Some o) heard more order at e = e
signed_more None heard more order at e = signed_first (first_of order heard) order heard more at refl e

hand_hears : (k : Part) (heard more before : List Heard) (round : ℕ) (hand : Follower) → IsHand k heard before round hand → IsHand k (heard ++ more) before round hand
hand_hears k heard more before round hand ok = record {
  unscripted = ok.unscripted;
  height = ok.height;
  signed = ok.signed;
  spent = λ n few h. let s = ok.spent n few h in record { at = s.at; signed = signed_more k.own heard more n s.at s.signed; past = s.past };
}

role_hears : (k : Part) (heard more before : List Heard) (round : ℕ) (role : Role) → IsRole k heard before round role → IsRole k (heard ++ more) before round role
role_hears k heard more before round (Loyal hand) ok = hand_hears k heard more before round hand ok
role_hears k heard more before round (Scripted planned) ok = ok

others_both : (h : RunHeader) (me : ℕ) (xs ys : List Heard) → AreOthers h me xs → AreOthers h me ys → AreOthers h me (xs ++ ys)
others_both h me xs ys one two x k = elim (Contains-append_cases xs ys x k) [ inl a ↦ one x a | inr b ↦ two x b ]

-- what counts was signed by others
counted_others : (h : RunHeader) (d : Delivery) (from : ℕ) (frame : List (List ℕ)) → AreOthers h d.to (map (λ c. record { from = from; chain = c }) (counted_of h d frame))
counted_others h d from frame x k =
    let c = Contains_mapped (λ (c : Chain). record { from = from; chain = c }) (counted_of h d frame) x k in
    let facts = counted_are_chains h d frame c.0 c.1 in
    let there : IsOthers h d.to (record { from = from; chain = c.0 }) = record { chain = facts.0; outside = facts.1.outside } in
    subst (IsOthers h d.to) c.2 there

-- what was heard before the round is the same
before_same : (heard more : List Heard) (count : ℕ) → count ≤ length heard → take count (heard ++ more) ≡ take count heard
before_same heard more count le = take-append-le count heard more le

standing_hears : (k : Part) (role : Role) (heard : List Heard) (count round from : ℕ) (frame : List (List ℕ)) → IsParticipant k role heard count round
    → IsParticipant k role (heard ++ map (λ c. record { from = from; chain = c }) (counted_of k.header (delivery round from k.me) frame)) count round
standing_hears k role heard count round from frame ok =
    let more = map (λ c. record { from = from; chain = c }) (counted_of k.header (delivery round from k.me) frame) in
    let longer = length-append heard more in
    record {
      begun = omega (arith, ok.begun, longer);
      others = others_both k.header k.me heard more ok.others (counted_others k.header (delivery round from k.me) from frame);
      acts = subst (λ before. IsRole k (heard ++ more) before round role) (sym (before_same heard more count ok.begun)) (role_hears k heard more (take count heard) round role ok.acts);
    }

pub standing_heard : (k : Part) (role : Role) (heard items : List Heard) (count round from : ℕ) (frame : List (List ℕ))
    → items ≡ heard ++ map (λ c. record { from = from; chain = c }) (counted_of k.header (delivery round from k.me) frame)
    → IsParticipant k role heard count round → IsParticipant k role items count round
standing_heard k role heard items count round from frame e ok = subst (λ xs. IsParticipant k role xs count round) (sym e) (standing_hears k role heard count round from frame ok)

-- ---- frames

pub role_frames : (k : Part) (heard before : List Heard) (round to : ℕ) (role : Role) → IsRole k heard before round role
    → role_frame role to ≡ frame_of (record { keys = keys_at k (ring_of role); me = k.me; own = k.own; script = k.script }) before round to
unfolding frame_of followers_frame
role_frames k heard before round to (Loyal hand) ok = rw (ok.unscripted, ok.signed) refl
role_frames k heard before round to (Scripted planned) ok =
    let lines = ok.0.0 in
    rw (ok.0.1, ok.1 lines ok.0.1) (plans_frames (keys_with k.header k.trees) k.me lines before round to)

-- ---- chains

pub role_signs_are : (k : Part) (heard before : List Heard) (round : ℕ) (role : Role) → IsRole k heard before round role
    → role_chains role None ≡ signs_by (record { keys = keys_at k (ring_of role); me = k.me; own = k.own; script = k.script }) k.script before round
role_signs_are k heard before round (Loyal hand) ok = rw (ok.unscripted, ok.signed) refl
role_signs_are k heard before round (Scripted planned) ok =
    let lines = ok.0.0 in
    rw (ok.0.1, ok.1 lines ok.0.1) (plans_signs (record { keys = keys_with k.header k.trees; me = k.me; own = k.own; script = Some lines }) lines before round)

pub role_sends_are : (k : Part) (heard before : List Heard) (round to : ℕ) (role : Role) → IsRole k heard before round role
    → role_chains role (Some to) ≡ sends_by (record { keys = keys_at k (ring_of role); me = k.me; own = k.own; script = k.script }) k.script before round to
role_sends_are k heard before round to (Loyal hand) ok = rw (ok.unscripted, ok.signed) refl
role_sends_are k heard before round to (Scripted planned) ok =
    let lines = ok.0.0 in
    rw (ok.0.1, ok.1 lines ok.0.1) (plans_sends (record { keys = keys_with k.header k.trees; me = k.me; own = k.own; script = Some lines }) lines before round to)

-- ---- the start

no_relays : (k : Keys) (me : ℕ) (orders : List ℕ) → flat_map (λ order. relayed k me 0 (first_of order [])) orders ≡ []
unfolding first_of
no_relays k me [] = refl
no_relays k me (o ∷ orders) = no_relays k me orders

signs_nothing : (k : Keys) (me : ℕ) (own : Option ℕ) → signed_in k me own [] 0 ≡ []
unfolding relays_in
signs_nothing k me None = no_relays k me (range_with_len 0 k.header.network.orders)
signs_nothing k me (Some order) = refl

not_zero : (round : ℕ) → 1 ≤ round → eqb round 0 ≡ false
not_zero round some = elim (bool_cases (eqb round 0)) [ inl t ↦ absurd (omega (arith, some, eqb-true round 0 t)) | inr f ↦ f ]

-- no line is one of round 0
line_later : (net : Network) (me : ℕ) (line : ScriptLine) → IsScriptLine net me line → is_sent_in 0 line ≡ false
line_later net me (Make round to order path) ok = not_zero round ok.0.0
line_later net me (Pass round to from order path) ok = not_zero round ok.0.0
line_later net me (Bend round to from order) ok = not_zero round (omega (arith, ok.0.0))
line_later net me (Raw round to parcel) ok = not_zero round ok.0.0
line_later net me (Hide round from order) ok = refl
line_later net me TwoHeads ok = refl

lines_later : (net : Network) (me : ℕ) (lines : List ScriptLine) → ((line : ScriptLine) → Contains lines line → IsScriptLine net me line) → filter (is_sent_in 0) lines ≡ []
lines_later net me [] lawful = refl
lines_later net me (line ∷ lines) lawful =
    rw (line_later net me line (lawful line (Contains_here line lines)))
    (lines_later net me lines (λ other k. lawful other (Contains_there line other lines k)))

plans_nothing : (k : Keys) (net : Network) (me : ℕ) (lines : List ScriptLine) → ((line : ScriptLine) → Contains lines line → IsScriptLine net me line) → planned_in k me lines [] 0 ≡ []
unfolding planned_in
plans_nothing k net me lines lawful = rw (lines_later net me lines lawful) refl

script_some : (k : Part) (script : Option (List ScriptLine)) → k.script ≡ script → (k.script ≡ None → ⊥) → HasScript k
script_some k None e some = absurd (some e)
script_some k (Some lines) e some = (lines, e)

script_start : (k : Part) (planned : List Planned) → IsPart k → (k.script ≡ None → ⊥) → planned ≡ [] → HasScript k × HasPlanned k [] 0 planned
script_start k planned known some start = (
  script_some k k.script refl some,
  λ lines is. start ∙ sym (plans_nothing (keys_with k.header k.trees) k.header.network k.me lines (MatchOption-at_some _ _ lines is known.script).lawful),
)

start_role : (k : Part) (role : Role) → IsPart k → MayStart k (ring_of role) → IsStart role → IsRole k [] [] 0 role
start_role k (Loyal hand) known may start = record {
  unscripted = may.0;
  height = may.1.height;
  signed = start ∙ sym (signs_nothing (own_keys k.header hand.ring.seed) k.me k.own);
  spent = λ n few h. absurd (may.1.free n few h);
}
start_role k (Scripted planned) known may start = script_start k planned known may start

pub start_standing : (k : Part) (role : Role) (ring : Option Ring) → IsPart k → MayStart k ring → ring_of role ≡ ring → IsStart role → IsParticipant k role [] 0 0
start_standing k role ring known may same start = record {
  begun = omega arith;
  others = λ x h. absurd (Contains_nil x h);
  acts = start_role k role known (subst (λ r. MayStart k r) (sym same) may) start;
}
