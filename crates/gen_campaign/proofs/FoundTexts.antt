-- The text of a campaign that is read is spelled so.
use Rattle.std.proofs.Common.{◌≡◌, ℕ, zero, suc, ◌<◌, ◌≤◌, Bool, true, false, not, ltb, List, [], ◌∷◌, ◌++◌, map, length, codes, Option, Some, None, Result, Ok, All, AllPairs, refl, sym, ap, subst, ◌∙◌, append_assoc, arith}
use Rattle.std.specs.List.{join_with_byte}
use Rattle.std.proofs.lemmas.List.Concat.{flat_map-append}
use Rattle.std.proofs.lemmas.List.Elements.{All-head, All-tail}
use Rattle.gen_types.specs.Reading.{◌>>=◌, check}
use Rattle.gen_types.proofs.Decimals.{both}
use Rattle.gen_types.proofs.Steps.{after, after_check, at_end, ok_is, mapped_ok}
use Rattle.gen_net.specs.declared.fault.HeaderFault.{HeaderFault}
use Rattle.gen_net.specs.declared.numbers.NetNumbers.{NetNumbers}
use Rattle.gen_net.specs.declared.version.Version.{Version}
use Rattle.gen_net.specs.declared.version.Version.TheVariants.{Two}
use Rattle.gen_net.specs.Network.{Network, IsNetwork}
use Rattle.gen_net.specs.Edges.{has_bad_edge, edges_of}
use Rattle.gen_net.specs.NetworkOf.{ranges_of, network_with, network_of}
use Rattle.gen_net.specs.Version.{slot_in}
use Rattle.gen_scenario.specs.Scenario.{Plain, Scenario, IsScenario, scripted}
use Rattle.gen_campaign.specs.Campaign.{is_run_count, IsSecond}
use Rattle.gen_text.specs.declared.cursor.Numbered.{Numbered}
use Rattle.gen_text.specs.declared.fault.LineFault.TheVariants as faults
use Rattle.gen_text.specs.declared.fault.ScenarioFault.{ScenarioFault}
use Rattle.gen_text.specs.declared.scenario_text.ScenarioText.TheVariants as texts
use Rattle.gen_text.specs.Text.{parts}
use Rattle.gen_text.specs.Fields.{line_of, said, text_of}
use Rattle.gen_text.specs.Cursor.{Cursor, start_of}
use Rattle.gen_text.specs.LineReading.{fault_at, number_behind}
use Rattle.gen_text.specs.CursorReading.{numbered, is_over}
use Rattle.gen_text.specs.EdgeReading.{edge_lines_at}
use Rattle.gen_text.specs.NumbersReading.{Opening, numbers_said, opening_behind, opening_at, settings_at, network_at, net_behind, order_at, plain_behind, plain_at}
use Rattle.gen_text.specs.KeysReading.{seed_at, slot_at, version_with}
use Rattle.gen_text.specs.BlocksReading.{Blocks, blocks_at, all_scripted}
use Rattle.gen_text.specs.ScenarioReading.{signed_at}
use Rattle.gen_text.specs.Scenario.{given_lines, SpellsScenario}
use Rattle.gen_text.proofs.Cuts.{joined}
use Rattle.gen_text.proofs.Stepping.{done}
use Rattle.gen_text.proofs.FoundLines.{NumberOf, numbered_found}
use Rattle.gen_text.proofs.FoundNumbers.{PlainOf, plain_found}
use Rattle.gen_text.proofs.FoundKeys.{seed_found}
use Rattle.gen_text.proofs.FoundScenario.{signed_found, signed_net, ToldOf, told_signed, nothing_left, joined_lines}
use Rattle.gen_campaign.specs.CampaignText.{MayPrecede, HasSlot, SpellsTexts, SpellsCampaignText}
use Rattle.gen_campaign.specs.CampaignTextReading.{has_generals_of, has_seed_of, comes_after, owed, like_plain_at, like_seed_at, later_slot_at, text_at, texts_at, campaign_text_of}
use Rattle.gen_campaign.proofs.RunCounts.{count_known}
use Rattle.gen_campaign.proofs.Standing.{Behind, behind_gives, Stand, stand_each, stand_ordered}

checked : (b : Bool) (d : ScenarioFault) (u : Unit {0}) → check b d ≡ Ok u → b ≡ true
checked true d u e = refl
checked false d u e = absurd cc

owed_is : {A : Type 0} (k : ℕ) (o : Option A) (x : A) → owed k o ≡ Ok x → o ≡ Some x
owed_is k None x e = absurd cc
owed_is k (Some y) x e = cc

-- ---- the number of generals

abbrev made : Network → Result Network HeaderFault
made net = Ok net

pub network_generals : (numbers : NetNumbers) (edges : List (ℕ × ℕ)) (net : Network) → network_of numbers edges ≡ Ok net → net.generals ≡ numbers.generals
unfolding network_of
network_generals numbers edges net e =
    after (ranges_of numbers (not (has_bad_edge numbers.generals edges))) (λ choice. made (network_with numbers (edges_of numbers.generals edges) choice)) net e (λ choice r e0.
    at_end {F = HeaderFault} (λ (m : Network). m.generals ≡ numbers.generals) (network_with numbers (edges_of numbers.generals edges) choice) net e0 refl)

opening_generals : (n : ℕ) (c : Cursor) (o : Opening) → opening_behind n c ≡ Ok o → o.generals ≡ n
opening_generals n c o e =
    after (edge_lines_at c.line c.parts) (λ edges. number_behind edges.next.number (codes "traitors") edges.next.fields >>= λ m. done (record { generals = n; edges = edges.found; traitors = m; after = edges.after })) o e (λ edges r0 e0.
    after (number_behind edges.next.number (codes "traitors") edges.next.fields) (λ m. done (record { generals = n; edges = edges.found; traitors = m; after = edges.after })) o e0 (λ m r1 e1.
    at_end {F = ScenarioFault} (λ (p : Opening). p.generals ≡ n) (record { generals = n; edges = edges.found; traitors = m; after = edges.after }) o e1 refl))

said_generals : (c : Cursor) (n : Numbered × Cursor) (o : Opening) → numbered (codes "generals") c ≡ Ok n → opening_at c ≡ Ok o → o.generals ≡ n.0.value
unfolding opening_at
said_generals c n o read e =
    after (numbered (codes "generals") c) (λ m. opening_behind m.0.value m.1) o e (λ m r e0.
    let same : m ≡ n = ok_is {F = ScenarioFault} m n (sym r ∙ read) in
    opening_generals m.0.value m.1 o e0 ∙ ap (λ (x : Numbered × Cursor). x.0.value) same)

order_net : (net : Network) (c : Cursor) (x : Plain × Cursor) → order_at net c ≡ Ok x → x.0.net ≡ net
unfolding order_at
order_net net c x e =
    after (numbered (codes "order") c) (λ v. check (ltb v.0.value net.orders) (fault_at faults.UnknownOrder v.0.line) >>= λ known. done (record { net = net; order = v.0.value }, v.1)) x e (λ v r0 e0.
    after_check (ltb v.0.value net.orders) (fault_at faults.UnknownOrder v.0.line) (λ known. done (record { net = net; order = v.0.value }, v.1)) x e0 (λ below e1.
    at_end {F = ScenarioFault} (λ (y : Plain × Cursor). y.0.net ≡ net) (record { net = net; order = v.0.value }, v.1) x e1 refl))

plain_generals : (c : Cursor) (n : Numbered × Cursor) (x : Plain × Cursor) → numbered (codes "generals") c ≡ Ok n → plain_at c ≡ Ok x → x.0.net.generals ≡ n.0.value
unfolding plain_at
plain_generals c n x read e =
    after (opening_at c) (λ o. plain_behind o) x e (λ o r0 e0.
    after (net_behind o) (λ y. order_at y.0 y.1) x e0 (λ y r1 last.
    after (settings_at o.after) (λ s. network_at s.line (network_of (numbers_said o s) o.edges) >>= λ net. done (net, s.after)) y r1 (λ s r2 e2.
    after (network_at s.line (network_of (numbers_said o s) o.edges)) (λ net. done (net, s.after)) y e2 (λ net r3 e3.
    let ordered : order_at net s.after ≡ Ok x = at_end {F = ScenarioFault} (λ (z : Network × Cursor). order_at z.0 z.1 ≡ Ok x) y (net, s.after) (sym e3) last in
    let is = mapped_ok (λ f. fault_at (faults.Network f) s.line) (network_of (numbers_said o s) o.edges) net r3 in
    ap (λ (m : Network). m.generals) (order_net net s.after x ordered) ∙ network_generals (numbers_said o s) o.edges net is ∙ said_generals c n o read r0))))

-- ---- the lines that a campaign's text looks at

abbrev IsPlain : List Scenario → Cursor → Plain × Cursor → Type 0
IsPlain before c x = (plain_at c ≡ Ok x) × (has_generals_of before x.0.net.generals ≡ true)

plain_is : (before : List Scenario) (c : Cursor) (x : Plain × Cursor) → like_plain_at before c ≡ Ok x → IsPlain before c x
unfolding like_plain_at
plain_is before c x e =
    after (numbered (codes "generals") c) (λ n. check (has_generals_of before n.0.value) (fault_at faults.Unlike n.0.line) >>= λ same. plain_at c) x e (λ n r0 e0.
    after_check (has_generals_of before n.0.value) (fault_at faults.Unlike n.0.line) (λ same. plain_at c) x e0 (λ same e1.
    (e1, subst (λ (g : ℕ). has_generals_of before g ≡ true) (sym (plain_generals c n x r0 e1)) same)))

abbrev found_seed : List ℕ × Cursor → Result (Option (List ℕ) × Cursor) ScenarioFault
found_seed x = Ok (Some x.0, x.1)

abbrev IsSeed : List Scenario → Cursor → List ℕ × Cursor → Type 0
IsSeed before c x = (seed_at c ≡ found_seed x) × (has_seed_of before x.0 ≡ true)

seed_is : (before : List Scenario) (c : Cursor) (x : List ℕ × Cursor) → like_seed_at before c ≡ Ok x → IsSeed before c x
unfolding like_seed_at
seed_is before c x e =
    after (seed_at c) (λ seed. owed c.line seed.0 >>= λ master. check (has_seed_of before master) (fault_at faults.Unlike c.line) >>= λ same. done (master, seed.1)) x e (λ seed r0 e0.
    after (owed c.line seed.0) (λ master. check (has_seed_of before master) (fault_at faults.Unlike c.line) >>= λ same. done (master, seed.1)) x e0 (λ master r1 e1.
    after_check (has_seed_of before master) (fault_at faults.Unlike c.line) (λ same. done (master, seed.1)) x e1 (λ same e2.
    let read : seed_at c ≡ found_seed (master, seed.1) = r0 ∙ ap (λ (o : Option (List ℕ)). Ok (o, seed.1)) (owed_is c.line seed.0 master r1) in
    at_end {F = ScenarioFault} (IsSeed before c) (master, seed.1) x e2 (read, same))))

record IsLater (before : List Scenario) (c : Cursor) : Type 0 where
  slot : ℕ
  rest : Cursor
  is_read : slot_at c ≡ Ok (Some slot, rest)
  later : comes_after before slot ≡ true

slot_is : (before : List Scenario) (c : Cursor) (u : Unit {0}) → later_slot_at before c ≡ Ok u → IsLater before c
unfolding later_slot_at
slot_is before c u e =
    after (slot_at c) (λ slot. owed c.line slot.0 >>= λ it. check (comes_after before it) (fault_at faults.Unlike c.line)) u e (λ slot r0 e0.
    after (owed c.line slot.0) (λ it. check (comes_after before it) (fault_at faults.Unlike c.line)) u e0 (λ it r1 e1.
    record {
      slot = it;
      rest = slot.1;
      is_read = r0 ∙ ap (λ (o : Option ℕ). Ok (o, slot.1)) (owed_is c.line slot.0 it r1);
      later = checked (comes_after before it) (fault_at faults.Unlike c.line) u e1;
    }))

abbrev made_of : Plain → List ℕ → Option ℕ → Blocks → Scenario × Cursor
made_of plain master slot b = (record { version = version_with slot; net = plain.net; master = master; order = plain.order; scripts = b.scripts }, b.after)

signed_version : (plain : Plain) (master : List ℕ) (c : Cursor) (x : Scenario × Cursor) (slot : Option ℕ × Cursor) → slot_at c ≡ Ok slot → signed_at plain master c ≡ Ok x → x.0.version ≡ version_with slot.0
unfolding signed_at
signed_version plain master c x slot read e =
    after (slot_at c) (λ it. blocks_at plain.net None it.1.line it.1.parts >>= λ b. all_scripted (scripted b.scripts) b.paths >>= λ signed. done (made_of plain master it.0 b)) x e (λ it r0 e0.
    after (blocks_at plain.net None it.1.line it.1.parts) (λ b. all_scripted (scripted b.scripts) b.paths >>= λ signed. done (made_of plain master it.0 b)) x e0 (λ b r1 e1.
    after (all_scripted (scripted b.scripts) b.paths) (λ signed. done (made_of plain master it.0 b)) x e1 (λ signed r2 e2.
    let same : it ≡ slot = ok_is {F = ScenarioFault} it slot (sym r0 ∙ read) in
    at_end {F = ScenarioFault} (λ (y : Scenario × Cursor). y.0.version ≡ version_with slot.0) (made_of plain master it.0 b) x e2
    (ap (λ (o : Option ℕ × Cursor). version_with o.0) same))))

-- ---- one text

-- the lines of a text, and the scenario that they spell behind these
pub record TextOf (before : List Scenario) (c : Cursor) (x : Scenario × Cursor) : Type 0 where
  pub lines : List (List ℕ)
  pub parts_are : c.parts ≡ lines ++ x.1.parts
  pub spells : SpellsScenario (text_of lines) (texts.Signed x.0)
  pub slot : HasSlot x.0
  pub behind : Behind before x.0
  pub going : 0 < length x.1.parts

spelled : (c : Cursor) (plain : Plain × Cursor) (x : Scenario × Cursor) (f : PlainOf c plain) (t : ToldOf plain.0 plain.1 (texts.Signed x.0, x.1))
    → SpellsScenario (text_of (map line_of (given_lines f.given) ++ (t.keys ++ codes "end" ∷ []))) (texts.Signed x.0)
spelled c plain x f t = record {
  given = f.given;
  keys = t.keys;
  text_is = refl;
  bytes = f.bytes;
  network = f.network ∙ ap (λ (n : Network). Ok n) (sym t.net_is);
  order = f.order ∙ sym t.order_is;
  known = rw (t.order_is, t.net_is) f.known;
  keys_are = t.said_so;
}

slotted : (before : List Scenario) (s : Scenario) (u : ℕ) → s.version ≡ Two u → comes_after before u ≡ true → HasSlot s × (comes_after before (slot_in s.version) ≡ true)
slotted before s u is later = (subst IsSecond (sym is) tt, subst (λ (v : Version). comes_after before (slot_in v) ≡ true) (sym is) later)

one_made : (before : List Scenario) (c : Cursor) (plain : Plain × Cursor) (seed : List ℕ × Cursor) (x : Scenario × Cursor) → IsScenario x.0 → IsPlain before c plain → IsSeed before plain.1 seed → IsLater before seed.1 → signed_at plain.0 seed.0 seed.1 ≡ Ok x → TextOf before c x
one_made before c plain seed x lawful p s l e =
    let f = plain_found c plain p.0 in
    let net : x.0.net ≡ plain.0.net = signed_net plain.0 seed.0 seed.1 x e in
    let kept : IsNetwork plain.0.net = subst IsNetwork net lawful.network in
    let g = signed_found plain.0 seed.0 seed.1 x kept f.known e in
    let t = told_signed plain.0 seed.0 plain.1 seed.1 x (seed_found plain.1 (Some seed.0, seed.1) s.0) g in
    let front : List (List ℕ) = map line_of (given_lines f.given) in
    let slot = slotted before x.0 l.slot (signed_version plain.0 seed.0 seed.1 x (Some l.slot, l.rest) l.is_read e) l.later in
    record {
      lines = front ++ (t.keys ++ codes "end" ∷ []);
      parts_are =
          f.lines ∙ ap (λ (r : List (List ℕ)). front ++ r) (t.lines ∙ sym (append_assoc t.keys (codes "end" ∷ []) x.1.parts)) ∙ sym (append_assoc front (t.keys ++ codes "end" ∷ []) x.1.parts);
      spells = spelled c plain x f t;
      slot = slot.0;
      behind =
          behind_gives before x.0 (subst (λ (n : Network). has_generals_of before n.generals ≡ true) (sym net) p.1)
          (subst (λ (m : List ℕ). has_seed_of before m ≡ true) (sym g.master_is) s.1) slot.1;
      going = g.going;
    }

pub text_found : (before : List Scenario) (c : Cursor) (x : Scenario × Cursor) → IsScenario x.0 → text_at before c ≡ Ok x → TextOf before c x
unfolding text_at
text_found before c x lawful e =
    after (like_plain_at before c) (λ plain. like_seed_at before plain.1 >>= λ seed. later_slot_at before seed.1 >>= λ later. signed_at plain.0 seed.0 seed.1) x e (λ plain r0 e0.
    after (like_seed_at before plain.1) (λ seed. later_slot_at before seed.1 >>= λ later. signed_at plain.0 seed.0 seed.1) x e0 (λ seed r1 e1.
    after (later_slot_at before seed.1) (λ later. signed_at plain.0 seed.0 seed.1) x e1 (λ later r2 e2.
    one_made before c plain seed x lawful (plain_is before c plain r0) (seed_is before plain.1 seed r1) (slot_is before seed.1 later r2) e2)))

-- ---- texts one after another

pub record TextsOf (before : List Scenario) (n : ℕ) (c : Cursor) (x : List Scenario × Cursor) : Type 0 where
  pub lines : List (List ℕ)
  pub parts_are : c.parts ≡ lines ++ x.1.parts
  pub spells : SpellsTexts (text_of lines) x.0
  pub count : length x.0 ≡ n
  pub stand : Stand before x.0
  pub going : 0 < length x.1.parts

one_more : (before : List Scenario) (n : ℕ) (c : Cursor) (one : Scenario × Cursor) (others : List Scenario × Cursor) → TextOf before c one → TextsOf (before ++ one.0 ∷ []) n one.1 others → TextsOf before (suc n) c (one.0 ∷ others.0, others.1)
one_more before n c one others f g = record {
  lines = f.lines ++ g.lines;
  parts_are = f.parts_are ∙ ap (λ (r : List (List ℕ)). f.lines ++ r) g.parts_are ∙ sym (append_assoc f.lines g.lines others.1.parts);
  spells = (text_of f.lines, text_of g.lines, flat_map-append _ f.lines g.lines, f.spells, g.spells);
  count = ap suc g.count;
  stand = (f.slot, f.behind, g.stand);
  going = g.going;
}

head_of : (s : Scenario) (others xs : List Scenario) → (s ∷ others) ≡ xs → All IsScenario xs → IsScenario s × All IsScenario others
head_of s others xs e each =
    let all : All IsScenario (s ∷ others) = subst (All IsScenario) (sym e) each in
    (All-head IsScenario s others all, All-tail IsScenario s others all)

pub texts_found : (before : List Scenario) (n : ℕ) (c : Cursor) (x : List Scenario × Cursor) → 0 < length c.parts → All IsScenario x.0 → texts_at before n c ≡ Ok x → TextsOf before n c x
unfolding texts_at
texts_found before zero c x going each e =
    at_end {F = ScenarioFault} (TextsOf before zero c) ([], c) x e (record { lines = []; parts_are = refl; spells = refl; count = refl; stand = tt; going = going })
texts_found before (suc n) c x going each e =
    after (text_at before c) (λ one. texts_at (before ++ one.0 ∷ []) n one.1 >>= λ others. done (one.0 ∷ others.0, others.1)) x e (λ one r0 e0.
    after (texts_at (before ++ one.0 ∷ []) n one.1) (λ others. done (one.0 ∷ others.0, others.1)) x e0 (λ others r1 e1.
    let same : (one.0 ∷ others.0, others.1) ≡ x = ok_is {F = ScenarioFault} (one.0 ∷ others.0, others.1) x e1 in
    let lawful = head_of one.0 others.0 x.0 (ap (λ (y : List Scenario × Cursor). y.0) same) each in
    let f = text_found before c one lawful.0 r0 in
    at_end {F = ScenarioFault} (TextsOf before (suc n) c) (one.0 ∷ others.0, others.1) x e1 (one_more before n c one others f (texts_found (before ++ one.0 ∷ []) n one.1 others f.going lawful.1 r1))))

-- ---- the whole text

campaign_made : (text : List ℕ) (count : Numbered × Cursor) (x : List Scenario × Cursor) → NumberOf (codes "campaign") (start_of text) count → is_run_count count.0.value ≡ true → TextsOf [] count.0.value count.1 x → x.1.parts ≡ [] ∷ [] → SpellsCampaignText text x.0
campaign_made text count x f known t last =
    let line : List ℕ = line_of (said (codes "campaign") count.0.value) in
    let all : parts text ≡ (line ∷ t.lines) ++ [] ∷ [] = f.parts ∙ ap (λ (r : List (List ℕ)). line ∷ r) (t.parts_are ∙ ap (λ (r : List (List ℕ)). t.lines ++ r) last) in
    let whole : text ≡ line ++ 10 ∷ text_of t.lines = sym (joined text) ∙ ap (join_with_byte 10) all ∙ joined_lines (line ∷ t.lines) ∙ append_assoc line (10 ∷ []) (text_of t.lines) in
    let range = count_known count.0.value known in
    let none : AllPairs MayPrecede [] = λ i j d l m. absurd (omega (arith, m)) in
    record {
      behind = text_of t.lines;
      text_is = whole ∙ ap (λ (n : ℕ). line_of (said (codes "campaign") n) ++ 10 ∷ text_of t.lines) (sym t.count);
      texts_are = t.spells;
      lawful = record { some = rw t.count range.0; few = rw t.count range.1; slots = stand_each [] x.0 t.stand; ordered = stand_ordered [] x.0 none t.stand };
    }

pub campaign_found : (text : List ℕ) (runs : List Scenario) → All IsScenario runs → campaign_text_of text ≡ Ok runs → SpellsCampaignText text runs
unfolding campaign_text_of
campaign_found text runs each e =
    after (numbered (codes "campaign") (start_of text)) (λ count. check (is_run_count count.0.value) (fault_at faults.RunCount count.0.line) >>= λ known. texts_at [] count.0.value count.1 >>= λ x. check (is_over x.1) (fault_at faults.Extra x.1.line) >>= λ over. done x.0) runs e (λ count r0 e0.
    after_check (is_run_count count.0.value) (fault_at faults.RunCount count.0.line) (λ known. texts_at [] count.0.value count.1 >>= λ x. check (is_over x.1) (fault_at faults.Extra x.1.line) >>= λ over. done x.0) runs e0 (λ known e1.
    after (texts_at [] count.0.value count.1) (λ x. check (is_over x.1) (fault_at faults.Extra x.1.line) >>= λ over. done x.0) runs e1 (λ x r2 e2.
    after_check (is_over x.1) (fault_at faults.Extra x.1.line) (λ over. done x.0) runs e2 (λ over e3.
    let f = numbered_found (codes "campaign") (start_of text) count r0 in
    let lawful : All IsScenario x.0 = subst (All IsScenario) (sym (ok_is {F = ScenarioFault} x.0 runs e3)) each in
    let t = texts_found [] count.0.value count.1 x f.going lawful r2 in
    at_end {F = ScenarioFault} (SpellsCampaignText text) x.0 runs e3 (campaign_made text count x f known t (nothing_left x.1.parts t.going over))))))
