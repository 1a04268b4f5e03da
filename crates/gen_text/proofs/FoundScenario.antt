-- A text that is read is spelled so.
use Rattle.std.proofs.Common.{◌≡◌, ℕ, ◌<◌, Bool, true, false, cond, eqb, List, [], ◌∷◌, ◌++◌, map, length, codes, Option, Some, None, Result, Ok, Err, refl, sym, ap, subst, ◌∙◌, append_assoc, arith, length-append}
use Rattle.std.specs.List.{join_with_byte}
use Rattle.std.specs.Str.{bytes_eq}
use Rattle.std.proofs.lemmas.Bool.{eqb-true}
use Rattle.std.proofs.lemmas.List.{nil_from_length}
use Rattle.std.proofs.lemmas.Slice.Eq.{bytes_eq-Decides}
use Rattle.gen_types.specs.Reading.{◌>>=◌, check}
use Rattle.gen_types.proofs.Steps.{after, after_check, at_end, ok_is}
use Rattle.gen_net.specs.Network.{Network, IsNetwork}
use Rattle.gen_scenario.specs.Scenario.{Plain, Scenario, IsScenario, scripted}
use Rattle.gen_text.specs.declared.fault.LineFault.TheVariants.{Shape, Unseeded, Extra}
use Rattle.gen_text.specs.declared.fault.ScenarioFault.{ScenarioFault}
use Rattle.gen_text.specs.declared.scenario_text.ScenarioText.{ScenarioText}
use Rattle.gen_text.specs.declared.scenario_text.ScenarioText.TheVariants as texts
use Rattle.gen_text.specs.Text.{parts}
use Rattle.gen_text.specs.Fields.{line_of, said, text_of}
use Rattle.gen_text.specs.Cursor.{Cursor, start_of}
use Rattle.gen_text.specs.LineReading.{fault_at}
use Rattle.gen_text.specs.CursorReading.{next_line, is_over}
use Rattle.gen_text.specs.NumbersReading.{plain_at}
use Rattle.gen_text.specs.KeysReading.{seed_at, slot_at, version_with}
use Rattle.gen_text.specs.BlocksReading.{Blocks, blocks_at, all_scripted}
use Rattle.gen_text.specs.ScenarioReading.{end_in, end_at, signed_at, told_at, scenario_of}
use Rattle.gen_text.specs.Scripts.{SpellsScripts}
use Rattle.gen_text.specs.Told.{net_of, order_of}
use Rattle.gen_text.specs.Scenario.{given_lines, slot_lines, SpellsKeys, SpellsScenario}
use Rattle.gen_text.proofs.Cuts.{joined}
use Rattle.gen_text.proofs.Stepping.{done}
use Rattle.gen_text.proofs.FoundLines.{line_found, first_is}
use Rattle.gen_text.proofs.FoundNumbers.{PlainOf, plain_found}
use Rattle.gen_text.proofs.FoundKeys.{SeedAt, seed_found, SlotAt, slot_found, slot_known}
use Rattle.gen_text.proofs.FoundBlocks.{BlocksOf, blocks_found, lawful_by}

-- ---- a text without a seed

picked : {P : Type 0} (b : Bool) (d e : ScenarioFault) (u : Unit {0}) → (let r : Result (Unit {0}) ScenarioFault = cond b (Err d) (Err e) in r ≡ Ok u) → P
picked true d e u h = absurd cc
picked false d e u h = absurd cc

checked : (b : Bool) (d : ScenarioFault) (u : Unit {0}) → check b d ≡ Ok u → b ≡ true
checked true d u e = refl
checked false d u e = absurd cc

end_in_found : (k : ℕ) (fs : List (List ℕ)) (u : Unit {0}) → end_in k fs ≡ Ok u → fs ≡ codes "end" ∷ []
unfolding end_in
end_in_found k [] u e = absurd cc
end_in_found k (w ∷ []) u e = ap (λ (v : List ℕ). v ∷ []) ((bytes_eq-Decides w (codes "end")).0 (checked (bytes_eq w (codes "end")) (fault_at Shape k) u e))
end_in_found k (w ∷ x ∷ []) u e = picked (bytes_eq w (codes "script")) (fault_at Unseeded k) (fault_at Shape k) u e
end_in_found k (w ∷ x ∷ y ∷ more) u e = absurd cc

record EndOf (c after : Cursor) : Type 0 where
  lines : c.parts ≡ codes "end" ∷ after.parts
  going : 0 < length after.parts

end_found : (c after : Cursor) → end_at c ≡ Ok after → EndOf c after
unfolding end_at
end_found c rest e =
    after (next_line c) (λ l. end_in l.0.number l.0.fields >>= λ ended. done l.1) rest e (λ l r0 e0.
    after (end_in l.0.number l.0.fields) (λ ended. done l.1) rest e0 (λ u r1 e1.
    let f = line_found c l r0 in
    at_end {F = ScenarioFault} (EndOf c) l.1 rest e1 (record { lines = first_is c l (codes "end" ∷ []) f (end_in_found l.0.number l.0.fields u r1); going = f.going })))

-- ---- a text with one

abbrev scenario_with : Plain → List ℕ → Option ℕ → Blocks → Scenario
scenario_with plain master slot b = record { version = version_with slot; net = plain.net; master = master; order = plain.order; scripts = b.scripts }

-- the lines from that of the slot on, and the scenario that they make
pub record SignedOf (plain : Plain) (master : List ℕ) (c : Cursor) (x : Scenario × Cursor) : Type 0 where
  pub net_is : x.0.net ≡ plain.net
  pub order_is : x.0.order ≡ plain.order
  pub master_is : x.0.master ≡ master
  pub blocks : List (List ℕ)
  pub lines : c.parts ≡ slot_lines x.0.version ++ (blocks ++ (codes "end" ∷ x.1.parts))
  pub scripts : SpellsScripts x.0.net blocks x.0.scripts
  pub lawful : IsScenario x.0
  pub going : 0 < length x.1.parts

behind_slot : (c : Cursor) (slot : Option ℕ × Cursor) (ps : List (List ℕ)) → SlotAt c slot → slot.1.parts ≡ ps → c.parts ≡ slot_lines (version_with slot.0) ++ ps
behind_slot c (None, rest) ps at e = ap (λ (d : Cursor). d.parts) (sym at) ∙ e
behind_slot c (Some u, rest) ps at e = at.0 ∙ ap (λ (r : List (List ℕ)). line_of (said (codes "slot") u) ∷ r) e

nothing_own : (net : Network) (b : Blocks) (ps : List (List ℕ)) (f : BlocksOf net None ps b) → ps ≡ f.more ++ (codes "end" ∷ b.after.parts)
nothing_own net b ps f = f.lines ∙ ap (λ (own : List (List ℕ)). own ++ (f.more ++ (codes "end" ∷ b.after.parts))) f.spelled.0

signed_made : (plain : Plain) (master : List ℕ) (c : Cursor) (slot : Option ℕ × Cursor) (b : Blocks) → IsNetwork plain.net → plain.order < plain.net.orders → SlotAt c slot → BlocksOf plain.net None slot.1.parts b
    → all_scripted (scripted b.scripts) b.paths ≡ Ok tt → SignedOf plain master c (scenario_with plain master slot.0 b, b.after)
signed_made plain master c slot b network known at f tested = record {
  net_is = refl;
  order_is = refl;
  master_is = refl;
  blocks = f.more;
  lines = behind_slot c slot (f.more ++ (codes "end" ∷ b.after.parts)) at (nothing_own plain.net b slot.1.parts f);
  scripts = f.scripts;
  lawful = lawful_by (version_with slot.0) plain.net master plain.order b slot.1.parts network (slot_known c slot.1 slot.0 at) known f tested;
  going = f.going;
}

pub signed_found : (plain : Plain) (master : List ℕ) (c : Cursor) (x : Scenario × Cursor) → IsNetwork plain.net → plain.order < plain.net.orders → signed_at plain master c ≡ Ok x → SignedOf plain master c x
unfolding signed_at
signed_found plain master c x network known e =
    after (slot_at c) (λ slot. blocks_at plain.net None slot.1.line slot.1.parts >>= λ b. all_scripted (scripted b.scripts) b.paths >>= λ signed. done (scenario_with plain master slot.0 b, b.after)) x e (λ slot r0 e0.
    after (blocks_at plain.net None slot.1.line slot.1.parts) (λ b. all_scripted (scripted b.scripts) b.paths >>= λ signed. done (scenario_with plain master slot.0 b, b.after)) x e0 (λ b r1 e1.
    after (all_scripted (scripted b.scripts) b.paths) (λ signed. done (scenario_with plain master slot.0 b, b.after)) x e1 (λ signed r2 e2.
    at_end {F = ScenarioFault} (SignedOf plain master c) (scenario_with plain master slot.0 b, b.after) x e2
    (signed_made plain master c slot b network known (slot_found c slot r0) (blocks_found plain.net None slot.1.line slot.1.parts b r1) r2))))

-- ---- what the text says

-- the lines behind that of the order, and what they say
pub record ToldOf (plain : Plain) (c : Cursor) (x : ScenarioText × Cursor) : Type 0 where
  pub net_is : net_of x.0 ≡ plain.net
  pub order_is : order_of x.0 ≡ plain.order
  pub keys : List (List ℕ)
  pub lines : c.parts ≡ keys ++ (codes "end" ∷ x.1.parts)
  pub said_so : SpellsKeys keys x.0
  pub going : 0 < length x.1.parts

told_plain : (plain : Plain) (c rest after : Cursor) → rest ≡ c → EndOf rest after → ToldOf plain c (texts.Plain plain, after)
told_plain plain c rest behind is f = record {
  net_is = refl;
  order_is = refl;
  keys = [];
  lines = ap (λ (d : Cursor). d.parts) (sym is) ∙ f.lines;
  said_so = refl;
  going = f.going;
}

pub told_signed : (plain : Plain) (master : List ℕ) (c rest : Cursor) (x : Scenario × Cursor) → SeedAt c (Some master, rest) → SignedOf plain master rest x → ToldOf plain c (texts.Signed x.0, x.1)
told_signed plain master c rest x seed f =
    let behind : slot_lines x.0.version ++ (f.blocks ++ (codes "end" ∷ x.1.parts)) ≡ (slot_lines x.0.version ++ f.blocks) ++ (codes "end" ∷ x.1.parts) = sym (append_assoc (slot_lines x.0.version) f.blocks (codes "end" ∷ x.1.parts)) in
    record {
      net_is = f.net_is;
      order_is = f.order_is;
      keys = line_of (codes "seed" ∷ seed.0 ∷ []) ∷ (slot_lines x.0.version ++ f.blocks);
      lines = seed.1 ∙ ap (λ (r : List (List ℕ)). line_of (codes "seed" ∷ seed.0 ∷ []) ∷ r) (f.lines ∙ behind);
      said_so = record { digits = seed.0; blocks = f.blocks; lines_are = refl; width = seed.2; seed = rw f.master_is seed.3; scripts = f.scripts; lawful = f.lawful };
      going = f.going;
    }

told_found : (plain : Plain) (c : Cursor) (seed : Option (List ℕ) × Cursor) (x : ScenarioText × Cursor) → IsNetwork plain.net → plain.order < plain.net.orders → SeedAt c seed → told_at plain seed.0 seed.1 ≡ Ok x → ToldOf plain c x
unfolding told_at
told_found plain c (None, rest) x network known at e =
    after (end_at rest) (λ a. done (texts.Plain plain, a)) x e (λ a r e0.
    at_end {F = ScenarioFault} (ToldOf plain c) (texts.Plain plain, a) x e0 (told_plain plain c rest a at (end_found rest a r)))
told_found plain c (Some master, rest) x network known at e =
    after (signed_at plain master rest) (λ s. done (texts.Signed s.0, s.1)) x e (λ s r e0.
    at_end {F = ScenarioFault} (ToldOf plain c) (texts.Signed s.0, s.1) x e0 (told_signed plain master c rest s at (signed_found plain master rest s network known r)))

-- the network is that of the first lines
pub signed_net : (plain : Plain) (master : List ℕ) (c : Cursor) (x : Scenario × Cursor) → signed_at plain master c ≡ Ok x → x.0.net ≡ plain.net
unfolding signed_at
signed_net plain master c x e =
    after (slot_at c) (λ slot. blocks_at plain.net None slot.1.line slot.1.parts >>= λ b. all_scripted (scripted b.scripts) b.paths >>= λ signed. done (scenario_with plain master slot.0 b, b.after)) x e (λ slot r0 e0.
    after (blocks_at plain.net None slot.1.line slot.1.parts) (λ b. all_scripted (scripted b.scripts) b.paths >>= λ signed. done (scenario_with plain master slot.0 b, b.after)) x e0 (λ b r1 e1.
    after (all_scripted (scripted b.scripts) b.paths) (λ signed. done (scenario_with plain master slot.0 b, b.after)) x e1 (λ signed r2 e2.
    at_end {F = ScenarioFault} (λ (y : Scenario × Cursor). y.0.net ≡ plain.net) (scenario_with plain master slot.0 b, b.after) x e2 refl)))

told_net : (plain : Plain) (seed : Option (List ℕ)) (c : Cursor) (x : ScenarioText × Cursor) → told_at plain seed c ≡ Ok x → net_of x.0 ≡ plain.net
unfolding told_at
told_net plain None c x e =
    after (end_at c) (λ a. done (texts.Plain plain, a)) x e (λ a r e0.
    at_end {F = ScenarioFault} (λ (y : ScenarioText × Cursor). net_of y.0 ≡ plain.net) (texts.Plain plain, a) x e0 refl)
told_net plain (Some master) c x e =
    after (signed_at plain master c) (λ s. done (texts.Signed s.0, s.1)) x e (λ s r e0.
    at_end {F = ScenarioFault} (λ (y : ScenarioText × Cursor). net_of y.0 ≡ plain.net) (texts.Signed s.0, s.1) x e0 (signed_net plain master c s r))

-- ---- the text

-- parts that join to nothing, and are not none, are one empty part
pub nothing_left : (rest : List (List ℕ)) → 0 < length rest → eqb (length (join_with_byte 10 rest)) 0 ≡ true → rest ≡ [] ∷ []
nothing_left [] long e = absurd (omega arith)
nothing_left (x ∷ []) long e = ap (λ (y : List ℕ). y ∷ []) (nil_from_length x (eqb-true _ _ e))
nothing_left (x ∷ y ∷ more) long e =
    let none : length (x ++ 10 ∷ join_with_byte 10 (y ∷ more)) ≡ 0 = eqb-true _ _ e in
    absurd (omega (arith, none, length-append x (10 ∷ join_with_byte 10 (y ∷ more))))

-- lines, and what follows the last line feed
pub joined_lines : (ls : List (List ℕ)) → join_with_byte 10 (ls ++ [] ∷ []) ≡ text_of ls
joined_lines [] = refl
joined_lines (l ∷ []) = sym (append_assoc l (10 ∷ []) [])
joined_lines (l ∷ m ∷ ls) = ap (λ (r : List ℕ). l ++ 10 ∷ r) (joined_lines (m ∷ ls)) ∙ sym (append_assoc l (10 ∷ []) (text_of (m ∷ ls)))

spelled : (text : List ℕ) (plain : Plain × Cursor) (told : ScenarioText × Cursor) → PlainOf (start_of text) plain → ToldOf plain.0 plain.1 told → told.1.parts ≡ [] ∷ [] → SpellsScenario text told.0
spelled text plain told f t last =
    let front : List (List ℕ) = map line_of (given_lines f.given) in
    let behind : plain.1.parts ≡ (t.keys ++ codes "end" ∷ []) ++ [] ∷ [] =
    t.lines ∙ ap (λ (r : List (List ℕ)). t.keys ++ (codes "end" ∷ r)) last ∙ sym (append_assoc t.keys (codes "end" ∷ []) ([] ∷ [])) in
    let all : parts text ≡ (front ++ (t.keys ++ codes "end" ∷ [])) ++ [] ∷ [] =
    f.lines ∙ ap (λ (r : List (List ℕ)). front ++ r) behind ∙ sym (append_assoc front (t.keys ++ codes "end" ∷ []) ([] ∷ [])) in
    record {
      given = f.given;
      keys = t.keys;
      text_is = sym (joined text) ∙ ap (join_with_byte 10) all ∙ joined_lines (front ++ (t.keys ++ codes "end" ∷ []));
      bytes = f.bytes;
      network = f.network ∙ ap (λ (n : Network). Ok n) (sym t.net_is);
      order = f.order ∙ sym t.order_is;
      known = rw (t.order_is, t.net_is) f.known;
      keys_are = t.said_so;
    }

pub scenario_found : (text : List ℕ) (told : ScenarioText) → IsNetwork (net_of told) → scenario_of text ≡ Ok told → SpellsScenario text told
unfolding scenario_of
scenario_found text told network e =
    after (plain_at (start_of text)) (λ plain. seed_at plain.1 >>= λ seed. told_at plain.0 seed.0 seed.1 >>= λ t. check (is_over t.1) (fault_at Extra t.1.line) >>= λ over. done t.0) told e (λ plain r0 e0.
    after (seed_at plain.1) (λ seed. told_at plain.0 seed.0 seed.1 >>= λ t. check (is_over t.1) (fault_at Extra t.1.line) >>= λ over. done t.0) told e0 (λ seed r1 e1.
    after (told_at plain.0 seed.0 seed.1) (λ t. check (is_over t.1) (fault_at Extra t.1.line) >>= λ over. done t.0) told e1 (λ t r2 e2.
    after_check (is_over t.1) (fault_at Extra t.1.line) (λ over. done t.0) told e2 (λ over e3.
    let f = plain_found (start_of text) plain r0 in
    let same : t.0 ≡ told = ok_is {F = ScenarioFault} t.0 told e3 in
    let kept : IsNetwork plain.0.net = subst IsNetwork (ap net_of (sym same) ∙ told_net plain.0 seed.0 seed.1 t r2) network in
    let g = told_found plain.0 plain.1 seed t kept f.known (seed_found plain.1 seed r1) r2 in
    at_end {F = ScenarioFault} (SpellsScenario text) t.0 told e3 (spelled text plain t f g (nothing_left t.1.parts g.going over))))))
