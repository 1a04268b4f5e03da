-- A text that is spelled so is read.
use Rattle.std.proofs.Common.{◌≡◌, ℕ, ◌+◌, ◌<◌, ◌≤◌, List, [], ◌∷◌, ◌++◌, map, codes, Option, Some, None, Ok, Contains, refl, sym, ap, subst, ◌∙◌, append_assoc, arith}
use Rattle.gen_types.proofs.Lists.{Contains_here, Contains_nil}
use Rattle.std.specs.List.{AllByRecursion}
use Rattle.gen_net.specs.declared.version.Version.{Version}
use Rattle.gen_net.specs.declared.version.Version.TheVariants.{One, Two}
use Rattle.gen_net.specs.Network.{Network, IsNetwork}
use Rattle.gen_net.specs.Version.{slot_in, greatest_slot}
use Rattle.gen_script.specs.Script.{Script}
use Rattle.gen_scenario.specs.Scenario.{Plain, Scenario, IsScenario, scripted}
use Rattle.gen_text.specs.declared.scenario_text.ScenarioText.{ScenarioText}
use Rattle.gen_text.specs.declared.scenario_text.ScenarioText.TheVariants as texts
use Rattle.gen_text.specs.Text.{parts}
use Rattle.gen_text.specs.Fields.{line_of, said}
use Rattle.gen_text.specs.Cursor.{Cursor}
use Rattle.gen_text.specs.KeysReading.{slot_in as slot_line_of, seed_in, seed_at, slot_at, version_with}
use Rattle.gen_text.specs.BlocksReading.{Blocks, blocks_at, all_scripted}
use Rattle.gen_text.specs.ScenarioReading.{end_in, end_at, signed_at, told_at, scenario_of}
use Rattle.gen_text.specs.Told.{net_of, order_of}
use Rattle.gen_text.specs.Scripts.{SpellsScripts}
use Rattle.gen_text.specs.Scenario.{given_lines, slot_lines, SpellsSigned, SpellsKeys, SpellsScenario}
use Rattle.gen_text.proofs.AgainLines.{IsLine, AreFields, IsGoing, going_behind, fields_again, parts_again}
use Rattle.gen_text.proofs.AgainNumbers.{given_are_lines, plain_again}
use Rattle.gen_text.proofs.AgainKeys.{seed_fields, seed_line, seed_again, no_seed, slot_line, slot_again, no_slot}
use Rattle.gen_text.proofs.AgainBlocks.{script_fields, end_fields, blocks_again, blocks_are_lines}

-- the last line, and nothing
abbrev last : List (List ℕ)
last = codes "end" ∷ [] ∷ []

-- what stands behind the line of the order says this
record TailOf (plain : Plain) (k : ℕ) (ps : List (List ℕ)) (told : ScenarioText) : Type 0 where
  seed : Option (List ℕ) × Cursor
  seed_is : seed_at (record { line = k; parts = ps }) ≡ Ok seed
  line : ℕ
  told_is : told_at plain seed.0 seed.1 ≡ Ok (told, record { line = line; parts = [] ∷ [] })

end_again : (k : ℕ) → end_at (record { line = k; parts = last }) ≡ Ok (record { line = k + 1; parts = [] ∷ [] })
unfolding end_at end_in
end_again k = rw (fields_again k (codes "end" ∷ []) ([] ∷ []) end_fields refl) refl

plain_tail : (plain : Plain) (k : ℕ) → TailOf plain k last (texts.Plain plain)
unfolding told_at seed_in
plain_tail plain k = record {
  seed = (None, record { line = k; parts = last });
  seed_is = no_seed k (codes "end" ∷ []) ([] ∷ []) end_fields refl refl;
  line = k + 1;
  told_is = rw (end_again k) refl;
}

-- ---- with a seed

-- the line behind that of the seed where there is no slot
record FirstOf (lines : List (List ℕ)) : Type 0 where
  fields : List (List ℕ)
  more : List (List ℕ)
  is : lines ≡ line_of fields ∷ more
  cut : AreFields fields
  going : IsGoing more
  no_slot : (k : ℕ) → slot_line_of k fields ≡ Ok None

first_of : (net : Network) (blocks rest : List (List ℕ)) (scripts : List Script) → IsNetwork net → SpellsScripts net blocks scripts → ((s : Script) → Contains scripts s → s.general < net.generals) → IsGoing rest → FirstOf (blocks ++ (codes "end" ∷ rest))
unfolding slot_line_of
first_of net blocks rest [] ok h known more =
    subst (λ (ls : List (List ℕ)). FirstOf (ls ++ (codes "end" ∷ rest))) (sym h) (record { fields = codes "end" ∷ []; more = rest; is = refl; cut = end_fields; going = more; no_slot = λ k. refl })
first_of net blocks rest (s ∷ scripts) ok h known more =
    let lt = known s (Contains_here s scripts) in
    let regrouped : blocks ++ (codes "end" ∷ rest) ≡ line_of (said (codes "script") s.general) ∷ ((h.0 ++ h.1) ++ (codes "end" ∷ rest)) = ap (λ (ls : List (List ℕ)). ls ++ (codes "end" ∷ rest)) h.2 in
    record {
      fields = said (codes "script") s.general;
      more = (h.0 ++ h.1) ++ (codes "end" ∷ rest);
      is = regrouped;
      cut = script_fields s.general (omega (arith, lt, ok.ranges.few_generals));
      going = going_behind (h.0 ++ h.1) (codes "end") rest;
      no_slot = λ k. refl;
    }

-- the slot, or that there is none
record SlotRead (version : Version) (k : ℕ) (ps : List (List ℕ)) : Type 0 where
  slot : Option ℕ
  line : ℕ
  is_read : slot_at (record { line = k; parts = slot_lines version ++ ps }) ≡ Ok (slot, record { line = line; parts = ps })
  version_is : version_with slot ≡ version

slot_read : (version : Version) (k : ℕ) (ps : List (List ℕ)) → slot_in version ≤ greatest_slot → FirstOf ps → SlotRead version k ps
slot_read One k ps known f = record {
  slot = None;
  line = k;
  is_read = subst (λ (ls : List (List ℕ)). slot_at (record { line = k; parts = ls }) ≡ Ok (None, record { line = k; parts = ls })) (sym f.is) (no_slot k f.fields f.more f.cut f.going (f.no_slot k));
  version_is = refl;
}
slot_read (Two u) k ps known f = record {
  slot = Some u;
  line = k + 1;
  is_read = slot_again k u ps known (subst IsGoing (sym f.is) (going_behind [] (line_of f.fields) f.more));
  version_is = refl;
}

-- the lines from that of the slot on are those of the scenario, and these parts follow
pub record SignedRead (plain : Plain) (s : Scenario) (k : ℕ) (ps rest : List (List ℕ)) : Type 0 where
  pub line : ℕ
  pub is_read : signed_at plain s.master (record { line = k; parts = ps }) ≡ Ok (s, record { line = line; parts = rest })

of_parts : (b : Blocks) (rest : List (List ℕ)) → b.after.parts ≡ rest → b.after ≡ record { line = b.after.line; parts = rest }
of_parts b rest e = ap (λ (ps : List (List ℕ)). record { line = b.after.line; parts = ps }) e

pub signed_read : (plain : Plain) (s : Scenario) (k : ℕ) (blocks rest : List (List ℕ)) → s.net ≡ plain.net → s.order ≡ plain.order → SpellsScripts s.net blocks s.scripts → IsScenario s → IsGoing rest
    → SignedRead plain s k (slot_lines s.version ++ (blocks ++ (codes "end" ∷ rest))) rest
unfolding signed_at
signed_read plain s k blocks rest net order spells lawful going =
    let slot = slot_read s.version k (blocks ++ (codes "end" ∷ rest)) lawful.slot (first_of s.net blocks rest s.scripts lawful.network spells lawful.known going) in
    let a = blocks_again s.net slot.line blocks rest s.scripts lawful.network spells lawful.known lawful.ascending going in
    let read : blocks_at plain.net None slot.line (blocks ++ (codes "end" ∷ rest)) ≡ Ok a.read = subst (λ (n : Network). blocks_at n None slot.line (blocks ++ (codes "end" ∷ rest)) ≡ Ok a.read) net a.is_read in
    let tested : all_scripted (scripted a.read.scripts) a.read.paths ≡ Ok tt =
    subst (λ (ss : List Script). all_scripted (scripted ss) a.read.paths ≡ Ok tt) (sym a.scripts_are) (a.tested (scripted s.scripts) (λ it among. absurd (Contains_nil it among)) (λ x it one among. lawful.signers x it one among)) in
    let same : record { version = version_with slot.slot; net = plain.net; master = s.master; order = plain.order; scripts = a.read.scripts } ≡ s =
    ap (λ (v : Version). record { version = v; net = plain.net; master = s.master; order = plain.order; scripts = a.read.scripts }) slot.version_is
    ∙ ap (λ (n : Network). record { version = s.version; net = n; master = s.master; order = plain.order; scripts = a.read.scripts }) (sym net)
    ∙ ap (λ (o : ℕ). record { version = s.version; net = s.net; master = s.master; order = o; scripts = a.read.scripts }) (sym order)
    ∙ ap (λ (ss : List Script). record { version = s.version; net = s.net; master = s.master; order = s.order; scripts = ss }) a.scripts_are in
    record { line = a.read.after.line; is_read = rw (slot.is_read, read, tested, same, of_parts a.read rest a.after_is) refl }

signed_tail : (plain : Plain) (s : Scenario) (k : ℕ) (keys : List (List ℕ)) → s.net ≡ plain.net → s.order ≡ plain.order → SpellsSigned keys s → TailOf plain k (keys ++ last) (texts.Signed s)
unfolding told_at
signed_tail plain s k keys net order h =
    let behind : List (List ℕ) = slot_lines s.version ++ (h.blocks ++ last) in
    let regrouped : keys ++ last ≡ line_of (seed_fields h.digits) ∷ behind =
    ap (λ (ls : List (List ℕ)). ls ++ last) h.lines_are ∙ ap (λ (ls : List (List ℕ)). line_of (seed_fields h.digits) ∷ ls) (append_assoc (slot_lines s.version) h.blocks last) in
    let going : IsGoing behind = subst IsGoing (append_assoc (slot_lines s.version) h.blocks last) (going_behind (slot_lines s.version ++ h.blocks) (codes "end") ([] ∷ [])) in
    let r = signed_read plain s (k + 1) h.blocks ([] ∷ []) net order h.scripts h.lawful refl in
    record {
      seed = (Some s.master, record { line = k + 1; parts = behind });
      seed_is = subst (λ (ls : List (List ℕ)). seed_at (record { line = k; parts = ls }) ≡ Ok (Some s.master, record { line = k + 1; parts = behind })) (sym regrouped) (seed_again k h.digits s.master behind h.width h.seed going);
      line = r.line;
      told_is = rw r.is_read refl;
    }

tail_again : (plain : Plain) (told : ScenarioText) (k : ℕ) (keys : List (List ℕ)) → net_of told ≡ plain.net → order_of told ≡ plain.order → SpellsKeys keys told → TailOf plain k (keys ++ last) told
tail_again plain (texts.Plain p) k keys net order h =
    let same : p ≡ plain = ap (λ (n : Network). record { net = n; order = p.order }) net ∙ ap (λ (o : ℕ). record { net = plain.net; order = o }) order in
    subst (λ (ls : List (List ℕ)). TailOf plain k (ls ++ last) (texts.Plain p)) (sym h) (subst (λ (q : Plain). TailOf plain k last (texts.Plain q)) (sym same) (plain_tail plain k))
tail_again plain (texts.Signed s) k keys net order h = signed_tail plain s k keys net order h

-- ---- the text

pub append_lines : (xs ys : List (List ℕ)) → AllByRecursion IsLine xs → AllByRecursion IsLine ys → AllByRecursion IsLine (xs ++ ys)
append_lines [] ys h k = k
append_lines (x ∷ xs) ys h k = (h.0, append_lines xs ys h.1 k)

slot_is_line : (version : Version) → slot_in version ≤ greatest_slot → AllByRecursion IsLine (slot_lines version)
slot_is_line One known = tt
slot_is_line (Two u) known = ((slot_line u known).line, tt)

pub keys_are_lines : (told : ScenarioText) (keys : List (List ℕ)) → SpellsKeys keys told → AllByRecursion IsLine keys
keys_are_lines (texts.Plain p) keys h = subst (AllByRecursion IsLine) (sym h) tt
keys_are_lines (texts.Signed s) keys h =
    subst (AllByRecursion IsLine) (sym h.lines_are) ((seed_line h.digits s.master h.width h.seed).line, append_lines (slot_lines s.version) h.blocks (slot_is_line s.version h.lawful.slot) (blocks_are_lines s.net h.blocks s.scripts h.lawful.network h.scripts h.lawful.known))

pub scenario_again : (text : List ℕ) (told : ScenarioText) → SpellsScenario text told → scenario_of text ≡ Ok told
unfolding scenario_of
scenario_again text told s =
    let front : List (List ℕ) = map line_of (given_lines s.given) in
    let plain : Plain = record { net = net_of told; order = s.given.order } in
    let each : AllByRecursion IsLine (front ++ (s.keys ++ codes "end" ∷ [])) =
    append_lines front (s.keys ++ codes "end" ∷ []) (given_are_lines s.given s.bytes) (append_lines s.keys (codes "end" ∷ []) (keys_are_lines told s.keys s.keys_are) (end_fields.line, tt)) in
    let all : parts text ≡ front ++ (s.keys ++ last) =
    ap parts s.text_is ∙ parts_again (front ++ (s.keys ++ codes "end" ∷ [])) each ∙ append_assoc front (s.keys ++ codes "end" ∷ []) ([] ∷ []) ∙ ap (λ (ls : List (List ℕ)). front ++ ls) (append_assoc s.keys (codes "end" ∷ []) ([] ∷ [])) in
    let known : s.given.order < (net_of told).orders = subst (λ (o : ℕ). o < (net_of told).orders) (sym s.order) s.known in
    let p = plain_again 1 s.given (net_of told) (s.keys ++ last) s.bytes s.network known (going_behind s.keys (codes "end") ([] ∷ [])) in
    let t = tail_again plain told p.0 s.keys refl (sym s.order) s.keys_are in
    rw (all, p.1, t.seed_is, t.told_is) refl
