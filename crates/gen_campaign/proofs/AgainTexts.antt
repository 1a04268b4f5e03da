-- The text of a campaign that is spelled so is read.
use Rattle.std.proofs.Common.{◌≡◌, ℕ, ◌+◌, ◌<◌, ◌≤◌, true, eqb, List, [], ◌∷◌, ◌++◌, map, length, codes, Ok, refl, sym, ap, subst, ◌∙◌, append_assoc, arith}
use Rattle.std.specs.List.{AllByRecursion}
use Rattle.std.proofs.lemmas.Bool.Decides.{nat_tests}
use Rattle.gen_types.proofs.Cutting.{cut_front}
use Rattle.gen_net.specs.declared.version.Version.{Version}
use Rattle.gen_net.specs.declared.version.Version.TheVariants.{One, Two}
use Rattle.gen_net.specs.Network.{Network}
use Rattle.gen_net.specs.NetworkOf.{network_of}
use Rattle.gen_net.specs.Version.{slot_in, greatest_slot}
use Rattle.gen_script.specs.Digits.{SpellsBytes}
use Rattle.gen_scenario.specs.Scenario.{Plain, Scenario}
use Rattle.gen_campaign.specs.Campaign.{IsSecond}
use Rattle.gen_text.specs.declared.scenario_text.ScenarioText.TheVariants as texts
use Rattle.gen_text.specs.Text.{parts}
use Rattle.gen_text.specs.Fields.{line_of, said, edge_line, text_of}
use Rattle.gen_text.specs.CursorReading.{numbered}
use Rattle.gen_text.specs.Scenario.{Given, given_lines, AreBytes, slot_lines, SpellsSigned, SpellsScenario}
use Rattle.gen_text.proofs.Cuts.{has_part}
use Rattle.gen_text.proofs.AgainLines.{word, IsLine, said_line, IsGoing, going_behind, numbered_again}
use Rattle.gen_text.proofs.AgainNumbers.{given_are_lines, plain_again}
use Rattle.gen_text.proofs.AgainKeys.{seed_fields, seed_again, slot_again}
use Rattle.gen_text.proofs.AgainBlocks.{end_fields}
use Rattle.gen_text.proofs.AgainScenario.{append_lines, keys_are_lines, signed_read}
use Rattle.gen_campaign.specs.CampaignText.{HasSlot, SpellsTexts, SpellsCampaignText}
use Rattle.gen_campaign.specs.CampaignTextReading.{has_generals_of, has_seed_of, comes_after, like_plain_at, like_seed_at, later_slot_at, text_at, texts_at, campaign_text_of}
use Rattle.gen_campaign.proofs.FoundTexts.{network_generals}
use Rattle.gen_campaign.proofs.RunCounts.{count_fits}
use Rattle.gen_campaign.proofs.Standing.{Behind, generals_told, seed_told, slot_told, Stand, stand_told}

-- ---- the parts of lines, and of a text behind them

parts_behind : (ls : List (List ℕ)) (rest : List ℕ) → AllByRecursion IsLine ls → parts (text_of ls ++ rest) ≡ ls ++ parts rest
parts_behind [] rest h = refl
parts_behind (l ∷ ls) rest h =
    let regrouped : text_of (l ∷ ls) ++ rest ≡ l ++ 10 ∷ (text_of ls ++ rest) = append_assoc (l ++ 10 ∷ []) (text_of ls) rest ∙ append_assoc l (10 ∷ []) (text_of ls ++ rest) in
    ap parts regrouped ∙ cut_front (λ b. eqb b 10) l 10 (text_of ls ++ rest) h.0.whole refl ∙ ap (λ (r : List (List ℕ)). l ∷ r) (parts_behind ls rest h.1)

going_over : (front more : List (List ℕ)) → IsGoing more → IsGoing (front ++ more)
going_over [] more h = h
going_over (x ∷ front) more h = grind (arith, nat_tests)

-- ---- what a campaign's text looks at

-- the lines of a network's numbers and edges and of the order behind that of the generals
abbrev lines_after : Given → List (List (List ℕ))
lines_after g =
    map edge_line g.edges
    ++ (said (codes "traitors") g.numbers.traitors ∷ said (codes "diameter") g.numbers.diameter ∷ said (codes "orders") g.numbers.orders ∷ said (codes "choice") g.numbers.choice ∷ said (codes "order") g.order ∷ [])

record PlainAgain (before : List Scenario) (k : ℕ) (g : Given) (net : Network) (more : List (List ℕ)) : Type 0 where
  line : ℕ
  is_read : like_plain_at before (record { line = k; parts = map line_of (given_lines g) ++ more }) ≡ Ok (record { net = net; order = g.order }, record { line = line; parts = more })

like_plain_again : (before : List Scenario) (k : ℕ) (g : Given) (net : Network) (more : List (List ℕ)) → AreBytes g → network_of g.numbers g.edges ≡ Ok net → g.order < net.orders → IsGoing more → has_generals_of before g.numbers.generals ≡ true
    → PlainAgain before k g net more
unfolding like_plain_at
like_plain_again before k g net more bytes made known going same =
    let p = plain_again k g net more bytes made known going in
    let behind : List (List ℕ) = map line_of (lines_after g) ++ more in
    let first : numbered (codes "generals") (record { line = k; parts = map line_of (given_lines g) ++ more }) ≡ Ok (record { line = k; value = g.numbers.generals }, record { line = k + 1; parts = behind }) =
    numbered_again k g.numbers.generals (codes "generals") behind (word (codes "generals") refl (omega arith)) bytes.generals (going_over (map line_of (lines_after g)) more going) in
    record { line = p.0; is_read = rw (first, same, p.1) refl }

like_seed_again : (before : List Scenario) (k : ℕ) (digits master : List ℕ) (more : List (List ℕ)) → length digits ≡ 64 → SpellsBytes digits master → IsGoing more → has_seed_of before master ≡ true
    → like_seed_at before (record { line = k; parts = line_of (seed_fields digits) ∷ more }) ≡ Ok (master, record { line = k + 1; parts = more })
unfolding like_seed_at
like_seed_again before k digits master more width h going same = rw (seed_again k digits master more width h going, same) refl

later_again : (before : List Scenario) (k : ℕ) (v : Version) (more : List (List ℕ)) → IsSecond v → slot_in v ≤ greatest_slot → comes_after before (slot_in v) ≡ true → IsGoing more
    → later_slot_at before (record { line = k; parts = slot_lines v ++ more }) ≡ Ok tt
unfolding later_slot_at
later_again before k One more is known later going = absurd is
later_again before k (Two u) more is known later going = rw (slot_again k u more known going, later) refl

-- ---- one text

pub record OneAgain (before : List Scenario) (k : ℕ) (s : Scenario) (text rest : List ℕ) : Type 0 where
  pub line : ℕ
  pub is_read : text_at before (record { line = k; parts = parts (text ++ rest) }) ≡ Ok (s, record { line = line; parts = parts rest })

-- its lines, and what follows them
text_parts : (s : Scenario) (one rest : List ℕ) (sp : SpellsScenario one (texts.Signed s)) → parts (one ++ rest) ≡ map line_of (given_lines sp.given) ++ (sp.keys ++ (codes "end" ∷ parts rest))
text_parts s one rest sp =
    let front : List (List ℕ) = map line_of (given_lines sp.given) in
    let last : List (List ℕ) = codes "end" ∷ [] in
    let each : AllByRecursion IsLine (front ++ (sp.keys ++ last)) =
    append_lines front (sp.keys ++ last) (given_are_lines sp.given sp.bytes) (append_lines sp.keys last (keys_are_lines (texts.Signed s) sp.keys sp.keys_are) (end_fields.line, tt)) in
    ap (λ (t : List ℕ). parts (t ++ rest)) sp.text_is ∙ parts_behind (front ++ (sp.keys ++ last)) rest each
    ∙ append_assoc front (sp.keys ++ last) (parts rest) ∙ ap (λ (ls : List (List ℕ)). front ++ ls) (append_assoc sp.keys last (parts rest))

-- the lines of the keys, and what follows them
keys_parts : (s : Scenario) (keys more : List (List ℕ)) (h : SpellsSigned keys s) → keys ++ more ≡ line_of (seed_fields h.digits) ∷ (slot_lines s.version ++ (h.blocks ++ more))
keys_parts s keys more h =
    ap (λ (ls : List (List ℕ)). ls ++ more) h.lines_are ∙ ap (λ (ls : List (List ℕ)). line_of (seed_fields h.digits) ∷ ls) (append_assoc (slot_lines s.version) h.blocks more)

pub text_again : (before : List Scenario) (k : ℕ) (s : Scenario) (one rest : List ℕ) → SpellsScenario one (texts.Signed s) → HasSlot s → Behind before s → OneAgain before k s one rest
unfolding text_at
text_again before k s one rest sp slot behind =
    let more : List (List ℕ) = codes "end" ∷ parts rest in
    let going : IsGoing (parts rest) = has_part (λ b. eqb b 10) rest in
    let same : has_generals_of before sp.given.numbers.generals ≡ true =
    subst (λ (g : ℕ). has_generals_of before g ≡ true) (network_generals sp.given.numbers sp.given.edges s.net sp.network) (generals_told before s behind) in
    let known : sp.given.order < s.net.orders = subst (λ (o : ℕ). o < s.net.orders) (sym sp.order) sp.known in
    let p = like_plain_again before k sp.given s.net (sp.keys ++ more) sp.bytes sp.network known (going_behind sp.keys (codes "end") (parts rest)) same in
    let h : SpellsSigned sp.keys s = sp.keys_are in
    let tail : List (List ℕ) = slot_lines s.version ++ (h.blocks ++ more) in
    let long : IsGoing tail = subst IsGoing (append_assoc (slot_lines s.version) h.blocks more) (going_behind (slot_lines s.version ++ h.blocks) (codes "end") (parts rest)) in
    let seed : like_seed_at before (record { line = p.line; parts = sp.keys ++ more }) ≡ Ok (s.master, record { line = p.line + 1; parts = tail }) =
    ap (λ (ls : List (List ℕ)). like_seed_at before (record { line = p.line; parts = ls })) (keys_parts s sp.keys more h) ∙ like_seed_again before p.line h.digits s.master tail h.width h.seed long (seed_told before s behind) in
    let later = later_again before (p.line + 1) s.version (h.blocks ++ more) slot h.lawful.slot (slot_told before s behind) (going_behind h.blocks (codes "end") (parts rest)) in
    let plain : Plain = record { net = s.net; order = sp.given.order } in
    let signed = signed_read plain s (p.line + 1) h.blocks (parts rest) refl (sym sp.order) h.scripts h.lawful going in
    record { line = signed.line; is_read = rw (text_parts s one rest sp, p.is_read, seed, later, signed.is_read) refl }

-- ---- texts one after another

record TextsAgain (before : List Scenario) (k : ℕ) (xs : List Scenario) (text : List ℕ) : Type 0 where
  line : ℕ
  is_read : texts_at before (length xs) (record { line = k; parts = parts text }) ≡ Ok (xs, record { line = line; parts = [] ∷ [] })

texts_again : (before : List Scenario) (k : ℕ) (xs : List Scenario) (text : List ℕ) → SpellsTexts text xs → Stand before xs → TextsAgain before k xs text
unfolding texts_at
texts_again before k [] text h s = record { line = k; is_read = rw h refl }
texts_again before k (x ∷ xs) text h s =
    let one = text_again before k x h.0 h.1 h.3 s.0 s.1 in
    let others = texts_again (before ++ x ∷ []) one.line xs h.1 h.4 s.2 in
    record { line = others.line; is_read = rw (h.2, one.is_read, others.is_read) refl }

-- ---- the whole text

pub campaign_again : (text : List ℕ) (runs : List Scenario) → SpellsCampaignText text runs → campaign_text_of text ≡ Ok runs
unfolding campaign_text_of
campaign_again text runs s =
    let small : length runs < 256 = omega (arith, s.lawful.few) in
    let field = word (codes "campaign") refl (omega arith) in
    let line = said_line (codes "campaign") (length runs) field small in
    let all : parts text ≡ line_of (said (codes "campaign") (length runs)) ∷ parts s.behind = ap parts s.text_is ∙ cut_front (λ b. eqb b 10) (line_of (said (codes "campaign") (length runs))) 10 s.behind line.line.whole refl in
    let first = numbered_again 1 (length runs) (codes "campaign") (parts s.behind) field small (has_part (λ b. eqb b 10) s.behind) in
    let t = texts_again [] 2 runs s.behind s.texts_are (stand_told [] runs s.lawful.slots s.lawful.ordered) in
    rw (all, first, count_fits (length runs) s.lawful.some s.lawful.few, t.is_read) refl
