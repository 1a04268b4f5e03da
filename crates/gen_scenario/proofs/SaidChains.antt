-- The chains of SIGNs and SENDs, of traitors too, are good ones of their round, of which the general is the last signer.
use Rattle.std.proofs.Common.{◌≡◌, ◌<◌, inl, inr, ℕ, suc, ◌+◌, ◌-◌, true, not, List, [], ◌∷◌, ◌++◌, filter, length, Contains, sym, ap, subst, ◌∙◌, append_assoc, arith, eqb, length-append, Option, Some, None, refl}
use Rattle.std.proofs.lemmas.Bool.{eqb-true}
use Rattle.gen_types.proofs.Lists.{Contains_cases, Contains_nil, Contains_flat_mapped, Contains_filtered}
use Rattle.gen_script.specs.declared.lines.ScriptLine.TheVariants.{Make, Pass, Bend, Raw, Hide, TwoHeads}
use Rattle.gen_chain.specs.Chain.{Chain, signed_path}
use Rattle.gen_types.specs.Ends.{EndsWith, is_among}
use Rattle.gen_scenario.specs.declared.heard.Heard.{Heard}
use Rattle.gen_scenario.proofs.GoodChains.{IsGood, lengthened_path, made_path}
use Rattle.gen_script.specs.Line.{IsPathTo}
use Rattle.gen_scenario.specs.Scenario.{IsScenario, Scenario, script_of}
use Rattle.gen_script.specs.declared.lines.ScriptLine.{ScriptLine}
use Rattle.gen_scenario.proofs.FollowerFrames.{are_signed, signs_of}
use Rattle.gen_chain.proofs.TestedChains.{both}
use Rattle.gen_scenario.specs.SignedWorld.{heard_by, keys_of, sender_of}
use Rattle.gen_scenario.specs.Frames.{is_for, signed_by_line}
use Rattle.gen_scenario.specs.RoundEntries.{is_in, signs_by, sends_by}
use Rattle.gen_scenario.specs.Signing.{made}
use Rattle.gen_scenario.proofs.TraitorFrames.{made_by_line, passed_on}
use Rattle.gen_scenario.proofs.LogParts.{signs_in, sends_in}
use Rattle.gen_scenario.proofs.ScriptsOf.{lines_of, lawful_line, has_line}

pub record SaidFacts (s : Scenario) (g j : ℕ) (c : Chain) : Type 0 where
  pub good : IsGood s c
  pub long : length (signed_path c.signers) ≡ suc j
  pub last : EndsWith (signed_path c.signers) g

line_facts : (s : Scenario) → IsScenario s → (g j : ℕ) (line : ScriptLine) → Contains (lines_of s.scripts g) line → is_in (suc j) line ≡ true → (c : Chain) → Contains (signed_by_line (keys_of s) (heard_by s j g) line) c → SaidFacts s g j c
line_facts s ok g j (Make round to order path) mem now c h =
    let lawful = lawful_line s ok g (Make round to order path) mem in
    let p : IsPathTo s.net g path = lawful.3 in
    let at : round ≡ suc j = eqb-true _ _ now in
    let long : length path ≡ suc j = lawful.5 ∙ at in
    let same : made (keys_of s) order path ≡ c = elim (Contains_cases (made (keys_of s) order path) c [] h) [ inl e ↦ e | inr none ↦ absurd (Contains_nil c none) ] in
    let path-is : signed_path c.signers ≡ path = ap (λ (k : Chain). signed_path k.signers) (sym same) ∙ made_path (keys_of s) order path in
    record {
      good = subst (IsGood s) same (made_by_line s ok g order path lawful.2 p lawful.4);
      long = ap length path-is ∙ long;
      last = (p.last.0, path-is ∙ p.last.1);
    }
line_facts s ok g j (Pass round to from order path) mem now c h =
    let lawful = lawful_line s ok g (Pass round to from order path) mem in
    let p : IsPathTo s.net g path = lawful.4 in
    let at : round ≡ suc j = eqb-true _ _ now in
    let short : length path < round = lawful.6 in
    let on = passed_on s ok g j (round - length path) from order path c p.known p.distinct h in
    let path-is : signed_path c.signers ≡ signed_path on.x.chain.signers ++ path = ap (λ (k : Chain). signed_path k.signers) on.is ∙ lengthened_path (keys_of s) on.x.chain path in
    let total : length (signed_path c.signers) ≡ length (signed_path on.x.chain.signers) + length path = ap length path-is ∙ length-append (signed_path on.x.chain.signers) path in
    record {
      good = on.good;
      long = omega (arith, total, on.long, at, short);
      last = (signed_path on.x.chain.signers ++ p.last.0, path-is ∙ ap (λ (q : List ℕ). signed_path on.x.chain.signers ++ q) p.last.1 ∙ sym (append_assoc (signed_path on.x.chain.signers) p.last.0 (g ∷ [])));
    }
line_facts s ok g j (Bend round to from order) mem now c h = absurd (Contains_nil c h)
line_facts s ok g j (Raw round to parcel) mem now c h = absurd (Contains_nil c h)
line_facts s ok g j (Hide round from order) mem now c h = absurd (Contains_nil c h)
line_facts s ok g j TwoHeads mem now c h = absurd (Contains_nil c h)

for_in : (s : Scenario) (heard : List Heard) (at to : ℕ) (line : ScriptLine) (c : Chain) → is_for at to line ≡ true → Contains (signed_by_line (keys_of s) heard line) c → is_in at line ≡ true
for_in s heard at to (Make round t order path) c e h = (both (eqb round at) (eqb t to) e).0
for_in s heard at to (Pass round t from order path) c e h = (both (eqb round at) (eqb t to) e).0
for_in s heard at to (Bend round t from order) c e h = absurd (Contains_nil c h)
for_in s heard at to (Raw round t parcel) c e h = absurd (Contains_nil c h)
for_in s heard at to (Hide round from order) c e h = absurd (Contains_nil c h)
for_in s heard at to TwoHeads c e h = absurd (Contains_nil c h)

signed_facts : (s : Scenario) → IsScenario s → (g j : ℕ) → g < s.net.generals → (c : Chain) → Contains (signs_of s g j) c → SaidFacts s g j c
signed_facts s ok g j known c h = let all = are_signed s ok g j known in record { good = all.good c h; long = all.long c h; last = all.last c h }

signs_by_facts : (s : Scenario) → IsScenario s → (g j : ℕ) → g < s.net.generals → (o : Option (List ScriptLine)) → script_of s.scripts g ≡ o → (c : Chain) → Contains (signs_by (sender_of s g) o (heard_by s j g) (suc j)) c → SaidFacts s g j c
signs_by_facts s ok g j known None e c h = signed_facts s ok g j known c h
signs_by_facts s ok g j known (Some lines) e c h =
    let r = Contains_flat_mapped (signed_by_line (keys_of s) (heard_by s j g)) (filter (is_in (suc j)) lines) c h in
    let k = Contains_filtered (is_in (suc j)) lines r.0 r.1 in
    line_facts s ok g j r.0 (has_line s.scripts g lines e r.0 k.0) k.1 c r.2

pub signs_facts : (s : Scenario) → IsScenario s → (g j : ℕ) → g < s.net.generals → (c : Chain) → Contains (signs_in s g j) c → SaidFacts s g j c
unfolding signs_in
signs_facts s ok g j known c h = signs_by_facts s ok g j known (script_of s.scripts g) refl c h

sends_by_facts : (s : Scenario) → IsScenario s → (g j to : ℕ) → g < s.net.generals → (o : Option (List ScriptLine)) → script_of s.scripts g ≡ o → (c : Chain) → Contains (sends_by (sender_of s g) o (heard_by s j g) (suc j) to) c → SaidFacts s g j c
sends_by_facts s ok g j to known None e c h = signed_facts s ok g j known c (Contains_filtered (λ (k : Chain). not (is_among (signed_path k.signers) to)) (signs_of s g j) c h).0
sends_by_facts s ok g j to known (Some lines) e c h =
    let r = Contains_flat_mapped (signed_by_line (keys_of s) (heard_by s j g)) (filter (is_for (suc j) to) lines) c h in
    let k = Contains_filtered (is_for (suc j) to) lines r.0 r.1 in
    line_facts s ok g j r.0 (has_line s.scripts g lines e r.0 k.0) (for_in s (heard_by s j g) (suc j) to r.0 c k.1 r.2) c r.2

pub sends_facts : (s : Scenario) → IsScenario s → (g j to : ℕ) → g < s.net.generals → (c : Chain) → Contains (sends_in s g j to) c → SaidFacts s g j c
unfolding sends_in
sends_facts s ok g j to known c h = sends_by_facts s ok g j to known (script_of s.scripts g) refl c h
