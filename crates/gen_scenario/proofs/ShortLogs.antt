-- Every log of a scenario is shorter than 2^32 bytes: it has at most 7,922 entries, each of at most 265,236 bytes.
use Rattle.std.proofs.Common.{◌≡◌, ◌<◌, ◌≤◌, refl, ap, inl, inr, ℕ, ◌*◌, ◌^◌, List, [], ◌∷◌, ◌++◌, length, Contains, subst, arith, length-append}
use Rattle.std.specs.List.{flat_map, list_any, AllByRecursion}
use Rattle.std.specs.Int.{w64, to_be_bytes}
use Rattle.std.proofs.lemmas.List.Concat.{flat_map-cons}
use Rattle.gen_types.specs.declared.heights.TreeHeight.{TreeHeight}
use Rattle.gen_types.specs.declared.heights.TreeHeight.TheVariants.{Four, Six}
use Rattle.gen_types.proofs.Lists.{Contains_cases, Contains_nil, bool_cases}
use Rattle.gen_tree.specs.Sizes.{signature_length}
use Rattle.gen_net.specs.Header.{RunHeader, height_of}
use Rattle.gen_net.specs.Network.{IsNetwork}
use Rattle.gen_chain.specs.declared.chains.Signer.{Signer}
use Rattle.gen_chain.specs.Chain.{Chain, IsSignedChain, AreSignatures, chain_length, signer_spelling, signers_length}
use Rattle.gen_log.specs.declared.entries.Entry.{Entry}
use Rattle.gen_log.specs.declared.entries.Entry.TheVariants.{Start, Sign, Send, Recv, Decide}
use Rattle.gen_log.specs.Entry.{IsEntryOf, entry_spelling}
use Rattle.gen_log.specs.Log.{RunLog, IsLog, log_spelling}
use Rattle.gen_log.specs.Path.{path_spelling}
use Rattle.gen_scenario.specs.LogsVerify.{AllShort}
use Rattle.gen_scenario.specs.Scenario.{IsScenario, Scenario, header_of}
use Rattle.gen_scenario.specs.SignedWorld.{own_order, keys_of, sender_of}
use Rattle.gen_scenario.specs.WorldLogs.{decide_entry, entries_over, has_two_heads, log_with, logs_over, without_last_recv}
use Rattle.gen_scenario.proofs.LogParts.{middle_in, middle_parts}
use Rattle.gen_scenario.proofs.ScriptsOf.{lines_of}
use Rattle.gen_scenario.proofs.VerifiedLogs.{all_verify, few_middle, shorter_few, suc_times}

-- ---- how long an entry is

small_signature : (height : TreeHeight) → signature_length height ≤ 16576
small_signature Four = omega arith
small_signature Six = omega arith

short_signers : (height : TreeHeight) (signers : List Signer) → AreSignatures height signers → signers_length signers ≤ length signers * 16577
short_signers height [] all = omega arith
short_signers height (t ∷ signers) all = omega (arith, ap length (flat_map-cons signer_spelling t signers), length-append (signer_spelling t) (flat_map signer_spelling signers), all.0, small_signature height, short_signers height signers all.1, suc_times (length signers) 16577)

short_chain : (height : TreeHeight) (c : Chain) → IsSignedChain height c → chain_length c ≤ 265234
short_chain height c is = omega (arith, short_signers height c.signers is.wide, is.few)

short_entry : (h : RunHeader) → IsNetwork h.network → (e : Entry) → IsEntryOf h e → length (entry_spelling e) ≤ 265236
short_entry h net (Start general own) is = omega arith
short_entry h net (Sign order path signature) is = omega (arith, length-append (path_spelling path) signature, is.1.few, net.ranges.few_rounds, is.2, small_signature (height_of h))
short_entry h net (Send to order path) is = omega (arith, is.2.few, net.ranges.few_rounds)
short_entry h net (Recv from chain) is = omega (arith, short_chain (height_of h) chain is.1.chain)
short_entry h net (Decide orders order) is = omega arith

short_entries : (h : RunHeader) → IsNetwork h.network → (entries : List Entry) → AllByRecursion (IsEntryOf h) entries → length (flat_map entry_spelling entries) ≤ length entries * 265236
short_entries h net [] all = omega arith
short_entries h net (e ∷ entries) all = omega (arith, ap length (flat_map-cons entry_spelling e entries), length-append (entry_spelling e) (flat_map entry_spelling entries), short_entry h net e all.0, short_entries h net entries all.1, suc_times (length entries) 265236)

-- ---- how long a log is

short_log : (h : RunHeader) → IsNetwork h.network → (log : RunLog) → IsLog h log → length log.entries ≤ 7922 → length (log_spelling log) < 2 ^ 32
short_log h net log is few =
    let count : List ℕ = to_be_bytes w64 (length log.entries) in
    let entries : List ℕ = flat_map entry_spelling log.entries in
    let eight : length count ≡ 8 = refl in
    omega (arith, length-append log.run_id (count ++ (entries ++ log.head)), length-append count (entries ++ log.head), length-append entries log.head, is.run_id, eight, short_entries h net log.entries is.entries, few, is.head, small_signature (height_of h))

-- ---- how many entries a log has

few_over : (s : Scenario) → IsScenario s → (g : ℕ) → g < s.net.generals → (mid : List Entry) → length mid ≤ length (middle_in s g) → length (entries_over (sender_of s g) mid) ≤ 7922
few_over s ok g known mid few = omega (arith, length-append mid (decide_entry s.net (own_order s g) mid ∷ []), few, few_middle s ok g known)

few_entries : (s : Scenario) → IsScenario s → (g : ℕ) → g < s.net.generals → (log : RunLog) → Contains (logs_over (sender_of s g) (middle_in s g)) log → length log.entries ≤ 7922
few_entries s ok g known log h =
    let Few : RunLog → Type 0 = λ l. length l.entries ≤ 7922 in
    let over : List Entry → RunLog = λ mid. log_with (keys_of s) g (entries_over (sender_of s g) mid) in
    elim (Contains_cases (over (middle_in s g)) log _ h) [
      | inl first ↦ subst Few first (few_over s ok g known (middle_in s g) (omega arith))
      | inr more ↦ elim (bool_cases (list_any has_two_heads (lines_of s.scripts g))) [
        | inr none ↦ absurd (Contains_nil log (rw none at more))
        | inl some ↦
            let one : Contains (over (without_last_recv (middle_in s g)) ∷ []) log = rw some at more in
            elim (Contains_cases (over (without_last_recv (middle_in s g))) log [] one) [
              | inl second ↦ subst Few second (few_over s ok g known (without_last_recv (middle_in s g)) (shorter_few (middle_in s g)))
              | inr none ↦ absurd (Contains_nil log none)
            ]
      ]
    ]

pub all_short : AllShort
all_short s ok g known log h =
    let few : length log.entries ≤ 7922 = few_entries s ok g known log (subst (λ (mid : List Entry). Contains (logs_over (sender_of s g) mid) log) (middle_parts s g) h) in
    short_log (header_of s) ok.network log (all_verify s ok g known log h).fits_run few
