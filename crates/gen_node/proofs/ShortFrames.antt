-- The frames of a general without a script have a spelling: they have few parcels, and these are short.
use Rattle.std.proofs.Common.{◌≡◌, ◌<◌, ◌≤◌, ◌+◌, ◌*◌, ◌^◌, ℕ, not, List, [], ◌∷◌, map, length, Contains, All, refl, sym, ap, subst, ◌∙◌, arith, length-append, eqb, inl, inr, Option, Some, None}
use Rattle.std.specs.Prelude.{IfSome}
use Rattle.std.specs.List.{flat_map, range_with_len}
use Rattle.std.proofs.lemmas.List.{length-map}
use Rattle.std.proofs.lemmas.List.Concat.{flat_map-cons}
use Rattle.std.proofs.lemmas.List.FromFn.{length-range_with_len}
use Rattle.std.proofs.lemmas.List.Sums.{count_by-le-length, length-filter}
use Rattle.gen_types.proofs.Lists.{All_of, Contains_mapped, bool_cases}
use Rattle.gen_types.specs.Ends.{is_among}
use Rattle.gen_types.specs.declared.heights.TreeHeight.{TreeHeight}
use Rattle.gen_types.specs.declared.heights.TreeHeight.TheVariants.{Four, Six}
use Rattle.gen_tree.specs.Sizes.{signature_length}
use Rattle.gen_net.specs.Header.{IsHeader, RunHeader, height_of}
use Rattle.gen_net.specs.Network.{rounds}
use Rattle.gen_chain.specs.declared.chains.Signer.{Signer}
use Rattle.gen_chain.specs.Chain.{AreSignatures, Chain, IsSignedChain, chain_spelling, signed_path, signer_spelling, signers_length}
use Rattle.gen_log.specs.Writing.{LogWriter}
use Rattle.gen_scenario.specs.declared.heard.Heard.{Heard}
use Rattle.gen_scenario.specs.Frames.{followers_frame, frame_of, outside_of, relayed, relays_in, signed_in}
use Rattle.gen_scenario.specs.Heard.{first_of, round_of}
use Rattle.gen_scenario.specs.RoundEntries.{sends_by}
use Rattle.gen_scenario.specs.Signing.{Keys}
use Rattle.gen_scenario.proofs.VerifiedLogs.{flat_most, suc_times}
use Rattle.gen_general.specs.Loops.Journals.{IsHeardOf, IsRecord}
use Rattle.gen_general.specs.Participant.{Participant, sender_at, sends}
use Rattle.gen_general.proofs.JournalFits.{Acts, IsOfRound, sends_of_round}
use Rattle.gen_general.proofs.JournalRecvs.{keys_header}
use Rattle.gen_node.specs.Frame.{IsParcel}

-- ---- how long a chain is

small_signature : (height : TreeHeight) → signature_length height ≤ 16576
small_signature Four = omega arith
small_signature Six = omega arith

short_signers : (height : TreeHeight) (signers : List Signer) → AreSignatures height signers → signers_length signers ≤ length signers * 16577
short_signers height [] all = omega arith
short_signers height (t ∷ signers) all = omega (arith, ap length (flat_map-cons signer_spelling t signers), length-append (signer_spelling t) (flat_map signer_spelling signers), all.0, small_signature height, short_signers height signers all.1, suc_times (length signers) 16577)

short_chain : (height : TreeHeight) (c : Chain) → IsSignedChain height c → IsParcel (chain_spelling c)
short_chain height c is = omega (arith, short_signers height c.signers is.wide, is.few)

-- ---- what he sends

acts_alone : (p : Participant) (log : LogWriter) → p.known.script ≡ None → IsRecord p log → Acts (sender_at p) p.before
acts_alone p log none is =
    let same : p.known.header ≡ (sender_at p).keys.header = sym (keys_header p.known p.ring) in
    record {
      header = subst IsHeader same is.known.header;
      me = subst (λ (h : RunHeader). p.known.me < h.network.generals) same is.known.me;
      own = subst (λ (h : RunHeader). IfSome p.known.own (λ order. order < h.network.orders)) same is.known.own;
      commander = is.known.commander.0;
      told = subst (λ (h : RunHeader). (x : Heard) → Contains p.before x → IsHeardOf h p.known.me x) same is.before;
      lines = λ lines e line h. let both : None ≡ Some lines = sym none ∙ e in absurd cc;
    }

pub frame_is : (p : Participant) (to : ℕ) → p.known.script ≡ None → sends p to ≡ map chain_spelling (sends_by (sender_at p) None p.before p.round to)
unfolding frame_of followers_frame
frame_is p to none = rw none refl

pub chain_of_round : (p : Participant) (log : LogWriter) (to : ℕ) → p.known.script ≡ None → IsRecord p log → (c : Chain) → Contains (sends_by (sender_at p) None p.before p.round to) c → IsOfRound (sender_at p).keys.header p.round c
chain_of_round p log to none is c h =
    let low = subst (λ (head : RunHeader). p.round ≤ rounds head.network) (sym (keys_header p.known p.ring)) is.low in
    (sends_of_round (sender_at p) p.before p.round to (acts_alone p log none is) low None none c h)

pub short_parcels : (p : Participant) (log : LogWriter) (to : ℕ) → p.known.script ≡ None → IsRecord p log → All IsParcel (sends p to)
short_parcels p log to none is =
    let cs = sends_by (sender_at p) None p.before p.round to in
    let height = height_of (sender_at p).keys.header in
    subst (All IsParcel) (sym (frame_is p to none)) (All_of IsParcel (map chain_spelling cs) (λ parcel k.
    let m = Contains_mapped chain_spelling cs parcel k in
    subst IsParcel m.2 (short_chain height m.0 (chain_of_round p log to none is m.0 m.1).fits.chain)))

-- ---- how many parcels there are

one_relay : (k : Keys) (me round : ℕ) (r : Option Heard) → length (relayed k me round r) ≤ 1
one_relay k me round None = omega arith
one_relay k me round (Some x) = elim (bool_cases (eqb (round_of x + 1) round)) [
  | inl now ↦ rw now (omega arith)
  | inr other ↦ rw other (omega arith)
]

few_signed : (k : Keys) (me : ℕ) (own : Option ℕ) (heard : List Heard) (round : ℕ) → 1 ≤ k.header.network.orders → length (signed_in k me own heard round) ≤ k.header.network.orders
unfolding relays_in
few_signed k me None heard round some =
    let all = range_with_len 0 k.header.network.orders in
    omega (arith, flat_most (λ order. relayed k me round (first_of order heard)) 1 all (λ order. one_relay k me round (first_of order heard)), length-range_with_len 0 k.header.network.orders)
few_signed k me (Some order) heard round some = elim (bool_cases (eqb round 1)) [
  | inl first ↦ rw first some
  | inr other ↦ rw other (omega arith)
]

pub a_parcel_an_order : (p : Participant) (log : LogWriter) (to : ℕ) → p.known.script ≡ None → IsRecord p log → length (sends p to) ≤ p.known.header.network.orders
a_parcel_an_order p log to none is =
    let k : Keys = (sender_at p).keys in
    let signed : List Chain = signed_in k p.known.me p.known.own p.before p.round in
    let test = λ (c : Chain). not (is_among (signed_path c.signers) to) in
    let orders : k.header.network.orders ≡ p.known.header.network.orders = ap (λ (h : RunHeader). h.network.orders) (keys_header p.known p.ring) in
    let some : 1 ≤ k.header.network.orders = omega (arith, orders, is.known.header.network.ranges.some_orders) in
    omega (arith, ap length (frame_is p to none), length-map (outside_of to signed) chain_spelling, length-filter test signed, count_by-le-length test signed, few_signed k p.known.me p.known.own p.before p.round some, orders)

pub few_parcels : (p : Participant) (log : LogWriter) (to : ℕ) → p.known.script ≡ None → IsRecord p log → length (sends p to) < 2 ^ 16
few_parcels p log to none is = omega (arith, a_parcel_an_order p log to none is, is.known.header.network.ranges.few_orders)
