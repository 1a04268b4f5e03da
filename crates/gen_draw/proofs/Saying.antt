-- What shown logs say, as lists and as entries of logs.
use Rattle.std.proofs.Common.{ℕ, ◌≡◌, ◌⊎◌, List, [], ◌∷◌, Result, Ok, Err, sym, ◌∙◌, ap, refl, subst, inl, inr}
use Rattle.std.specs.Prelude.{Contains}
use Rattle.std.specs.List.{flat_map}
use Rattle.gen_types.proofs.Lists.{Contains_here, Contains_cases, Contains_nil, Contains_flat_mapped}
use Rattle.gen_net.specs.Header.{RunHeader}
use Rattle.gen_net.specs.declared.message.Message.{Message}
use Rattle.gen_chain.specs.Chain.{Chain, signed_path}
use Rattle.gen_log.specs.declared.entries.Entry.{Entry}
use Rattle.gen_log.specs.declared.entries.Entry.TheVariants.{Start, Sign, Send, Recv, Decide}
use Rattle.gen_log.specs.declared.fault.LogFault.{LogFault}
use Rattle.gen_log.specs.Log.{RunLog}
use Rattle.gen_log.specs.LogReading.{log_of}
use Rattle.gen_log.specs.Writing.{LogBytes}
use Rattle.gen_draw.specs.Shown.{all_received, all_sent, entries_in, entries_of, received_by, received_in, sent_by, sent_in}
use Rattle.gen_draw.specs.Drawing.{HasEntry, SaysReceived, SaysSent}
use Rattle.gen_draw.proofs.Between.{contains_among}

-- an entry of what was read stands in a log
in_log : (r : Result RunLog LogFault) (entry : Entry) → Contains (entries_in r) entry → (log : RunLog) × (r ≡ Ok log) × Contains log.entries entry
in_log (Ok log) entry c = (log, refl, c)
in_log (Err fault) entry c = absurd (Contains_nil entry c)

-- a message that an entry says was sent is that of a SEND
of_send : (general : ℕ) (entry : Entry) (m : Message) → Contains (sent_by general entry) m → (general ≡ m.from) × (entry ≡ Send m.to m.order m.path)
of_send general (Send to order path) m c = elim (Contains_cases (record { from = general; to = to; order = order; path = path }) m [] c) [
  | inl e ↦ (ap (λ (x : Message). x.from) e, ap (λ (x : Message). Send x.to x.order x.path) e)
  | inr none ↦ absurd (Contains_nil m none)
]
of_send general (Start g own) m c = absurd (Contains_nil m c)
of_send general (Sign order path signature) m c = absurd (Contains_nil m c)
of_send general (Recv from chain) m c = absurd (Contains_nil m c)
of_send general (Decide orders order) m c = absurd (Contains_nil m c)

-- one that it says was received is that of a RECV
pub record IsReceived (general : ℕ) (entry : Entry) (m : Message) : Type 0 where
  pub whose : general ≡ m.to
  pub chain : Chain
  pub order : chain.order ≡ m.order
  pub path : signed_path chain.signers ≡ m.path
  pub is : entry ≡ Recv m.from chain

of_receipt : (general : ℕ) (entry : Entry) (m : Message) → Contains (received_by general entry) m → IsReceived general entry m
of_receipt general (Recv from chain) m c = elim (Contains_cases (record { from = from; to = general; order = chain.order; path = signed_path chain.signers }) m [] c) [
  | inl e ↦ record { whose = ap (λ (x : Message). x.to) e; chain = chain; order = ap (λ (x : Message). x.order) e; path = ap (λ (x : Message). x.path) e; is = ap (λ (x : Message). Recv x.from chain) e }
  | inr none ↦ absurd (Contains_nil m none)
]
of_receipt general (Start g own) m c = absurd (Contains_nil m c)
of_receipt general (Sign order path signature) m c = absurd (Contains_nil m c)
of_receipt general (Send to order path) m c = absurd (Contains_nil m c)
of_receipt general (Decide orders order) m c = absurd (Contains_nil m c)

-- what was told as sent is said by a log
pub sent_is_said : (h : RunHeader) (exhibits : List LogBytes) (m : Message) → Contains (all_sent h exhibits) m → SaysSent h exhibits m
unfolding sent_in
sent_is_said h exhibits m c =
    let shown = Contains_flat_mapped (sent_in h) exhibits m c in
    let told = Contains_flat_mapped (sent_by shown.0.general) (entries_of h shown.0) m shown.2 in
    let is = of_send shown.0.general told.0 m told.2 in
    let log = in_log (log_of h shown.0.bytes) told.0 told.1 in
    record { exhibit = shown.0; shown = shown.1; whose = is.0; log = log.0; reads = log.1; entry_of = subst (λ e. Contains log.0.entries e) is.1 log.2 }

pub received_is_said : (h : RunHeader) (exhibits : List LogBytes) (m : Message) → Contains (all_received h exhibits) m → SaysReceived h exhibits m
unfolding received_in
received_is_said h exhibits m c =
    let shown = Contains_flat_mapped (received_in h) exhibits m c in
    let told = Contains_flat_mapped (received_by shown.0.general) (entries_of h shown.0) m shown.2 in
    let is = of_receipt shown.0.general told.0 m told.2 in
    let log = in_log (log_of h shown.0.bytes) told.0 told.1 in
    record {
      chain = is.chain;
      order = is.order;
      path = is.path;
      received = record { exhibit = shown.0; shown = shown.1; whose = is.whose; log = log.0; reads = log.1; entry_of = subst (λ e. Contains log.0.entries e) is.is log.2 };
    }

-- and what a log says is told
pub said_is_sent : (h : RunHeader) (exhibits : List LogBytes) (m : Message) → SaysSent h exhibits m → Contains (all_sent h exhibits) m
unfolding sent_in
said_is_sent h exhibits m says =
    let entry : Contains (entries_of h says.exhibit) (Send m.to m.order m.path) = subst (λ r. Contains (entries_in r) (Send m.to m.order m.path)) (sym says.reads) says.entry_of in
    let whose : Contains (sent_by says.exhibit.general (Send m.to m.order m.path)) m = subst (λ g. Contains (sent_by g (Send m.to m.order m.path)) m) (sym says.whose) (Contains_here m []) in
    contains_among (sent_in h) exhibits says.exhibit m says.shown (contains_among (sent_by says.exhibit.general) (entries_of h says.exhibit) (Send m.to m.order m.path) m entry whose)

pub said_is_received : (h : RunHeader) (exhibits : List LogBytes) (m : Message) → SaysReceived h exhibits m → Contains (all_received h exhibits) m
unfolding received_in
said_is_received h exhibits m says =
    let of : HasEntry h exhibits m.to (Recv m.from says.chain) = says.received in
    let entry : Contains (entries_of h of.exhibit) (Recv m.from says.chain) = subst (λ r. Contains (entries_in r) (Recv m.from says.chain)) (sym of.reads) of.entry_of in
    let told : Message = record { from = m.from; to = of.exhibit.general; order = says.chain.order; path = signed_path says.chain.signers } in
    let same : told ≡ m = λ i. record { from = m.from; to = of.whose i; order = says.order i; path = says.path i } in
    let whose : Contains (received_by of.exhibit.general (Recv m.from says.chain)) m = subst (λ w. Contains (told ∷ []) w) same (Contains_here told []) in
    contains_among (received_in h) exhibits of.exhibit m of.shown (contains_among (received_by of.exhibit.general) (entries_of h of.exhibit) (Recv m.from says.chain) m entry whose)
