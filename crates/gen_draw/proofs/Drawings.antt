-- Messages stand in a picture exactly where shown logs say so.
use Rattle.std.proofs.Common.{◌≡◌, ◌⊎◌, ◌↔◌, true, false, List, sym, ◌∙◌, ap, inl, inr}
use Rattle.std.specs.Prelude.{Contains}
use Rattle.std.proofs.lemmas.Bool.{cases_Bool}
use Rattle.gen_net.specs.Header.{RunHeader}
use Rattle.gen_net.specs.declared.message.Message.{Message}
use Rattle.gen_log.specs.Writing.{LogBytes}
use Rattle.gen_draw.specs.declared.arrow.Arrow.{Arrow}
use Rattle.gen_draw.specs.declared.arrow.ToldBy.{ToldBy}
use Rattle.gen_draw.specs.declared.arrow.ToldBy.TheVariants.{Both, Sender, Receiver}
use Rattle.gen_draw.specs.Shown.{all_received, all_sent}
use Rattle.gen_draw.specs.Telling.{arrows_between, tells}
use Rattle.gen_draw.specs.Drawing.{DrawsWhatLogsSay, MessagesStandWhereLogsSay, SaysReceived, SaysSent}
use Rattle.gen_draw.proofs.Same.{tells_has, tells_not}
use Rattle.gen_draw.proofs.Between.{Says, as_both, as_sender, as_receiver, arrow_says, received_alone, sent_alone, sent_both}
use Rattle.gen_draw.proofs.Saying.{received_is_said, said_is_received, said_is_sent, sent_is_said}

-- what is known of an arrow by which logs have it
is_both : (sent received : List Message) (m : Message) → Says sent received (record { message = m; told = Both }) → Contains sent m × Contains received m
is_both sent received m (as_both e s r) = (s, r)
is_both sent received m (as_sender e s r) = absurd cc
is_both sent received m (as_receiver e s r) = absurd cc

is_senders : (sent received : List Message) (m : Message) → Says sent received (record { message = m; told = Sender }) → Contains sent m × (Contains received m → ⊥)
is_senders sent received m (as_both e s r) = absurd cc
is_senders sent received m (as_sender e s r) = (s, r)
is_senders sent received m (as_receiver e s r) = absurd cc

is_receivers : (sent received : List Message) (m : Message) → Says sent received (record { message = m; told = Receiver }) → (Contains sent m → ⊥) × Contains received m
is_receivers sent received m (as_both e s r) = absurd cc
is_receivers sent received m (as_sender e s r) = absurd cc
is_receivers sent received m (as_receiver e s r) = (s, r)

-- a message that was sent is drawn in one of two ways
either_way : (sent received : List Message) (m : Message) → Contains sent m
    → Contains (arrows_between sent received) (record { message = m; told = Both }) ⊎ Contains (arrows_between sent received) (record { message = m; told = Sender })
either_way sent received m s = elim (cases_Bool (tells received m)) [
  | inl e ↦ inl (sent_both sent received m s (tells_has received m e))
  | inr e ↦ inr (sent_alone sent received m s e)
]

-- where it is drawn by a test, it is drawn by what is so
module _ (h : RunHeader) (exhibits : List LogBytes) where
  abbrev sent : List Message
  sent = all_sent h exhibits

  abbrev received : List Message
  received = all_received h exhibits

  unsaid_received : (m : Message) → (SaysReceived h exhibits m → ⊥) → tells received m ≡ false
  unsaid_received m not = elim (cases_Bool (tells received m)) [
    | inl e ↦ absurd (not (received_is_said h exhibits m (tells_has received m e)))
    | inr e ↦ e
  ]

  unsaid_sent : (m : Message) → (SaysSent h exhibits m → ⊥) → tells sent m ≡ false
  unsaid_sent m not = elim (cases_Bool (tells sent m)) [
    | inl e ↦ absurd (not (sent_is_said h exhibits m (tells_has sent m e)))
    | inr e ↦ e
  ]

  pub draws : DrawsWhatLogsSay h exhibits
  draws = record {
    sent = λ m. (
      (λ drawn. elim drawn [
        | inl b ↦ sent_is_said h exhibits m (is_both sent received m (arrow_says sent received _ b)).0
        | inr s ↦ sent_is_said h exhibits m (is_senders sent received m (arrow_says sent received _ s)).0
      ]),
      (λ says. either_way sent received m (said_is_sent h exhibits m says)),
    );
    both = λ m. (
      (λ b. (let is = is_both sent received m (arrow_says sent received _ b) in (sent_is_said h exhibits m is.0, received_is_said h exhibits m is.1))),
      (λ says. sent_both sent received m (said_is_sent h exhibits m says.0) (said_is_received h exhibits m says.1)),
    );
    sender = λ m. (
      (λ s. (let is = is_senders sent received m (arrow_says sent received _ s) in (sent_is_said h exhibits m is.0, (λ r. is.1 (said_is_received h exhibits m r))))),
      (λ says. sent_alone sent received m (said_is_sent h exhibits m says.0) (unsaid_received m says.1)),
    );
    receiver = λ m. (
      (λ r. (let is = is_receivers sent received m (arrow_says sent received _ r) in (received_is_said h exhibits m is.1, (λ s. is.0 (said_is_sent h exhibits m s))))),
      (λ says. received_alone sent received m (unsaid_sent m says.1) (said_is_received h exhibits m says.0)),
    );
  }

-- so of each header and all that is shown
pub messages_stand : MessagesStandWhereLogsSay
messages_stand h exhibits = draws h exhibits
