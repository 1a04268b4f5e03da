-- What is drawn of the messages that were sent and of those that were received.
use Rattle.std.proofs.Common.{◌≡◌, ◌⊎◌, ◌++◌, Bool, true, false, cond, List, [], ◌∷◌, map, sym, ◌∙◌, ap, refl, subst, inl, inr}
use Rattle.std.specs.Prelude.{Contains}
use Rattle.std.specs.List.{flat_map}
use Rattle.std.proofs.lemmas.Bool.{cases_Bool, false≢true}
use Rattle.std.proofs.lemmas.List.Elements.{Contains-append_left, Contains-append_right, Contains-append_cases}
use Rattle.gen_types.proofs.Lists.{Contains_here, Contains_there, Contains_cases, Contains_nil, Contains_mapped, Contains_flat_mapped}
use Rattle.gen_net.specs.declared.message.Message.{Message}
use Rattle.gen_draw.specs.declared.arrow.Arrow.{Arrow}
use Rattle.gen_draw.specs.declared.arrow.ToldBy.{ToldBy}
use Rattle.gen_draw.specs.declared.arrow.ToldBy.TheVariants.{Both, Sender, Receiver}
use Rattle.gen_draw.specs.Telling.{arrows_between, receiver_arrows, sender_arrow, tells}
use Rattle.gen_draw.proofs.Same.{tells_has, has_tells, tells_not}

abbrev drawn : ToldBy → Message → Arrow
drawn told m = record { message = m; told = told }

-- an element that is made of an element
contains_made : {X Y : Type 0} (f : X → Y) (xs : List X) (x : X) → Contains xs x → Contains (map f xs) (f x)
contains_made f [] x c = absurd (Contains_nil x c)
contains_made f (z ∷ zs) x c = elim (Contains_cases z x zs c) [
  | inl e ↦ subst (λ w. Contains (f z ∷ map f zs) (f w)) e (Contains_here (f z) (map f zs))
  | inr k ↦ Contains_there (f z) (f x) (map f zs) (contains_made f zs x k)
]

-- or of one of the elements that are made of an element
pub contains_among : {X Y : Type 0} (f : X → List Y) (xs : List X) (x : X) (y : Y) → Contains xs x → Contains (f x) y → Contains (flat_map f xs) y
contains_among f [] x y c d = absurd (Contains_nil x c)
contains_among f (z ∷ zs) x y c d = elim (Contains_cases z x zs c) [
  | inl e ↦ Contains-append_left (f z) (flat_map f zs) y (subst (λ w. Contains (f w) y) (sym e) d)
  | inr k ↦ Contains-append_right (f z) (flat_map f zs) y (contains_among f zs x y k d)
]

-- how a message that was sent is drawn
pub sent_both : (sent received : List Message) (m : Message) → Contains sent m → Contains received m → Contains (arrows_between sent received) (drawn Both m)
sent_both sent received m s r =
    let told : sender_arrow received m ≡ drawn Both m = rw (has_tells received m r) refl in
    Contains-append_left (map (sender_arrow received) sent) (flat_map (receiver_arrows sent) received) (drawn Both m) (subst (λ x. Contains (map (sender_arrow received) sent) x) told (contains_made (sender_arrow received) sent m s))

pub sent_alone : (sent received : List Message) (m : Message) → Contains sent m → tells received m ≡ false → Contains (arrows_between sent received) (drawn Sender m)
sent_alone sent received m s r =
    let told : sender_arrow received m ≡ drawn Sender m = rw r refl in
    Contains-append_left (map (sender_arrow received) sent) (flat_map (receiver_arrows sent) received) (drawn Sender m) (subst (λ x. Contains (map (sender_arrow received) sent) x) told (contains_made (sender_arrow received) sent m s))

pub received_alone : (sent received : List Message) (m : Message) → tells sent m ≡ false → Contains received m → Contains (arrows_between sent received) (drawn Receiver m)
received_alone sent received m s r =
    let one : Contains (receiver_arrows sent m) (drawn Receiver m) = rw s (Contains_here (drawn Receiver m) []) in
    Contains-append_right (map (sender_arrow received) sent) (flat_map (receiver_arrows sent) received) (drawn Receiver m) (contains_among (receiver_arrows sent) received m (drawn Receiver m) r one)

-- what an arrow says of a message
pub data Says (sent received : List Message) (x : Arrow) : Type 0 where
  as_both : x.told ≡ Both → Contains sent x.message → Contains received x.message → Says sent received x
  as_sender : x.told ≡ Sender → Contains sent x.message → (Contains received x.message → ⊥) → Says sent received x
  as_receiver : x.told ≡ Receiver → (Contains sent x.message → ⊥) → Contains received x.message → Says sent received x

sender_says : (sent received : List Message) (m : Message) → Contains sent m → Says sent received (sender_arrow received m)
sender_says sent received m s = elim (cases_Bool (tells received m)) [
  | inl e ↦ as_both (rw e refl) s (tells_has received m e)
  | inr e ↦ as_sender (rw e refl) s (tells_not received m e)
]

receiver_says : (sent received : List Message) (m : Message) (x : Arrow) → Contains received m → Contains (receiver_arrows sent m) x → Says sent received x
receiver_says sent received m x r c = elim (cases_Bool (tells sent m)) [
  | inl e ↦ (let none : Contains [] x = rw e at c in absurd (Contains_nil x none))
  | inr e ↦
      let one : Contains (drawn Receiver m ∷ []) x = rw e at c in
      elim (Contains_cases (drawn Receiver m) x [] one) [
        | inl is ↦ subst (λ w. Says sent received w) is (as_receiver refl (tells_not sent m e) r)
        | inr none ↦ absurd (Contains_nil x none)
      ]
]

-- each arrow says what is so
pub arrow_says : (sent received : List Message) (x : Arrow) → Contains (arrows_between sent received) x → Says sent received x
arrow_says sent received x c = elim (Contains-append_cases (map (sender_arrow received) sent) (flat_map (receiver_arrows sent) received) x c) [
  | inl left ↦ (let f = Contains_mapped (sender_arrow received) sent x left in subst (λ w. Says sent received w) f.2 (sender_says sent received f.0 f.1))
  | inr right ↦ (let f = Contains_flat_mapped (receiver_arrows sent) received x right in receiver_says sent received f.0 x f.1 f.2)
]
