-- Steps of the definitions.
use Rattle.std.proofs.Common.{◌≡◌, ◌↔◌, ℕ, suc, ◌+◌, ◌-◌, List, [], ◌∷◌, ◌++◌, length, Contains, refl, sym, ap, subst, ◌∙◌, append_assoc, arith, add-one}
use Rattle.std.proofs.lemmas.List.{append-nil}
use Rattle.gen_net.specs.Network.{IsNetwork}
use Rattle.gen_net.specs.declared.message.Message.{Message}
use Rattle.gen_net.proofs.Neighbours.{joined_below}
use Rattle.gen_scenario.specs.Steps.{BegunByCommander, FrameAfter, IsCounted, MessagesCount, OneRoundMore, OneSignerMore}
use Rattle.gen_chain.specs.Chain.{Chain, signed_path}
use Rattle.gen_scenario.proofs.HeardBy.{CountsAfter, Said, near_gives, near_has, of_said, round_is, said_of, turned}
use Rattle.gen_scenario.specs.Scenario.{Scenario}
use Rattle.gen_chain.specs.declared.chains.Signer.{Signer}
use Rattle.gen_scenario.specs.SignedWorld.{counted_at, frame_at, heard_by, heard_in, sender_of}
use Rattle.gen_scenario.specs.Frames.{frame_of}
use Rattle.gen_scenario.specs.Signing.{lengthened, signer_behind, signers_along, Keys}
use Rattle.gen_scenario.proofs.GoodChains.{lengthened_path}
use Rattle.gen_scenario.proofs.LogParts.{counted_is}

one_round : (s : Scenario) (k g : ℕ) → heard_by s (suc k) g ≡ heard_by s k g ++ heard_in s (heard_by s k) (suc k) g
unfolding heard_by
one_round s k g = refl

pub one_round_more : OneRoundMore
one_round_more s k g = subst (λ l. heard_by s l g ≡ heard_by s k g ++ heard_in s (heard_by s k) l g) (sym (add-one k)) (one_round s k g)

pub frame_after : FrameAfter
unfolding frame_at
frame_after s k from to = let back : k + 1 - 1 ≡ k = omega arith in ap (λ j. frame_of (sender_of s from) (heard_by s j from) (k + 1) to) back

counted_after : (s : Scenario) (j from to : ℕ) (c : Chain) → Contains (counted_at s (suc j) from to) c ↔ CountsAfter s j from to c
counted_after s j from to c = (subst (λ (cs : List Chain). Contains cs c) (counted_is s j from to), subst (λ (cs : List Chain). Contains cs c) (sym (counted_is s j from to)))

said_counted : (s : Scenario) (m : Message) → Said s m → IsCounted s m
said_counted s m said =
    let long = round_is s m said in
    record {
      near = turned s.net m.to m.from (near_has s.net m.to m.from said.near);
      some = omega (arith, long);
      in_time = omega (arith, long, said.in_time);
      chain = said.chain;
      counts = subst (λ l. Contains (counted_at s l m.from m.to) said.chain) (sym long) ((counted_after s said.before m.from m.to said.chain).1 said.counts);
      order_is = said.order_is;
      path_is = said.path_is;
    }

counted_said : (s : Scenario) → IsNetwork s.net → (m : Message) → IsCounted s m → Said s m
counted_said s ok m counted =
    let j = length m.path - 1 in
    let long : length m.path ≡ suc j = omega (arith, counted.some) in
    record {
      before = j;
      in_time = omega (arith, counted.some, counted.in_time);
      to_known = joined_below s.net ok m.from m.to counted.near;
      chain = counted.chain;
      near = near_gives s.net ok m.to m.from (turned s.net m.from m.to counted.near);
      counts = (counted_after s j m.from m.to counted.chain).0 (subst (λ l. Contains (counted_at s l m.from m.to) counted.chain) long counted.counts);
      order_is = counted.order_is;
      path_is = counted.path_is;
    }

pub messages_count : MessagesCount
messages_count s ok m = ((λ h. said_counted s m (said_of s m h)), (λ k. of_said s m (counted_said s ok m k)))

along_more : (k : Keys) (order : ℕ) (before path : List ℕ) (g : ℕ) → signers_along k order before (path ++ g ∷ []) ≡ signers_along k order before path ++ signer_behind k order (before ++ path) g ∷ []
unfolding signers_along
along_more k order before [] g = ap (λ (p : List ℕ). signer_behind k order p g ∷ []) (sym (append-nil before))
along_more k order before (x ∷ path) g =
    ap (λ (ss : List Signer). signer_behind k order before x ∷ ss) (along_more k order (before ++ x ∷ []) path g)
    ∙ ap (λ (p : List ℕ). signer_behind k order before x ∷ (signers_along k order (before ++ x ∷ []) path ++ signer_behind k order p g ∷ [])) (append_assoc before (x ∷ []) path)

pub one_signer_more : OneSignerMore
one_signer_more k c path g =
    let signers : (lengthened k c (path ++ g ∷ [])).signers ≡ (lengthened k c path).signers ++ signer_behind k c.order (signed_path (lengthened k c path).signers) g ∷ [] =
    ap (λ (ss : List Signer). c.signers ++ ss) (along_more k c.order (signed_path c.signers) path g)
    ∙ sym (append_assoc c.signers (signers_along k c.order (signed_path c.signers) path) (signer_behind k c.order (signed_path c.signers ++ path) g ∷ []))
    ∙ ap (λ (p : List ℕ). (lengthened k c path).signers ++ signer_behind k c.order p g ∷ []) (sym (lengthened_path k c path)) in
    (λ i. record { order = c.order; signers = signers i })

pub begun_by_commander : BegunByCommander
unfolding signers_along
begun_by_commander k order path = refl
