-- What a follower under names signs.
use Rattle.std.proofs.Common.{◌≡◌, ℕ, List, Contains, inr, sym, ◌∙◌, subst}
use Rattle.gen_net.specs.Network.{Network}
use Rattle.gen_net.specs.declared.message.Message.{Message}
use Rattle.gen_net.specs.Run.{Run}
use Rattle.gen_net.specs.Log.{Signed, IsEntry}
use Rattle.gen_net.specs.Follows.{Conduct, Commands, Relays, Follows}
use Rattle.gen_named.specs.Named.{Names, IsName, OwnIsNamed}
use Rattle.gen_named.specs.Signing.{FollowersSignTwo}

-- a SIGN is of a named order
named_by : (net : Network) (mine : Run) (g : ℕ) (names : Names) (conduct : Conduct) → OwnIsNamed names conduct → ((m : Message) → Contains mine m → m.to ≡ g → IsName names m.order) → (i : ℕ) (p : List ℕ) → IsEntry net mine g conduct (Signed i p) → IsName names i
named_by net mine g names (Commands own) own_named come i p e = subst (λ k. IsName names k) (sym e.0) own_named
named_by net mine g names (Relays pick) own_named come i p e =
    let a = e.2.arrives in
    subst (λ k. IsName names k) a.2 (come a.0 a.1.0.0 a.1.1)

-- and all of one order have one path
path_by : (net : Network) (mine : Run) (g : ℕ) (conduct : Conduct) (i : ℕ) (p q : List ℕ) → IsEntry net mine g conduct (Signed i p) → IsEntry net mine g conduct (Signed i q) → p ≡ q
path_by net mine g (Commands own) i p q a b = a.1 ∙ sym b.1
path_by net mine g (Relays pick) i p q a b = a.3 ∙ sym b.3

-- the commander signs its own order alone
own_by : (net : Network) (mine : Run) (g : ℕ) (conduct : Conduct) → Follows net mine g conduct → g ≡ 0 → (i j : ℕ) (p q : List ℕ) → IsEntry net mine g conduct (Signed i p) → IsEntry net mine g conduct (Signed j q) → i ≡ j
own_by net mine g (Commands own) f zero i j p q a b = a.0 ∙ sym b.0
own_by net mine g (Relays pick) f zero i j p q a b = absurd (f.0 zero)

pub followers_sign_two : FollowersSignTwo
followers_sign_two bound net run g part log f k = record {
  named = λ i p h. named_by net part.mine g part.names part.conduct f.own (λ m c to. f.view.orders_named m c (inr to)) i p ((k.entries (Signed i p)).0 h);
  one_path = λ i p q a b. path_by net part.mine g part.conduct i p q ((k.entries (Signed i p)).0 a) ((k.entries (Signed i q)).0 b);
  two_values = λ i j v p q a b x y. f.names.apart i j v x y;
  commander = λ i j p q zero a b. own_by net part.mine g part.conduct f.follows zero i j p q ((k.entries (Signed i p)).0 a) ((k.entries (Signed j q)).0 b);
}
