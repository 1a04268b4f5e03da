-- What a general does and logs depends only on the messages that he sends and on those that arrive at him.
use Rattle.std.proofs.Common.{◌≡◌, ℕ, ◌↔◌, List, Contains, refl, sym, ◌∙◌}
use Rattle.gen_net.specs.declared.message.Message.{Message}
use Rattle.gen_net.specs.Network.{Network}
use Rattle.gen_net.specs.Run.{Run, OrderArrives, Adds, Accepts}
use Rattle.gen_net.specs.Follows.{Conduct, Commands, Relays, Follows}
use Rattle.gen_net.specs.Log.{LogEntry, Started, Signed, Sent, Received, Decided, IsEntry, Keeps}

-- two runs have the same messages from g and the same messages to g
pub record SameView (run other : Run) (g : ℕ) : Type 0 where
  pub sent : (t : Message) → t.from ≡ g → Contains run t ↔ Contains other t
  pub arrived : (t : Message) → t.to ≡ g → Contains run t ↔ Contains other t

pub view_turned : (run other : Run) (g : ℕ) → SameView run other g → SameView other run g
view_turned run other g same = record {
  sent = λ t e. ((same.sent t e).1, (same.sent t e).0);
  arrived = λ t e. ((same.arrived t e).1, (same.arrived t e).0);
}

order_arrives : (run other : Run) (g : ℕ) → SameView run other g → (l v : ℕ) → OrderArrives run g l v → OrderArrives other g l v
order_arrives run other g same l v c = (c.0, (((same.arrived c.0 c.1.1).0 c.1.0.0, c.1.0.1), c.1.1), c.2)

-- in runs of one view he adds the same orders
pub view_adds : (run other : Run) (g : ℕ) → SameView run other g → (l v : ℕ) → Adds run g l v → Adds other g l v
view_adds run other g same l v a = record {
  arrives = order_arrives run other g same l v a.arrives;
  new = λ k below c. a.new k below (order_arrives other run g (view_turned run other g same) k v c);
}

-- accepts the same orders
pub view_accepts : (net : Network) (run other : Run) (g : ℕ) → SameView run other g → (v : ℕ) → Accepts net run g v → Accepts net other g v
view_accepts net run other g same v a = (a.0, a.1, view_adds run other g same a.0 v a.2)

-- follows in both or in neither
pub view_follows : (net : Network) (run other : Run) (g : ℕ) (c : Conduct) → SameView run other g → Follows net run g c → Follows net other g c
view_follows net run other g (Commands own) same f = (
  f.0,
  record {
    order_known = f.1.order_known;
    sends = λ t e. let s = same.sent t (e ∙ sym f.0) in ((λ h. (f.1.sends t e).0 (s.1 h)), (λ x. s.0 ((f.1.sends t e).1 x)));
  },
)
view_follows net run other g (Relays pick) same f =
    let back = view_turned run other g same in (
      f.0,
      record {
        picks = λ l v a. let u = f.1.picks l v (view_adds other run g back l v a) in (u.0, (((same.arrived u.0 u.1.1).0 u.1.0.0, u.1.0.1), u.1.1), u.2, u.3);
        silent = λ t h e. f.1.silent t ((same.sent t e).1 h.0, h.1) e;
        sends = λ l t pos below e.
            let s = f.1.sends l t pos below e in
            let w = same.sent t e in (
              (λ h. let x = s.0 (w.1 h.0, h.1) in record { added = view_adds run other g same l t.order x.added; longer = x.longer; neighbour = x.neighbour; outside = x.outside }),
              (λ x. let h = s.1 (record { added = view_adds other run g back l t.order x.added; longer = x.longer; neighbour = x.neighbour; outside = x.outside }) in (w.0 h.0, h.1)),
            );
      },
    )

entry : (net : Network) (run other : Run) (g : ℕ) (c : Conduct) (e : LogEntry) → SameView run other g → IsEntry net run g c e → IsEntry net other g c e
entry net run other g (Commands own) (Started general order) same h = h
entry net run other g (Relays pick) (Started general order) same h = h
entry net run other g (Commands own) (Signed order path) same h = h
entry net run other g (Relays pick) (Signed order path) same h = (h.0, h.1, view_adds run other g same h.0 order h.2, h.3)
entry net run other g (Commands own) (Sent to order path) same h = (same.sent (record { from = g; to = to; order = order; path = path }) refl).0 h
entry net run other g (Relays pick) (Sent to order path) same h = (same.sent (record { from = g; to = to; order = order; path = path }) refl).0 h
entry net run other g (Commands own) (Received from order path) same h = (same.arrived (record { from = from; to = g; order = order; path = path }) refl).0 h
entry net run other g (Relays pick) (Received from order path) same h = (same.arrived (record { from = from; to = g; order = order; path = path }) refl).0 h
entry net run other g (Commands own) (Decided orders order) same h = h
entry net run other g (Relays pick) (Decided orders order) same h = (
  record {
    ascending = h.0.ascending;
    members = λ v. ((λ i. view_accepts net run other g same v ((h.0.members v).0 i)), (λ a. (h.0.members v).1 (view_accepts net other run g (view_turned run other g same) v a)));
  },
  h.1,
)

-- and keeps the same log
pub view_keeps : (net : Network) (run other : Run) (g : ℕ) (c : Conduct) (log : List LogEntry) → SameView run other g → Keeps net run g c log → Keeps net other g c log
view_keeps net run other g c log same k = record {
  in_order = k.in_order;
  entries = λ e. ((λ h. entry net run other g c e same ((k.entries e).0 h)), (λ h. (k.entries e).1 (entry net other run g c e (view_turned run other g same) h)));
}
