-- Whoever has no script follows, and picks the least sender's path.
use Rattle.std.proofs.Common.{◌≡◌, ◌<◌, ◌≤◌, inl, inr, ℕ, List, [], ◌∷◌, ◌++◌, length, Contains, refl, sym, ap, subst, ◌∙◌, arith, Some, None}
use Rattle.std.proofs.lemmas.Bool as bools
use Rattle.gen_types.proofs.Lists.{Contains_cases, Contains_nil}
use Rattle.gen_net.specs.Network.{IsLoyal, rounds, AreNeighbours}
use Rattle.gen_net.specs.declared.message.Message.{Message}
use Rattle.gen_net.specs.Run.{Arrives, Adds}
use Rattle.gen_net.proofs.Neighbours.{joined_below}
use Rattle.gen_core.specs.Seeing.{IsFromLeast}
use Rattle.gen_chain.specs.Chain.{Chain, signed_path}
use Rattle.gen_scenario.specs.WorldLaws.{CommanderObeys, LieutenantsRelay}
use Rattle.gen_scenario.proofs.HeardBy.{CountsAfter, Said, by_gives, by_has, counted_facts, heard_said, is_run, near_gives, near_has, of_said, round_is, said_of, turned}
use Rattle.gen_scenario.specs.declared.heard.Heard.{Heard}
use Rattle.gen_scenario.proofs.FirstHeard.{IsFirst, first_is, has_first, heard_in_order}
use Rattle.gen_scenario.specs.Scenario.{Scenario, script_of, scripted}
use Rattle.gen_scenario.proofs.FollowerFrames.{commanders_gives, commanders_has, follower_counts_gives, follower_counts_has, signed_gives, signed_has}
use Rattle.gen_scenario.specs.Heard.{first_of, round_of}
use Rattle.gen_scenario.specs.SignedWorld.{heard_by, keys_of, message_to, messages_of, neighbours_of}
use Rattle.gen_scenario.specs.Signing.{lengthened, made}
use Rattle.gen_scenario.proofs.GoodChains.{lengthened_path, made_path}
use Rattle.gen_scenario.proofs.Growing.{edge_facts}
use Rattle.gen_scenario.proofs.ScriptsOf.{script_none}

pub no_script : (s : Scenario) (g : ℕ) → IsLoyal s.net (scripted s.scripts) g → script_of s.scripts g ≡ None
no_script s g loyal = script_none s.scripts g loyal.1

-- ---- the commander

pub commander_obeys : CommanderObeys
commander_obeys s ok loyal = record {
  order_known = ok.order_known;
  sends = λ m from. (
    (λ h.
        let said = said_of s m h in
        let counts : CountsAfter s said.before 0 m.to said.chain = subst (λ (f : ℕ). CountsAfter s said.before f m.to said.chain) from said.counts in
        let p = commanders_has s (heard_by s said.before 0) said.before said.chain (follower_counts_has s ok 0 said.before m.to said.chain (no_script s 0 loyal) loyal.0 counts) in (
          subst (λ f. AreNeighbours s.net f m.to) from (turned s.net m.to m.from (near_has s.net m.to m.from said.near)),
          sym said.order_is ∙ ap (λ (c : Chain). c.order) p.1,
          sym said.path_is ∙ ap (λ (c : Chain). signed_path c.signers) p.1 ∙ made_path (keys_of s) s.order (0 ∷ []),
        )),
    (λ q.
        let near : AreNeighbours s.net 0 m.to = q.0 in
        let edge = edge_facts s.net ok.network 0 m.to near in
        let path = made_path (keys_of s) s.order (0 ∷ []) in
        let counts : CountsAfter s 0 0 m.to (made (keys_of s) s.order (0 ∷ [])) = follower_counts_gives s ok 0 0 m.to (made (keys_of s) s.order (0 ∷ [])) (no_script s 0 loyal) loyal.0 (commanders_gives s (heard_by s 0 0)) (λ h. elim (Contains_cases 0 m.to [] (subst (λ p. Contains p m.to) path h)) [ inl e ↦ edge.2 e | inr none ↦ absurd (Contains_nil m.to none) ]) in
        let own : Message = record { from = 0; to = m.to; order = s.order; path = 0 ∷ [] } in
        let said : Said s own = record {
          before = 0;
          in_time = omega (arith, ok.network.ranges.some_diameter);
          to_known = joined_below s.net ok.network 0 m.to near;
          chain = made (keys_of s) s.order (0 ∷ []);
          near = near_gives s.net ok.network m.to 0 (turned s.net 0 m.to near);
          counts = counts;
          order_is = refl;
          path_is = path;
        } in
        let same : own ≡ m = (λ i. record { from = sym from i; to = m.to; order = sym q.1 i; path = sym q.2 i }) in
        subst (λ t. Contains (messages_of s) t) same (of_said s own said)),
  );
}

-- ---- lieutenants

-- what arrives at g in one of the first rounds is what he heard in them
pub record HeardOf (s : Scenario) (l g : ℕ) (m : Message) : Type 0 where
  pub x : Heard
  pub stands : Contains (heard_by s l g) x
  pub is : message_to g x ≡ m

pub arrived_heard : (s : Scenario) (l k g : ℕ) (m : Message) → k ≤ l → Arrives (messages_of s) g k m → HeardOf s l g m
arrived_heard s l k g m le came =
    let said = said_of s m came.0.0 in
    let x : Heard = record { from = m.from; chain = said.chain } in
    let long = round_is s m said in
    let there : Contains (heard_by s l m.to) x = by_gives s l said.before m.to x (omega (arith, long, came.0.1)) (record { near = said.near; counts = said.counts }) in
    record {
      x = x;
      stands = subst (λ t. Contains (heard_by s l t) x) came.1 there;
      is = (λ i. record { from = m.from; to = sym came.1 i; order = said.order_is i; path = said.path_is i });
    }

pub heard_arrives : (s : Scenario) (l g : ℕ) (x : Heard) → g < s.net.generals → l ≤ rounds s.net → Contains (heard_by s l g) x → Arrives (messages_of s) g (round_of x) (message_to g x) × (round_of x ≤ l)
heard_arrives s l g x known in_time h =
    let b = by_has s l g x h in
    let facts = counted_facts s b.0 x.from g x.chain b.2.counts in
    (((heard_said s g x known (by_gives s (rounds s.net) b.0 g x (omega (arith, b.1, in_time)) b.2), refl), refl), omega (arith, facts.long, b.1))

-- what he heard first is what he adds, from the least sender
pub first_added : (s : Scenario) (g l v : ℕ) (x : Heard) → g < s.net.generals → l ≤ rounds s.net → IsFirst v (heard_by s l g) x → round_of x ≡ l → Adds (messages_of s) g l v × IsFromLeast (messages_of s) g l v (signed_path x.chain.signers)
first_added s g l v x known in_time f now =
    let came = heard_arrives s l g x known in_time f.stands in
    let at : Arrives (messages_of s) g l (message_to g x) = subst (λ k. Arrives (messages_of s) g k (message_to g x)) now came.0 in (
      record {
        arrives = (message_to g x, at, f.order_is);
        new = λ k low before.
            let y = arrived_heard s l k g before.0 (omega arith) before.1 in
            let order : y.x.chain.order ≡ v = ap (λ (m : Message). m.order) y.is ∙ before.2 in
            let round : round_of y.x ≡ k = ap (λ (m : Message). length m.path) y.is ∙ before.1.0.1 in
            elim (f.first y.x y.stands order) [
              | inl e ↦ absurd (omega (arith, ap round_of e, now, round))
              | inr later ↦ elim later [ inl less ↦ absurd (omega (arith, less, now, round)) | inr same ↦ absurd (omega (arith, same.0, now, round)) ]
            ];
      },
      record {
        from = x.from;
        arrives = subst (λ w. Arrives (messages_of s) g l (record { from = x.from; to = g; order = w; path = signed_path x.chain.signers })) f.order_is at;
        least = λ m arrives order.
            let y = arrived_heard s l l g m (omega arith) arrives in
            let same_order : y.x.chain.order ≡ v = ap (λ (t : Message). t.order) y.is ∙ order in
            let round : round_of y.x ≡ l = ap (λ (t : Message). length t.path) y.is ∙ arrives.0.1 in
            let sender : y.x.from ≡ m.from = ap (λ (t : Message). t.from) y.is in
            elim (f.first y.x y.stands same_order) [
              | inl e ↦ omega (arith, ap (λ (z : Heard). z.from) e, sender)
              | inr later ↦ elim later [ inl less ↦ absurd (omega (arith, less, now, round)) | inr same ↦ omega (arith, same.1, sender) ]
            ];
      },
    )

-- what he adds, from the least sender, is what he heard first
pub record FirstWith (s : Scenario) (g l v : ℕ) (path : List ℕ) : Type 0 where
  pub x : Heard
  pub first : first_of v (heard_by s l g) ≡ Some x
  pub now : round_of x ≡ l
  pub path_is : signed_path x.chain.signers ≡ path

pub added_first : (s : Scenario) (g l v : ℕ) (path : List ℕ) → g < s.net.generals → l ≤ rounds s.net → Adds (messages_of s) g l v → IsFromLeast (messages_of s) g l v path → FirstWith s g l v path
added_first s g l v path known in_time adds least =
    let m : Message = record { from = least.from; to = g; order = v; path = path } in
    let y = arrived_heard s l l g m (omega arith) least.arrives in
    let y-order : y.x.chain.order ≡ v = ap (λ (t : Message). t.order) y.is in
    let y-from : y.x.from ≡ least.from = ap (λ (t : Message). t.from) y.is in
    let y-round : round_of y.x ≡ l = ap (λ (t : Message). length t.path) y.is ∙ least.arrives.0.1 in
    let some = has_first v (heard_by s l g) y.x y.stands y-order in
    let x = some.0 in
    let f = first_is v (heard_by s l g) x (heard_in_order s l g) some.1 in
    let came = heard_arrives s l g x known in_time f.stands in
    let now : round_of x ≡ l = elim (bools.cases_lt (round_of x) l) [
      | inl early ↦ absurd (adds.new (round_of x) early (message_to g x, came.0, f.order_is))
      | inr late ↦ omega (arith, came.1, late)
    ] in
    let at : Arrives (messages_of s) g l (message_to g x) = subst (λ k. Arrives (messages_of s) g k (message_to g x)) now came.0 in
    let low : least.from ≤ x.from = least.least (message_to g x) at f.order_is in
    let high : x.from ≤ least.from = elim (f.first y.x y.stands y-order) [
      | inl e ↦ omega (arith, ap (λ (z : Heard). z.from) e, y-from)
      | inr later ↦ elim later [ inl less ↦ absurd (omega (arith, less, now, y-round)) | inr same ↦ omega (arith, same.1, y-from) ]
    ] in
    let same : message_to g x ≡ m = (is_run s).once l (message_to g x) m at.0 least.arrives.0 (omega (arith, low, high)) refl f.order_is in
    record { x = x; first = some.1; now = now; path_is = ap (λ (t : Message). t.path) same }

pub lieutenants_relay : LieutenantsRelay
lieutenants_relay s ok g loyal ne =
    let none = no_script s g loyal in
    record {
      silent = λ m sent from.
          let said = said_of s m sent.0 in
          let start : said.before ≡ 0 = omega (arith, round_is s m said, sent.1) in
          let counts : CountsAfter s 0 g m.to said.chain = subst (λ (j : ℕ). CountsAfter s j g m.to said.chain) start (subst (λ (f : ℕ). CountsAfter s said.before f m.to said.chain) from said.counts) in
          let p = signed_has s g 0 said.chain ne (follower_counts_has s ok g 0 m.to said.chain none loyal.0 counts) in
          let f = first_is said.chain.order (heard_by s 0 g) p.x (heard_in_order s 0 g) p.first in
          let b = by_has s 0 g p.x f.stands in
          absurd (omega (arith, b.1));
      sends = λ l m pos low from. (
        (λ sent.
            let said = said_of s m sent.0 in
            let now : said.before ≡ l = omega (arith, round_is s m said, sent.1) in
            let counts : CountsAfter s l g m.to said.chain = subst (λ (j : ℕ). CountsAfter s j g m.to said.chain) now (subst (λ (f : ℕ). CountsAfter s said.before f m.to said.chain) from said.counts) in
            let p = signed_has s g l said.chain ne (follower_counts_has s ok g l m.to said.chain none loyal.0 counts) in
            let v-is : said.chain.order ≡ m.order = said.order_is in
            let first : first_of m.order (heard_by s l g) ≡ Some p.x = ap (λ v. first_of v (heard_by s l g)) (sym v-is) ∙ p.first in
            let f = first_is m.order (heard_by s l g) p.x (heard_in_order s l g) first in
            let both = first_added s g l m.order p.x loyal.0 (omega (arith, low)) f p.now in
            let facts = counted_facts s l g m.to said.chain counts in
            record {
              picked = signed_path p.x.chain.signers;
              added = both.0;
              least = both.1;
              longer = sym said.path_is ∙ ap (λ (c : Chain). signed_path c.signers) p.is ∙ lengthened_path (keys_of s) p.x.chain (g ∷ []);
              neighbour = turned s.net m.to g (subst (λ f. AreNeighbours s.net m.to f) from (near_has s.net m.to m.from said.near));
              outside = λ h. facts.outside (subst (λ q. Contains q m.to) (sym said.path_is) h);
            }),
        (λ relay.
            let r = added_first s g l m.order relay.picked loyal.0 (omega (arith, low)) relay.added relay.least in
            let f = first_is m.order (heard_by s l g) r.x (heard_in_order s l g) r.first in
            let c = lengthened (keys_of s) r.x.chain (g ∷ []) in
            let order_low : m.order < s.net.orders =
            let came = relay.least.arrives.0.0 in
            (((is_run s).messages (record { from = relay.least.from; to = g; order = m.order; path = relay.picked }) came).chain).order_known in
            let path : signed_path c.signers ≡ m.path = lengthened_path (keys_of s) r.x.chain (g ∷ []) ∙ ap (λ (p : List ℕ). p ++ g ∷ []) r.path_is ∙ sym relay.longer in
            let counts : CountsAfter s l g m.to c = follower_counts_gives s ok g l m.to c none loyal.0 (signed_gives s g l m.order r.x ne order_low r.first r.now) (λ h. relay.outside (subst (λ q. Contains q m.to) path h)) in
            let said : Said s m = record {
              before = l;
              in_time = low;
              to_known = joined_below s.net ok.network g m.to relay.neighbour;
              chain = c;
              near = subst (λ f. Contains (neighbours_of s.net m.to) f) (sym from) (near_gives s.net ok.network m.to g (turned s.net g m.to relay.neighbour));
              counts = subst (λ (f : ℕ). CountsAfter s l f m.to c) (sym from) counts;
              order_is = f.order_is;
              path_is = path;
            } in
            (of_said s m said, omega (arith, round_is s m said))),
      );
    }
