-- What is known of whatever a general heard.
use Rattle.std.proofs.Common.{ℕ, suc, sym, subst, arith, add-one}
use Rattle.gen_scenario.specs.HeardLaws.{CountedAreChains, HeardIsKnown, AreOfRound, HeardInRound}
use Rattle.gen_scenario.specs.Scenario.{Scenario}
use Rattle.gen_scenario.specs.SignedWorld.{heard_in, heard_by}
use Rattle.gen_scenario.proofs.CountedChains.{counted_has}
use Rattle.gen_scenario.proofs.HeardBy.{near_has, in_has, by_has, counted_facts}

pub counted_are_chains : CountedAreChains
counted_are_chains h d frame c k = let r = (counted_has h d frame c k).carried in (r.is_chain, r.may_count)

pub heard_is_known : HeardIsKnown
heard_is_known s k g x h =
    let b = by_has s k g x h in
    let f = counted_facts s b.0 x.from g x.chain b.2.counts in
    record {
      near = near_has s.net g x.from b.2.near;
      is_chain = f.is_chain;
      verifies = f.verifies;
      some = omega (arith, f.long);
      in_time = omega (arith, f.long, b.1);
      from_sender = f.last;
      outside = f.outside;
    }

heard_next : (s : Scenario) (j g : ℕ) → AreOfRound (suc j) (heard_in s (heard_by s j) (suc j) g)
heard_next s j g x h = let r = in_has s j g x h in (counted_facts s j x.from g x.chain r.counts).long

pub heard_in_round : HeardInRound
heard_in_round s k g = subst (λ l. AreOfRound l (heard_in s (heard_by s k) l g)) (sym (add-one k)) (heard_next s k g)
