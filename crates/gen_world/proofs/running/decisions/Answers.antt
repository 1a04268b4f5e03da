use Rattle.std.proofs.Common.{◌≡◌, ◌≢◌, ◌∙◌, get_or, sym, ap}
use Rattle.std.proofs.lemmas.List.Elements.{All-push, All-get_or}
use Rattle.gen_core.specs.Seeing.{Lieutenant, HasSeen}
use Rattle.gen_scenario.specs.World.{IsDecision}
use Rattle.gen_world.proofs.Rounding.{generals_pushed, lieutenants_decision}
use Rattle.gen_world.proofs.running.decisions.Goals as goal

pub loop-lieutenant-preserved : goal.loop-lieutenant-preserved
loop-lieutenant-preserved c =
    let states = c.args.lieutenants.now in
    let i = c.loop-lieutenant.lieutenant-index in
    let d = c.lieutenant-item.result in
    let out = c.loop-lieutenant.out.items in
    let me : c.me-general.result ≡ (get_or states i d).me = c.me-general.ensures ∙ ap (λ (s : Lieutenant). s.me) c.lieutenant-item.is in
    let lieutenant = All-get_or (λ (s : Lieutenant). (s.gone ≡ s.rounds) × (s.me ≢ 0)) states i d c.loop-lieutenant-test.true c.requires in
    record {
      generals = rw c.in_ok-push-2.ensures.items (generals_pushed out _ states i d c.loop-lieutenant.invariant.generals c.loop-lieutenant-test.true me);
      each = λ net run saw.
          let here : HasSeen net run d = rw c.lieutenant-item.is (All-get_or (HasSeen net run) states i d c.loop-lieutenant-test.true saw) in
          rw c.in_ok-push-2.ensures.items (All-push (IsDecision net c.args.commander.now run) out _ (c.loop-lieutenant.invariant.each net run saw) (lieutenants_decision net c.args.commander.now run c.me-general.result _ _ (λ e. lieutenant.1 (sym me ∙ e)) (rw c.me-general.ensures (c.decide-orders-in-loop-lieutenant.ensures net run here))));
    }
