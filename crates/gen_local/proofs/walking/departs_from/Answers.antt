use Rattle.std.proofs.Common.{◌≡◌, ◌∙◌, List, take, replicate, refl, sym, true, false}
use Rattle.gen_net.specs.Log.{LogEntry}
use Rattle.gen_log.specs.Entry.{erase}
use Rattle.gen_local.specs.Following.{MayFollow}
use Rattle.gen_local.proofs.Whole.{begun_by_none}
use Rattle.gen_local.specs.declared.progress.Progress.TheVariants.{Unlearnt}
use Rattle.gen_local.specs.Erased.{erased}
use Rattle.gen_local.proofs.StateJudges.{judged_may, may_judged}
use Rattle.gen_local.proofs.StateMore.{after_none, after_more}
use Rattle.gen_local.proofs.FirstRefusal.{erased_more, sends_inside, blank, refused_departs, refused_begins, none_departs, none_begins, begun_more}
use Rattle.gen_local.proofs.walking.departs_from.Goals as goal

pub loop-index-init : goal.loop-index-init
loop-index-init c = record {
  begun = begun_by_none c.args.net.now c.args.general c.orders-orders.ensures.network c.requires;
  after = after_none c.args.net.now c.args.general (replicate 16 Unlearnt) refl (λ v low. blank Unlearnt 16 v);
}

pub bring-requires-clause-inside : goal.bring-requires-clause-inside
bring-requires-clause-inside c =
    let m = judged_may c.args.net.now c.orders-orders.ensures.network c.args.general (erased (take c.loop-index.index c.args.entries.now)) c.loop-index.least c.loop-index.orders c.loop-index.invariant.after (erase c.index-entries-index.result) c.place_key-place.ensures.small (c.is_judged.ensures.0 c.if-not-is_judged.false) in
    sends_inside c.args.net.now c.args.general (erased (take c.loop-index.index c.args.entries.now)) c.orders-orders.ensures.network (erase c.index-entries-index.result) m.sound

pub loop-index-preserved : goal.loop-index-preserved
loop-index-preserved c =
    let net = c.args.net.now in
    let g = c.args.general in
    let ok = c.orders-orders.ensures.network in
    let e = erase c.index-entries-index.result in
    let before : List LogEntry = erased (take c.loop-index.index c.args.entries.now) in
    let m : MayFollow net g before e = judged_may c.args.net.now c.orders-orders.ensures.network c.args.general (erased (take c.loop-index.index c.args.entries.now)) c.loop-index.least c.loop-index.orders c.loop-index.invariant.after (erase c.index-entries-index.result) c.place_key-place.ensures.small (c.is_judged.ensures.0 c.if-not-is_judged.false) in
    let more = erased_more c.args.entries.now c.loop-index.index c.index-entries-index.result c.loop-index-test.true c.index-entries-index.is in
    rw more (record {
      begun = begun_more net g ok c.requires before e c.loop-index.invariant.begun m;
      after = rw c.place_key-place.ensures.value (after_more net ok g before c.loop-index.least c.loop-index.orders c.bring.new.orders c.loop-index.invariant.after e c.place_key-place.ensures.small m c.bring.ensures);
    })

pub returns-then-not-is_judged-clause-departs : goal.returns-then-not-is_judged-clause-departs
returns-then-not-is_judged-clause-departs c =
    refused_departs c.args.net.now c.args.general c.orders-orders.ensures.network c.requires c.args.entries.now c.loop-index.index c.index-entries-index.result c.loop-index-test.true c.index-entries-index.is c.loop-index.invariant.begun
    (λ m. let t : true ≡ false = sym (c.is_judged.ensures.1 (may_judged c.args.net.now c.orders-orders.ensures.network c.args.general (erased (take c.loop-index.index c.args.entries.now)) c.loop-index.least c.loop-index.orders c.loop-index.invariant.after (erase c.index-entries-index.result) c.place_key-place.ensures.small m)) ∙ c.if-not-is_judged.true in cc)

pub returns-then-not-is_judged-clause-begins : goal.returns-then-not-is_judged-clause-begins
returns-then-not-is_judged-clause-begins c =
    refused_begins c.args.net.now c.args.general c.orders-orders.ensures.network c.requires c.args.entries.now c.loop-index.index c.index-entries-index.result c.loop-index-test.true c.index-entries-index.is c.loop-index.invariant.begun
    (λ m. let t : true ≡ false = sym (c.is_judged.ensures.1 (may_judged c.args.net.now c.orders-orders.ensures.network c.args.general (erased (take c.loop-index.index c.args.entries.now)) c.loop-index.least c.loop-index.orders c.loop-index.invariant.after (erase c.index-entries-index.result) c.place_key-place.ensures.small m)) ∙ c.if-not-is_judged.true in cc)

pub returns-clause-departs : goal.returns-clause-departs
returns-clause-departs c = none_departs c.args.net.now c.args.general c.orders-orders.ensures.network c.requires c.args.entries.now c.loop-index.index c.loop-index-test.false c.loop-index.invariant.begun

pub returns-clause-begins : goal.returns-clause-begins
returns-clause-begins c = none_begins c.args.net.now c.args.general c.orders-orders.ensures.network c.requires c.args.entries.now c.loop-index.index c.loop-index-test.false c.loop-index.invariant.begun
