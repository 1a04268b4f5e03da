use Rattle.std.proofs.Common.{◌≡◌, ◌++◌, List, ap, subst, sym}
use Rattle.std.specs.List.{AllByRecursion}
use Rattle.gen_chain.specs.Chain.{signed_path}
use Rattle.gen_log.specs.declared.entries.Entry.{Entry}
use Rattle.gen_log.specs.Entry.{erase}
use Rattle.gen_local.specs.Erased.{erased}
use Rattle.gen_match.specs.Rest.{IsSmall}
use Rattle.gen_match.specs.Underivables.{found_at}
use Rattle.gen_match.proofs.Rest.{element_step}
use Rattle.gen_match.proofs.Strays.{derived_no_rank, loyal_no_rank}
use Rattle.gen_match.proofs.derived.find_entries.Goals.{else-contains-via-then-contains+else-not-derives, else-contains-via-else-contains}
use Rattle.gen_match.proofs.derived.find_entries.Goals as goal

pub loop-entry-preserved-else-contains : goal.loop-entry-preserved-else-contains
loop-entry-preserved-else-contains c =
    let ranks = c.loop-entry.ranks.items in
    let entry = erase c.in-Some.entry.now in
    let found = found_at c.args.sources.now c.args.header.now.network c.args.faulty.now c.args.to in
    let none : ranks ≡ ranks ++ found entry = elim c.else-contains.branch [
      | else-contains-via-then-contains+else-not-derives w ↦ derived_no_rank c.args.sources.now c.args.header.now.network c.args.faulty.now c.args.to c.in-Recv.from c.in-Recv.chain.order (signed_path c.in-Recv.chain.signers) ranks entry w.derives.result (ap erase c.in-Recv.is) (rw (c.order-order.ensures.value, c.path-path.ensures) at w.derives.ensures) w.if-not-derives.false
      | else-contains-via-else-contains w ↦ loyal_no_rank c.args.sources.now c.args.header.now.network c.args.faulty.now c.args.to c.in-Recv.from c.in-Recv.chain.order (signed_path c.in-Recv.chain.signers) ranks entry c.contains.result (ap erase c.in-Recv.is) c.contains.ensures w.if-contains.false
    ] in
    record {
      ranks_so_far = element_step found ranks ranks _ (erased c.loop-entry.rest.now) (erased c.in-Some.others.now) entry (ap erased c.in-Some.ensures.cases.0) none c.loop-entry.invariant.ranks_so_far;
      small_so_far = λ small. c.loop-entry.invariant.small_so_far (subst (λ (es : List Entry). AllByRecursion IsSmall (erased es)) (sym c.in-Some.ensures.cases.0) (c.note_ranges.ensures, small));
    }
