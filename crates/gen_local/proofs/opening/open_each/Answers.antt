use Rattle.std.proofs.lemmas.List.Elements.{All-push}
use Rattle.gen_local.specs.Opened.{IsOpened}
use Rattle.gen_local.proofs.Grouped.{opened_more}
use Rattle.gen_local.proofs.opening.open_each.Goals as goal

pub exhibits-preserved : goal.exhibits-preserved
exhibits-preserved c =
    let o = c.in_ok-open.field-0 in
    record {
      serves = c.open.ensures.serves;
      grows = λ t answer kept. c.open.ensures.grows t answer (c.exhibits.invariant.grows t answer kept);
      shown = rw c.in_ok-push.ensures.items (opened_more c.args.exhibits.now c.exhibits.opened.items c.exhibits.exhibit-index o c.exhibit-item.result c.exhibits-test.true c.exhibit-item.is c.in_ok-open.ensures.exhibit c.exhibits.invariant.shown);
      opened = rw c.in_ok-push.ensures.items (All-push (IsOpened c.args.header.now) c.exhibits.opened.items o c.exhibits.invariant.opened c.in_ok-open.ensures.opened);
    }
