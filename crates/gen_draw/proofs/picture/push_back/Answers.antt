use Rattle.std.proofs.Common.{◌≡◌, ◌++◌, ◌+◌, arith, append_assoc, codes, string_bytes}
use Rattle.std.specs.Fmt.{decimal}
use Rattle.gen_draw.specs.Page.{legend_line, legend_lines}
use Rattle.gen_draw.specs.Picture.{closing, page_back}
use Rattle.gen_draw.proofs.Chains.{behind}
use Rattle.gen_draw.proofs.Ranges.{one_more}
use Rattle.gen_draw.proofs.picture.push_back.Goals as goal

pub loop-order-preserved : goal.loop-order-preserved
unfolding legend_line
loop-order-preserved c = one_more (legend_line c.args.grid.generals) 0 c.loop-order.order-counter c.loop-order.order-counter _ _ _ (omega arith) c.loop-order.invariant (rw (← c.legend_row-y.ensures.value) (simp append_assoc at c.in_ok-write.ensures.bytes))

pub returns : goal.returns
unfolding page_back closing
returns c =
    let all : c.loop-order.order-counter ≡ c.args.grid.orders = omega arith in
    rw (← c.legend_row.ensures.value)
    (behind _ (string_bytes c.args.out.now) (legend_lines c.args.grid) _
    (codes "<g transform=\"translate(160 " ++ (decimal (c.legend_row.result + 4) ++ closing)) _
    (rw all at c.loop-order.invariant) c.write-2.ensures.bytes)
