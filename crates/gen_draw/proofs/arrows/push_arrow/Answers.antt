use Rattle.std.proofs.Common.{◌++◌, codes, string_bytes}
use Rattle.std.specs.Fmt.{decimal}
use Rattle.gen_draw.specs.Arrows.{arrow_line, arrow_opening, message_stroke, path_words, told_words}
use Rattle.gen_draw.specs.Shapes.{words_at}
use Rattle.gen_draw.proofs.Chains.{five}
use Rattle.gen_draw.proofs.arrows.push_arrow.Goals as goal

pub returns : goal.returns
unfolding arrow_line
returns c =
    rw (← c.get-from.ensures.value, ← c.get-to.ensures.value, ← c.get-order.ensures.value, ← c.len-round.ensures.length, ← c.generals.ensures, ← c.middle.ensures.value, ← c.middle_of.ensures.value)
    (five _ (string_bytes c.args.out.now)
    (arrow_opening c.args.arrow.now.told c.get-from.result c.get-to.result c.len-round.result c.get-order.result)
    (path_words c.generals.result.now)
    (told_words c.args.arrow.now.told c.get-from.result c.get-to.result)
    (message_stroke c.args.grid c.get-from.result c.get-to.result c.len-round.result c.get-order.result)
    (words_at c.middle.result c.middle_of.result)
    (decimal c.get-order.result ++ codes "</text></g>\n")
    _ _ _ _ _ c.in_ok-push_arrow_opening.ensures c.in_ok-push_title_end.ensures
    c.in_ok-push_message_stroke.ensures c.in_ok-push_words.ensures c.write.ensures.bytes)
