use Rattle.std.proofs.Common.{append_assoc}
use Rattle.gen_show.specs.HeaderText.{number_lines}
use Rattle.gen_show.proofs.headers.push_numbers.Goals as goal

pub returns : goal.returns
unfolding number_lines
returns c =
    simp append_assoc
    (simp (append_assoc, c.generals-generals.ensures.value, c.traitors-traitors.ensures, c.diameter-diameter.ensures, c.orders-orders.ensures.value, c.number-choice.ensures, c.choice.ensures, c.in_ok-write.ensures.bytes)
    at c.write-2.ensures.bytes)
