use Rattle.gen_draw.specs.Page.{life_of}
use Rattle.gen_draw.proofs.page.push_life.Goals as goal

pub returns : goal.returns
unfolding life_of
returns c = rw (← c.row_of-y.ensures.value, ← c.end-end.ensures.value) c.write.ensures.bytes
