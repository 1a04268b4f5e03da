use Rattle.gen_draw.specs.Style.{dark_style, light_style, plain_style}
use Rattle.gen_draw.proofs.style.push_style.Goals as goal

pub returns : goal.returns
unfolding plain_style light_style dark_style
returns c = c.write.ensures.bytes
