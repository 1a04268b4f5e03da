use Rattle.gen_draw.proofs.Drawings.{messages_stand}
use Rattle.gen_draw.proofs.laws.messages_stand_where_logs_say.Goals as goal

pub returns : goal.returns
returns c = messages_stand
