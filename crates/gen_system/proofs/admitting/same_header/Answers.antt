use Rattle.std.proofs.Common.{rules}
use Rattle.gen_net.specs.SameHeaderLaws.{header_decides}
use Rattle.gen_system.proofs.admitting.same_header.Goals as goal

pub returns : goal.returns
returns c = search (rules, header_decides)
