use Rattle.gen_plan.proofs.FirstParted.{is_parted_pair}
use Rattle.gen_plan.proofs.parting.parted_pair.Goals as goal

pub returns-clause-value : goal.returns-clause-value
returns-clause-value c =
    let told = c.first_apart.ensures in
    is_parted_pair c.args.net.now c.args.faulty.now c.first_apart.result
    (rw (c.of-graph.ensures, c.diameter.ensures) at told.some) (rw (c.of-graph.ensures, c.diameter.ensures) at told.none)

pub returns-clause-least : goal.returns-clause-least
returns-clause-least c = rw (c.of-graph.ensures, c.diameter.ensures) at c.first_apart.ensures.some

pub returns-clause-none : goal.returns-clause-none
returns-clause-none c = rw (c.of-graph.ensures, c.diameter.ensures) at c.first_apart.ensures.none
