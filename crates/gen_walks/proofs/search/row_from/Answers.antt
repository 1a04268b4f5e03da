use Rattle.std.proofs.Common.{◌∙◌}
use Rattle.gen_walks.specs.Walks.{AreJoined}
use Rattle.gen_walks.specs.Levels.{level}
use Rattle.gen_walks.specs.Loops.Search.{AreLevels}
use Rattle.gen_walks.proofs.Distances.{distances}
use Rattle.gen_walks.proofs.Rows.{row_at}
use Rattle.gen_walks.proofs.search.row_from.Goals as goal

pub returns-clause-levels : goal.returns-clause-levels
returns-clause-levels c =
    row_at c.args.net.now c.args.rest.now c.args.net.now.generals c.args.rows.now c.args.source c.from.result c.index-rows-from.result c.requires.rows c.requires.source.0 (c.from.ensures ∙ c.get.ensures.value) c.index-rows-from.is

pub returns-clause-distances : goal.returns-clause-distances
returns-clause-distances c =
    let levels : AreLevels (AreJoined c.args.net.now c.args.rest.now) c.args.source (level c.index-rows-from.result) =
    row_at c.args.net.now c.args.rest.now c.args.net.now.generals c.args.rows.now c.args.source c.from.result c.index-rows-from.result c.requires.rows c.requires.source.0 (c.from.ensures ∙ c.get.ensures.value) c.index-rows-from.is in
    distances c.args.net.now c.args.rest.now c.args.source c.index-rows-from.result c.requires.network c.requires.source levels
