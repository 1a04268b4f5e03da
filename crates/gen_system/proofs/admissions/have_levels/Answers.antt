use Rattle.std.proofs.Common.{◌∙◌, sym}
use Rattle.gen_system.specs.Admissions.{IsOpenedRoot}
use Rattle.gen_system.proofs.Growing.{each_more, levels_more}
use Rattle.gen_system.proofs.admissions.have_levels.Goals as goal

pub roots-preserved : goal.roots-preserved
roots-preserved c =
    let o = c.one-item.result in
    let xs = c.args.opened.now in
    let holds = c.if-not-has_levels.false in
    record {
      all = levels_more c.args.levels xs c.roots.one-index o o c.roots-test.true c.one-item.is c.roots.invariant.all (sym c.has_levels.ensures.value ∙ holds);
      opened = each_more (IsOpenedRoot c.args.levels) xs c.roots.one-index o o c.roots-test.true c.one-item.is c.roots.invariant.opened (c.has_levels.ensures.opened holds);
    }
