use Rattle.std.proofs.Common.{◌<◌, ℕ, [], length, slice_index_or, sym, subst, ◌∙◌}
use Rattle.std.proofs.lemmas.List.{length-set}
use Rattle.std.proofs.lemmas.List.Elements.{All-get_or}
use Rattle.gen_enroll.specs.declared.taking.MadeRoot.{MadeRoot}
use Rattle.gen_enroll.specs.Taking.{IsMade}
use Rattle.gen_enroll.proofs.Found.{found_after, there_after}
use Rattle.gen_enroll.proofs.taking.put_roots.Goals as goal

pub roots-preserved : goal.roots-preserved
roots-preserved c =
    let none : MadeRoot = record { place = 0; root = [] } in
    let one = slice_index_or c.args.made.now c.roots.it-index none in
    let within : one.place < length c.roots.found
    = subst (λ (n : ℕ). one.place < n) (sym c.roots.invariant.all) (All-get_or (λ (m : MadeRoot). m.place < length c.args.found.now) c.args.made.now c.roots.it-index none c.roots-test.true c.requires) in
    record {
      all = length-set c.roots.found _ _ ∙ c.roots.invariant.all;
      there = there_after c.args.made.now c.roots.it-index none c.roots.found c.roots-test.true within c.roots.invariant.there;
      each = λ states height made are.
          found_after states height c.roots.found _ (All-get_or (IsMade states height) c.args.made.now c.roots.it-index _ c.roots-test.true made) (c.roots.invariant.each states height made are);
    }
