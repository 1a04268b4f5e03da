use Rattle.gen_enroll.proofs.root_files.Roots.new.Goals as goal

pub invariant_of-result : goal.invariant_of-result
invariant_of-result c = record {
  few = c.requires.levels;
  count = c.requires.count;
  wide = rw (← c.as_slice.ensures.value) c.roots_are_wide.ensures;
}
