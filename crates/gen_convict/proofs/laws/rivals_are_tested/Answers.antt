use Rattle.gen_convict.proofs.AcrossTests.{tests_rivals, one_leaf, slots_apart}
use Rattle.gen_convict.proofs.SharingTests.{tests_sharing}
use Rattle.gen_convict.proofs.laws.rivals_are_tested.Goals as goal

pub returns : goal.returns
returns c = record { sharing = tests_sharing; rivals = tests_rivals; leaf = one_leaf; slots = slots_apart }
