use Rattle.std.proofs.Common.{take}
use Rattle.gen_chain.specs.Store.{Serves}
use Rattle.gen_scenario.specs.Listing.{AreListed}
use Rattle.gen_general.proofs.counting.count_frame.Given as goal

abbrev pub invariant-parcels : goal.invariant-parcels
invariant-parcels l = AreListed l.header l.delivery (take l.parcel-index l.frame) l.counted.items × Serves l.header l.store
