use Rattle.std.proofs.Common.{◌≡◌, ◌++◌, take}
use Rattle.std.specs.List.{flat_map}
use Rattle.gen_node.specs.Frame.{parcel_spelling}
use Rattle.gen_node.proofs.frame_writing.spelled.Given as goal

abbrev pub invariant-parcels : goal.invariant-parcels
invariant-parcels l = record {
  items : l.out.items ≡ l.initial.out.items ++ flat_map parcel_spelling (take l.parcel-index l.parcels);
}
