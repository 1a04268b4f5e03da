use Rattle.std.proofs.Common.{◌≡◌, ℕ, take, sym, ap, ◌∙◌}
use Rattle.gen_lms.specs.Rings.{LeafName, tree_path}
use Rattle.gen_lms.proofs.Leading.{signature_verifies, tree_signature-is}
use Rattle.gen_lms.proofs.leaf_keys.LeafKey.sign.Goals as goal

pub returns-clause-bytes : goal.returns-clause-bytes
returns-clause-bytes c =
    let key = c.self.inside.key in
    let k : LeafName = record {
      tree = record { identifier = key.place.identifier; seed = key.seed; height = c.self.inside.height };
      number = key.place.number;
    } in
    let room : c.args.room ≡ c.self.inside.height = c.requires ∙ ap (λ (x : LeafName). x.tree.height) (sym c.self.view_is) in
    let path : take c.path_bytes.result c.self.inside.path ≡ tree_path k.tree k.number = ap (λ (n : ℕ). take n c.self.inside.path) c.path_bytes.ensures ∙ c.self.invariant.0 in
    rw (← c.self.view_is) (c.signed_by.ensures ∙ tree_signature-is k c.args.randomizer.now c.args.message.now (take c.path_bytes.result c.self.inside.path) c.args.room room path)

pub returns-clause-verifies : goal.returns-clause-verifies
returns-clause-verifies c =
    let key = c.self.inside.key in
    let k : LeafName = record {
      tree = record { identifier = key.place.identifier; seed = key.seed; height = c.self.inside.height };
      number = key.place.number;
    } in
    let room : c.args.room ≡ c.self.inside.height = c.requires ∙ ap (λ (x : LeafName). x.tree.height) (sym c.self.view_is) in
    let path : take c.path_bytes.result c.self.inside.path ≡ tree_path k.tree k.number = ap (λ (n : ℕ). take n c.self.inside.path) c.path_bytes.ensures ∙ c.self.invariant.0 in
    let same = c.signed_by.ensures ∙ tree_signature-is k c.args.randomizer.now c.args.message.now (take c.path_bytes.result c.self.inside.path) c.args.room room path in
    rw (← c.self.view_is, same) (signature_verifies k c.args.randomizer.now c.args.message.now c.told-randomizer c.self.invariant.1)
