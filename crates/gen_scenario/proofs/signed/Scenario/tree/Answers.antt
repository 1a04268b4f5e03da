use Rattle.std.proofs.Common.{◌≡◌, ◌<◌, ◌∙◌, List, ap, length, get_or, arith}
use Rattle.std.proofs.lemmas.List.FromFn.{length-map-range_with_len, get_or-map-range_with_len}
use Rattle.gen_tree.specs.Rings.{KeyTree}
use Rattle.gen_net.specs.Version.{height_in}
use Rattle.gen_scenario.specs.Trees.{general_tree, trees_of}
use Rattle.gen_scenario.proofs.signed.Scenario.tree.Goals as goal

pub index-requires : goal.index-requires
index-requires c =
    let s = c.args.self.now in
    let trees : c.self.inside.trees.items ≡ trees_of s = c.self.invariant.trees ∙ ap trees_of c.self.view_is in
    let count : length c.self.inside.trees.items ≡ s.net.generals = ap length trees ∙ length-map-range_with_len (general_tree s.master (height_in s.version)) 0 s.net.generals in
    omega (arith, count, c.self.inside.trees.ok.0, c.from.ensures, c.get.ensures.value, c.requires)

pub returns : goal.returns
returns c =
    let s = c.args.self.now in
    let trees : c.self.inside.trees.items ≡ trees_of s = c.self.invariant.trees ∙ ap trees_of c.self.view_is in
    let at : c.from.result ≡ c.args.general = c.from.ensures ∙ c.get.ensures.value in
    let low : c.from.result < s.net.generals = omega (arith, at, c.requires) in
    c.index.ensures ∙ ap (λ (xs : List KeyTree). get_or xs c.from.result c.index.result.now) trees
    ∙ get_or-map-range_with_len (general_tree s.master (height_in s.version)) 0 s.net.generals c.from.result c.args.general c.index.result.now low (omega (arith, at))
