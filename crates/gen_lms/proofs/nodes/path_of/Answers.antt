use Rattle.std.proofs.Common.{◌≡◌, ◌<◌, ◌≤◌, ◌+◌, ◌-◌, ◌*◌, ◌/◌, ◌^◌, refl, length, sym, ap, ◌∙◌, arith}
use Rattle.std.proofs.lemmas.List.{places}
use Rattle.std.proofs.lemmas.Nat.{pow_pos}
use Rattle.std.proofs.lemmas.Slice.{take-put_mid}
use Rattle.gen_lmots.specs.Strings.{hash_length}
use Rattle.gen_lms.specs.Heights.{leaves_of, levels_of}
use Rattle.gen_lms.specs.Tree.{beside, node_over}
use Rattle.gen_lms.proofs.Arrayed.{some_factor}
use Rattle.gen_lms.proofs.Climbing.{path_over-more, path_over-zero}
use Rattle.gen_lms.proofs.Numbers.{beside-first, beside-last, few_levels}
use Rattle.gen_lms.proofs.nodes.path_of.Goals as goal

pub levels-init : goal.levels-init
levels-init c = ((λ identifier are. sym (path_over-zero identifier c.args.leaves.now (leaves_of c.args.height) c.args.number)), refl)

pub node_of-node-requires-clause-stands : goal.node_of-node-requires-clause-stands
node_of-node-requires-clause-stands c =
    let a = c.args in
    let n = c.levels.level in
    let first = beside-first a.number n (levels_of a.height) c.requires.first (omega (arith, c.levels-test.true)) in
    let some = some_factor (beside (a.number / 2 ^ n)) (2 ^ n) (leaves_of a.height) (pow_pos (levels_of a.height)) first in
    rw c.beside-other.ensures (omega (arith, some, c.requires.nodes))

pub levels-preserved : goal.levels-preserved
levels-preserved c =
    let a = c.args in
    let n = c.levels.level in
    let at : c.from-at.result ≡ n = c.from-at.ensures in
    let within : n < levels_of a.height = omega (arith, c.levels-test.true) in
    let first : length a.leaves.now ≤ c.beside-other.result * 2 ^ n = rw (c.beside-other.ensures, c.requires.count) (beside-first a.number n (levels_of a.height) c.requires.first within) in
    let last : (c.beside-other.result + 1) * 2 ^ n ≤ 2 * length a.leaves.now = rw (c.beside-other.ensures, c.requires.count) (beside-last a.number n (levels_of a.height) c.requires.last within) in
    let same : c.copy_from_slice.new.self ≡ c.node_of-node.result = c.copy_from_slice.ensures.after in
    let long : length c.copy_from_slice.new.self ≡ hash_length = omega (arith, ap length same, c.node_of-node.type_inv) in
    let few = few_levels a.height in
    let grown = take-put_mid (hash_length * c.from-at.result) (hash_length * c.from-at.result + hash_length - hash_length * c.from-at.result) c.levels.path c.copy_from_slice.new.self (hash_length * (n + 1)) (omega (arith, long, at)) (omega (arith, c.levels.invariant.1, at, few, within)) in (
      (λ identifier are.
          let before = c.levels.invariant.0 identifier are in
          let one : c.node_of-node.result ≡ node_over identifier a.leaves.now (leaves_of a.height) n (beside (a.number / 2 ^ n))
          = rw (c.requires.count, c.beside-other.ensures) at (c.node_of-node.ensures identifier n are first last) in
          grown ∙ rw (at, before, same, one) (sym (path_over-more identifier a.leaves.now (leaves_of a.height) a.number n))),
      grind (arith, places),
    )

pub returns : goal.returns
returns c = λ identifier are.
    let n : c.levels.level ≡ levels_of c.args.height = omega arith in
    let all = rw n at (c.levels.invariant.0 identifier are) in
    all
