use Rattle.std.proofs.Common.{◌++◌, List, ℕ, [], ap, ◌∙◌}
use Rattle.sha2.specs.Sha256.{sha256}
use Rattle.gen_lmots.specs.Strings.{u16str, u32str}
use Rattle.gen_lms.specs.Tree.{d_intr}
use Rattle.gen_lms.proofs.Leading.{five_parts}
use Rattle.gen_lms.proofs.nodes.inner.Goals as goal

pub returns : goal.returns
returns c =
    let a = c.args.identifier.now in
    let n = c.to_be_bytes.result in
    let d = c.to_be_bytes-2.result in
    let l = c.args.left.now in
    let r = c.args.right.now in
    let first = c.update.ensures [] c.new-hasher.ensures in
    let second = c.update-2.ensures a first in
    let third = c.update-3.ensures (a ++ n) second in
    let fourth = c.update-4.ensures ((a ++ n) ++ d) third in
    let fifth = c.update-5.ensures (((a ++ n) ++ d) ++ l) fourth in
    c.finalize.ensures ((((a ++ n) ++ d) ++ l) ++ r) fifth
    ∙ ap (λ (x : List ℕ). sha256 ((((a ++ x) ++ d) ++ l) ++ r)) c.to_be_bytes.ensures
    ∙ ap (λ (x : List ℕ). sha256 ((((a ++ u32str c.args.number) ++ x) ++ l) ++ r)) c.to_be_bytes-2.ensures
    ∙ ap sha256 (five_parts a (u32str c.args.number) (u16str d_intr) l r)
