use Rattle.std.proofs.Common.{◌≡◌, List, ℕ, subst, sym, ◌∙◌}
use Rattle.std.specs.Cmp.Lexicographic.{same_text}
use Rattle.gen_net.specs.Header.{run_id_of}
use Rattle.gen_ots.specs.Colliding.{AreColliding}
use Rattle.gen_convict.specs.Refuting.{run_id_text}
use Rattle.gen_convict.proofs.across_checking.refute_across.Goals as goal

pub returns-then-eq : goal.returns-then-eq
returns-then-eq c =
    let h = c.args.first.now.header in
    let k = c.args.second.now.header in
    let alike = same_text c.run_id.result.now c.run_id-2.result.now (sym (sym c.eq.ensures ∙ c.if-eq.true)) in
    let ids : run_id_of h ≡ run_id_of k = sym c.run_id.ensures ∙ alike ∙ c.run_id-2.ensures in
    let unequal = c.requires.rivals.runs.unequal in
    let meet = c.headers_collide.ensures h k c.net-net.ensures.header c.net-other.ensures.header unequal ids in
    let left : c.in_ok-left.left.items ≡ run_id_text h = c.in_ok-left.ensures in
    let right : c.in_ok-right.right.items ≡ run_id_text k = c.in_ok-right.ensures in
    record {
      differ = unequal;
      ids = ids;
      first = left;
      second = right;
      collide = subst (λ (b : List ℕ). AreColliding c.in_ok-left.left.items b) (sym right) (subst (λ (a : List ℕ). AreColliding a (run_id_text k)) (sym left) meet);
    }
