use Rattle.std.proofs.Common.{◌≡◌, ℕ, Bool, sym, ap, ◌∙◌, arith}
use Rattle.std.specs.List.{list_any}
use Rattle.gen_net.specs.Edges.{joins, edges_of}
use Rattle.gen_net.proofs.EdgeLists.{given_edges}
use Rattle.gen_net.proofs.Ranges.{accepted}
use Rattle.gen_net.proofs.Rows.{place_taken, place_passed, row_done}
use Rattle.gen_net.proofs.net.Net.new.Goals as goal
use Rattle.gen_net.proofs.net.Net.new.Goals.{then-is_joined+in_ok-push, else-is_joined}

pub at-first-requires : goal.at-first-requires
at-first-requires c = omega (arith, (accepted _ _ _ c.in_ok-choice.ensures).ranges.few_generals)

pub at-requires : goal.at-requires
at-requires c = omega (arith, (accepted _ _ _ c.in_ok-choice.ensures).ranges.few_generals)

pub loop-b-preserved : goal.loop-b-preserved
loop-b-preserved c =
    let P : ℕ × ℕ → Bool = λ p. list_any (joins p.0 p.1) c.args.edges.now in
    elim c.if-is_joined.branch [
      | then-is_joined+in_ok-push w ↦ place_taken P c.loop-a.a c.loop-b.b c.loop-a.ascending.items c.loop-b.ascending.items _ c.loop-b.auto.b c.loop-b.invariant (sym w.if-is_joined.ensures) (ap (λ e. e.items) w.ascending-is ∙ (rw (c.at-first.ensures, w.at.ensures) at w.in_ok-push.ensures.items))
      | else-is_joined w ↦ rw (ap (λ e. e.items) w.ascending-is) (place_passed P c.loop-a.a c.loop-b.b c.loop-a.ascending.items c.loop-b.ascending.items c.loop-b.auto.b c.loop-b.invariant (sym w.if-is_joined.ensures))
    ]

pub loop-a-preserved : goal.loop-a-preserved
loop-a-preserved c =
    let P : ℕ × ℕ → Bool = λ p. list_any (joins p.0 p.1) c.args.edges.now in
    let all : c.loop-b.b ≡ c.args.n = omega arith in
    row_done P c.args.n c.loop-a.a c.loop-a.ascending.items _ c.loop-a.invariant (rw all at c.loop-b.invariant)

pub of_parts-requires : goal.of_parts-requires
of_parts-requires c =
    let r = accepted _ _ _ c.in_ok-choice.ensures in
    let all : c.loop-a.a ≡ c.args.n = omega arith in
    let whole : c.loop-a.ascending.items ≡ edges_of c.args.n c.args.edges.now = rw all at c.loop-a.invariant in
    record { ranges = r.ranges; edges = rw whole (given_edges c.args.n c.args.edges.now) }
