use Rattle.std.proofs.Common.{ℕ, arith, ◌≡◌, ◌≤◌, ◌+◌, sym, refl, subst}
use Rattle.std.proofs.lemmas.Result.{err_from_is_err_and}
use Rattle.gen_walks.specs.Walks.{AreJoined, IsPair, IsPairBefore}
use Rattle.gen_walks.specs.Levels.{level}
use Rattle.gen_walks.specs.Loops.Search.{AreLevels, AreLevelRows}
use Rattle.gen_walks.specs.BestWalks.{IsBestFor, AreBestFor}
use Rattle.gen_walks.specs.Faults.{Explains}
use Rattle.gen_walks.proofs.Pairs.{all_passed, bounds, none_yet, pair_added, pair_passed, row_passed, fault_of}
use Rattle.gen_walks.proofs.Rows.{no_row, row_added}
use Rattle.gen_walks.proofs.Places.{told_otherwise}
use Rattle.gen_walks.proofs.make.make_walks.Goals as goal
use Rattle.gen_walks.proofs.make.make_walks.Goals.{then-is_pair+in_ok-walk+in_ok-push-2, else-is_pair}

pub sources-init : goal.sources-init
sources-init c = rw c.new-rows.ensures.items (no_row c.args.net.now c.args.rest.now)

pub sources-preserved : goal.sources-preserved
sources-preserved c =
    let net = c.args.net.now in
    let rest = c.args.rest.now in
    let row = c.levels_from.result in
    let levels : AreLevels (AreJoined net rest) c.sources.source (level row) = subst (λ g. AreLevels (AreJoined net rest) g (level row)) c.at.ensures c.levels_from.ensures in
    rw c.in_ok-push.ensures.items (row_added net rest c.sources.source c.sources.rows.items row c.sources.invariant levels)

pub walk_for-requires-clause-rows : goal.walk_for-requires-clause-rows
walk_for-requires-clause-rows c =
    let all : c.sources.source ≡ c.args.net.now.generals = omega (arith, c.sources-test.false, c.sources.auto.source-end, c.generals-source-end.ensures.value) in
    rw c.deref.ensures.value (subst (λ n. AreLevelRows c.args.net.now c.args.rest.now n c.sources.rows.items) all c.sources.invariant)

pub loop-number-init : goal.loop-number-init
loop-number-init c = rw c.new-walks.ensures (none_yet c.args.net.now c.args.rest.now)

pub loop-other-init : goal.loop-other-init
loop-other-init c =
    let net = c.args.net.now in
    let rest = c.args.rest.now in
    subst (λ (x : ℕ). AreBestFor net rest (IsPairBefore net rest x 0) c.loop-number.walks) (sym c.at-a.ensures) c.loop-number.invariant

pub returns-in_err-walk-clause-err : goal.returns-in_err-walk-clause-err
returns-in_err-walk-clause-err c =
    let net = c.args.net.now in
    let rest = c.args.rest.now in
    let a = c.at-a.result in
    let b = c.loop-other.other in
    let p = err_from_is_err_and c.from_residual-in_err-walk.result c.from_residual-in_err-walk.ensures.1 in
    let pair : IsPair net rest a b = subst (IsPair net rest a) c.at-b.ensures (c.if-is_pair.ensures.0 refl) in
    let says : Explains net rest a b c.in_err-walk.field-0.0 = subst (λ y. Explains net rest a y c.in_err-walk.field-0.0) c.at-b.ensures c.in_err-walk.ensures.err in
    rw (p.1, p.2) (fault_of net rest a b c.loop-other.walks c.in_err-walk.field-0.0 pair c.loop-other.invariant says)

pub loop-other-preserved : goal.loop-other-preserved
loop-other-preserved c =
    let net = c.args.net.now in
    let rest = c.args.rest.now in
    let a = c.at-a.result in
    let b = c.loop-other.other in
    elim c.if-is_pair.branch [
      | then-is_pair+in_ok-walk+in_ok-push-2 w ↦
          let pair : IsPair net rest a b = subst (IsPair net rest a) c.at-b.ensures (w.if-is_pair.ensures.0 refl) in
          let best : IsBestFor net rest (a, b) w.in_ok-walk.walk = subst (λ y. IsBestFor net rest (a, y) w.in_ok-walk.walk) c.at-b.ensures w.in_ok-walk.ensures.ok in
          rw (w.walks-is, w.in_ok-push-2.ensures.ok) (pair_added net rest a b c.loop-other.walks w.in_ok-walk.walk c.loop-other.invariant pair best)
      | else-is_pair w ↦ rw w.walks-is (pair_passed net rest a b c.loop-other.walks c.loop-other.invariant (λ p. told_otherwise (w.if-is_pair.ensures.1 (subst (IsPair net rest a) (sym c.at-b.ensures) p))))
    ]

pub loop-number-preserved : goal.loop-number-preserved
loop-number-preserved c =
    let net = c.args.net.now in
    let rest = c.args.rest.now in
    let whole : net.generals ≤ c.loop-other.other = omega (arith, c.loop-other-test.false, c.generals-other-end.ensures.value) in
    subst (λ (x : ℕ). AreBestFor net rest (IsPairBefore net rest (x + 1) 0) c.loop-other.walks) c.at-a.ensures
    (row_passed net rest c.at-a.result c.loop-other.other c.loop-other.walks whole c.loop-other.invariant)

pub returns-clause-best : goal.returns-clause-best
returns-clause-best c =
    let whole : c.args.net.now.generals ≤ c.loop-number.number = omega (arith, c.loop-number-test.false, c.generals-number-end.ensures.value) in
    all_passed c.args.net.now c.args.rest.now c.loop-number.number c.loop-number.walks whole c.loop-number.invariant

pub returns-clause-bound : goal.returns-clause-bound
returns-clause-bound c =
    let whole : c.args.net.now.generals ≤ c.loop-number.number = omega (arith, c.loop-number-test.false, c.generals-number-end.ensures.value) in
    bounds c.args.net.now c.args.rest.now c.loop-number.walks (all_passed c.args.net.now c.args.rest.now c.loop-number.number c.loop-number.walks whole c.loop-number.invariant)
