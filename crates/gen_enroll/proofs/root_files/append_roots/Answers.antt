use Rattle.std.proofs.Common.{◌≡◌, ◌*◌, List, [], ℕ, length, sym, arith}
use Rattle.std.proofs.lemmas.List.{append-nil}
use Rattle.std.proofs.lemmas.List.Folds.{length-flat_map-take}
use Rattle.std.proofs.lemmas.Result.{err_from_is_err_and}
use Rattle.gen_identity.proofs.Spelled.{all_wide, length-siblings}
use Rattle.gen_enroll.specs.RootFiles.{AreWide, roots_spelling}
use Rattle.gen_enroll.proofs.root_files.append_roots.Goals as goal

long : (roots : List (List ℕ)) → AreWide roots → length (roots_spelling roots) ≡ 32 * length roots
long roots wide = length-siblings roots wide

pub returns-in_err-reserve-clause-full : goal.returns-in_err-reserve-clause-full
returns-in_err-reserve-clause-full c =
    let p = err_from_is_err_and c.from_residual.result c.from_residual.ensures.1 in
    rw p.1 (omega (arith, c.in_err-reserve.ensures.full, long c.args.roots.now (all_wide c.args.roots.now c.told-roots)))

pub roots-init : goal.roots-init
roots-init c = record {
  items = sym (append-nil c.reserve.new.self.items);
  len = omega arith;
  capacity = omega arith;
  room = omega (arith, c.in_ok-reserve.ensures.ok, c.in_ok-reserve.ensures.len, long c.args.roots.now (all_wide c.args.roots.now c.told-roots));
}

pub unwrap-requires : goal.unwrap-requires
unwrap-requires c =
    let all = length-flat_map-take (λ (s : List ℕ). s) c.args.roots.now c.roots.root-index [] c.roots-test.true in
    c.extend_from_slice.ensures.succeeds (omega (arith, all, c.roots.invariant.room, c.roots.invariant.len, c.roots.invariant.capacity))
