use Rattle.std.proofs.Common.{rules, ◌≡◌, ◌≤◌, ◌<◌, ◌+◌, ◌-◌, ◌*◌, ◌/◌, ◌^◌, ◌++◌, ℕ, true, false, List, length, drop, refl, sym, ap, ap₂, ◌∙◌, arith, pow_mono}
use Rattle.std.proofs.lemmas.List.{length-drop}
use Rattle.gen_enroll.specs.RootFiles.{head_spelling}
use Rattle.gen_identity.specs.States.{state_after}
use Rattle.gen_enrolling.specs.Loops.{file_from, roots_from}
use Rattle.gen_enrolling.specs.Resuming.{place_of}
use Rattle.gen_enrolling.proofs.Missing.{Touched, are_touched, goes_on_is, length_of_file, missing_is, same_tests, too_long}
use Rattle.gen_enrolling.proofs.fronts.begun_behind.Goals as goal

pub returns-then-levels-front-clause-error : goal.returns-then-levels-front-clause-error
returns-then-levels-front-clause-error c =
    let long = length_of_file c.args.secret.now c.args.height c.args.levels c.args.front.now 0 0 refl in
    let most : 2 ^ c.args.levels ≤ 2 ^ 20 = pow_mono c.requires in
    too_long c.args.front.now (file_from c.args.secret.now c.args.height c.args.levels) (omega (arith, long, most, c.if-levels-front.true))

pub returns-then-not-begin_with-clause-error : goal.returns-then-not-begin_with-clause-error
returns-then-not-begin_with-clause-error c =
    let n = length c.args.front.now in
    let first = c.last_set-first.result in
    let touched = c.touched_sets-touched.result in
    let short : n ≤ 5 + 32 * 2 ^ c.args.levels = omega (arith, c.if-levels-front.false) in
    let left : length c.bytes_from-tail.result.now ≡ n - (5 + 32 * first) = ap length c.bytes_from-tail.ensures ∙ length-drop (5 + 32 * first) c.args.front.now in
    let t : Touched n (2 ^ c.args.levels) first touched
    = are_touched n (2 ^ c.args.levels) first touched short c.last_set-first.ensures (c.touched_sets-touched.ensures ∙ ap (λ (k : ℕ). (k + 31) / 32) left) in
    let state : c.advance-state.result ≡ state_after c.args.secret.now first = c.advance-state.ensures ∙ ap (λ (s : List ℕ). state_after s first) c.new.ensures in
    let own : c.deref.result.now ≡ roots_from (state_after c.args.secret.now first) c.args.height touched
    = c.deref.ensures.value ∙ c.in_ok-own.ensures ∙ ap (λ (s : List ℕ). roots_from s c.args.height touched) state in
    let same = same_tests c.args.front.now _ _ _ _ _ _ c.to_bytes-head.ensures own c.bytes_from-tail.ensures in
    let off : c.begin_with.result ≡ false = search rules in
    goes_on_is c.args.secret.now c.args.height c.args.levels c.args.front.now first touched t refl short c.last_set-first.ensures ∙ sym same ∙ sym c.begin_with.ensures ∙ off

pub overflow_cast-result : goal.overflow_cast-result
overflow_cast-result c =
    let n = length c.args.front.now in
    let first = c.last_set-first.result in
    let touched = c.touched_sets-touched.result in
    let short : n ≤ 5 + 32 * 2 ^ c.args.levels = omega (arith, c.if-levels-front.false) in
    let left : length c.bytes_from-tail.result.now ≡ n - (5 + 32 * first) = ap length c.bytes_from-tail.ensures ∙ length-drop (5 + 32 * first) c.args.front.now in
    let t : Touched n (2 ^ c.args.levels) first touched
    = are_touched n (2 ^ c.args.levels) first touched short c.last_set-first.ensures (c.touched_sets-touched.ensures ∙ ap (λ (k : ℕ). (k + 31) / 32) left) in
    let most : 2 ^ c.args.levels ≤ 2 ^ 20 = search (rules, pow_mono, c.requires) in
    let few : first + touched < 2 ^ 32 = omega (arith, t.within, most) in
    search (rules, few)

pub returns-clause-begun : goal.returns-clause-begun
returns-clause-begun c =
    let n = length c.args.front.now in
    let first = c.last_set-first.result in
    let touched = c.touched_sets-touched.result in
    let short : n ≤ 5 + 32 * 2 ^ c.args.levels = omega (arith, c.if-levels-front.false) in
    let left : length c.bytes_from-tail.result.now ≡ n - (5 + 32 * first) = ap length c.bytes_from-tail.ensures ∙ length-drop (5 + 32 * first) c.args.front.now in
    let t : Touched n (2 ^ c.args.levels) first touched
    = are_touched n (2 ^ c.args.levels) first touched short c.last_set-first.ensures (c.touched_sets-touched.ensures ∙ ap (λ (k : ℕ). (k + 31) / 32) left) in
    let state : c.advance-state.result ≡ state_after c.args.secret.now first = c.advance-state.ensures ∙ ap (λ (s : List ℕ). state_after s first) c.new.ensures in
    let items : c.in_ok-own.own.items ≡ roots_from (state_after c.args.secret.now first) c.args.height touched
    = c.in_ok-own.ensures ∙ ap (λ (s : List ℕ). roots_from s c.args.height touched) state in
    let same = same_tests c.args.front.now _ _ _ _ _ _ c.to_bytes-head.ensures (c.deref.ensures.value ∙ items) c.bytes_from-tail.ensures in
    let on : c.begin_with.result ≡ true = search rules in
    let head_left : c.extend_from_slice.new.self.items ≡ drop n (head_spelling (record { height = c.args.height; levels = c.args.levels }))
    = c.in_ok-extend_from_slice.ensures.items ∙ ap (λ (t : List ℕ). t ++ c.bytes_from.result.now) c.new-text.ensures.items ∙ c.bytes_from.ensures ∙ ap (drop n) c.to_bytes-head.ensures in
    let own_left : c.bytes_from-2.result.now ≡ drop (n - place_of first) (roots_from (state_after c.args.secret.now first) c.args.height touched)
    = c.bytes_from-2.ensures ∙ ap₂ (λ (k : ℕ) (t : List ℕ). drop k t) left (c.deref-2.ensures.value ∙ items) in
    let text = c.in_ok-extend_from_slice-2.ensures.items ∙ ap₂ (λ (a b : List ℕ). a ++ b) head_left own_left in
    let next : c.advance.result ≡ state_after (state_after c.args.secret.now first) touched
    = c.advance.ensures ∙ ap (λ (s : List ℕ). state_after s touched) state in
    record {
      own = goes_on_is c.args.secret.now c.args.height c.args.levels c.args.front.now first touched t refl short c.last_set-first.ensures ∙ sym same ∙ sym c.begin_with.ensures ∙ on;
      within = t.within;
      text = missing_is c.args.secret.now c.args.height c.args.levels c.args.front.now first touched t refl
          ∙ ap₂ (λ (a s : List ℕ). a ++ roots_from s c.args.height (2 ^ c.args.levels - (first + touched))) (sym text) (sym next);
    }
