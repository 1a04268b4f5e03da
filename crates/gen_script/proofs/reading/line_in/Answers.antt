use Rattle.std.proofs.Common.{arith, length}
use Rattle.std.proofs.lemmas.Bool.{ltb-true, ltb-false}
use Rattle.gen_script.proofs.Words.{other_many, other_of_1, other_of_4, other_of_5, other_of_6}
use Rattle.gen_script.specs.LineReading.{line_in}
use Rattle.gen_script.proofs.reading.line_in.Goals as goal
use Rattle.gen_script.proofs.reading.line_in.Goals.{in_default-via-then-fields-lt1, in_default-via-in-len1+else-eq, in_default-via-else-fields-lt1+else-fields-lt2+then-fields-lt4, in_default-via-in-len4-2+else-eq-3, in_default-via-in-len5-2+else-eq-5, in_default-via-in-len6+else-eq-6, in_default-via-else-fields-lt1+else-fields-lt2+else-fields-lt4+else-fields-lt5+else-fields-lt6+else-fields-lt7}

pub returns-in_default : goal.returns-in_default
unfolding line_in
returns-in_default c =
    elim c.in_default.branch [
      | in_default-via-then-fields-lt1 w ↦ other_many (λ x. x.now) c.args.reader.now.net.now c.args.reader.now.me c.args.fields.now (λ e. omega (arith, ltb-true (length c.args.fields.now) 1 w.if-fields-lt1-1.true)) (λ e. omega (arith, ltb-true (length c.args.fields.now) 1 w.if-fields-lt1-1.true)) (λ e. omega (arith, ltb-true (length c.args.fields.now) 1 w.if-fields-lt1-1.true)) (λ e. omega (arith, ltb-true (length c.args.fields.now) 1 w.if-fields-lt1-1.true))
      | in_default-via-in-len1+else-eq w ↦ other_of_1 (λ x. x.now) c.args.reader.now.net.now c.args.reader.now.me c.args.fields.now _ (omega (arith, w.in-len1.len_at_least, w.in-len1.len_below)) _ w.as_slice.ensures w.if-eq.ensures
      | in_default-via-else-fields-lt1+else-fields-lt2+then-fields-lt4 w ↦ other_many (λ x. x.now) c.args.reader.now.net.now c.args.reader.now.me c.args.fields.now (λ e. omega (arith, ltb-false (length c.args.fields.now) 2 w.if-fields-lt2-1.false, ltb-true (length c.args.fields.now) 4 w.if-fields-lt4-1.true)) (λ e. omega (arith, ltb-false (length c.args.fields.now) 2 w.if-fields-lt2-1.false, ltb-true (length c.args.fields.now) 4 w.if-fields-lt4-1.true)) (λ e. omega (arith, ltb-false (length c.args.fields.now) 2 w.if-fields-lt2-1.false, ltb-true (length c.args.fields.now) 4 w.if-fields-lt4-1.true)) (λ e. omega (arith, ltb-false (length c.args.fields.now) 2 w.if-fields-lt2-1.false, ltb-true (length c.args.fields.now) 4 w.if-fields-lt4-1.true))
      | in_default-via-in-len4-2+else-eq-3 w ↦ other_of_4 (λ x. x.now) c.args.reader.now.net.now c.args.reader.now.me c.args.fields.now _ (omega (arith, w.in-len4.len_at_least, w.in-len4.len_below)) _ w.as_slice-then-fields-lt5.ensures w.if-eq-2.ensures _ w.as_slice-then-fields-lt5-2.ensures w.if-eq-3.ensures
      | in_default-via-in-len5-2+else-eq-5 w ↦ other_of_5 (λ x. x.now) c.args.reader.now.net.now c.args.reader.now.me c.args.fields.now _ (omega (arith, w.in-len5.len_at_least, w.in-len5.len_below)) _ w.as_slice-then-fields-lt6.ensures w.if-eq-4.ensures _ w.as_slice-then-fields-lt6-2.ensures w.if-eq-5.ensures
      | in_default-via-in-len6+else-eq-6 w ↦ other_of_6 (λ x. x.now) c.args.reader.now.net.now c.args.reader.now.me c.args.fields.now _ (omega (arith, w.in-len6.len_at_least, w.in-len6.len_below)) _ w.as_slice-then-fields-lt7.ensures w.if-eq-6.ensures
      | in_default-via-else-fields-lt1+else-fields-lt2+else-fields-lt4+else-fields-lt5+else-fields-lt6+else-fields-lt7 w ↦ other_many (λ x. x.now) c.args.reader.now.net.now c.args.reader.now.me c.args.fields.now (λ e. omega (arith, ltb-false (length c.args.fields.now) 7 w.if-fields-lt7-1.false)) (λ e. omega (arith, ltb-false (length c.args.fields.now) 7 w.if-fields-lt7-1.false)) (λ e. omega (arith, ltb-false (length c.args.fields.now) 7 w.if-fields-lt7-1.false)) (λ e. omega (arith, ltb-false (length c.args.fields.now) 7 w.if-fields-lt7-1.false))
    ]
