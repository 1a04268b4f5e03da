use Rattle.std.proofs.Common.{◌≡◌, ◌∙◌, ◌++◌, Result, Ok, Err, OnOk, string_bytes, append_assoc}
use Rattle.gen_prepare.specs.AnswerLine.{signed_said, signers_said, statement_said, text_said}
use Rattle.gen_prepare.proofs.answer_lines.push_text.Goals as goal

on_ok : {E : Type 0} (P Q : Type 0) (r : Result (Unit {0}) E) → (P → Q) → OnOk r P → OnOk r Q
on_ok P Q (Ok done) next h = next h
on_ok P Q (Err e) next h = tt

pub returns-in_ok-write-in-OfStatement : goal.returns-in_ok-write-in-OfStatement
unfolding signed_said statement_said
returns-in_ok-write-in-OfStatement c =
    let said : string_bytes c.write.new.self ++ signers_said c.in-OfStatement.statement.path ≡ string_bytes c.args.out.now ++ text_said c.args.text.now =
    rw (c.in-OfStatement.is, c.in_ok-write-in-OfStatement.ensures.bytes, c.in_ok-push_str-in-OfStatement.ensures.bytes, c.get-order.ensures.value) (simp append_assoc) in
    on_ok _ _ c.push_path.result (λ put. put ∙ said) c.push_path.ensures
