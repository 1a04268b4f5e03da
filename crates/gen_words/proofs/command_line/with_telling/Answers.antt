use Rattle.gen_words.proofs.Commands.{with_argument, with_command}
use Rattle.gen_words.proofs.command_line.with_telling.Goals as goal

pub returns-clause-app : goal.returns-clause-app
returns-clause-app c = λ kept before.
    with_command _ _ _ _ _ _ _ _ (with_command _ _ _ _ _ _ _ _ (λ _. before)
    (with_argument _ _ _ _ _ _ _ (λ _. c.new.ensures.app) c.word_named-name.ensures.rule c.arg-explain.ensures.kept c.arg-explain.ensures.app)
    c.subcommand.ensures.kept c.subcommand.ensures.more c.subcommand.ensures.app)
    (with_argument _ _ _ _ _ _ _ (λ _. c.new-2.ensures.app) c.file_argument.ensures.rule c.arg-words.ensures.kept c.arg-words.ensures.app)
    c.subcommand-2.ensures.kept c.subcommand-2.ensures.more c.subcommand-2.ensures.app
    kept
