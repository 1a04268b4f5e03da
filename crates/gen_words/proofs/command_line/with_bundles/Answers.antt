use Rattle.gen_words.specs.CommandLine as lines
use Rattle.gen_words.proofs.Commands.{with_argument, with_arguments, with_command}
use Rattle.gen_words.proofs.command_line.with_bundles.Goals as goal

pub returns-clause-app : goal.returns-clause-app
returns-clause-app c = λ kept before.
    with_command _ _ _ _ _ _ _ _ (with_command _ _ _ _ _ _ _ _ (with_command _ _ _ _ _ _ _ _ (λ _. before)
    (with_arguments lines.with_files _ _ _ _ _ (with_arguments lines.with_verdict _ _ _ _ _ (with_arguments lines.with_asking _ _ _ _ _ (λ _. c.new.ensures.app) c.with_asking-audit.ensures.kept c.with_asking-audit.ensures.app) c.with_verdict.ensures.kept c.with_verdict.ensures.app) c.with_files.ensures.kept c.with_files.ensures.app)
    c.subcommand.ensures.kept c.subcommand.ensures.more c.subcommand.ensures.app)
    (with_argument _ _ _ _ _ _ _ (with_arguments lines.with_asking _ _ _ _ _ (λ _. c.new-2.ensures.app) c.with_asking-draw.ensures.kept c.with_asking-draw.ensures.app) c.file_argument-2.ensures.rule c.arg-2.ensures.kept c.arg-2.ensures.app)
    c.subcommand-2.ensures.kept c.subcommand-2.ensures.more c.subcommand-2.ensures.app)
    (with_argument _ _ _ _ _ _ _ (with_argument _ _ _ _ _ _ _ (with_arguments lines.with_asked _ _ _ _ _ (with_argument _ _ _ _ _ _ _ (λ _. c.new-3.ensures.app) c.general_option.ensures.rule c.arg-of_general.ensures.kept c.arg-of_general.ensures.app) c.with_asked.ensures.kept c.with_asked.ensures.app) c.flag_named.ensures.rule c.arg.ensures.kept c.arg.ensures.app) c.file_argument.ensures.rule c.arg-accuse.ensures.kept c.arg-accuse.ensures.app)
    c.subcommand-3.ensures.kept c.subcommand-3.ensures.more c.subcommand-3.ensures.app
    kept
