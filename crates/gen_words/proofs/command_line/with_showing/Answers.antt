use Rattle.gen_words.specs.CommandLine as lines
use Rattle.gen_words.proofs.Commands.{with_argument, with_arguments, with_command}
use Rattle.gen_words.proofs.command_line.with_showing.Goals as goal

pub returns-clause-app : goal.returns-clause-app
returns-clause-app c = λ kept before.
    with_command _ _ _ _ _ _ _ _ (with_command _ _ _ _ _ _ _ _ (with_command _ _ _ _ _ _ _ _ (with_command _ _ _ _ _ _ _ _ (λ _. before)
    (with_arguments lines.with_files _ _ _ _ _ (with_argument _ _ _ _ _ _ _ (with_arguments lines.with_asked _ _ _ _ _ (λ _. c.new.ensures.app) c.with_asked.ensures.kept c.with_asked.ensures.app) c.flag_named.ensures.rule c.arg-evidence.ensures.kept c.arg-evidence.ensures.app) c.with_files.ensures.kept c.with_files.ensures.app)
    c.subcommand.ensures.kept c.subcommand.ensures.more c.subcommand.ensures.app)
    (with_argument _ _ _ _ _ _ _ (with_arguments lines.with_asked _ _ _ _ _ (with_argument _ _ _ _ _ _ _ (λ _. c.new-2.ensures.app) c.general_option.ensures.rule c.arg-of_general.ensures.kept c.arg-of_general.ensures.app) c.with_asked-2.ensures.kept c.with_asked-2.ensures.app) c.file_argument.ensures.rule c.arg-receipt.ensures.kept c.arg-receipt.ensures.app)
    c.subcommand-2.ensures.kept c.subcommand-2.ensures.more c.subcommand-2.ensures.app)
    (with_argument _ _ _ _ _ _ _ (with_argument _ _ _ _ _ _ _ (with_arguments lines.with_asked _ _ _ _ _ (λ _. c.new-3.ensures.app) c.with_asked-3.ensures.kept c.with_asked-3.ensures.app) c.flag_named-2.ensures.rule c.arg.ensures.kept c.arg.ensures.app) c.file_argument-2.ensures.rule c.arg-receipts.ensures.kept c.arg-receipts.ensures.app)
    c.subcommand-3.ensures.kept c.subcommand-3.ensures.more c.subcommand-3.ensures.app)
    (with_arguments lines.with_files _ _ _ _ _ (with_argument _ _ _ _ _ _ _ (with_arguments lines.with_asked _ _ _ _ _ (λ _. c.new-4.ensures.app) c.with_asked-4.ensures.kept c.with_asked-4.ensures.app) c.flag_named-3.ensures.rule c.arg-show.ensures.kept c.arg-show.ensures.app) c.with_files-2.ensures.kept c.with_files-2.ensures.app)
    c.subcommand-4.ensures.kept c.subcommand-4.ensures.more c.subcommand-4.ensures.app
    kept
