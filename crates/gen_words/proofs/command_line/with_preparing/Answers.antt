use Rattle.std.proofs.Common.{◌∙◌, Some, ap, true}
use Rattle.clap.specs.declared.builder.ArgAction.TheVariants.{Append}
use Rattle.clap.specs.Words.{Rule, rule_of}
use Rattle.gen_words.proofs.Commands.{with_argument, with_command}
use Rattle.gen_words.proofs.command_line.with_preparing.Goals as goal

abbrev required : Rule → Rule
required r = record r { required = true }

abbrev appended : Rule → Rule
appended r = record r { action = Some Append }

pub returns-clause-app : goal.returns-clause-app
returns-clause-app c = λ kept before.
    with_command _ _ _ _ _ _ _ _ (with_command _ _ _ _ _ _ _ _ (with_command _ _ _ _ _ _ _ _ (with_command _ _ _ _ _ _ _ _ (with_command _ _ _ _ _ _ _ _ (λ _. before)
    (with_argument _ _ _ _ _ _ _ (with_argument _ _ _ _ _ _ _ (λ _. c.new.ensures.app) c.flag_named.ensures.rule c.arg.ensures.kept c.arg.ensures.app) c.file_argument.ensures.rule c.arg-root.ensures.kept c.arg-root.ensures.app)
    c.subcommand.ensures.kept c.subcommand.ensures.more c.subcommand.ensures.app)
    (with_argument _ _ _ _ _ _ _ (with_argument _ _ _ _ _ _ _ (with_argument _ _ _ _ _ _ _ (λ _. c.new-2.ensures.app) c.option_named.ensures.rule c.arg-2.ensures.kept c.arg-2.ensures.app) c.print_run_flag.ensures.rule c.arg-3.ensures.kept c.arg-3.ensures.app) c.file_argument-2.ensures.rule c.arg-header.ensures.kept c.arg-header.ensures.app)
    c.subcommand-2.ensures.kept c.subcommand-2.ensures.more c.subcommand-2.ensures.app)
    (with_argument _ _ _ _ _ _ _ (with_argument _ _ _ _ _ _ _ (λ _. c.new-3.ensures.app) c.option_named-2.ensures.rule c.arg-4.ensures.kept c.arg-4.ensures.app) c.file_argument-3.ensures.rule c.arg-plan.ensures.kept c.arg-plan.ensures.app)
    c.subcommand-3.ensures.kept c.subcommand-3.ensures.more c.subcommand-3.ensures.app)
    (with_argument _ _ _ _ _ _ _ (with_argument _ _ _ _ _ _ _ (with_argument _ _ _ _ _ _ _ (λ _. c.new-4.ensures.app) c.faulty_option.ensures.rule c.arg-5.ensures.kept c.arg-5.ensures.app) (ap rule_of c.required.ensures ∙ ap required c.word_named.ensures.rule) c.arg-6.ensures.kept c.arg-6.ensures.app) (ap rule_of c.action.ensures ∙ ap appended c.word_named-2.ensures.rule) c.arg-bundle.ensures.kept c.arg-bundle.ensures.app)
    c.subcommand-4.ensures.kept c.subcommand-4.ensures.more c.subcommand-4.ensures.app)
    (with_argument _ _ _ _ _ _ _ (with_argument _ _ _ _ _ _ _ (λ _. c.new-5.ensures.app) (ap rule_of c.required-2.ensures ∙ ap required c.word_named-3.ensures.rule) c.arg-7.ensures.kept c.arg-7.ensures.app) (ap rule_of c.required-3.ensures ∙ ap required c.word_named-4.ensures.rule) c.arg-answer.ensures.kept c.arg-answer.ensures.app)
    c.subcommand-5.ensures.kept c.subcommand-5.ensures.more c.subcommand-5.ensures.app
    kept
