use Rattle.std.proofs.Common.{◌∙◌, Some, ap, true}
use Rattle.clap.specs.declared.builder.ArgAction.TheVariants.{Append}
use Rattle.clap.specs.Words.{Rule, rule_of}
use Rattle.gen_words.proofs.Commands.{with_argument, with_command}
use Rattle.gen_words.proofs.command_line.with_systems.Goals as goal

abbrev required : Rule → Rule
required r = record r { required = true }

abbrev appended : Rule → Rule
appended r = record r { action = Some Append }

pub returns-clause-app : goal.returns-clause-app
returns-clause-app c = λ kept before.
    with_command _ _ _ _ _ _ _ _ (with_command _ _ _ _ _ _ _ _ (with_command _ _ _ _ _ _ _ _ (with_command _ _ _ _ _ _ _ _ (with_command _ _ _ _ _ _ _ _ (λ _. before)
    (with_argument _ _ _ _ _ _ _ (with_argument _ _ _ _ _ _ _ (with_argument _ _ _ _ _ _ _ (with_argument _ _ _ _ _ _ _ (with_argument _ _ _ _ _ _ _ (λ _. c.new.ensures.app) c.levels_option.ensures.rule c.arg.ensures.kept c.arg.ensures.app) c.flag_named.ensures.rule c.arg-2.ensures.kept c.arg-2.ensures.app) c.workers_option.ensures.rule c.arg-3.ensures.kept c.arg-3.ensures.app) c.option_named.ensures.rule c.arg-4.ensures.kept c.arg-4.ensures.app) c.file_argument.ensures.rule c.arg-enroll.ensures.kept c.arg-enroll.ensures.app)
    c.subcommand.ensures.kept c.subcommand.ensures.more c.subcommand.ensures.app)
    (with_argument _ _ _ _ _ _ _ (λ _. c.new-2.ensures.app) c.file_argument-2.ensures.rule c.arg-identity.ensures.kept c.arg-identity.ensures.app)
    c.subcommand-2.ensures.kept c.subcommand-2.ensures.more c.subcommand-2.ensures.app)
    (with_argument _ _ _ _ _ _ _ (with_argument _ _ _ _ _ _ _ (with_argument _ _ _ _ _ _ _ (with_argument _ _ _ _ _ _ _ (with_argument _ _ _ _ _ _ _ (with_argument _ _ _ _ _ _ _ (λ _. c.new-3.ensures.app) c.levels_option-2.ensures.rule c.arg-5.ensures.kept c.arg-5.ensures.app) (ap rule_of c.required.ensures ∙ ap required c.option_named-2.ensures.rule) c.arg-6.ensures.kept c.arg-6.ensures.app) c.flag_named-2.ensures.rule c.arg-7.ensures.kept c.arg-7.ensures.app) c.flag_named-3.ensures.rule c.arg-8.ensures.kept c.arg-8.ensures.app) c.print_id_flag.ensures.rule c.arg-9.ensures.kept c.arg-9.ensures.app) c.file_argument-3.ensures.rule c.arg-system.ensures.kept c.arg-system.ensures.app)
    c.subcommand-3.ensures.kept c.subcommand-3.ensures.more c.subcommand-3.ensures.app)
    (with_argument _ _ _ _ _ _ _ (with_argument _ _ _ _ _ _ _ (with_argument _ _ _ _ _ _ _ (with_argument _ _ _ _ _ _ _ (λ _. c.new-4.ensures.app) c.number_option.ensures.rule c.arg-10.ensures.kept c.arg-10.ensures.app) c.print_id_flag-2.ensures.rule c.arg-11.ensures.kept c.arg-11.ensures.app) (ap rule_of c.required-2.ensures ∙ ap required c.word_named.ensures.rule) c.arg-12.ensures.kept c.arg-12.ensures.app) (ap rule_of c.action.ensures ∙ ap appended c.word_named-2.ensures.rule) c.arg-admission.ensures.kept c.arg-admission.ensures.app)
    c.subcommand-4.ensures.kept c.subcommand-4.ensures.more c.subcommand-4.ensures.app)
    (with_argument _ _ _ _ _ _ _ (with_argument _ _ _ _ _ _ _ (with_argument _ _ _ _ _ _ _ (λ _. c.new-5.ensures.app) c.number_option-2.ensures.rule c.arg-13.ensures.kept c.arg-13.ensures.app) c.print_id_flag-3.ensures.rule c.arg-14.ensures.kept c.arg-14.ensures.app) c.file_argument-4.ensures.rule c.arg-admit.ensures.kept c.arg-admit.ensures.app)
    c.subcommand-5.ensures.kept c.subcommand-5.ensures.more c.subcommand-5.ensures.app
    kept
