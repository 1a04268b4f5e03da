use Rattle.gen_words.specs.CommandLine as lines
use Rattle.gen_words.proofs.Commands.{with_argument, with_arguments, with_command}
use Rattle.gen_words.proofs.command_line.with_scenarios.Goals as goal

pub returns-clause-app : goal.returns-clause-app
returns-clause-app c = λ kept before.
    with_command _ _ _ _ _ _ _ _ (with_command _ _ _ _ _ _ _ _ (with_command _ _ _ _ _ _ _ _ (with_command _ _ _ _ _ _ _ _ (λ _. before)
    (with_argument _ _ _ _ _ _ _ (with_argument _ _ _ _ _ _ _ (λ _. c.new.ensures.app) c.flag_named.ensures.rule c.arg.ensures.kept c.arg.ensures.app) c.file_argument.ensures.rule c.arg-decide.ensures.kept c.arg-decide.ensures.app)
    c.subcommand.ensures.kept c.subcommand.ensures.more c.subcommand.ensures.app)
    (with_argument _ _ _ _ _ _ _ (with_argument _ _ _ _ _ _ _ (with_argument _ _ _ _ _ _ _ (λ _. c.new-2.ensures.app) c.capacity_option.ensures.rule c.arg-2.ensures.kept c.arg-2.ensures.app) c.print_run_flag.ensures.rule c.arg-3.ensures.kept c.arg-3.ensures.app) c.file_argument-2.ensures.rule c.arg-run.ensures.kept c.arg-run.ensures.app)
    c.subcommand-2.ensures.kept c.subcommand-2.ensures.more c.subcommand-2.ensures.app)
    (with_argument _ _ _ _ _ _ _ (with_arguments lines.with_verdict _ _ _ _ _ (with_argument _ _ _ _ _ _ _ (with_argument _ _ _ _ _ _ _ (λ _. c.new-3.ensures.app) c.capacity_option-2.ensures.rule c.arg-4.ensures.kept c.arg-4.ensures.app) c.workers_option.ensures.rule c.arg-judge.ensures.kept c.arg-judge.ensures.app) c.with_verdict.ensures.kept c.with_verdict.ensures.app) c.file_argument-4.ensures.rule c.arg-7.ensures.kept c.arg-7.ensures.app)
    c.subcommand-3.ensures.kept c.subcommand-3.ensures.more c.subcommand-3.ensures.app)
    (with_argument _ _ _ _ _ _ _ (with_argument _ _ _ _ _ _ _ (with_argument _ _ _ _ _ _ _ (λ _. c.new-4.ensures.app) c.capacity_option-3.ensures.rule c.arg-5.ensures.kept c.arg-5.ensures.app) c.print_run_flag-2.ensures.rule c.arg-6.ensures.kept c.arg-6.ensures.app) c.file_argument-3.ensures.rule c.arg-campaign.ensures.kept c.arg-campaign.ensures.app)
    c.subcommand-4.ensures.kept c.subcommand-4.ensures.more c.subcommand-4.ensures.app
    kept
