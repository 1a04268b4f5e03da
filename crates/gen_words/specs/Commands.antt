-- What the command line gives for a command: its name, and the texts of its options.
use Rattle.std.specs.Prelude.{◌≡◌, List, [], codes, Option, Some, None, option_map}
use Rattle.clap.specs.declared.parser.matches.ArgMatches.{ArgMatches}
use Rattle.clap.specs.Simple.{subcommand_rows_of}
use Rattle.clap.specs.Words.{Row, Text, fault_of, first_of, subcommand_of}
use Rattle.gen_words.specs.CommandLine.{tool}
use Rattle.gen_asked.specs.declared.jobs.Job.{Job}
use Rattle.gen_words.specs.Jobs.{faulty_asked, form_asked, height_asked, version_asked, is_set, job_named, number_between, runs_asked}
use Rattle.gen_words.specs.Tool.{refusal}
use Rattle.gen_words.specs.declared.choices.Choices.{Choices}
use Rattle.gen_words.specs.declared.words.GivenCommand.{GivenCommand}
use Rattle.gen_words.specs.declared.words.WordsFault.{WordsFault}

-- the command has this name, and the texts of its options are the first values in these rows
pub record IsGiven (p : Text × List Row) (given : GivenCommand) : Type 0 where
  pub name : given.name.now ≡ p.0
  pub capacity : option_map (λ t. t.now) given.capacity ≡ first_of (codes "capacity") p.1
  pub workers : option_map (λ t. t.now) given.workers ≡ first_of (codes "workers") p.1
  pub general : option_map (λ t. t.now) given.general ≡ first_of (codes "general") p.1
  pub asked : option_map (λ t. t.now) given.asked ≡ first_of (codes "run") p.1
  pub faulty : option_map (λ t. t.now) given.faulty ≡ first_of (codes "faulty") p.1
  pub strict : option_map (λ t. t.now) given.strict ≡ first_of (codes "strict") p.1
  pub json : option_map (λ t. t.now) given.json ≡ first_of (codes "json") p.1
  pub receipts : option_map (λ t. t.now) given.receipts ≡ first_of (codes "receipts") p.1
  pub tall : option_map (λ t. t.now) given.tall ≡ first_of (codes "tall") p.1
  pub slot : option_map (λ t. t.now) given.slot ≡ first_of (codes "slot") p.1
  pub print_run : option_map (λ t. t.now) given.print_run ≡ first_of (codes "print-run") p.1
  pub file : option_map (λ t. t.now) given.file ≡ first_of (codes "file") p.1

-- this is the command that was found, if one was
abbrev pub IsGivenBy : Option (Text × List Row) → Option GivenCommand → Type 0
IsGivenBy None None = Unit {0}
IsGivenBy None (Some given) = ⊥
IsGivenBy (Some p) None = ⊥
IsGivenBy (Some p) (Some given) = IsGiven p given

-- The command line has no fault at the words, and this is what it makes of them.
abbrev pub HasSubcommand : List Text → ArgMatches → Type 0
HasSubcommand words m = (fault_of tool words ≡ []) × (subcommand_rows_of m ≡ subcommand_of tool words)

-- The command line has no fault at the words, and they give this command.
abbrev pub Gives : List Text → GivenCommand → Type 0
Gives words given = (fault_of tool words ≡ []) × IsGivenBy (subcommand_of tool words) (Some given)

-- what a command that was given chooses beside numbers
abbrev pub choices_in : GivenCommand → Choices
choices_in g = record {
  runs = runs_asked (option_map (λ t. t.now) g.asked);
  faulty = faulty_asked (option_map (λ t. t.now) g.faulty);
  strict = is_set (option_map (λ t. t.now) g.strict);
  form = form_asked (option_map (λ t. t.now) g.json);
  receipts = is_set (option_map (λ t. t.now) g.receipts);
  height = height_asked (option_map (λ t. t.now) g.tall);
  version = version_asked (option_map (λ t. t.now) g.slot);
}

-- the job of a command that was given, which chooses this
abbrev pub job_in : GivenCommand → Choices → Option Job
job_in g choices =
    job_named g.name.now (option_map (λ t. t.now) g.capacity) (option_map (λ t. t.now) g.workers)
    (option_map (λ t. t.now) g.general) choices

-- why it has none
abbrev pub refusal_in : GivenCommand → Choices → WordsFault
refusal_in g choices =
    refusal g.name.now (number_between 1 16 (option_map (λ t. t.now) g.capacity))
    (number_between 1 16 (option_map (λ t. t.now) g.workers))
    (number_between 0 15 (option_map (λ t. t.now) g.general)) choices
