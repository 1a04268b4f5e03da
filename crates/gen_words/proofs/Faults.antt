-- What the command line tells of words that ask for a job.
use Rattle.std.proofs.Common.{◌≡◌, ◌&&◌, ℕ, Bor, Bool, List, [], ◌∷◌, Option, Some, None, true, false, refl, ap, codes, option_map, option_and_then, subst, sym, if◌then◌else◌, ◌∙◌, inl, inr}
use Rattle.std.specs.Prelude.{IsSome}
use Rattle.clap.specs.Words.{HasKind, IsAmong, Kinds, Row, Text, fault_of, first_of, is_simple, is_simple_and_free, kind_of, subcommand_of}
use Rattle.clap.specs.declared.error.Error.{Error}
use Rattle.clap.specs.declared.error.kind.ErrorKind.TheVariants.{OutOfMemory}
use Rattle.clap.specs.Faults.{is_free_app}
use Rattle.clap.specs.Simple.{built}
use Rattle.clap.proofs.OnLiterals.{clap_on_literals}
use Rattle.gen_asked.specs.declared.jobs.Job.{Job}
use Rattle.gen_words.specs.declared.words.WordsFault.{WordsFault}
use Rattle.gen_words.specs.declared.words.WordsFault.TheVariants.{Memory, NotText, NoCommand, BadCapacity, BadWorkers, BadGeneral, BadSlot, BadRun, BadFaulty, BadLog, TwoStandard, Systems, Words}
use Rattle.gen_words.specs.declared.choices.Choices.{Choices}
use Rattle.gen_words.specs.declared.words.GivenCommand.{GivenCommand}
use Rattle.gen_words.specs.declared.words.Request.{Request}
use Rattle.gen_words.specs.CommandLine.{tool}
use Rattle.gen_words.specs.Commands.{Gives, IsGiven, IsGivenBy, choices_in, job_in, refusal_in}
use Rattle.gen_words.specs.Jobs.{choices_told, faulty_asked, form_asked, height_asked, version_asked, is_set, job_named, job_said, number_between, runs_asked}
use Rattle.gen_words.specs.Tool.{Asks, asked, fault_from, refusal, without_fault, IsFaultOf, IsRefused}

pub tool_is_free : is_simple_and_free tool ≡ true
unfolding clap_on_literals
tool_is_free = refl

first_holds : (a b : Bool) → (a && b) ≡ true → a ≡ true
first_holds true b both = refl
first_holds false b both = absurd cc

pub tool_is_simple : is_simple tool ≡ true
tool_is_simple = first_holds (is_simple tool) (is_free_app (built tool)) tool_is_free

-- words that ask for a job have no fault
pub without : (kinds : Kinds) (job : Option Job) → IsSome (without_fault kinds job) → kinds ≡ []
without [] job asks = refl
without (k ∷ ks) job asks = absurd cc

-- where no kind of error can come, only memory ran out
runs_out : (kinds : Kinds) (error : Error) → HasKind kinds error → kinds ≡ [] → kind_of error ≡ OutOfMemory
runs_out [] error has none = elim has [
  | inl is ↦ is
  | inr among ↦ absurd among
]
runs_out (k ∷ ks) error has none = absurd cc

pub only_memory : (kinds : Kinds) (error : Error) (fault : WordsFault) → HasKind kinds error → fault_from error fault → kinds ≡ [] → fault ≡ Memory
only_memory kinds error Memory has from none = refl
only_memory kinds error NotText has from none = absurd from
only_memory kinds error NoCommand has from none = absurd from
only_memory kinds error BadCapacity has from none = absurd from
only_memory kinds error BadWorkers has from none = absurd from
only_memory kinds error BadGeneral has from none = absurd from
only_memory kinds error BadSlot has from none = absurd from
only_memory kinds error BadLog has from none = absurd from
only_memory kinds error TwoStandard has from none = absurd from
only_memory kinds error (Systems inner) has from none = absurd from
only_memory kinds error BadRun has from none = absurd from
only_memory kinds error BadFaulty has from none = absurd from
only_memory kinds error (Words e) has from none = absurd (from.1 (runs_out kinds error has none))

-- a fault that comes from an error of the command line is one that the words can have
pub fault_had : (words : List Text) (kinds : Kinds) (error : Error) (fault : WordsFault) → kinds ≡ fault_of tool words → HasKind kinds error → fault_from error fault → IsFaultOf words fault
fault_had words kinds error Memory same has from = tt
fault_had words kinds error NotText same has from = absurd from
fault_had words kinds error NoCommand same has from = absurd from
fault_had words kinds error BadCapacity same has from = absurd from
fault_had words kinds error BadWorkers same has from = absurd from
fault_had words kinds error BadGeneral same has from = absurd from
fault_had words kinds error BadSlot same has from = absurd from
fault_had words kinds error BadLog same has from = absurd from
fault_had words kinds error TwoStandard same has from = absurd from
fault_had words kinds error (Systems inner) same has from = absurd from
fault_had words kinds error BadRun same has from = absurd from
fault_had words kinds error BadFaulty same has from = absurd from
fault_had words kinds error (Words e) same has from = elim has [
  | inl is ↦ absurd (from.1 is)
  | inr among ↦ subst (λ (ks : Kinds). IsAmong (kind_of e) ks) same (subst (λ (x : Error). IsAmong (kind_of x) kinds) (sym from.0) among)
]

-- what a command that was given chooses is what its arguments choose
same_choices : (p : Text × List Row) (given : GivenCommand) → IsGiven p given → choices_told p.1 ≡ choices_in given
same_choices p given is = λ i. record {
  runs = runs_asked (sym is.asked i);
  faulty = faulty_asked (sym is.faulty i);
  strict = is_set (sym is.strict i);
  form = form_asked (sym is.json i);
  receipts = is_set (sym is.receipts i);
  height = height_asked (sym is.tall i);
  version = version_asked (sym is.slot i);
}

told : (o : Option (Text × List Row)) (given : GivenCommand) → IsGivenBy o (Some given) → job_said o ≡ job_in given (choices_in given)
told None given is = absurd is
told (Some p) given is = λ i. job_named (sym is.name i) (sym is.capacity i) (sym is.workers i) (sym is.general i) (same_choices p given is i)

-- words ask for the job of the command that they give
pub asks_for : (words : List Text) (given : GivenCommand) (choices : Choices) (job : Option Job) → Gives words given → choices ≡ choices_in given → job ≡ job_in given choices → asked words ≡ job
asks_for words given choices job gives known is =
    (λ i. without_fault (gives.0 i) (job_said (subcommand_of tool words))) ∙ told (subcommand_of tool words) given gives.1 ∙ ap (job_in given) (sym known) ∙ sym is

nothing_there : IsSome {T = Job} None → ⊥
nothing_there asks = cc

pub asks_nothing : (words : List Text) (given : GivenCommand) (choices : Choices) → Gives words given → choices ≡ choices_in given → job_in given choices ≡ None → IsSome (asked words) → ⊥
asks_nothing words given choices gives known none asks = nothing_there (subst (λ (o : Option Job). IsSome o) (asks_for words given choices None gives known (sym none)) asks)

-- the text of an argument of the command that words give
file_at : (o : Option (Text × List Row)) (given : GivenCommand) → IsGivenBy o (Some given) → option_map (λ t. t.now) given.file ≡ option_and_then (λ (p : Text × List Row). first_of (codes "file") p.1) o
file_at None given is = absurd is
file_at (Some p) given is = is.file

prints_at : (o : Option (Text × List Row)) (given : GivenCommand) → IsGivenBy o (Some given) → option_map (λ t. t.now) given.print_run ≡ option_and_then (λ (p : Text × List Row). first_of (codes "print-run") p.1) o
prints_at None given is = absurd is
prints_at (Some p) given is = is.print_run

-- words ask for what was made of the command that they give
pub asks : (words : List Text) (given : GivenCommand) (choices : Choices) (request : Request) → Gives words given → choices ≡ choices_in given → job_in given choices ≡ Some request.job
    → request.file ≡ given.file → request.prints_runs ≡ is_set (option_map (λ t. t.now) given.print_run) → Asks words request
asks words given choices request gives known is file prints = record {
  job = asks_for words given choices (Some request.job) gives known (sym is);
  file = ap (λ (f : Option (Bor (List ℕ))). option_map (λ t. t.now) f) file ∙ file_at (subcommand_of tool words) given gives.1;
  prints = prints ∙ ap is_set (prints_at (subcommand_of tool words) given gives.1);
}

-- ---- why a command has no job

refused_at : (o : Option (Text × List Row)) (given : GivenCommand) → IsGivenBy o (Some given) → None ≡ job_in given (choices_in given) → IsRefused o (refusal_in given (choices_in given))
refused_at None given is none = absurd is
refused_at (Some p) given is none = (
  told (Some p) given is ∙ sym none,
  λ i. refusal (is.name i) (number_between 1 16 (is.capacity i)) (number_between 1 16 (is.workers i)) (number_between 0 15 (is.general i)) (sym (same_choices p given is) i),
)

-- a refusal is one of seven
one_of : (P : WordsFault → Type 0) (a b c s d e : Bool) → P BadCapacity → P BadWorkers → P BadGeneral → P BadSlot → P BadRun → P BadFaulty → P NoCommand
    → P (if a then BadCapacity else if b then BadWorkers else if c then BadGeneral else if s then BadSlot else if d then BadRun else if e then BadFaulty else NoCommand)
one_of P true b c s d e x y z t v u w = x
one_of P false true c s d e x y z t v u w = y
one_of P false false true s d e x y z t v u w = z
one_of P false false false true d e x y z t v u w = t
one_of P false false false false true e x y z t v u w = v
one_of P false false false false false true x y z t v u w = u
one_of P false false false false false false x y z t v u w = w

pub refused : (words : List Text) (given : GivenCommand) (choices : Choices) (fault : WordsFault) → Gives words given → choices ≡ choices_in given → job_in given choices ≡ None → fault ≡ refusal_in given choices → IsFaultOf words fault
refused words given choices fault gives known none is =
    let ours = refusal_in given (choices_in given) in
    let nothing : None ≡ job_in given (choices_in given) = sym none ∙ ap (job_in given) known in
    let at : (f : WordsFault) → f ≡ ours → IsRefused (subcommand_of tool words) f
    = λ f e. subst (λ (g : WordsFault). IsRefused (subcommand_of tool words) g) (sym e) (refused_at (subcommand_of tool words) given gives.1 nothing) in
    let any : ours ≡ ours → IsFaultOf words ours
    = one_of (λ f. f ≡ ours → IsFaultOf words f) _ _ _ _ _ _
    (λ e. (gives.0, at BadCapacity e)) (λ e. (gives.0, at BadWorkers e)) (λ e. (gives.0, at BadGeneral e)) (λ e. (gives.0, at BadSlot e)) (λ e. (gives.0, at BadRun e)) (λ e. (gives.0, at BadFaulty e)) (λ e. (gives.0, at NoCommand e)) in
    subst (λ (f : WordsFault). IsFaultOf words f) (sym (is ∙ ap (refusal_in given) known)) (any refl)

-- this is the command that words name, if it is the one that was found
pub is_given : (o named : Option (Text × List Row)) (p : Text × List Row) (given : GivenCommand) → o ≡ Some p → o ≡ named → IsGiven p given → IsGivenBy named (Some given)
is_given o named p given found same is = subst (λ (x : Option (Text × List Row)). IsGivenBy x (Some given)) (sym found ∙ same) is

abbrev paired : {X : Type 0} → (X → Text) → (X → List Row) → X → Text × List Row
paired f g b = (f b, g b)

pub both_parts : {X : Type 0} (f : X → Text) (g : X → List Row) (s : Option X) (n : Text) (r : List Row) → Some n ≡ option_map f s → Some r ≡ option_map (λ (p : Text × List Row). p.1) (option_map (paired f g) s) → option_map (paired f g) s ≡ Some (n, r)
both_parts f g None n r a b = absurd cc
both_parts f g (Some x) n r a b = cc
