-- Commands that are made part by part, where memory may be refused for a part.
use Rattle.std.proofs.Common.{◌≡◌, ◌∙◌, Bool, false}
use Rattle.clap.specs.Words.{App, Rule, with_rule, with_subcommand}

-- a command with one argument more, if memory was refused for neither
pub with_argument : (one both : Bool) (app whole before : App) (rule added : Rule) → (one ≡ false → app ≡ before) → rule ≡ added
    → (both ≡ false → one ≡ false) → (both ≡ false → whole ≡ with_rule app rule)
    → both ≡ false → whole ≡ with_rule before added
with_argument one both app whole before rule added first same keeps made kept =
    made kept ∙ (λ i. with_rule (first (keeps kept) i) (same i))

-- a command with more arguments, if memory was refused for neither
pub with_arguments : (f : App → App) (one both : Bool) (app whole before : App) → (one ≡ false → app ≡ before)
    → (both ≡ false → one ≡ false) → (both ≡ false → whole ≡ f app)
    → both ≡ false → whole ≡ f before
with_arguments f one both app whole before first keeps made kept = made kept ∙ (λ i. f (first (keeps kept) i))

-- a command line with one command more, if memory was refused for neither
pub with_command : (one more both : Bool) (app command whole before added : App) → (one ≡ false → app ≡ before) → (more ≡ false → command ≡ added)
    → (both ≡ false → one ≡ false) → (both ≡ false → more ≡ false) → (both ≡ false → whole ≡ with_subcommand app command.top)
    → both ≡ false → whole ≡ with_subcommand before added.top
with_command one more both app command whole before added first second keeps_one keeps_more made kept =
    made kept ∙ (λ i. with_subcommand (first (keeps_one kept) i) (second (keeps_more kept) i).top)
