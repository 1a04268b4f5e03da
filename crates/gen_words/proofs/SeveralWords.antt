-- What the command line gives for the arguments that may stand several times.
use Rattle.std.proofs.Common.{◌≡◌, ◌∙◌, List, [], Option, Some, None, ap, option_map, sym, unwrap_or}
use Rattle.clap.specs.Walk.{rows_of}
use Rattle.clap.specs.Matches.{matched_of, raw_values}
use Rattle.clap.specs.declared.parser.matches.Found.{Found}
use Rattle.clap.specs.Words.{Text}
use Rattle.clap.proofs.WalkLemmas.{raw_values-rows}
use Rattle.gen_words.specs.Several.{words_of}

-- the texts of an argument, by the values that were found
pub words_are : (f : Found) (name : Text) (ws : List Text) → Some ws ≡ option_map raw_values (matched_of f name) → words_of name (rows_of f) ≡ ws
words_are f name ws is = ap (λ (o : Option (List Text)). unwrap_or o []) (sym (is ∙ raw_values-rows f name))

pub no_words : (f : Found) (name : Text) → None ≡ option_map raw_values (matched_of f name) → words_of name (rows_of f) ≡ []
no_words f name is = ap (λ (o : Option (List Text)). unwrap_or o []) (sym (is ∙ raw_values-rows f name))
