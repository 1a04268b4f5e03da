-- What words ask for that name several files, or a list of names.
use Rattle.std.specs.Prelude.{◌≡◌, ◌⊎◌, ◌++◌, ◌||◌, Bool, true, false, List, [], ◌∷◌, codes, length, map, Option, Some, None, option_map, nat_le, nat_lt}
use Rattle.clap.specs.Words.{Row, Text, fault_of, first_of, subcommand_of}
use Rattle.gen_words.specs.CommandLine.{tool}
use Rattle.gen_words.specs.Several.{standards, words_of}
use Rattle.gen_words.specs.declared.listing.Listing.{Listing}
use Rattle.gen_words.specs.declared.words.WordsFault.{WordsFault}
use Rattle.gen_words.specs.declared.words.WordsFault.TheVariants as faults

-- the words for the files
abbrev pub file_words : List Row → List Text
file_words rows = words_of (codes "file") rows

-- the word for the file of a list of names
abbrev pub list_word : List Row → Option Text
list_word rows = first_of (codes "files-from") rows

-- a text, if there is one, as a list
abbrev pub listed : Option Text → List Text
listed None = []
listed (Some text) = text ∷ []

-- all words for files that are read: those of the inputs, that of a list and that of an admission
abbrev pub read_words : List Row → List Text
read_words rows =
    (file_words rows ++ listed (list_word rows)) ++ listed (first_of (codes "admission") rows)

-- whether a text is there
abbrev pub is_there : Option Text → Bool
is_there None = false
is_there (Some text) = true

-- whether several files are named, or a list of names
abbrev pub names_several : List Row → Bool
names_several rows = is_there (list_word rows) || nat_lt 1 (length (file_words rows))

-- the arguments name these files and this list, and standard input at most once
pub record NamesFiles (rows : List Row) (files : List Text) (list : Option Text) : Type 0 where
  pub several : names_several rows ≡ true
  pub words : files ≡ file_words rows
  pub from : list ≡ list_word rows
  pub once : nat_le (standards (read_words rows)) 1 ≡ true

-- the arguments say this: they name several files or a list, or neither
abbrev pub SaysListing : List Row → Option Listing → Type 0
SaysListing rows None = names_several rows ≡ false
SaysListing rows (Some l) =
    NamesFiles rows (map (λ f. f.now) l.files.items) (option_map (λ t. t.now) l.list)

-- the arguments name several files or a list, and standard input more than once
abbrev pub IsListingFault : List Row → WordsFault → Type 0
IsListingFault rows faults.TwoStandard =
    (names_several rows ≡ true) × (nat_le (standards (read_words rows)) 1 ≡ false)
IsListingFault rows faults.Memory = Unit {0}
IsListingFault rows _ = ⊥

-- the command that words name says this; or they name none
abbrev pub IsSaidBy : Option (Text × List Row) → Option Listing → Type 0
IsSaidBy None None = Unit {0}
IsSaidBy None (Some listing) = ⊥
IsSaidBy (Some p) said = SaysListing p.1 said

-- Words ask for this; or they name one file at most, or the command line has a fault at them.
abbrev pub AsksForListing : List Text → Option Listing → Type 0
AsksForListing words None = fault_of tool words ≡ [] → IsSaidBy (subcommand_of tool words) None
AsksForListing words (Some listing) =
    (fault_of tool words ≡ []) × IsSaidBy (subcommand_of tool words) (Some listing)

-- the command that words name has this fault
abbrev pub HasListingFault : Option (Text × List Row) → WordsFault → Type 0
HasListingFault None fault = ⊥
HasListingFault (Some p) fault = IsListingFault p.1 fault

-- memory was refused; or the command line has no fault at the words, and the command that they name has this
-- one
abbrev pub IsListingFaultOf : List Text → WordsFault → Type 0
IsListingFaultOf words fault =
    (fault ≡ faults.Memory)
    ⊎ ((fault_of tool words ≡ []) × HasListingFault (subcommand_of tool words) fault)
