-- The signed texts of a log: the statements that its entries keep with their signatures, and its head.
use Rattle.std.specs.Prelude.{ℕ, Bool, List, [], ◌∷◌, ◌++◌, length, Option, Some, None, slice_get, ◌-◌, filter}
use Rattle.std.specs.List.{flat_map}
use Rattle.gen_net.specs.Header.{RunHeader, height_of, root_of}
use Rattle.gen_chain.specs.declared.chains.Signer.{Signer}
use Rattle.gen_chain.specs.Leaves.{leaf_of_head}
use Rattle.gen_chain.specs.Texts.{head_digest}
use Rattle.gen_chain.specs.Verified.{is_under, has_signed}
use Rattle.gen_log.specs.declared.entries.Entry.{Entry}
use Rattle.gen_log.specs.declared.entries.Entry.TheVariants.{Sign, Recv}
use Rattle.gen_log.specs.Links.{head_over}
use Rattle.gen_log.specs.Log.{RunLog}
use Rattle.gen_local.specs.declared.texts.SignedText.{SignedText}
use Rattle.gen_local.specs.declared.texts.Text.{Text}
use Rattle.gen_local.specs.declared.texts.Text.TheVariants.{OfStatement, OfHead}

-- the statement of an order and a path, with a signature and the general that is said to have signed it
abbrev pub stated : ℕ → List ℕ → ℕ → List ℕ → SignedText
stated order path signer signature = record {
  signer = signer;
  text = OfStatement (record { order = order; path = path });
  signature = signature;
}

-- the statements of the signers of a chain after the given path: each is of the order and of the path up to
-- and with its signer
unfoldable pub texts_behind : ℕ → List ℕ → List Signer → List SignedText
texts_behind order path [] = []
texts_behind order path (s ∷ others) =
    stated order (path ++ s.general ∷ []) s.general s.signature
    ∷ texts_behind order (path ++ s.general ∷ []) others

-- the text of a SIGN: the statement under the last general of its path; none if the path is empty
abbrev pub text_under : ℕ → List ℕ → List ℕ → Option ℕ → List SignedText
text_under order path signature None = []
text_under order path signature (Some last) = stated order path last signature ∷ []

-- the texts of an entry, in their order
abbrev pub texts_in : Entry → List SignedText
texts_in (Sign order path signature) =
    text_under order path signature (slice_get path (length path - 1))
texts_in (Recv from chain) = texts_behind chain.order [] chain.signers
texts_in _ = []

-- the text of the head, under the general that the log is said to be of
abbrev pub head_in : RunHeader → ℕ → RunLog → SignedText
head_in h general log = record {
  signer = general;
  text = OfHead (head_over h general log.entries);
  signature = log.head;
}

-- whether the signature of the text verifies
abbrev pub is_right : RunHeader → ℕ → Text → List ℕ → Bool
is_right h signer (OfStatement statement) signature = has_signed h signer statement signature
is_right h signer (OfHead head) signature =
    is_under (root_of h signer) (height_of h) (leaf_of_head h) (head_digest h head) signature

abbrev pub text_verifies : RunHeader → SignedText → Bool
text_verifies h t = is_right h t.signer t.text t.signature

-- the texts that verify; and those of a log: its entries in their order, then its head
abbrev pub verified : RunHeader → List SignedText → List SignedText
verified h texts = filter (text_verifies h) texts

abbrev pub texts_of : RunHeader → ℕ → RunLog → List SignedText
texts_of h general log = verified h (flat_map texts_in log.entries ++ head_in h general log ∷ [])
