-- Texts that are gathered one by one, signer by signer and entry by entry.
use Rattle.std.proofs.Common.{◌≡◌, ◌+◌, ℕ, Bool, true, false, ◌&&◌, List, [], ◌∷◌, ◌++◌, length, Option, refl, sym, ap, ◌∙◌, append_assoc, arith}
use Rattle.std.specs.List.{list_all, flat_map}
use Rattle.std.specs.Option.{option_or}
use Rattle.std.proofs.lemmas.List.{append-nil}
use Rattle.std.proofs.lemmas.List.Elements.{filter-append}
use Rattle.gen_net.specs.Header.{RunHeader}
use Rattle.gen_chain.specs.declared.chains.Signer.{Signer}
use Rattle.gen_chain.specs.Chain.{signed_path}
use Rattle.gen_chain.proofs.DistinctPaths.{next_path}
use Rattle.gen_log.specs.declared.entries.Entry.{Entry}
use Rattle.gen_local.specs.declared.texts.SignedText.{SignedText}
use Rattle.gen_local.specs.FoundLog.{first_unsigned}
use Rattle.gen_local.specs.SignedTexts.{stated, texts_behind, texts_in, text_verifies, verified}

-- ---- signer by signer

-- the path of the signers before the rest, the texts that were gathered of them, and whether all verified
pub record SignersSoFar (h : RunHeader) (order : ℕ) (signers rest : List Signer) (path : List ℕ) (old texts : List SignedText) (all : Bool) : Type 0 where
  pub joined : path ++ signed_path rest ≡ signed_path signers
  pub gathered : texts ++ verified h (texts_behind order path rest) ≡ old ++ verified h (texts_behind order [] signers)
  pub told : (all && list_all (text_verifies h) (texts_behind order path rest)) ≡ list_all (text_verifies h) (texts_behind order [] signers)

and_assoc : (a b c : Bool) → ((a && b) && c) ≡ (a && (b && c))
and_assoc true b c = refl
and_assoc false b c = refl

one_more_text : (h : RunHeader) (texts new : List SignedText) (t : SignedText) (others : List SignedText) → new ≡ texts ++ verified h (t ∷ []) → new ++ verified h others ≡ texts ++ verified h (t ∷ others)
one_more_text h texts new t others e =
    ap (λ (x : List SignedText). x ++ verified h others) e ∙ append_assoc texts (verified h (t ∷ [])) (verified h others) ∙ ap (λ (x : List SignedText). texts ++ x) (sym (filter-append (text_verifies h) (t ∷ []) others))

pub one_signer_more : (h : RunHeader) (order : ℕ) (signers rest others : List Signer) (path longer : List ℕ) (old texts new : List SignedText) (all told : Bool) (s : Signer) → rest ≡ s ∷ others → longer ≡ path ++ s.general ∷ []
    → told ≡ text_verifies h (stated order longer s.general s.signature) → new ≡ texts ++ verified h (stated order longer s.general s.signature ∷ []) → SignersSoFar h order signers rest path old texts all
    → SignersSoFar h order signers others longer old new (all && told)
unfolding texts_behind
one_signer_more h order signers rest others path longer old texts new all told s e pushed is_told gathered so_far =
    let here : texts_behind order path rest ≡ stated order longer s.general s.signature ∷ texts_behind order longer others = rw (e, pushed) refl in
    record {
      joined = next_path path longer rest others signers s e pushed so_far.joined;
      gathered = one_more_text h texts new (stated order longer s.general s.signature) (texts_behind order longer others) gathered ∙ ap (λ (x : List SignedText). texts ++ verified h x) (sym here) ∙ so_far.gathered;
      told = and_assoc all told (list_all (text_verifies h) (texts_behind order longer others)) ∙ ap (λ (b : Bool). all && (b && list_all (text_verifies h) (texts_behind order longer others))) is_told ∙ ap (λ (x : List SignedText). all && list_all (text_verifies h) x) (sym here) ∙ so_far.told;
    }

and_true : (a : Bool) → (a && true) ≡ a
and_true true = refl
and_true false = refl

pub all_signers_told : (h : RunHeader) (order : ℕ) (signers rest : List Signer) (path : List ℕ) (old texts : List SignedText) (all : Bool) → rest ≡ [] → SignersSoFar h order signers rest path old texts all → all ≡ list_all (text_verifies h) (texts_behind order [] signers)
unfolding texts_behind
all_signers_told h order signers rest path old texts all e so_far =
    let last : (all && true) ≡ list_all (text_verifies h) (texts_behind order [] signers) = rw e at so_far.told in
    sym (and_true all) ∙ last

pub all_signers_gathered : (h : RunHeader) (order : ℕ) (signers rest : List Signer) (path : List ℕ) (old texts : List SignedText) (all : Bool) → rest ≡ [] → SignersSoFar h order signers rest path old texts all → texts ≡ old ++ verified h (texts_behind order [] signers)
unfolding texts_behind
all_signers_gathered h order signers rest path old texts all e so_far =
    let last : texts ++ [] ≡ old ++ verified h (texts_behind order [] signers) = rw e at so_far.gathered in
    sym (append-nil texts) ∙ last

-- ---- entry by entry

pub record EntriesSoFar (h : RunHeader) (entries rest : List Entry) (place : ℕ) (old texts : List SignedText) (first : Option ℕ) : Type 0 where
  pub count : place + length rest ≡ length entries
  pub gathered : texts ++ verified h (flat_map texts_in rest) ≡ old ++ verified h (flat_map texts_in entries)
  pub told : option_or first (first_unsigned h place rest) ≡ first_unsigned h 0 entries
