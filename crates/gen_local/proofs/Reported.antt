-- What is found of a general's own log.
use Rattle.std.proofs.Common.{◌≡◌, ◌↔◌, ℕ, Bool, true, false, List, [], ◌∷◌, ◌++◌, Option, Some, None, filter, refl, sym, ap, ◌∙◌, subst, append_assoc}
use Rattle.std.specs.List.{flat_map}
use Rattle.std.proofs.lemmas.List.Elements.{filter-append}
use Rattle.gen_net.specs.Header.{RunHeader}
use Rattle.gen_net.specs.Departs.{DepartsAt, IsFollowersLog}
use Rattle.gen_log.specs.Log.{RunLog, IsLog}
use Rattle.gen_log.specs.Links.{head_over}
use Rattle.gen_log.specs.Verifying.{SaysItIsOf}
use Rattle.gen_local.specs.declared.texts.SignedText.{SignedText}
use Rattle.gen_local.specs.Erased.{erased}
use Rattle.gen_local.specs.SignedTexts.{texts_in, head_in, text_verifies, verified, texts_of}

alike : (p q : SignedText → Bool) (t : SignedText) → p t ≡ q t → filter p (t ∷ []) ≡ filter q (t ∷ [])
alike p q t e = rw e refl

-- the texts of the entries, and the head's where it verifies
pub with_head : (h : RunHeader) (general : ℕ) (log : RunLog) (before texts : List SignedText) (sealed : Bool) → before ≡ [] ++ verified h (flat_map texts_in log.entries) → sealed ≡ text_verifies h (head_in h general log)
    → texts ≡ before ++ filter (λ t. sealed) (head_in h general log ∷ []) → texts ≡ texts_of h general log
with_head h general log before texts sealed entries told put =
    put ∙ ap (λ (x : List SignedText). x ++ filter (λ t. sealed) (head_in h general log ∷ [])) entries
    ∙ ap (λ (x : List SignedText). verified h (flat_map texts_in log.entries) ++ x) (alike (λ t. sealed) (text_verifies h) (head_in h general log) told)
    ∙ sym (filter-append (text_verifies h) (flat_map texts_in log.entries) (head_in h general log ∷ []))
