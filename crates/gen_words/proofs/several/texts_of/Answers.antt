use Rattle.std.proofs.Common.{◌≡◌, ◌∙◌, List, Result, Ok, Err, ap, map, option_map, sym}
use Rattle.std.specs.Prelude.{IfOk}
use Rattle.clap.specs.Words.{Text, found_of}
use Rattle.gen_words.proofs.SeveralWords.{no_words, words_are}
use Rattle.gen_words.proofs.several.texts_of.Goals as goal

-- what a call made of a list, if the list is known
made : {V E X : Type 0} (r : Result V E) (items : V → List X) (f : List X → List Text) (xs : List X) (ws : List Text)
    → IfOk r (λ v. items v ≡ xs) → f xs ≡ ws → IfOk r (λ v. f (items v) ≡ ws)
made (Ok v) items f xs ws is goes = ap f is ∙ goes
made (Err e) items f xs ws is goes = tt

pub returns-in-Some : goal.returns-in-Some
returns-in-Some c =
    made c.from_slice.result (λ v. v.items) (map (λ t. t.now)) _ _ c.from_slice.ensures.items
    (sym (words_are (found_of c.args.inner.now) c.args.name.now (map (λ t. t.now) c.in-Some.texts.now)
    (ap (option_map (λ s. map (λ t. t.now) s.now)) (sym c.in-Some.is) ∙ c.get_strs.ensures)))

pub returns-in-None : goal.returns-in-None
returns-in-None c =
    ap (map (λ t. t.now)) c.new.ensures.items
    ∙ sym (no_words (found_of c.args.inner.now) c.args.name.now
    (ap (option_map (λ s. map (λ t. t.now) s.now)) (sym c.in-None.is) ∙ c.get_strs.ensures))
