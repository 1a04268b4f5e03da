use Rattle.std.proofs.Common.{◌≡◌, ◌++◌, ℕ, List, Result, OnOk, string_bytes}
use Rattle.gen_draw.specs.Several.{convicted_words}
use Rattle.gen_draw.proofs.Chains.{behind}
use Rattle.gen_draw.proofs.several.push_both_words.Goals as goal

-- who is convicted and by which kind, by equal numbers
worded : {E : Type 0} (r : Result (Unit {0}) E) (old mid others new : List ℕ) (a k accused kind : ℕ) → a ≡ accused → k ≡ kind
    → mid ≡ old ++ convicted_words a k → OnOk r (new ≡ mid ++ others) → OnOk r (new ≡ old ++ (convicted_words accused kind ++ others))
worded r old mid others new a k accused kind one two first last = rw (← one, ← two) (behind r old (convicted_words a k) mid others new first last)

pub returns : goal.returns
unfolding convicted_words
returns c =
    worded _ (string_bytes c.args.out.now) _ _ _ _ _ _ _ c.get-accused.ensures.value c.kind_across-kind.ensures
    c.in_ok-write.ensures.bytes c.push_across_words.ensures
