use Rattle.std.proofs.Common.{◌≡◌, ◌++◌, ◌∙◌, ℕ, List, ap, append_assoc, codes, string_bytes}
use Rattle.gen_telling.specs.PlanText.{size_lines, number_line}
use Rattle.gen_telling.proofs.plan_lines.push_sizes.Goals as goal

-- four lines behind what stood before, of which the first has a number that is told otherwise
four : (name a b c old one two three all : List ℕ) (n m : ℕ) → one ≡ old ++ number_line name n → two ≡ one ++ a → three ≡ two ++ b → all ≡ three ++ c
    → n ≡ m → all ≡ old ++ (((number_line name m ++ a) ++ b) ++ c)
four name a b c old one two three all n m e1 e2 e3 e4 same =
    let first : one ≡ old ++ number_line name m = e1 ∙ ap (λ k. old ++ number_line name k) same in
    let second : two ≡ old ++ (number_line name m ++ a) = e2 ∙ (ap (λ xs. xs ++ a) first ∙ append_assoc old (number_line name m) a) in
    let third : three ≡ old ++ ((number_line name m ++ a) ++ b) = e3 ∙ (ap (λ xs. xs ++ b) second ∙ append_assoc old (number_line name m ++ a) b) in
    e4 ∙ (ap (λ xs. xs ++ c) third ∙ append_assoc old ((number_line name m ++ a) ++ b) c)

pub returns : goal.returns
returns c = unfold size_lines in
    let sizes = c.args.sizes.now in
    four (codes "rounds") (number_line (codes "longest frame") sizes.longest_frame) (number_line (codes "longest log") sizes.longest_log) (number_line (codes "bytes of a run") sizes.run_bytes)
    _ _ _ _ _ _ _ c.in_ok-push_line.ensures c.in_ok-push_line-2.ensures c.in_ok-push_line-3.ensures c.in_ok-push_line-4.ensures c.from.ensures
