use Rattle.std.proofs.Common.{◌≡◌, ◌++◌, List, ℕ, length, replicate, ap, ◌∙◌}
use Rattle.std.proofs.lemmas.List.{append-nil}
use Rattle.gen_lmots.specs.Strings.{u32str}
use Rattle.gen_lmots.proofs.Walked.{written}
use Rattle.gen_lmots.proofs.chains.front_of.Goals as goal

pub returns : goal.returns
returns c =
    let identifier = c.args.place.now.identifier in
    let a = c.copy_from_slice.new.self in
    let b = c.copy_from_slice-2.new.self in
    let first : a ≡ identifier = c.copy_from_slice.ensures.after in
    let second : b ≡ u32str c.args.place.now.number = c.copy_from_slice-2.ensures.after ∙ c.to_be_bytes.ensures in
    let wide : length a ≡ 16 = c.copy_from_slice.ensures.len in
    written a (replicate 4 0) b 16 4 wide
    ∙ append-nil (a ++ b)
    ∙ ap (λ (x : List ℕ). x ++ b) first
    ∙ ap (λ (x : List ℕ). identifier ++ x) second
