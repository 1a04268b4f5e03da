use Rattle.std.proofs.Common.{◌≡◌, ◌++◌, ◌∙◌, ℕ, List, ap, string_bytes}
use Rattle.hex.specs.Hex.{encode_lower}
use Rattle.gen_draw.specs.Picture.{agreed_heading, explained_heading, heading, no_heading, run_title, run_words}
use Rattle.gen_draw.proofs.Chains.{behind, both, ended}
use Rattle.gen_draw.proofs.picture.push_heading.Goals as goal

-- the run id as a title, and as words
titled : (old digits shown id one two : List ℕ) → digits ≡ encode_lower shown → shown ≡ id → one ≡ old ++ run_title digits → two ≡ one ++ run_words digits
    → two ≡ old ++ (run_title (encode_lower id) ++ run_words (encode_lower id))
titled old digits shown id one two spelled same first second =
    both old (run_title digits) (run_words digits) one two first second
    ∙ ap (λ (xs : List ℕ). old ++ (run_title xs ++ run_words xs)) (spelled ∙ ap encode_lower same)

pub returns-in-Agreed : goal.returns-in-Agreed
unfolding heading run_title run_words agreed_heading
returns-in-Agreed c =
    rw (c.in-Agreed.is, ← c.get-order.ensures.value)
    (behind _ (string_bytes c.args.out.now) _ _ _ _
    (titled _ _ _ _ _ _ c.in_ok-digits.ensures c.run_id.ensures c.in_ok-write.ensures.bytes c.in_ok-write-2.ensures.bytes)
    c.write-in-Agreed.ensures.bytes)

pub returns-in-Explained : goal.returns-in-Explained
unfolding heading run_title run_words explained_heading
returns-in-Explained c =
    rw c.in-Explained.is
    (behind _ (string_bytes c.args.out.now) _ _ _ _
    (titled _ _ _ _ _ _ c.in_ok-digits.ensures c.run_id.ensures c.in_ok-write.ensures.bytes c.in_ok-write-2.ensures.bytes)
    (ended _ _ _ _ c.push_str.ensures.bytes))

pub returns : goal.returns
unfolding heading run_title run_words no_heading
returns c =
    rw c.in-No.is
    (behind _ (string_bytes c.args.out.now) _ _ _ _
    (titled _ _ _ _ _ _ c.in_ok-digits.ensures c.run_id.ensures c.in_ok-write.ensures.bytes c.in_ok-write-2.ensures.bytes)
    (ended _ _ _ _ c.push_str-in-No.ensures.bytes))
