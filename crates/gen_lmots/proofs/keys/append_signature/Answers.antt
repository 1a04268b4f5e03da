use Rattle.std.proofs.Common.{◌≡◌, ◌++◌, List, ℕ, append_assoc, ap, ◌∙◌}
use Rattle.gen_lmots.specs.Chains.{message_hash}
use Rattle.gen_lmots.specs.Signatures.{shown, signature_of}
use Rattle.gen_lmots.specs.Strings.{type_code, u32str}
use Rattle.gen_lmots.proofs.keys.append_signature.Goals as goal

pub returns-clause-bytes : goal.returns-clause-bytes
unfolding signature_of
returns-clause-bytes c =
    let a = c.args in
    let out = a.out.now.items in
    let code = u32str type_code in
    let values = shown a.seed.now a.place.now (message_hash a.place.now a.randomizer.now a.message.now) 67 in
    let first : c.append.new.out.items ≡ out ++ code = c.append.ensures.items ∙ ap (λ (x : List ℕ). out ++ x) c.to_be_bytes.ensures in
    let second : c.append-2.new.out.items ≡ (out ++ code) ++ a.randomizer.now = c.append-2.ensures.items ∙ ap (λ (x : List ℕ). x ++ a.randomizer.now) first in
    let third : c.append_shown.new.out.items ≡ c.append-2.new.out.items ++ values = rw (← c.message_hash-hash.ensures) c.append_shown.ensures.bytes in
    third ∙ ap (λ (x : List ℕ). x ++ values) second
    ∙ append_assoc (out ++ code) a.randomizer.now values ∙ append_assoc out code (a.randomizer.now ++ values)
