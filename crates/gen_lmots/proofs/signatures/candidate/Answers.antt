use Rattle.std.proofs.Common.{◌≡◌, take, drop, ap, ◌∙◌}
use Rattle.gen_lmots.specs.Signatures.{candidate}
use Rattle.gen_lmots.proofs.signatures.candidate.Goals as goal

pub returns : goal.returns
unfolding candidate
returns c =
    let behind = c.split_at.ensures.back in
    let values : c.split_at-2.result.1.now ≡ drop 32 (drop 4 c.args.signature.now) = c.split_at-2.ensures.back ∙ ap (drop 32) behind in
    let randomizer : c.copy_from_slice.new.self ≡ take 32 (drop 4 c.args.signature.now)
    = c.copy_from_slice.ensures.after ∙ c.split_at-2.ensures.front ∙ ap (take 32) behind in
    rw (← values, ← randomizer, ← c.message_hash-hash.ensures) c.key_led.ensures
