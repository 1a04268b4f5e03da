use Rattle.std.proofs.Common.{◌≡◌, ◌+◌, ◌-◌, ◌++◌, List, ℕ, add-one, append_assoc, subst, ap, ◌∙◌, arith}
use Rattle.std.proofs.lemmas.List.{append-nil}
use Rattle.sha2.specs.Hashers.{Holds256}
use Rattle.sha2.specs.Sha256.{sha256}
use Rattle.gen_lmots.specs.Chains.{chained}
use Rattle.gen_lmots.specs.Coefficients.{steps_signed}
use Rattle.gen_lmots.specs.Signatures.{key_led, led_ends, value_at}
use Rattle.gen_lmots.specs.Strings.{d_pblc, front, u16str}
use Rattle.gen_lmots.proofs.Walked.{led_ends-zero, led_ends-suc}
use Rattle.gen_lmots.proofs.signatures.key_led.Goals as goal

pub chains-init : goal.chains-init
chains-init c = rw (led_ends-zero, append-nil) c.begun_key-hasher.ensures

pub chains-preserved : goal.chains-preserved
chains-preserved c =
    let place = c.args.place.now in
    let hash = c.args.hash.now in
    let values = c.args.values.now in
    let i = c.chains.i in
    let before = front place ++ u16str d_pblc in
    let steps = c.steps_signed-steps.ensures.value i (omega arith) in
    let end : c.chained-end.result ≡ chained place i (steps_signed hash i) (15 - steps_signed hash i) (value_at values i)
    = rw (← steps, ← c.value_at-value.ensures) c.chained-end.ensures in
    let more : (before ++ led_ends place hash values i) ++ c.chained-end.result ≡ before ++ led_ends place hash values (i + 1)
    = rw (add-one, led_ends-suc, end) (append_assoc before (led_ends place hash values i) (chained place i (steps_signed hash i) (15 - steps_signed hash i) (value_at values i))) in
    subst (λ (x : List ℕ). Holds256 c.update.new.self x) more (c.update.ensures (before ++ led_ends place hash values i) c.chains.invariant)

pub returns : goal.returns
unfolding key_led
returns c =
    let all : c.chains.i ≡ 67 = omega arith in
    let place = c.args.place.now in
    let led = led_ends place c.args.hash.now c.args.values.now 67 in
    c.finalize.ensures ((front place ++ u16str d_pblc) ++ led) (rw all at c.chains.invariant)
    ∙ ap sha256 (append_assoc (front place) (u16str d_pblc) led)
