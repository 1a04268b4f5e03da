use Rattle.std.proofs.Common.{rules, ◌≡◌, Some, arith, map, Bor}
use Rattle.std.proofs.lemmas.Grind.{common_steps}
use Rattle.std.specs.List.{find}
use Rattle.gen_local.specs.declared.texts.SignedText.{SignedText}
use Rattle.gen_convict.specs.Finding as finds
use Rattle.gen_convict.proofs.text_claims.orders_claim.Goals as goal

pub returns-in_ok-share-in-Some-2 : goal.returns-in_ok-share-in-Some-2
returns-in_ok-share-in-Some-2 c =
    let found : Some c.first-item.result.now ≡ find (λ x. finds.is_command x.text) (map (λ (t : Bor SignedText). t.now) c.args.texts.now) = grind (arith, common_steps) in
    search (rules, found)
