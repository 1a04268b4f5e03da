use Rattle.gen_types.proofs.Laws.{found_by, only_by}
use Rattle.gen_plan.specs.EqualRoots.{HasOwnRoots}
use Rattle.gen_prepare.specs.HeaderText.{SpellsHeader}
use Rattle.gen_prepare.specs.HeaderTextReading.{header_given}
use Rattle.gen_prepare.proofs.HeaderAgain.{header_again}
use Rattle.gen_prepare.proofs.HeaderFound.{header_found}
use Rattle.gen_prepare.proofs.HeaderGiven.{given_spelled, given_own, given_again}
use Rattle.gen_prepare.proofs.header_text.read_header_text.Goals as goal

pub returns-clause-found : goal.returns-clause-found
returns-clause-found c =
    let version = c.args.version in
    let text = c.args.text.now in
    found_by (λ h. h) c.given.result (header_given version text) (SpellsHeader version text) (λ h e. header_found version text h (given_spelled version text h e)) c.given.ensures

pub returns-clause-own : goal.returns-clause-own
returns-clause-own c =
    let version = c.args.version in
    let text = c.args.text.now in
    found_by (λ h. h) c.given.result (header_given version text) HasOwnRoots (given_own version text) c.given.ensures

pub returns-clause-only : goal.returns-clause-only
returns-clause-only c = λ h spells own.
    let version = c.args.version in
    let text = c.args.text.now in
    only_by (λ x. x) c.given.result (header_given version text) h (given_again version text h (header_again version text h spells) own) c.given.ensures
