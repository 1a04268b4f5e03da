use Rattle.std.proofs.Common.{◌≡◌, List, [], ap, map, ◌∙◌, subst}
use Rattle.std.proofs.lemmas.Result.{err_from_is_err_and}
use Rattle.clap.specs.Words.{App, Text, fault_of, is_simple, is_simple_and_free, subcommand_of}
use Rattle.gen_words.specs.CommandLine.{tool}
use Rattle.gen_words.proofs.Faults.{fault_had, only_memory, tool_is_free, tool_is_simple}
use Rattle.gen_words.proofs.words.matches_of.Goals as goal

pub returns-clause-ok : goal.returns-clause-ok
returns-clause-ok c =
    let texts : List Text = map (λ w. w.now) c.args.words.now in
    let is_tool = c.in_ok-command.ensures in
    let free = ap is_simple_and_free is_tool ∙ tool_is_free in
    let simple = ap is_simple is_tool ∙ tool_is_simple in
    let none : fault_of tool texts ≡ [] = subst (λ (a : App). fault_of a texts ≡ []) is_tool (c.in_ok-try_get_matches_from.ensures.kinds free) in
    let told = (c.in_ok-try_get_matches_from.ensures.matches simple).1 in
    (none, told ∙ ap (λ (a : App). subcommand_of a texts) is_tool)

pub returns-in_err-try_get_matches_from-clause-only : goal.returns-in_err-try_get_matches_from-clause-only
returns-in_err-try_get_matches_from-clause-only c =
    let texts : List Text = map (λ w. w.now) c.args.words.now in
    let is_tool = c.in_ok-command.ensures in
    let has = c.in_err-try_get_matches_from.ensures.kinds (ap is_simple_and_free is_tool ∙ tool_is_free) in
    let p = err_from_is_err_and c.from_residual-in_err-try_get_matches_from.result c.from_residual-in_err-try_get_matches_from.ensures.1 in
    rw p.1 (λ none. only_memory _ _ _ has p.2 (ap (λ (a : App). fault_of a texts) is_tool ∙ none))

pub returns-in_err-try_get_matches_from-clause-fault : goal.returns-in_err-try_get_matches_from-clause-fault
returns-in_err-try_get_matches_from-clause-fault c =
    let texts : List Text = map (λ w. w.now) c.args.words.now in
    let is_tool = c.in_ok-command.ensures in
    let has = c.in_err-try_get_matches_from.ensures.kinds (ap is_simple_and_free is_tool ∙ tool_is_free) in
    let p = err_from_is_err_and c.from_residual-in_err-try_get_matches_from.result c.from_residual-in_err-try_get_matches_from.ensures.1 in
    rw p.1 (fault_had texts _ _ _ (ap (λ (a : App). fault_of a texts) is_tool) has p.2)
