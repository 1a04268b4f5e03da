use Rattle.std.proofs.Common.{◌≡◌, ◌++◌}
use Rattle.std.specs.List.{flat_map}
use Rattle.gen_audit.specs.Collecting.{shown_found}
use Rattle.gen_audit.proofs.findings_collected.add_amounts.Given as goal

abbrev pub invariant-generals : goal.invariant-generals
invariant-generals l =
    l.findings.items ++ flat_map (shown_found l.exhibits) l.general-iterator
    ≡ l.fn.findings.items ++ flat_map (shown_found l.exhibits) l.rest
