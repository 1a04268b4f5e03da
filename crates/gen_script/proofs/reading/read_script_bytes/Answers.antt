use Rattle.gen_types.proofs.Laws.{found_by, only_by}
use Rattle.gen_script.specs.LineReading.{script_line_of}
use Rattle.gen_script.specs.Line.{SpellsLine}
use Rattle.gen_script.proofs.LineAgain.{script_line_again}
use Rattle.gen_script.proofs.LineFound.{script_line_found}
use Rattle.gen_script.proofs.reading.read_script_bytes.Goals as goal

pub returns-clause-found : goal.returns-clause-found
returns-clause-found c =
    let read = rw (c.deref.ensures.value, c.in_ok-fields.ensures) at c.line_in.ensures in
    found_by (λ l. l) _ (script_line_of c.args.net.now c.args.me c.args.line.now) (SpellsLine c.args.net.now c.args.me c.args.line.now) (script_line_found c.args.net.now c.args.me c.args.line.now) read

pub returns-clause-only : goal.returns-clause-only
returns-clause-only c = λ said spells.
    let read = rw (c.deref.ensures.value, c.in_ok-fields.ensures) at c.line_in.ensures in
    only_by (λ l. l) _ (script_line_of c.args.net.now c.args.me c.args.line.now) said (script_line_again c.args.net.now c.args.me c.args.line.now said c.generals-generals.ensures.network spells) read
