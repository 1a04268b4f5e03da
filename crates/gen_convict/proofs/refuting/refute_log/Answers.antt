use Rattle.std.proofs.Common.{◌≢◌, rules, sym, ap, ◌∙◌}
use Rattle.gen_log.specs.Links.{head_over}
use Rattle.gen_convict.proofs.Answering.{head_answered, links_answered, the_other}
use Rattle.gen_convict.proofs.Meeting.{links_meet}
use Rattle.gen_convict.proofs.refuting.refute_log.Goals as goal

pub returns-then-not-has_text : goal.returns-then-not-has_text
returns-then-not-has_text c =
    let h = c.args.header.now in
    let g = c.args.general in
    let own = c.args.own.now in
    let other = c.in-Ok.log in
    let head = c.head_of.result in
    let found = the_other h g own c.args.bytes.now other c.net-net.ensures.header c.requires.other c.in-Ok.ensures.found in
    let differ : head ≢ head_over h g own.entries = λ e. let t = c.has_text.ensures.1 e in let f = c.if-not-has_text.true in absurd cc in
    head_answered c.forged.result h g own c.args.bytes.now other head found.0 c.head_of.ensures differ (rw c.head.ensures at c.forged.ensures)

pub collide-requires-clause-links : goal.collide-requires-clause-links
collide-requires-clause-links c =
    let h = c.args.header.now in
    let g = c.args.general in
    let has = c.has_text.ensures.0 c.if-not-has_text.false in
    links_meet h g c.link_at-first.result c.entries.result.now c.entries-2.result.now c.link_at-first.ensures
    (ap (head_over h g) c.entries.ensures ∙ sym c.head_of.ensures ∙ has ∙ ap (head_over h g) (sym c.entries-2.ensures))

pub collide-requires-clause-differ : goal.collide-requires-clause-differ
collide-requires-clause-differ c = λ e.
    let found = the_other c.args.header.now c.args.general c.args.own.now c.args.bytes.now c.in-Ok.log c.net-net.ensures.header c.requires.other c.in-Ok.ensures.found in
    found.1 (sym c.entries.ensures ∙ e ∙ c.entries-2.ensures)

pub unreachable-requires : goal.unreachable-requires
unreachable-requires c = let read = c.read_log.ensures.only c.requires.other.0 c.requires.other.1.reads in search (rules, read)

pub returns : goal.returns
returns c =
    let h = c.args.header.now in
    let g = c.args.general in
    let own = c.args.own.now in
    let other = c.in-Ok.log in
    let found = the_other h g own c.args.bytes.now other c.net-net.ensures.header c.requires.other c.in-Ok.ensures.found in
    let heads = sym c.head_of.ensures ∙ c.has_text.ensures.0 c.if-not-has_text.false in
    links_answered h g own c.args.bytes.now other c.link_at-first.result c.entries.result.now c.entries-2.result.now c.in_ok-left.left.items c.in_ok-left.right.items found.0 heads c.link_at-first.ensures c.entries.ensures c.entries-2.ensures c.in_ok-left.ensures
