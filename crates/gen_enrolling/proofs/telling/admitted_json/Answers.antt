use Rattle.std.proofs.Common.{◌≡◌, ◌≤◌, ◌∙◌, ap, arith, refl, string_bytes}
use Rattle.serde_json.specs.Data.{depth}
use Rattle.serde_json.specs.View.{view}
use Rattle.serde_json.specs.Written.{compact_text, has_float}
use Rattle.gen_enrolling.specs.Telling.{admitted_data}
use Rattle.gen_enrolling.proofs.ToldReading.{reads_back, runs_low, runs_plain}
use Rattle.gen_enrolling.proofs.telling.admitted_json.Goals as goal

pub returns-clause-text : goal.returns-clause-text
returns-clause-text c =
    let runs = c.args.admitted.now in
    let seen = c.in_ok-value.ensures in
    let text : string_bytes c.in_ok-text.text ≡ compact_text (admitted_data runs) = c.in_ok-text.ensures.text (ap has_float seen ∙ runs_plain runs) ∙ ap compact_text seen in
    rw (c.into_bytes.ensures.value, c.in_ok-push_str.ensures.bytes, c.deref.ensures, text, c.in_ok-member.ensures.ok) refl

pub returns-clause-reads : goal.returns-clause-reads
returns-clause-reads c =
    let runs = c.args.admitted.now in
    let low : depth (admitted_data runs) ≤ 127 = omega (arith, runs_low runs) in
    reads_back (view c.in_ok-value.value) (admitted_data runs) (string_bytes c.in_ok-text.text) c.in_ok-value.ensures (runs_plain runs) low c.in_ok-text.ensures.text c.in_ok-text.ensures.order c.in_ok-text.ensures.reads_back
