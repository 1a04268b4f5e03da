use Rattle.std.proofs.Common.{◌≡◌, ◌∙◌, Err, Ok, arith, refl, sym}
use Rattle.gen_node.specs.FrameReading.{head_at, head_in}
use Rattle.gen_node.proofs.FrameLaws.{head_found, head_of_frame, head_only}
use Rattle.gen_node.proofs.frame_reading.read_frame_head.Goals as goal

pub returns-in-Ok-clause-found : goal.returns-in-Ok-clause-found
returns-in-Ok-clause-found c =
    let read : head_in c.args.bytes.now ≡ Ok c.in-Ok.head = rw c.in-Ok.ensures.exact refl in
    head_found c.args.bytes.now c.in-Ok.head (λ i. omega (arith, c.type_inv.bytes i)) read

pub returns-in-Ok-clause-only : goal.returns-in-Ok-clause-only
returns-in-Ok-clause-only c = λ h stands.
    let read : head_in c.args.bytes.now ≡ Ok c.in-Ok.head = rw c.in-Ok.ensures.exact refl in
    sym read ∙ head_only c.args.bytes.now h stands

pub returns-in-Ok-clause-frame : goal.returns-in-Ok-clause-frame
returns-in-Ok-clause-frame c = λ f spells.
    let read : head_in c.args.bytes.now ≡ Ok c.in-Ok.head = rw c.in-Ok.ensures.exact refl in
    sym read ∙ head_of_frame c.args.bytes.now f spells

pub returns-in-Err-Fault-clause-only : goal.returns-in-Err-Fault-clause-only
returns-in-Err-Fault-clause-only c = λ h stands.
    let failed : head_at c.args.bytes.now ≡ Err c.in-Err-Fault.fault = rw c.in-Err-Fault.field-0-is at c.in-Err-Fault.ensures.exact in
    let read : head_in c.args.bytes.now ≡ Err c.in-Err-Fault.fault = rw failed refl in
    sym read ∙ head_only c.args.bytes.now h stands

pub returns-in-Err-Fault-clause-frame : goal.returns-in-Err-Fault-clause-frame
returns-in-Err-Fault-clause-frame c = λ f spells.
    let failed : head_at c.args.bytes.now ≡ Err c.in-Err-Fault.fault = rw c.in-Err-Fault.field-0-is at c.in-Err-Fault.ensures.exact in
    let read : head_in c.args.bytes.now ≡ Err c.in-Err-Fault.fault = rw failed refl in
    sym read ∙ head_of_frame c.args.bytes.now f spells
