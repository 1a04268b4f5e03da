-- An answer for C may go from thread to thread: what its pointer owns says the same to each.
use base.Shift.{Keyless}
use mir.Raw.{raw}
use denote.Builtin.{RawPtr}
use denote.Memory.{lone}
use denote.RawPtr.{Ptr}
use denote.Param.Send.{IsSend, AllSend, owning_send, struct_send, sendable}
use denote.Struct.Struct.{exits_of}
use denote.Struct.Owning.{shape, fields, to}
use Rattle.std_alloc.proofs.SendSync.{lies, quiet}
use Rattle.std.proofs.Crossing.{crosses, frees}
use Rattle.std.specs.declared.option.Option.{Option}
use Rattle.std.specs.declared.option.Option.TheVariants.{None, Some}
use Rattle.sm_embed.specs.Owning.{answer_owns}
use Rattle.sm_embed.specs.contracts.kept.Kept as kept
use Rattle.sm_embed.specs.contracts.opaque.SmAnswer as answer
use Rattle.sm_embed.specs.declared.kept.Kept.{Kept}

kept_send : IsSend kept.the_row
kept_send = search (sendable, crosses) depth 40 fits 20000

pointer_send : IsSend RawPtr
pointer_send = search sendable

owned_keyless : (p : Ptr) (h : Option Kept) → Keyless (answer_owns p h)
owned_keyless p None = λ _. tt
owned_keyless p (Some x) = λ a. (lies kept.the_row kept_send p x, frees.frees a (raw (lone kept.the_row.mir)) p)

pub send : IsSend answer.the_row
send =
    let O = answer.the_type in
    let all : AllSend (fields O) = (pointer_send, tt) in
    owning_send O all (λ d. owned_keyless d.at d.held) (λ k. quiet (to O) (exits_of k (fields O)) ((struct_send (shape O) all).leaving k))
