-- A node for C may go from thread to thread: what its pointer owns says the same to each.
use base.Shift.{Keyless}
use mir.Raw.{raw}
use denote.Builtin.{RawPtr}
use denote.Memory.{lone}
use denote.RawPtr.{Ptr}
use denote.Param.Send.{IsSend, AllSend, owning_send, struct_send, sendable}
use denote.Struct.Struct.{exits_of}
use denote.Struct.Owning.{shape, fields, to}
use Rattle.std_alloc.proofs.SendSync.{lies, quiet}
use Rattle.std.proofs.Crossing.{crosses, frees}
use Rattle.std.proofs.MapsCrossing as maps
use Rattle.std.specs.declared.option.Option.{Option}
use Rattle.std.specs.declared.option.Option.TheVariants.{None, Some}
use Rattle.gen_net.specs.contracts.headers.Header as header
use Rattle.gen_tree.specs.contracts.key_trees.KeyTree as tree
use Rattle.gen_tree.specs.contracts.rings.KeyRing as ring
use Rattle.gen_tree.specs.contracts.pool.SignaturePool as pool
use Rattle.gen_chain.specs.contracts.store.VerifyStore as store
use Rattle.gen_scenario.specs.contracts.heard.Heard as heard
use Rattle.gen_scenario.specs.contracts.parts.Part as part
use Rattle.gen_general.specs.contracts.followers.Follower as follower
use Rattle.gen_general.specs.contracts.traitors.Traitor as traitor
use Rattle.gen_general.specs.contracts.roles.Role as role
use Rattle.gen_general.specs.contracts.participants.Participant as participant
use Rattle.gen_general.specs.contracts.journal.Journal as journal
use Rattle.gen_general.specs.contracts.recording.Recorder as recorder
use Rattle.gen_node.specs.contracts.held.Held as rows
use Rattle.gen_node.specs.contracts.nodes.Node as nodes
use Rattle.gen_log.specs.contracts.sealed.SealedLog as sealed
use Rattle.sm_node.specs.contracts.ended.EndedNode as ending
use Rattle.sm_node.specs.contracts.held.SlotKeys as keys
use Rattle.sm_node.specs.Owning.{node_owns}
use Rattle.sm_node.specs.contracts.held.NodeHandle as held
use Rattle.sm_node.specs.contracts.opaque.SmNode as node
use Rattle.sm_node.specs.declared.held.NodeHandle.{NodeHandle}

header_send : IsSend header.the_row
header_send = search (sendable, crosses) depth 40 fits 20000

tree_send : IsSend tree.the_row
tree_send = search (sendable, crosses) depth 40 fits 20000

ring_send : IsSend ring.the_row
ring_send = search (sendable, crosses, tree_send) depth 40 fits 20000

pool_send : IsSend pool.the_row
pool_send = search (sendable, crosses, maps.crosses) depth 40 fits 20000

store_send : IsSend store.the_row
store_send = search (sendable, crosses, maps.crosses, pool_send) depth 40 fits 20000

heard_send : IsSend heard.the_row
heard_send = search (sendable, crosses) depth 40 fits 20000

part_send : IsSend part.the_row
part_send = search (sendable, crosses, header_send, tree_send) depth 40 fits 20000

follower_send : IsSend follower.the_row
follower_send = search (sendable, crosses, maps.crosses, ring_send) depth 60 fits 20000

traitor_send : IsSend traitor.the_row
traitor_send = search (sendable, crosses, maps.crosses) depth 60 fits 20000

role_send : IsSend role.the_row
role_send = search (sendable, crosses, follower_send, traitor_send) depth 40 fits 20000

participant_send : IsSend participant.the_row
participant_send = search (sendable, crosses, part_send, heard_send, store_send, follower_send, traitor_send) depth 60 fits 20000

journal_send : IsSend journal.the_row
journal_send = search (sendable, crosses, header_send) depth 40 fits 20000

recorder_send : IsSend recorder.the_row
recorder_send = search (sendable, crosses, participant_send, journal_send) depth 40 fits 20000

rows_send : IsSend rows.the_row
rows_send = search (sendable, crosses) depth 40 fits 20000

node_send : IsSend nodes.the_row
node_send = search (sendable, crosses, header_send, recorder_send, rows_send) depth 40 fits 20000

sealed_send : IsSend sealed.the_row
sealed_send = search (sendable, crosses) depth 40 fits 20000

ending_send : IsSend ending.the_row
ending_send = search (sendable, crosses, header_send, sealed_send) depth 40 fits 20000

keys_send : IsSend keys.the_row
keys_send = search (sendable, crosses, tree_send) depth 40 fits 20000

held_send : IsSend held.the_row
held_send = search (sendable, crosses, tree_send, node_send, ending_send) depth 40 fits 20000

pointer_send : IsSend RawPtr
pointer_send = search sendable

owned_keyless : (p : Ptr) (h : Option NodeHandle) → Keyless (node_owns p h)
owned_keyless p None = λ _. tt
owned_keyless p (Some x) = λ a. (lies held.the_row held_send p x, frees.frees a (raw (lone held.the_row.mir)) p)

pub send : IsSend node.the_row
send =
    let O = node.the_type in
    let all : AllSend (fields O) = (pointer_send, tt) in
    owning_send O all (λ d. owned_keyless d.at d.held) (λ k. quiet (to O) (exits_of k (fields O)) ((struct_send (shape O) all).leaving k))
