-- A core may go from thread to thread. It owns what may, and a snapshot owns nothing.
use denote.Ref.{NamedLft}
use denote.Param.Send.{IsSend, sendable}
use Rattle.std.proofs.Crossing.{crosses}
use Rattle.bf_state.specs.contracts.state.State as State
use Rattle.bf_spec.specs.contracts.tree.SpecTree as SpecTree
use Rattle.bf_spec.specs.contracts.table.Table as Table
use Rattle.bf_core.specs.contracts.machine.Core as Core

state_send : IsSend State.the_row
state_send = search (sendable, crosses) depth 60 fits 20000

table_send : IsSend Table.the_row
table_send = search (sendable, crosses) depth 60 fits 20000

tree_send : (l : NamedLft) → IsSend (SpecTree.the_row l)
tree_send l = search (sendable, crosses) depth 60 fits 20000

pub core_send : (l : NamedLft) → IsSend (Core.the_row l)
core_send l = search (sendable, crosses, state_send, tree_send, table_send) depth 100 fits 100000
