-- What workers share may be seen by several threads: a board may go from thread to thread.
use denote.Ref.{NamedLft}
use denote.Param.Send.{IsSend, IsSync, sendable}
use Rattle.std.proofs.Crossing.{crosses}
use Rattle.bf_core.proofs.Sending.{core_send}
use Rattle.bf_many.specs.contracts.board.Board as Board
use Rattle.bf_many.specs.contracts.many.ManyCore as ManyCore
use Rattle.bf_many.specs.contracts.worker.Desk as Desk

many_send : (l : NamedLft) → IsSend (ManyCore.the_row l)
many_send l = search (sendable, crosses, core_send) depth 60 fits 20000

board_send : (l : NamedLft) → IsSend (Board.the_row l)
board_send l = search (sendable, crosses, many_send) depth 60 fits 20000

pub desk_sync : (l m : NamedLft) → IsSync (Desk.the_row l m)
desk_sync l m = search (sendable, crosses, board_send) depth 60 fits 20000
