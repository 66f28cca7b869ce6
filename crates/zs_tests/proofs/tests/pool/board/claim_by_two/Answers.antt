use denote.Param.Send.{sendable}
use Rattle.std.proofs.Common.{rules}
use Rattle.std.proofs.Crossing.{Vec-send, crosses, send as heap_send}
use Rattle.zs_pool.proofs.Crossing.{board_pass_send, board_sync}
use Rattle.zs_tests.proofs.tests.pool.board.claim_by_two.Goals as goal

pub join-first-requires-send-F : goal.join-first-requires-send-F
join-first-requires-send-F g c κs within = search (rules, sendable, crosses, heap_send, board_pass_send, board_sync) depth 20

pub join-first-requires-send-A : goal.join-first-requires-send-A
join-first-requires-send-A g c κs within = search (rules, sendable, crosses, Vec-send, board_pass_send) depth 20
