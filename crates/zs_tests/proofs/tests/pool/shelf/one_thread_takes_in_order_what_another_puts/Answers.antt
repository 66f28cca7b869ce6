use denote.Param.Send.{sendable}
use Rattle.zs_pool.proofs.Crossing.{shelf_pass_send, shelf_sync}
use Rattle.zs_tests.proofs.tests.pool.shelf.one_thread_takes_in_order_what_another_puts.Goals as goal

pub join-first-requires-send-F : goal.join-first-requires-send-F
join-first-requires-send-F g c κs within = search (sendable, shelf_pass_send, shelf_sync) depth 20

pub join-first-requires-send-A : goal.join-first-requires-send-A
join-first-requires-send-A g c κs within = search (sendable, shelf_pass_send) depth 20
