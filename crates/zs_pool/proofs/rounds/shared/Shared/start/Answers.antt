use mathlib.Core.List.{[], ◌∷◌}
use denote.Exit.{no}
use denote.Param.Send.{sendable, param_send, arg_send}
use Rattle.std.proofs.Crossing.{send as heap_send}
use Rattle.zs_pool.proofs.Crossing.{rights_send, served_send, board_sync, shelf_sync, captured_send}
use Rattle.zs_pool.proofs.Crossing.{reference_send, number_send}
use Rattle.zs_pool.proofs.tally.Tally.TheSendSync as tally
use Rattle.zs_pool.proofs.rounds.shared.Shared.start.Goals as goal

pub spawn_with-requires-send-T : goal.spawn_with-requires-send-T
spawn_with-requires-send-T g c κs within = search (sendable, served_send) depth 20

pub spawn_with-requires-send-F : goal.spawn_with-requires-send-F
spawn_with-requires-send-F g c κs within =
    param_send 2 _ (arg_send _ no _ (captured_send _ (_ ∷ _ ∷ _ ∷ _ ∷ _ ∷ _ ∷ _ ∷ _ ∷ _ ∷ _ ∷ []) (
      number_send,
      (
        reference_send _ _ _ c.type_bounds.sync-G,
        (
          reference_send _ _ _ board_sync,
          (
            reference_send _ _ _ shelf_sync,
            (
              reference_send _ _ _ tally.the_sync,
              (
                number_send,
                (
                  number_send,
                  (reference_send _ _ _ c.type_bounds.sync-R, (heap_send, (rights_send, tt))),
                ),
              ),
            ),
          ),
        ),
      ),
    )))
