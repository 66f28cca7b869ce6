-- What a worker gets and returns may go to another thread, although outputs and states contain
-- themselves.
use Rattle.std.proofs.Common.{rules}
use denote.Param.Send.{IsSend, IsSync, AllSend, sendable, shr_send, view_send, view_sync}
use mathlib.Core.List.{List, [], ◌∷◌}
use mir.Syntax.{Sym, w64}
use denote.Plain.{UInt}
use denote.RattleType.{RattleType}
use denote.Builtin.{One as OneType}
use denote.Hole.{as_row}
use denote.Ref.{NamedLft}
use denote.Struct.Field.{row_field, shr_ref_field}
use denote.Struct.Tuple.{Tuple, tuple_type, TupleAt, type_at, parts}
use denote.Param.SendFields.{FieldsHave, declared_send, declared_sync, as_row_send}
use Rattle.std.proofs.Crossing.{Box-send, Vec-send, crosses, send as heap_send, sync as heap_sync}
use Rattle.std.proofs.Crossing.{frees}
use Rattle.std.specs.contracts.impls.GlobalAllocator.TheImpl as heap
use Rattle.std.proofs.option.Option.TheSendSync as option
use Rattle.std.specs.contracts.option.Option as option_type
use Rattle.std.proofs.result.Result.TheSendSync as result
use Rattle.zs_step.proofs.decision.Decision.TheSendSync as decision
use Rattle.std.specs.contracts.alloc.Global as global
use Rattle.crossbeam_queue.specs.contracts.array_queue as queue
use Rattle.zs_pool.specs.contracts.batch.Batch as batch_type
use Rattle.zs_pool.specs.contracts.polled.Polled as polled_type
use Rattle.zs_pool.specs.contracts.board.BoardPass as board_pass_type
use Rattle.zs_pool.specs.contracts.shelf.ShelfPass as shelf_pass_type
use Rattle.zs_pool.specs.contracts.rounds.shared.Rights as rights_type
use Rattle.zs_pool.specs.contracts.rounds.workers.Served as served_type
use Rattle.zs_pool.specs.contracts.board.Board as board_type
use Rattle.zs_pool.specs.contracts.board.rule.Claims as claims_type
use Rattle.zs_pool.specs.contracts.board.rule.InTurn as in_turn_type
use Rattle.zs_pool.specs.contracts.board.rule.InTurnProtocolClaims as in_turn_protocol_claims_type
use Rattle.zs_pool.specs.contracts.shelf.Shelf as shelf_type
use Rattle.zs_pool.specs.contracts.shelf.rule.Hands as hands_type
use Rattle.zs_pool.specs.contracts.shelf.rule.EachOnce as each_once_type
use Rattle.zs_pool.specs.contracts.shelf.rule.EachOnceProtocolHands as each_once_protocol_hands_type
use Rattle.zs_term.proofs.outputs.Out.TheLaws.TheKnot as out_knot
use Rattle.zs_term.proofs.term.Term.TheLaws.TheKnot as term_knot
use Rattle.zs_term.proofs.kind.Kind.TheLaws.TheKnot as kind_knot
use Rattle.zs_step.proofs.leaf.Leaf.TheSendSync as leaf
use Rattle.zs_step.proofs.state.State.TheLaws.TheKnot as state_knot
use Rattle.zs_term.specs.contracts as terms
use Rattle.zs_step.specs.contracts as steps
use Rattle.zs_drive.specs.contracts as drive
use Rattle.atomic_table.proofs.shared.Seat.TheSendSync as seat
use Rattle.crossbeam_queue.proofs.array_queue.Slotted.TheSendSync as slotted
use Rattle.zs_pool.proofs.tally.TallySeat.TheSendSync as tally_seat_sent
use Rattle.zs_pool.proofs.board.counter.CounterSeat.TheSendSync as counter_seat
use Rattle.zs_pool.proofs.board.counter.Counter.TheSendSync as counter

out_send : IsSend terms.outputs.Out.the_row
out_send = as_row_send terms.outputs.Out.the_field
    (search (crosses, out_knot.crosses_both, sendable) depth 60 fits 20000)

outs_send : IsSend terms.outputs.Outs.the_row
outs_send = as_row_send terms.outputs.Outs.the_field
    (search (crosses, out_knot.crosses_both, sendable) depth 60 fits 20000)

collected_send : IsSend steps.collected.Collected.the_row
collected_send = declared_send steps.collected.Collected.the_type (outs_send, (search sendable, tt))

parts_send : (Ts : List RattleType) → AllSend Ts → FieldsHave IsSend (parts Ts)
parts_send [] s = tt
parts_send (T ∷ Ts) s = (as_row_send (row_field T) s.0, parts_send Ts s.1)

tuple_send : (Ts : List RattleType) → AllSend Ts → IsSend (Tuple Ts)
tuple_send Ts s = declared_send (tuple_type Ts) (parts_send Ts s)

state_send : IsSend steps.state.State.the_row
state_send = as_row_send steps.state.State.the_field
    (state_knot.send-State leaf.the_field_send
    (λ h s. Box-send (Tuple (h ∷ h ∷ [])) (tuple_send (h ∷ h ∷ []) (s, (s, tt))))
    (search (rules, sendable)) Box-send (search (rules, sendable)) (search (rules, sendable))
    (Box-send steps.collected.Collected.the_row collected_send) (search (rules, sendable)))

term_send : IsSend terms.term.Term.the_row
term_send = as_row_send terms.term.Term.the_field
    (search (crosses, term_knot.crosses_both, sendable) depth 60 fits 20000)

kind_send : IsSend terms.kind.Kind.the_row
kind_send = as_row_send terms.kind.Kind.the_field
    (search (crosses, kind_knot.crosses_both, sendable) depth 60 fits 20000)

checked_send : IsSend terms.checked.Checked.the_row
checked_send = view_send terms.checked.Checked.TheInside.the_row _ _ _ _
    (declared_send terms.checked.Checked.TheInside.the_type (term_send, (kind_send, tt)))

compiled_send : IsSend steps.compiled.Compiled.the_row
compiled_send = declared_send steps.compiled.Compiled.the_type (
  state_send,
  (search sendable, (search sendable, (search sendable, (heap_send, (checked_send, tt))))),
)

ended_send : IsSend drive.record.Ended.the_row
ended_send = declared_send drive.record.Ended.the_type (
  search sendable,
  (
    search (rules, sendable),
    (option.the_send _ (search (rules, sendable, out_send, decision.the_send) depth 20), tt),
  ),
)

attempted_send : IsSend drive.record.Attempted.the_row
attempted_send = declared_send drive.record.Attempted.the_type
    (search sendable, (option.the_send drive.record.Ended.the_row ended_send, tt))

progress_send : IsSend drive.progress.Progress.the_row
progress_send = declared_send drive.progress.Progress.the_type (
  search (rules, sendable),
  (
    search sendable,
    (
      search sendable,
      (
        search (rules, sendable),
        (
          search (rules, sendable, crosses) depth 20,
          (
            Vec-send drive.record.Attempted.the_row attempted_send,
            (compiled_send, (search (rules, sendable, crosses) depth 20, (search sendable, tt))),
          ),
        ),
      ),
    ),
  ),
)

task_send : IsSend drive.task.Task.the_row
task_send = view_send drive.task.Task.TheInside.the_row _ _ _ _
    (declared_send drive.task.Task.TheInside.the_type (
      search sendable,
      (
        Box-send drive.progress.Progress.the_row progress_send,
        (search sendable, tt),
      ),
    ))

batch_send : IsSend batch_type.the_row
batch_send = view_send batch_type.TheInside.the_row _ _ _ _
    (declared_send batch_type.TheInside.the_type
    (search sendable, (Vec-send drive.task.Task.the_row task_send, tt)))

polled_send : IsSend polled_type.the_row
polled_send = view_send polled_type.TheInside.the_row _ _ _ _
    (declared_send polled_type.TheInside.the_type
    (search sendable, (search sendable, (Vec-send drive.task.Task.the_row task_send, tt))))

pub board_pass_send : IsSend board_pass_type.the_row
board_pass_send = view_send board_pass_type.TheInside.the_row _ _ _ _
    (declared_send board_pass_type.TheInside.the_type (
      seat.the_send (option_type.the_row batch_type.the_row) _
          (option.the_send batch_type.the_row batch_send),
      (counter_seat.the_send, (search sendable, tt)),
    ))

pub shelf_pass_send : IsSend shelf_pass_type.the_row
shelf_pass_send = view_send shelf_pass_type.TheInside.the_row _ _ _ _
    (declared_send shelf_pass_type.TheInside.the_type (
      seat.the_send (option_type.the_row polled_type.the_row) _
          (option.the_send polled_type.the_row polled_send),
      tt,
    ))

pub rights_send : IsSend rights_type.the_row
rights_send = declared_send rights_type.the_type
    (board_pass_send, (shelf_pass_send, (tally_seat_sent.the_send, tt)))

pub served_send : IsSend served_type.the_row
served_send = declared_send served_type.the_type (
  rights_send,
  (
    result.the_send _ _ (Vec-send polled_type.the_row polled_send)
        (search (rules, sendable)),
    tt,
  ),
)

pub board_sync : IsSync board_type.the_row
board_sync = view_sync board_type.TheInside.the_row _ _ _ _
    (declared_sync board_type.TheInside.the_type (
      slotted.the_sync (option_type.the_row batch_type.the_row)
          (queue.Doing.the_row batch_type.the_row
          (claims_type.the_row batch_type.the_row))
          (queue.Turns.the_row in_turn_type.the_row) global.the_row
          (queue.TurnsTableRuleOptionDoingUnit.TheImpl.ghosts batch_type.the_row
          (claims_type.the_row batch_type.the_row) in_turn_type.the_row
          (in_turn_protocol_claims_type.TheImpl.ghosts batch_type.the_row)
          queue.TurnsTableRuleOptionDoingUnit.TheImpl.no_dict) heap.ghosts
          (option.the_send batch_type.the_row batch_send) heap_send heap_sync frees,
      (counter.the_sync, (search sendable, tt)),
    ))

pub shelf_sync : IsSync shelf_type.the_row
shelf_sync = view_sync shelf_type.TheInside.the_row _ _ _ _
    (declared_sync shelf_type.TheInside.the_type (
      slotted.the_sync (option_type.the_row polled_type.the_row)
          (queue.Doing.the_row polled_type.the_row
          (hands_type.the_row polled_type.the_row))
          (queue.Turns.the_row each_once_type.the_row) global.the_row
          (queue.TurnsTableRuleOptionDoingUnit.TheImpl.ghosts polled_type.the_row
          (hands_type.the_row polled_type.the_row)
          each_once_type.the_row
          (each_once_protocol_hands_type.TheImpl.ghosts polled_type.the_row)
          queue.TurnsTableRuleOptionDoingUnit.TheImpl.no_dict) heap.ghosts
          (option.the_send polled_type.the_row polled_send) heap_send heap_sync frees,
      tt,
    ))

-- a reference that is captured
pub reference_send : (l : NamedLft) (R : RattleType) (one : OneType R.mir) → IsSync R →
    IsSend (as_row (shr_ref_field l R one))
reference_send l R one s = as_row_send (shr_ref_field l R one) (shr_send l.mir l.lft R s)

-- what a closure captures
pub captured_send : (ν : Sym) (Ts : List RattleType) → AllSend Ts → IsSend (TupleAt ν Ts)
captured_send ν Ts s = declared_send (type_at ν Ts) (parts_send Ts s)

pub number_send : IsSend (UInt w64)
number_send = search sendable
