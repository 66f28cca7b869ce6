use Rattle.std.proofs.Common.{[], ◌∷◌, refl, arith}
use Rattle.zs_term.specs.OutputText.{output_text}
use Rattle.zs_step.specs.Answer.{answer_of}
use Rattle.zs_c.specs.View.{PlaceTells}
use Rattle.zs_c.proofs.Listless.{shown-free}
use Rattle.zs_c.proofs.OutputRooms.{next-written}
use Rattle.zs_c.proofs.Running.{short-text}
use Rattle.zs_c.proofs.program.running.put_text.Goals as goal

pub returns-clause-text : goal.returns-clause-text
returns-clause-text c t h coded light free held =
    let place : PlaceTells (record { code = c.args.code; words = c.args.words; levels = 64 })
    (answer_of t h).output =
    record { term = t; history = h; coded = coded; held = held; output = refl } in
    let short = short-text t h c.args.code.now c.args.words.now coded light free held
    c.type_inv.code
    c.type_inv.words in
    let put = c.put_output-end.ensures in
    next-written 0 c.put_output-end.result (output_text (answer_of t h).output) (0 ∷ [])
    c.args.out.now c.put_output-end.new.room c.put_after.new.room
    (put.text _ place (shown-free t h free) short)
    (put.end _ place (shown-free t h free) short) c.put_after.ensures.after

pub returns-clause-size : goal.returns-clause-size
returns-clause-size c t h coded light free held =
    let place : PlaceTells (record { code = c.args.code; words = c.args.words; levels = 64 })
    (answer_of t h).output =
    record { term = t; history = h; coded = coded; held = held; output = refl } in
    let short = short-text t h c.args.code.now c.args.words.now coded light free held
    c.type_inv.code
    c.type_inv.words in
    omega (arith, c.put_output-end.ensures.end _ place (shown-free t h free) short)
