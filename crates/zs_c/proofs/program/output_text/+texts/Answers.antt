use Rattle.std.proofs.Common.{◌≡◌, ◌+◌, ◌^◌, ◌<◌, ◌++◌, length, sym, ap, ◌∙◌, subst, length-append}
use Rattle.std.proofs.Common.{arith}
use Rattle.std.specs.Prelude.{codes}
use Rattle.zs_term.specs.Output.{left, right}
use Rattle.zs_term.specs.OutputText.{output_text}
use Rattle.zs_c.specs.Rooms.{written_at}
use Rattle.zs_c.specs.View.{Listless}
use Rattle.zs_c.proofs.OutputRooms.{five-written, three-written}
use Rattle.zs_c.proofs.TextBounds.{pair-length}
use Rattle.zs_c.proofs.program.output_text.+texts.Goals as goal

pub put_output-returns-in-Number-clause-text : goal.put_output-returns-in-Number-clause-text
put_output-returns-in-Number-clause-text t c o tells free small =
    c.put_number.ensures.text ∙ ap (λ x. written_at c.args.at (output_text x) c.args.room.now)
    (sym (c.in-Number.ensures.shows o tells))

pub put_output-returns-in-Number-clause-end : goal.put_output-returns-in-Number-clause-end
put_output-returns-in-Number-clause-end t c o tells free small =
    let at = c.args.at in
    let is = c.in-Number.ensures.shows o tells in
    subst (λ x. c.put_number.result ≡ at + length (output_text x)) (sym is)
    (c.put_number.ensures.end (subst (λ x. at + length (output_text x) < 2 ^ 64) is small))

pub put_output-returns-in-Pair-clause-text : goal.put_output-returns-in-Pair-clause-text
put_output-returns-in-Pair-clause-text t c o tells free small =
    let at = c.args.at in
    let s = c.in-Pair.ensures.shows o tells in
    c.put_pair.ensures.text s.0 s.1 s.3 s.4 (subst Listless s.2 free)
    (subst (λ z. at + length (output_text z) < 2 ^ 64) s.2 small)
    ∙ ap (λ z. written_at at (output_text z) c.args.room.now) (sym s.2)

pub put_output-returns-in-Pair-clause-end : goal.put_output-returns-in-Pair-clause-end
put_output-returns-in-Pair-clause-end t c o tells free small =
    let at = c.args.at in
    let s = c.in-Pair.ensures.shows o tells in
    subst (λ z. c.put_pair.result ≡ at + length (output_text z)) (sym s.2)
    (c.put_pair.ensures.end s.0 s.1 s.3 s.4 (subst Listless s.2 free)
    (subst (λ z. at + length (output_text z) < 2 ^ 64) s.2 small))

pub put_pair-returns-clause-text : goal.put_pair-returns-clause-text
put_pair-returns-clause-text t c o q first second free small =
    let at = c.args.at in
    let x = output_text o in
    let y = output_text q in
    let size = pair-length o q in
    let one = c.put_byte-start.ensures.end (omega (arith, small, size)) in
    let two = c.put_output-comma.ensures.end o first free.0 (omega (arith, small, size, one)) in
    let three = c.put_byte-next.ensures.end (omega (arith, small, size, one, two)) in
    let four = c.put_output-end.ensures.end q second free.1
    (omega (arith, small, size, one, two, three)) in
    five-written at c.put_byte-start.result c.put_output-comma.result c.put_byte-next.result
    c.put_output-end.result
    (codes "(") x (codes ",") y (codes ")") c.args.room.now c.put_byte-start.new.room
    c.put_output-comma.new.room c.put_byte-next.new.room
    c.put_output-end.new.room c.put_byte.new.room
    c.put_byte-start.ensures.text one
    (c.put_output-comma.ensures.text o first free.0 (omega (arith, small, size, one))) two
    c.put_byte-next.ensures.text three (c.put_output-end.ensures.text q second free.1
    (omega (arith, small, size, one, two, three))) four
    c.put_byte.ensures.text

pub put_pair-returns-clause-end : goal.put_pair-returns-clause-end
put_pair-returns-clause-end t c o q first second free small =
    let at = c.args.at in
    let size = pair-length o q in
    let one = c.put_byte-start.ensures.end (omega (arith, small, size)) in
    let two = c.put_output-comma.ensures.end o first free.0 (omega (arith, small, size, one)) in
    let three = c.put_byte-next.ensures.end (omega (arith, small, size, one, two)) in
    let four = c.put_output-end.ensures.end q second free.1
    (omega (arith, small, size, one, two, three)) in
    let five = c.put_byte.ensures.end (omega (arith, small, size, one, two, three, four)) in
    omega (arith, size, one, two, three, four, five)

pub put_output-returns-in-Left-clause-text : goal.put_output-returns-in-Left-clause-text
put_output-returns-in-Left-clause-text t c o tells free small =
    let at = c.args.at in
    let s = c.in-Left.ensures.shows o tells in
    let fits : at + length (output_text (left s.0)) < 2 ^ 64 =
    subst (λ z. at + length (output_text z) < 2 ^ 64) s.1 small in
    c.put_side.ensures.text s.0 s.2 (subst Listless s.1 free) fits
    ∙ ap (λ z. written_at at (output_text z) c.args.room.now) (sym s.1)

pub put_output-returns-in-Left-clause-end : goal.put_output-returns-in-Left-clause-end
put_output-returns-in-Left-clause-end t c o tells free small =
    let at = c.args.at in
    let s = c.in-Left.ensures.shows o tells in
    let fits : at + length (output_text (left s.0)) < 2 ^ 64 =
    subst (λ z. at + length (output_text z) < 2 ^ 64) s.1 small in
    subst (λ z. c.put_side.result ≡ at + length (output_text z)) (sym s.1)
    (c.put_side.ensures.end s.0 s.2 (subst Listless s.1 free) fits)

pub put_output-returns-in-Right-clause-text : goal.put_output-returns-in-Right-clause-text
put_output-returns-in-Right-clause-text t c o tells free small =
    let at = c.args.at in
    let s = c.in-Right.ensures.shows o tells in
    let fits : at + length (output_text (right s.0)) < 2 ^ 64 =
    subst (λ z. at + length (output_text z) < 2 ^ 64) s.1 small in
    c.put_side-in-Right.ensures.text s.0 s.2 (subst Listless s.1 free) fits
    ∙ ap (λ z. written_at at (output_text z) c.args.room.now) (sym s.1)

pub put_output-returns-in-Right-clause-end : goal.put_output-returns-in-Right-clause-end
put_output-returns-in-Right-clause-end t c o tells free small =
    let at = c.args.at in
    let s = c.in-Right.ensures.shows o tells in
    let fits : at + length (output_text (right s.0)) < 2 ^ 64 =
    subst (λ z. at + length (output_text z) < 2 ^ 64) s.1 small in
    subst (λ z. c.put_side-in-Right.result ≡ at + length (output_text z)) (sym s.1)
    (c.put_side-in-Right.ensures.end s.0 s.2 (subst Listless s.1 free) fits)

-- a list isn't shown
pub put_output-returns-in-Size-clause-text : goal.put_output-returns-in-Size-clause-text
put_output-returns-in-Size-clause-text t c o tells free small =
    absurd (subst Listless (c.in-Size.ensures.shows o tells).1 free)

pub put_output-returns-in-Size-clause-end : goal.put_output-returns-in-Size-clause-end
put_output-returns-in-Size-clause-end t c o tells free small =
    absurd (subst Listless (c.in-Size.ensures.shows o tells).1 free)

pub put_side-returns-clause-text : goal.put_side-returns-clause-text
put_side-returns-clause-text t c o tells free small =
    let at = c.args.at in
    let side = c.args.side.now in
    let text = output_text o in
    let size : length (side ++ (text ++ codes ")")) ≡ length side + (length text + 1) =
    length-append side (text ++ codes ")")
    ∙ ap (λ n. length side + n) (length-append text (codes ")")) in
    let start : c.saturating_add.result ≡ at + length side =
    omega (arith, small, size, c.saturating_add.ensures) in
    let end = c.put_output-end.ensures.end o tells free (omega (arith, small, size, start)) in
    three-written at c.saturating_add.result c.put_output-end.result side text (codes ")")
    c.args.room.now c.put_after.new.room c.put_output-end.new.room c.put_byte.new.room
    c.put_after.ensures.after start (c.put_output-end.ensures.text o tells free
    (omega (arith, small, size, start))) end c.put_byte.ensures.text
