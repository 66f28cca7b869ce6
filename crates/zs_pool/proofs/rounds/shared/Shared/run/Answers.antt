use Rattle.std.proofs.Common.{List, length, IfOk, refl, ap, sym, ◌∙◌, subst, arith}
use Rattle.zs_pool.specs.Batches.{BatchValue, AllPollable, tasks_of}
use Rattle.zs_pool.specs.Joined.{IsPart, allowed}
use Rattle.zs_pool.proofs.Parts.{part_start}
use Rattle.zs_pool.proofs.rounds.shared.Shared.run.Goals as goal

pub serve-served-requires-clause-ready : goal.serve-served-requires-clause-ready
serve-served-requires-clause-ready g c κs within =
    let told = c.in_ok-rights.ensures in let first = c.requires.first in
    let same = ap (λ p. p.batches) told.board_pass in
    let P : List BatchValue → Type 0 = AllPollable c.args.self.moment in
    record {
      of = (ap (λ p. p.board) told.board_pass, ap (λ h. h.shelf) told.shelf_pass, told.seat.0);
      new = (
        refl,
        ap (λ p. p.taken) told.board_pass,
        ap (λ p. p.none) told.board_pass,
        ap (λ h. h.put) told.shelf_pass,
        ap (λ h. h.taken) told.shelf_pass,
      );
      room = omega (
        arith,
        told.seat.2,
        first.room,
        first.tasks,
        ap (λ (l : List BatchValue). length (tasks_of l)) same,
      );
      pollable = subst P (sym same) first.pollable;
    }

pub returns-clause-whole : goal.returns-clause-whole
returns-clause-whole g c =
    let told = c.in_ok-rights.ensures in let same = c.serve-served.ensures.same in
    let end = c.join_all-served.ensures in let hand = c.collect.ensures.pass in
    let now = c.args.self.moment in let count = c.args.rights.seat.count in
    let room = c.args.rights.seat.allowance in
    let batches = same.1 ∙ ap (λ p. p.batches) told.board_pass in
    let B : List BatchValue → Type 0 = λ l.
    IfOk c.serve-served.result.overflow
    (λ ps. IsPart now l count room (allowed c.in_ok-rights.workers.items)
    (record {
      board_pass = c.serve-served.result.rights.board_pass;
      shelf_pass = c.collect.new.pass;
      seat = c.serve-served.result.rights.seat;
    }) ps.items)
    in
    let start =
    part_start now c.args.rights.board_pass.batches c.in_ok-rights.rights
    c.serve-served.result.rights c.collect.new.pass c.serve-served.result.overflow count room
    (allowed c.in_ok-rights.workers.items) (ap (λ p. p.batches) told.board_pass)
    hand.2 told.seat.1
    (omega (arith, told.seat.2, told.count.1)) c.serve-served.ensures.served
    in
    let E : List BatchValue → Type 0 = λ l. IfOk c.join_all-served.result.overflow (λ ps. IsPart now
    l count room 0 c.join_all-served.result.rights ps.items) in
    record {
      of = (
        end.of.0 ∙ sym (ap (λ p. p.board) c.requires.first.board_pass),
        end.of.1 ∙ sym (ap (λ h. h.shelf) c.requires.first.shelf_pass),
        end.of.2 ∙ sym c.requires.first.tally,
      );
      same = end.batches ∙ batches;
      shares = (
        omega (
          arith,
          end.shares.0,
          same.2,
          ap (λ p. p.share) told.board_pass,
          told.count.0,
          c.requires.first.helpers,
        ),
        omega (
          arith,
          end.shares.1,
          hand.1,
          same.3,
          ap (λ h. h.share) told.shelf_pass,
          told.count.0,
          c.requires.first.helpers,
        ),
      );
      taken = end.taken ∙ c.collect.ensures.messages;
      part = subst E batches (end.part count room (subst B (sym batches) start));
    }
