use Rattle.std.proofs.Common.{◌≡◌, ◌≤◌, ◌+◌, ◌∙◌, Option, Some, None, IsNone, refl, ap, arith}
use Rattle.std.specs.Prelude.{IfNone, ◌↔◌}
use Rattle.std.proofs.lemmas.Map.Keys.{sorted_from_strictly_increasing}
use Rattle.zs_agenda.specs.Ticks.{horizon}
use Rattle.zs_agenda.specs.Timers.{Timers, Takes}
use Rattle.zs_engine.proofs.ClockTicks.{ticks-rising}
use Rattle.zs_engine.proofs.RoundLemmas.{begins, begins-before}
use Rattle.zs_engine.proofs.EngineLemmas.{rounds_left-falls}
use Rattle.zs_engine.proofs.engine.Engine.run_all.Goals as goal

pub run_round-requires-clause-due : goal.run_round-requires-clause-due
run_round-requires-clause-due g c = λ _ _.
    let takes : Takes c.loop-now.self.agenda c.take.new.self c.in-Some.now c.in-Some.numbers.items =
    rw c.in-Some.is at c.in_ok-now.ensures.some in
    let rests = c.loop-now.invariant.rests in
    rw c.deref.ensures.value (record {
      runs = rests.runs;
      begins = begins rests.rests takes;
      in_order = sorted_from_strictly_increasing c.in-Some.numbers.items takes.in_order;
    })

pub loop-now-preserved : goal.loop-now-preserved
loop-now-preserved g c =
    let round = c.in_ok-room.ensures.round in
    record {
      rests = round.rests;
      same = record {
        clock = round.same.clock ∙ c.loop-now.invariant.same.clock;
        jobs = round.same.jobs ∙ c.loop-now.invariant.same.jobs;
      };
    }

pub loop-now-smaller : goal.loop-now-smaller
loop-now-smaller g c =
    let takes : Takes c.loop-now.self.agenda c.take.new.self c.in-Some.now c.in-Some.numbers.items =
    rw c.in-Some.is at c.in_ok-now.ensures.some in
    let rests = c.loop-now.invariant.rests in
    let before = rw c.loop-now.invariant.same.clock at
    (begins-before rests.rests takes (horizon c.loop-now.self.clock + 1)
    (ticks-rising c.loop-now.self.clock rests.runs.lawful).1) in
    let within : c.in-Some.now ≤ horizon c.args.self.now.clock = omega (arith, before) in
    rw c.in_ok-room.ensures.round.taken
    (rounds_left-falls _ c.loop-now.self.agenda.last_taken c.in-Some.now takes.is_after within)

-- what is said of no value
none_of : {X : Type 0} (o : Option X) {P Q : Type 0} → ((x : X) → o ≡ Some x → ⊥) → IfNone o P →
    IsNone o ↔ Q → P × Q
none_of None not_some same none = (same, none.0 refl)
none_of (Some x) not_some same none = absurd (not_some x refl)

pub returns-clause-over : goal.returns-clause-over
returns-clause-over g c =
    let over = none_of c.in_ok-now.field-0 c.in_default.not-Some c.in_ok-now.ensures.same
    c.in_ok-now.ensures.none in
    ap (λ (t : Timers). t.moments) over.0 ∙ over.1
