use Rattle.std.proofs.Common.{◌≡◌, List, [], IfOk, subst, arith}
use Rattle.std.specs.Vec.Iter.{into_iter_items}
use Rattle.std.proofs.lemmas.List.{nil_from_length}
use Rattle.zs_pool.specs.Joined.{Worker, IsPart, allowed}
use Rattle.zs_pool.proofs.Parts.{joins_more}
use Rattle.zs_pool.proofs.rounds.shared.Shared.join_all.Goals as goal

pub loop-worker-preserved : goal.loop-worker-preserved
loop-worker-preserved g c =
    joins_more c.args.self c.args.served.rights c.args.served.overflow c.args.workers.items
    (into_iter_items c.loop-worker.worker-iterator) (into_iter_items c.next.new.self)
    c.in-Some.worker c.loop-worker.served.rights c.join-more.result.rights
    c.join.result c.loop-worker.served.overflow c.join-more.result.overflow c.both.result _
    c.in-Some.ensures.steps.0 c.join-more.ensures c.join.ensures.board_pass
    c.join.ensures.shelf_pass c.join.ensures.seat c.both.ensures.both c.loop-worker.invariant

pub returns-clause-part : goal.returns-clause-part
returns-clause-part g c =
    λ first room h.
    let it = c.loop-worker.worker-iterator in let rest : List Worker = into_iter_items it in
    let none : rest ≡ [] =
    nil_from_length rest (omega (arith, it.rest.ok.0, c.in-None.ensures.steps.0)) in
    let P : List Worker → Type 0 = λ ws. IfOk c.loop-worker.served.overflow (λ ps. IsPart
    c.args.self.moment c.args.served.rights.board_pass.batches first room (allowed ws)
    c.loop-worker.served.rights ps.items) in
    subst P none (c.loop-worker.invariant.part first room h)
