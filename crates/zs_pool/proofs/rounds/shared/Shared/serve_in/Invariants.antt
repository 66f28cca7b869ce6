use Rattle.zs_pool.proofs.Served.{Serving}
use Rattle.zs_pool.proofs.rounds.shared.Shared.serve_in.Given as goal

abbrev pub invariant-loop : goal.invariant-loop
invariant-loop g l = Serving l.self.moment l.initial.rights l.rights l.kept.items
