use Rattle.zs_term.proofs.Verdicts.{round_trip}
use Rattle.zs_term.proofs.laws.round_trip.Goals as goal

pub returns : goal.returns
returns c = record { law = round_trip }
