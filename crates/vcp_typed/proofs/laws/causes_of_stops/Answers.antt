use Rattle.vcp_typed.proofs.Stops.{value-stops, stmts-stop, run-stops}
use Rattle.vcp_typed.proofs.laws.causes_of_stops.Goals as goal

pub returns : goal.returns
returns c = record { value = value-stops; body = stmts-stop; run = λ p rows. run-stops p rows _ }
