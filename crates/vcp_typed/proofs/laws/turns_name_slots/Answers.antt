use Rattle.vcp_typed.proofs.NamedTurns.{stmts-name, cycle-names, run-names}
use Rattle.vcp_typed.proofs.laws.turns_name_slots.Goals as goal

pub returns : goal.returns
returns c = record { body = stmts-name; cycle = cycle-names; run = λ p rows h. run-names p rows _ h }
