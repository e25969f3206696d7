use Rattle.std.proofs.Common.{refl}
use Rattle.vcp_core.proofs.PlainTurns.{nothing-printed}
use Rattle.vcp_core.proofs.JobFacts.{memory_unwritten}
use Rattle.vcp_core.proofs.plain_run.print_run.Goals as goal

pub returns-in-Ok-slot_names : goal.returns-in-Ok-slot_names
returns-in-Ok-slot_names g c = record {
  prints = c.print_named.ensures.prints;
  write = c.print_named.ensures.write;
  stayed = c.print_named.ensures.stayed;
}

-- ---- memory is wanted

pub returns-in-Err : goal.returns-in-Err
returns-in-Err g c = record { prints = nothing-printed c.args.program.now c.args.rows.now _; write = λ e. absurd (memory_unwritten e); stayed = λ other. refl }

pub returns : goal.returns
returns g c = record { prints = nothing-printed c.args.program.now c.args.rows.now _; write = λ e. absurd (memory_unwritten e); stayed = λ other. refl }
