use Rattle.std.proofs.Common.{inl, sym, ap, subst, ◌∙◌, length, map}
use Rattle.op_graph.specs.Lists.{output_column}
use Rattle.op_graph.specs.Rules.{IsGraph}
use Rattle.signature_table.specs.Signatures.{IsTable, IsTableOf}
use Rattle.coded_machine.specs.State.{State, fresh}
use Rattle.vcp_core.specs.MachineRun.{CarriesOut}
use Rattle.vcp_core.proofs.JobFacts.{memory-causes}
use Rattle.vcp_core.proofs.Performing.{still}
use Rattle.vcp_core.proofs.PrintedRun.{shows_on}
use Rattle.vcp_core.proofs.printed.run_printed.Goals as goal

-- ---- there is no memory

pub returns-in-Err-clause-causes : goal.returns-in-Err-clause-causes
returns-in-Err-clause-causes g c = memory-causes _

pub returns-in-Err-clause-ran : goal.returns-in-Err-clause-ran
returns-in-Err-clause-ran g c s code name p words carries shows = inl (still _)

pub returns-clause-causes : goal.returns-clause-causes
returns-clause-causes g c = memory-causes _

pub returns-clause-ran : goal.returns-clause-ran
returns-clause-ran g c s code name p words carries shows = inl (still _)

-- ---- the machine's run

pub run_machine-requires-clause-fresh : goal.run_machine-requires-clause-fresh
run_machine-requires-clause-fresh g c =
    c.in-Ok-new.ensures.fresh ∙ ap (λ (m : State). fresh m.graph m.table) (sym c.in-Ok-new.ensures.fresh)

pub run_machine-requires-clause-rules : goal.run_machine-requires-clause-rules
run_machine-requires-clause-rules g c =
    subst (λ (m : State). IsGraph m.graph) (sym c.in-Ok-new.ensures.fresh) c.len-rules.ensures.rules

pub run_machine-requires-clause-ranges : goal.run_machine-requires-clause-ranges
run_machine-requires-clause-ranges g c =
    subst (λ (m : State). IsTable m.table) (sym c.in-Ok-new.ensures.fresh) c.step-ranges.ensures.ranges

pub run_machine-requires-clause-table : goal.run_machine-requires-clause-table
run_machine-requires-clause-table g c =
    subst (λ (m : State). IsTableOf m.table m.graph) (sym c.in-Ok-new.ensures.fresh) c.requires.table

pub run_machine-requires-clause-outputs : goal.run_machine-requires-clause-outputs
run_machine-requires-clause-outputs g c =
    c.in-Ok.ensures ∙ ap (λ (m : State). map (output_column m.graph.names) m.graph.outputs) (sym c.in-Ok-new.ensures.fresh)

pub run_machine-requires-clause-width : goal.run_machine-requires-clause-width
run_machine-requires-clause-width g c =
    c.requires.width ∙ ap (λ (m : State). length m.graph.inputs) (sym c.in-Ok-new.ensures.fresh)

pub returns-in-Ok-new-clause-ran : goal.returns-in-Ok-new-clause-ran
returns-in-Ok-new-clause-ran g c s code name p words carries shows =
    let is = sym c.in-Ok-new.ensures.fresh in
    c.run_machine.ensures.ran s code name p words (subst (λ (m : State). CarriesOut m.graph m.table c.args.rows.now s code) is carries)
    (shows_on (ap (λ (m : State). m.graph) is) shows)
