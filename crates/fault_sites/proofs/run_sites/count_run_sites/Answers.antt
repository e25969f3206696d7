use Rattle.std.proofs.Common.{◌≡◌, ◌≤◌, ◌-◌, length, ap}
use Rattle.fault_sites.specs.declared.part.Part.{Part}
use Rattle.fault_sites.specs.RunSites.{run_sites}
use Rattle.fault_sites.proofs.Few.{counted, run_few}
use Rattle.fault_sites.proofs.run_sites.count_run_sites.Goals as goal

pub returns : goal.returns
returns c =
    let a = c.args in
    let xs = run_sites a.class a.table.now a.graph.now a.rows.now in
    let few : length a.graph.now.operations ≤ 65536 = c.len-operations.ensures.rules.part.few_operations in
    let left : c.then_run.result.part.skip ≡ 18446744073709551615 - length xs = ap (λ (p : Part). p.skip) c.then_run.ensures.left in
    counted xs c.then_run.result.part.skip (run_few a.class a.table.now a.graph.now a.rows.now few c.requires.few) left

pub then_run-requires-clause-room : goal.then_run-requires-clause-room
then_run-requires-clause-room c = c.in_ok-run.ensures.room

pub then_run-requires-clause-begun : goal.then_run-requires-clause-begun
then_run-requires-clause-begun c = c.in_ok-run.ensures.begun

pub then_run-requires-clause-few : goal.then_run-requires-clause-few
then_run-requires-clause-few c = c.requires.few

pub then_run-requires-clause-width : goal.then_run-requires-clause-width
then_run-requires-clause-width c = c.requires.width
