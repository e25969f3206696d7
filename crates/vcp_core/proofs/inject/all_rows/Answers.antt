use Rattle.std.proofs.Common.{◌<◌, ◌*◌, length}
use Rattle.vcp_inputs.specs.RowsOutcome.{source_outcome}
use Rattle.vcp_core.specs.Inject.{too_many}
use Rattle.vcp_core.specs.Tasks.{most_trace}
use Rattle.vcp_core.proofs.FaultRuns.{none_read}
use Rattle.vcp_core.proofs.inject.all_rows.Goals as goal

pub returns-in-Err-clause-fault : goal.returns-in-Err-clause-fault
returns-in-Err-clause-fault c =
    none_read c.args.second (source_outcome c.args.inputs.now c.args.columns.now) c.args.graph.now c.in-Err.input c.in-Err.ensures.fault

pub returns-then-len-gt-MOST_TRACE-clause-fault : goal.returns-then-len-gt-MOST_TRACE-clause-fault
returns-then-len-gt-MOST_TRACE-clause-fault c =
    let all = c.in-Ok.ensures.rows in
    let over : most_trace < length all.left.rows * length c.args.graph.now.operations =
    rw (all.rows_are, ← c.len.ensures.length, ← c.len-in-None.ensures.count) c.if-len-gt-MOST_TRACE.true in
    rw c.in-None.is (too_many all.left all.comes all.whole over)

pub returns-else-len-gt-MOST_TRACE-clause-rows : goal.returns-else-len-gt-MOST_TRACE-clause-rows
returns-else-len-gt-MOST_TRACE-clause-rows c = rw c.in-None.is (record {
  read = c.in-Ok.ensures.rows;
  few = rw (← c.len.ensures.length, ← c.len-in-None.ensures.count) c.if-len-gt-MOST_TRACE.false;
})

pub returns-in-Some-clause-rows : goal.returns-in-Some-clause-rows
returns-in-Some-clause-rows c = rw c.in-Some.is c.in-Ok.ensures.rows
