use Rattle.std.proofs.Common.{length, refl, subst, sym, ap, ◌∙◌, Err}
use Rattle.std.proofs.Math.Nat.{le_refl, le_of_eq, le_trans}
use Rattle.std.proofs.lemmas.Result.{err_from_is_err_and}
use Rattle.std.proofs.lemmas.List.{length-replicate}
use Rattle.input_rows.specs.RowsOf.{RowsLeft}
use Rattle.op_graph.specs.Lists.{Lists}
use Rattle.op_graph.specs.Rules.{IsGraph}
use Rattle.signature_table.specs.Signatures.{IsTable}
use Rattle.coded_machine.specs.Moments.{moment}
use Rattle.coded_machine.proofs.Ended.{given_up, at_cycle, at_last_row}
use Rattle.coded_machine.proofs.Exits.{memory_exit, row_exit, last_exit, cycle_exit, write_exit}
use Rattle.coded_machine.proofs.Overall.{Fair}
use Rattle.coded_machine.proofs.UpTo.{up_to_first, up_to_next, cycles_left}
use Rattle.coded_machine.proofs.rows.run.run_rows.Goals as goal

pub returns-in_err-inputs : goal.returns-in_err-inputs
returns-in_err-inputs g c =
    let p = err_from_is_err_and c.from_residual.result c.from_residual.ensures.1 in
    let runs = c.runs_follow_their_answers.ensures in
    let m = c.args.machine.now in
    let start = moment (g.U.Unit.seen c.args.unit.now) (g.O.Sink.seen c.args.out.now) in
    let fair : Fair m.graph m.table (g.S.RowReader.left c.args.rows.now).rows =
    record {
      graph = subst IsGraph c.graph-graph.ensures c.len-operations.ensures.rules;
      table = subst IsTable c.table.ensures c.step-step.ensures.ranges;
      few = c.requires.few;
    } in
    let leaves =
    memory_exit runs c.honest_runs_follow_the_graph.ensures m.graph m.table (g.S.RowReader.left c.args.rows.now) (g.S.RowReader.left c.args.rows.now) g.R.ReleasedRows.text start start (g.R.ReleasedRows.Keeps c.args.released.now)
    (g.R.ReleasedRows.Keeps c.args.released.now) m fair
    (up_to_first runs (g.S.RowReader.left c.args.rows.now) g.R.ReleasedRows.text start (g.R.ReleasedRows.Keeps c.args.released.now) m c.requires.fresh) in
    let e = given_up _ _ _ _ _ _ _ _ _ _ c.from_residual.result (p.1 ∙ ap Err p.2) leaves (le_refl _) (λ other. refl) in
    record {
      runs = e.leaves.run;
      leaves = e.leaves;
      later = e.later;
      stayed = e.stayed;
      stopped = e.stopped;
      placed = e.placed;
      refused = e.refused;
      numbered = e.numbered;
    }

pub cycles-init : goal.cycles-init
cycles-init g c =
    let runs = c.runs_follow_their_answers.ensures in
    let m = c.args.machine.now in
    record {
      runs = runs;
      honest = c.honest_runs_follow_the_graph.ensures;
      fair = record {
        graph = subst IsGraph c.graph-graph.ensures c.len-operations.ensures.rules;
        table =
            subst IsTable c.table.ensures c.step-step.ensures.ranges;
        few = c.requires.few;
      };
      inputs = ap length c.in_ok-inputs.ensures ∙ length-replicate _ _ ∙ c.inputs.ensures ∙ ap (λ (x : Lists). length x.inputs) c.graph-graph.ensures
          ∙ sym c.requires.width;
      outputs = ap length c.in_ok-outputs.ensures ∙ length-replicate _ _ ∙ c.outputs.ensures ∙ ap (λ (x : Lists). length x.outputs) c.graph-graph.ensures;
      so_far = up_to_first runs (g.S.RowReader.left c.args.rows.now) g.R.ReleasedRows.text _ (g.R.ReleasedRows.Keeps c.args.released.now) m c.requires.fresh;
    }

pub next-requires : goal.next-requires
next-requires g c = c.cycles.invariant.inputs

pub returns-in_err-next : goal.returns-in_err-next
returns-in_err-next g c =
    let p = err_from_is_err_and c.from_residual-in_err-next.result c.from_residual-in_err-next.ensures.1 in
    let m = c.args.machine.now in
    let so_far = c.cycles.invariant in
    let leaves =
    row_exit so_far.runs so_far.honest m.graph m.table (g.S.RowReader.left c.args.rows.now) (g.S.RowReader.left c.cycles.rows) g.R.ReleasedRows.text _ _ (g.R.ReleasedRows.Keeps c.args.released.now)
    (g.R.ReleasedRows.Keeps c.cycles.released) c.cycles.machine c.in_err-next.field-0.0 so_far.fair so_far.so_far c.in_err-next.ensures.refusal in
    let e = given_up _ _ _ _ _ _ _ _ _ _ c.from_residual-in_err-next.result (p.1 ∙ ap Err p.2) leaves (le_of_eq (sym so_far.so_far.faults)) (λ other. so_far.so_far.faults) in
    record {
      runs = e.leaves.run;
      leaves = e.leaves;
      later = e.later;
      stayed = e.stayed;
      stopped = e.stopped;
      placed = e.placed;
      refused = e.refused;
      numbered = e.numbered;
    }

pub run_cycle-requires : goal.run_cycle-requires
run_cycle-requires g c = record {
  going = c.cycles.invariant.so_far.run.going;
  between = c.cycles.invariant.so_far.between;
  few = (
      let m = c.args.machine.now in
      let so_far = c.cycles.invariant in
      let one = c.in_ok-next.ensures.row c.if-branch.true in
      cycles_left m.graph m.table (g.S.RowReader.left c.args.rows.now) (g.S.RowReader.left c.cycles.rows) (g.S.RowReader.left c.next.new.self) g.R.ReleasedRows.text _ _ (g.R.ReleasedRows.Keeps c.args.released.now)
      (g.R.ReleasedRows.Keeps c.cycles.released) c.cycles.machine c.next.new.out so_far.so_far c.requires.few one);
  width = c.cycles.invariant.outputs ∙ ap (λ (x : Lists). length x.outputs) (sym c.cycles.invariant.so_far.run.graph);
}

pub returns-in_err-end : goal.returns-in_err-end
returns-in_err-end g c =
    let p = err_from_is_err_and c.from_residual-in_err-end.result c.from_residual-in_err-end.ensures.1 in
    let m = c.args.machine.now in
    let so_far = c.cycles.invariant in
    let one = c.in_ok-next.ensures.row c.if-branch.true in
    let cycle = c.in_err-end.ensures in
    let after = moment (g.U.Unit.seen c.run_cycle.new.unit) (g.O.Sink.seen c.run_cycle.new.out) in
    let leaves =
    write_exit so_far.runs so_far.honest m.graph m.table (g.S.RowReader.left c.args.rows.now) (g.S.RowReader.left c.cycles.rows) (g.S.RowReader.left c.next.new.self) g.R.ReleasedRows.text _ _ after
    (g.R.ReleasedRows.Keeps c.args.released.now) (g.R.ReleasedRows.Keeps c.cycles.released) (g.R.ReleasedRows.Keeps c.run_cycle.new.released) c.cycles.machine
    c.run_cycle.new.machine c.next.new.out so_far.fair so_far.so_far one cycle.turn cycle.between cycle.written.part cycle.written.cause.failed in
    let e = given_up _ _ _ _ _ _ _ _ _ _ c.from_residual-in_err-end.result (p.1 ∙ ap Err p.2) leaves (le_trans (le_of_eq (sym so_far.so_far.faults)) cycle.written.cause.later) (λ other. absurd (other (p.1 ∙ ap Err p.2))) in
    record {
      runs = e.leaves.run;
      leaves = e.leaves;
      later = e.later;
      stayed = e.stayed;
      stopped = e.stopped;
      placed = e.placed;
      refused = e.refused;
      numbered = e.numbered;
    }

pub cycles-smaller : goal.cycles-smaller
cycles-smaller g c = le_of_eq (sym (ap (λ (x : RowsLeft). length x.rows) (c.in_ok-next.ensures.row c.if-branch.true)))

pub cycles-preserved : goal.cycles-preserved
cycles-preserved g c =
    let m = c.args.machine.now in
    let so_far = c.cycles.invariant in
    let one = c.in_ok-next.ensures.row c.if-branch.true in
    let cycle = c.in_ok-end.ensures in
    record {
      runs = so_far.runs;
      honest = so_far.honest;
      fair = so_far.fair;
      inputs = c.next.ensures.width ∙ so_far.inputs ∙ ap (λ (x : RowsLeft). length x.types) one;
      outputs = cycle.width ∙ so_far.outputs;
      so_far =
          up_to_next so_far.runs m.graph m.table (g.S.RowReader.left c.args.rows.now) (g.S.RowReader.left c.cycles.rows) (g.S.RowReader.left c.next.new.self) g.R.ReleasedRows.text _ _ _
          (g.R.ReleasedRows.Keeps c.args.released.now) (g.R.ReleasedRows.Keeps c.cycles.released) (g.R.ReleasedRows.Keeps c.run_cycle.new.released) c.cycles.machine
          c.run_cycle.new.machine c.next.new.out c.in_ok-end.end so_far.so_far c.in-Released.is one cycle.turn cycle.between cycle.written.whole
          cycle.written.cause.stayed cycle.kept;
    }

pub returns-in_default : goal.returns-in_default
returns-in_default g c =
    let m = c.args.machine.now in
    let so_far = c.cycles.invariant in
    let one = c.in_ok-next.ensures.row c.if-branch.true in
    let cycle = c.in_ok-end.ensures in
    let after = moment (g.U.Unit.seen c.run_cycle.new.unit) (g.O.Sink.seen c.run_cycle.new.out) in
    let leaves =
    cycle_exit so_far.runs so_far.honest m.graph m.table (g.S.RowReader.left c.args.rows.now) (g.S.RowReader.left c.cycles.rows) (g.S.RowReader.left c.next.new.self) g.R.ReleasedRows.text _ _ after
    (g.R.ReleasedRows.Keeps c.args.released.now) (g.R.ReleasedRows.Keeps c.cycles.released) (g.R.ReleasedRows.Keeps c.run_cycle.new.released) c.cycles.machine
    c.run_cycle.new.machine c.next.new.out c.in_ok-end.end so_far.fair so_far.so_far c.in_default.not-Released one cycle.turn cycle.between
    cycle.written.whole cycle.kept in
    let e = at_cycle c.entries_keep_their_rules.ensures _ _ _ _ _ _ _ _ _ _ _ _ _ _ _ so_far.fair.graph so_far.so_far cycle.turn cycle.cause leaves cycle.written.cause.stayed in
    record {
      runs = e.leaves.run;
      leaves = e.leaves;
      later = e.later;
      stayed = e.stayed;
      stopped = e.stopped;
      placed = e.placed;
      refused = e.refused;
      numbered = e.numbered;
    }

pub returns : goal.returns
returns g c =
    let m = c.args.machine.now in
    let so_far = c.cycles.invariant in
    let none = c.in_ok-next.ensures.end c.if-branch.false in
    let leaves =
    last_exit so_far.runs so_far.honest m.graph m.table (g.S.RowReader.left c.args.rows.now) (g.S.RowReader.left c.cycles.rows) g.R.ReleasedRows.text _ _ (g.R.ReleasedRows.Keeps c.args.released.now)
    (g.R.ReleasedRows.Keeps c.cycles.released) c.cycles.machine so_far.fair so_far.so_far none.0 none.1 in
    let e = at_last_row _ _ _ _ _ _ _ _ _ leaves so_far.so_far.faults in
    record {
      runs = e.leaves.run;
      leaves = e.leaves;
      later = e.later;
      stayed = e.stayed;
      stopped = e.stopped;
      placed = e.placed;
      refused = e.refused;
      numbered = e.numbered;
    }

pub returns-in_err-outputs : goal.returns-in_err-outputs
returns-in_err-outputs g c =
    let p = err_from_is_err_and c.from_residual-in_err-outputs.result c.from_residual-in_err-outputs.ensures.1 in
    let runs = c.runs_follow_their_answers.ensures in
    let m = c.args.machine.now in
    let start = moment (g.U.Unit.seen c.args.unit.now) (g.O.Sink.seen c.args.out.now) in
    let fair : Fair m.graph m.table (g.S.RowReader.left c.args.rows.now).rows =
    record {
      graph = subst IsGraph c.graph-graph.ensures c.len-operations.ensures.rules;
      table = subst IsTable c.table.ensures c.step-step.ensures.ranges;
      few = c.requires.few;
    } in
    let leaves =
    memory_exit runs c.honest_runs_follow_the_graph.ensures m.graph m.table (g.S.RowReader.left c.args.rows.now) (g.S.RowReader.left c.args.rows.now) g.R.ReleasedRows.text start start (g.R.ReleasedRows.Keeps c.args.released.now)
    (g.R.ReleasedRows.Keeps c.args.released.now) m fair
    (up_to_first runs (g.S.RowReader.left c.args.rows.now) g.R.ReleasedRows.text start (g.R.ReleasedRows.Keeps c.args.released.now) m c.requires.fresh) in
    let e = given_up _ _ _ _ _ _ _ _ _ _ c.from_residual-in_err-outputs.result (p.1 ∙ ap Err p.2) leaves (le_refl _) (λ other. refl) in
    record {
      runs = e.leaves.run;
      leaves = e.leaves;
      later = e.later;
      stayed = e.stayed;
      stopped = e.stopped;
      placed = e.placed;
      refused = e.refused;
      numbered = e.numbered;
    }
