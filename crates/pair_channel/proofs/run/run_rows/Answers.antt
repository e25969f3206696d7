use Rattle.std.proofs.Common.{length, sym, ap, ◌∙◌, Err}
use Rattle.std.proofs.Math.Nat.{le_of_eq}
use Rattle.std.proofs.lemmas.Result.{err_from_is_err_and}
use Rattle.std.proofs.lemmas.List.{length-replicate}
use Rattle.input_rows.specs.RowsOf.{RowsLeft}
use Rattle.op_graph.specs.Lists.{Lists}
use Rattle.pair_channel.specs.PairMoments.{pair_moment}
use Rattle.pair_channel.proofs.Ended.{given_up, at_cycle, at_last_row}
use Rattle.pair_channel.proofs.Exits.{memory_exit, row_exit, last_exit, cycle_exit, write_exit}
use Rattle.pair_channel.proofs.UpTo.{up_to_first, up_to_next, cycles_left}
use Rattle.pair_channel.proofs.run.run_rows.Goals as goal

pub returns-in_err-inputs : goal.returns-in_err-inputs
returns-in_err-inputs g c =
    let p = err_from_is_err_and c.from_residual.result c.from_residual.ensures.1 in
    let laws = c.pairs_follow_their_answers.ensures in
    let old = c.args.pair.now in
    let left = g.S.RowReader.left c.args.rows.now in
    let start = pair_moment (g.U.Unit.seen c.args.first.now) (g.V.Unit.seen c.args.second.now) (g.O.Sink.seen c.args.out.now) in
    let so_far = up_to_first laws c.args.graph.now old.first.table old.second.table left start old c.requires.fresh in
    let e = given_up _ _ _ _ _ _ _ _ c.from_residual.result (p.1 ∙ ap Err p.2)
    (memory_exit laws c.args.graph.now old.first.table old.second.table left left start start old so_far) in
    record { rows = e.rows; there = e.there; stopped = e.stopped }

pub returns-in_err-outputs : goal.returns-in_err-outputs
returns-in_err-outputs g c =
    let p = err_from_is_err_and c.from_residual-in_err-outputs.result c.from_residual-in_err-outputs.ensures.1 in
    let laws = c.pairs_follow_their_answers.ensures in
    let old = c.args.pair.now in
    let left = g.S.RowReader.left c.args.rows.now in
    let start = pair_moment (g.U.Unit.seen c.args.first.now) (g.V.Unit.seen c.args.second.now) (g.O.Sink.seen c.args.out.now) in
    let so_far = up_to_first laws c.args.graph.now old.first.table old.second.table left start old c.requires.fresh in
    let e = given_up _ _ _ _ _ _ _ _ c.from_residual-in_err-outputs.result (p.1 ∙ ap Err p.2)
    (memory_exit laws c.args.graph.now old.first.table old.second.table left left start start old so_far) in
    record { rows = e.rows; there = e.there; stopped = e.stopped }

pub cycles-init : goal.cycles-init
cycles-init g c =
    let laws = c.pairs_follow_their_answers.ensures in
    let old = c.args.pair.now in
    record {
      laws = laws;
      inputs = ap length c.in_ok-inputs.ensures ∙ length-replicate _ _ ∙ c.inputs.ensures ∙ sym c.requires.width;
      outputs = ap length c.in_ok-outputs.ensures ∙ length-replicate _ _ ∙ c.outputs.ensures;
      so_far = up_to_first laws c.args.graph.now old.first.table old.second.table (g.S.RowReader.left c.args.rows.now) _ old c.requires.fresh;
    }

pub next-requires : goal.next-requires
next-requires g c = c.cycles.invariant.inputs

pub returns-in_err-next : goal.returns-in_err-next
returns-in_err-next g c =
    let p = err_from_is_err_and c.from_residual-in_err-next.result c.from_residual-in_err-next.ensures.1 in
    let old = c.args.pair.now in
    let so_far = c.cycles.invariant in
    let e = given_up _ _ _ _ _ _ _ _ c.from_residual-in_err-next.result (p.1 ∙ ap Err p.2)
    (row_exit so_far.laws c.args.graph.now old.first.table old.second.table (g.S.RowReader.left c.args.rows.now) (g.S.RowReader.left c.cycles.rows) _ _ c.cycles.pair c.in_err-next.field-0.0
    so_far.so_far c.in_err-next.ensures.refusal) in
    record { rows = e.rows; there = e.there; stopped = e.stopped }

pub run_cycle-requires-clause-going : goal.run_cycle-requires-clause-going
run_cycle-requires-clause-going g c = c.cycles.invariant.so_far.run.going

pub run_cycle-requires-clause-between : goal.run_cycle-requires-clause-between
run_cycle-requires-clause-between g c = c.cycles.invariant.so_far.between

pub run_cycle-requires-clause-few : goal.run_cycle-requires-clause-few
run_cycle-requires-clause-few g c =
    let old = c.args.pair.now in
    let one = c.in_ok-next.ensures.row c.if-branch.true in
    cycles_left c.args.graph.now old.first.table old.second.table (g.S.RowReader.left c.args.rows.now) (g.S.RowReader.left c.cycles.rows) (g.S.RowReader.left c.next.new.self) _ _ c.cycles.pair c.next.new.out
    c.cycles.invariant.so_far c.requires.few one

pub run_cycle-requires-clause-width : goal.run_cycle-requires-clause-width
run_cycle-requires-clause-width g c = c.cycles.invariant.outputs ∙ ap (λ (x : Lists). length x.outputs) (sym c.cycles.invariant.so_far.run.first.graph)

pub returns-in_err-end : goal.returns-in_err-end
returns-in_err-end g c =
    let p = err_from_is_err_and c.from_residual-in_err-end.result c.from_residual-in_err-end.ensures.1 in
    let old = c.args.pair.now in
    let so_far = c.cycles.invariant in
    let one = c.in_ok-next.ensures.row c.if-branch.true in
    let cycle = c.in_err-end.ensures in
    let after = pair_moment (g.U.Unit.seen c.run_cycle.new.first) (g.V.Unit.seen c.run_cycle.new.second) (g.O.Sink.seen c.run_cycle.new.out) in
    let e = given_up _ _ _ _ _ _ _ _ c.from_residual-in_err-end.result (p.1 ∙ ap Err p.2)
    (write_exit so_far.laws c.args.graph.now old.first.table old.second.table (g.S.RowReader.left c.args.rows.now) (g.S.RowReader.left c.cycles.rows) (g.S.RowReader.left c.next.new.self) _ _ after c.cycles.pair
    c.run_cycle.new.pair c.next.new.out _ _ so_far.so_far one cycle.turn cycle.written.part cycle.written.cause.failed cycle.written.cause.later) in
    record { rows = e.rows; there = e.there; stopped = e.stopped }

pub cycles-smaller : goal.cycles-smaller
cycles-smaller g c = le_of_eq (sym (ap (λ (x : RowsLeft). length x.rows) (c.in_ok-next.ensures.row c.if-branch.true)))

pub cycles-preserved : goal.cycles-preserved
cycles-preserved g c =
    let old = c.args.pair.now in
    let so_far = c.cycles.invariant in
    let one = c.in_ok-next.ensures.row c.if-branch.true in
    let cycle = c.in_ok-end.ensures in
    record {
      laws = so_far.laws;
      inputs = c.next.ensures.width ∙ so_far.inputs ∙ ap (λ (x : RowsLeft). length x.types) one;
      outputs = cycle.width ∙ so_far.outputs;
      so_far = up_to_next so_far.laws c.args.graph.now old.first.table old.second.table (g.S.RowReader.left c.args.rows.now) (g.S.RowReader.left c.cycles.rows) (g.S.RowReader.left c.next.new.self) _ _ _ c.cycles.pair
          c.run_cycle.new.pair c.next.new.out _ _ c.in_ok-end.end so_far.so_far c.in-Released.is one cycle.turn cycle.between cycle.written.whole
          cycle.written.cause.stayed;
    }

pub returns-in_default : goal.returns-in_default
returns-in_default g c =
    let old = c.args.pair.now in
    let so_far = c.cycles.invariant in
    let one = c.in_ok-next.ensures.row c.if-branch.true in
    let cycle = c.in_ok-end.ensures in
    let after = pair_moment (g.U.Unit.seen c.run_cycle.new.first) (g.V.Unit.seen c.run_cycle.new.second) (g.O.Sink.seen c.run_cycle.new.out) in
    let rows =
    (cycle_exit so_far.laws c.args.graph.now old.first.table old.second.table (g.S.RowReader.left c.args.rows.now) (g.S.RowReader.left c.cycles.rows) (g.S.RowReader.left c.next.new.self) _ _ after c.cycles.pair
    c.run_cycle.new.pair c.next.new.out _ _ c.in_ok-end.end so_far.so_far c.in_default.not-Released one cycle.turn cycle.written.whole
    cycle.written.cause.stayed) in
    let e = at_cycle c.entries_keep_their_rules.ensures _ _ _ _ _ _ _ _ _ _ _ _ _ _ c.len-operations.ensures.rules so_far.so_far cycle.turn rows in
    record { rows = e.rows; there = e.there; stopped = e.stopped }

pub returns : goal.returns
returns g c =
    let old = c.args.pair.now in
    let so_far = c.cycles.invariant in
    let none = c.in_ok-next.ensures.end c.if-branch.false in
    let e = at_last_row _ _ _ _ _ _ _
    (last_exit so_far.laws c.args.graph.now old.first.table old.second.table (g.S.RowReader.left c.args.rows.now) (g.S.RowReader.left c.cycles.rows) _ _ c.cycles.pair so_far.so_far none.0 none.1) in
    record { rows = e.rows; there = e.there; stopped = e.stopped }
