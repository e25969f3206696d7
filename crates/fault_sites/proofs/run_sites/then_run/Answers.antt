use Rattle.std.proofs.Common.{length, sym, ◌∙◌, arith, rules}
use Rattle.fault_sites.specs.Running.{before, moment}
use Rattle.fault_sites.proofs.Going.{tells_same}
use Rattle.fault_sites.proofs.RunGoing.{row_is, so_far_none, so_far_more, so_far_all, so_far_over, left_end, left_none, width_there}
use Rattle.fault_sites.proofs.run_sites.then_run.Goals as goal

pub cycles-init : goal.cycles-init
cycles-init g c = record {
  so_far = so_far_none c.args.class c.args.table.now c.args.graph.now c.args.rows.now (moment c.args.graph.now c.args.run.now) c.requires.begun;
  room = c.requires.room;
  count = search rules;
}

pub returns-then-told-eq0 : goal.returns-then-told-eq0
returns-then-told-eq0 g c =
    so_far_over c.args.class c.args.table.now c.args.graph.now c.args.rows.now c.cycles.n (moment c.args.graph.now c.cycles.run) c.cycles.invariant.so_far
    c.if-told-eq0.true

pub returns : goal.returns
returns g c =
    let now = moment c.args.graph.now c.cycles.run in
    so_far_all c.args.class c.args.table.now c.args.graph.now c.args.rows.now c.cycles.n now c.cycles.invariant.so_far
    (left_end c.args.class c.args.table.now now c.cycles.n c.args.rows.now (omega (arith, c.cycles-test.false, c.cycles.invariant.count)))

pub returns-in-Some : goal.returns-in-Some
returns-in-Some g c =
    let now = moment c.args.graph.now c.cycles.run in
    so_far_all c.args.class c.args.table.now c.args.graph.now c.args.rows.now c.cycles.n now c.cycles.invariant.so_far
    (left_none c.args.class c.args.table.now now c.cycles.n c.args.rows.now c.get.new.out c.in-Some.field-0 c.get.ensures
    (sym c.cycle.ensures.stop ∙ c.in-Some.is))

pub cycle-requires : goal.cycle-requires
cycle-requires g c =
    let room = c.cycles.invariant.room in
    record {
      cells = room.cells;
      operations = room.operations;
      past_cells = room.past_cells;
      past_operations = room.past_operations;
      row = width_there c.args.rows.now (length c.args.graph.now.inputs) c.cycles.n c.get.new.out c.requires.width c.get.ensures;
    }

pub cycles-preserved : goal.cycles-preserved
cycles-preserved g c =
    let i = c.cycles.invariant in
    let now = moment c.args.graph.now c.cycles.run in
    let next = moment c.args.graph.now c.cycle.new.self in
    let on = c.cycle.ensures.run c.in-None.is in
    record {
      so_far =
          so_far_more c.args.class c.args.table.now c.args.graph.now c.args.rows.now c.cycles.n now next c.get.new.out i.so_far c.get.ensures
          (sym c.cycle.ensures.stop ∙ c.in-None.is) on
          (tells_same c.then_cycle-told.ensures
          (row_is c.args.class c.args.table.now c.cycles.n (before c.args.graph.now c.cycle.new.self) now next c.get.new.out c.cycle.ensures.before on));
      room = c.cycle.ensures.room;
      count = i.count;
    }
