use Rattle.std.proofs.Common.{◌≡◌, ℤ, List, length}
use Rattle.verdict_tables.proofs.Picking.{at_place}
use Rattle.verdict_tables.proofs.Running.{cycle_on, cycle_out}
use Rattle.verdict_tables.proofs.endless.run.run.Goals as goal

pub cycles-preserved : goal.cycles-preserved
cycles-preserved c =
    let i = c.cycles.invariant in
    record {
      room = c.carry.ensures.room;
      count = i.count;
      so_far =
          cycle_on c.args.table.now c.args.graph.now c.args.group.now c.args.rows.now c.cycles.i (record c.cycles.work { inputs = c.get.new.out })
          c.carry.new.work c.carry.result c.if-not-carry.false c.get.ensures c.carry.ensures.done i.so_far;
    }

pub returns-then-not-carry-clause-held : goal.returns-then-not-carry-clause-held
returns-then-not-carry-clause-held c =
    (cycle_out c.args.table.now c.args.graph.now c.args.group.now c.args.rows.now c.cycles.i (record c.cycles.work { inputs = c.get.new.out })
    c.carry.new.work c.carry.result c.if-not-carry.true c.get.ensures c.carry.ensures.done c.cycles.invariant.so_far).0

pub returns-then-not-carry-clause-reached : goal.returns-then-not-carry-clause-reached
returns-then-not-carry-clause-reached c =
    (cycle_out c.args.table.now c.args.graph.now c.args.group.now c.args.rows.now c.cycles.i (record c.cycles.work { inputs = c.get.new.out })
    c.carry.new.work c.carry.result c.if-not-carry.true c.get.ensures c.carry.ensures.done c.cycles.invariant.so_far).1

pub carry-requires-clause-room : goal.carry-requires-clause-room
carry-requires-clause-room c =
    let room = c.cycles.invariant.room in
    record {
      own = room.own;
      past = room.past;
      past_held = room.past_held;
      held = room.held;
      inputs =
          at_place (λ (r : List ℤ). length r ≡ length c.args.graph.now.inputs) c.args.rows.now c.cycles.i c.get.new.out c.get.ensures c.requires.width;
    }
