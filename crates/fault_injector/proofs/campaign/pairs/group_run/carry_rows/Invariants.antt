use Rattle.std.proofs.Common.{◌≡◌, drop, length}
use Rattle.fault_injector.specs.Carried.{faults_of, keeps_of}
use Rattle.pair_channel.specs.PairStates.{PairState}
use Rattle.fault_injector.proofs.GroupSoFar.{Fair, GroupSoFar}
use Rattle.fault_injector.proofs.campaign.pairs.group_run.carry_rows.Given as goal

abbrev pub invariant-rows : goal.invariant-rows
invariant-rows g l =
    let unit = g.U.Unit in
    let p : PairState = l.pair in
    record {
      cycles : p.cycles ≡ l.cycle;
      count : l.count ≡ length l.rows;
      inputs : length l.inputs ≡ length l.graph.inputs;
      outputs : length l.outputs ≡ length l.graph.outputs;
      same : l.scripted.unit.ghost_name ≡ l.fn.scripted.unit.ghost_name;
      faults : faults_of l.scripted.carried.items ≡ faults_of l.fn.scripted.carried.items;
      fair : Fair l.table l.other l.graph (faults_of l.fn.scripted.carried.items) l.rows;
      so_far :
          GroupSoFar l.table l.other l.graph (faults_of l.fn.scripted.carried.items) l.rows (drop l.cycle l.rows) p (keeps_of l.scripted.carried.items)
          l.fn.scripted.wrong l.scripted.wrong (unit.seen l.fn.scripted.unit.now) (unit.seen l.scripted.unit.now);
    }
