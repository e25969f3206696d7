use Rattle.std.proofs.Common.{◌≡◌, ◌-◌, length}
use Rattle.coded_machine.specs.State.{given}
use Rattle.fault_injector.specs.Carried.{faults_of, keeps_of}
use Rattle.pair_channel.specs.PairStates.{PairState}
use Rattle.fault_injector.proofs.CallsAsked.{CycleSoFar}
use Rattle.fault_injector.proofs.campaign.pairs.group_run.carry.Given as goal

abbrev pub invariant-calls : goal.invariant-calls
invariant-calls g l =
    let unit = g.U.Unit in
    let first : PairState = l.fn.pair in
    let p : PairState = l.pair in
    record {
      same : l.scripted.unit.ghost_name ≡ l.fn.scripted.unit.ghost_name;
      faults : faults_of l.scripted.carried.items ≡ faults_of l.fn.scripted.carried.items;
      pair : p ≡ record first { first = p.first };
      so_far :
          CycleSoFar first.first p.first l.inputs (faults_of l.fn.scripted.carried.items) (keeps_of l.fn.scripted.carried.items)
          (keeps_of l.scripted.carried.items) l.fn.scripted.wrong l.scripted.wrong (unit.seen l.fn.scripted.unit.now) (unit.seen l.scripted.unit.now);
    }

abbrev pub decreases-calls : goal.decreases-calls
decreases-calls g l = let p : PairState = l.pair in length p.first.graph.operations - length (given p.first)
