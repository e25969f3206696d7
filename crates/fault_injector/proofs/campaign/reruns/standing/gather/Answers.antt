use Rattle.std.proofs.Common.{◌+◌, ◌++◌, ap, refl, sym, ◌∙◌, arith, drop}
use Rattle.std.proofs.Math.Nat.{le_trans}
use Rattle.std.proofs.lemmas.List.{append-nil}
use Rattle.fault_script.specs.declared.act.Fault.{Fault}
use Rattle.fault_injector.specs.Standing.{faults_in}
use Rattle.fault_injector.proofs.Acts.{gathered}
use Rattle.fault_injector.proofs.ListsOfReruns.{drop_behind}
use Rattle.fault_injector.proofs.campaign.reruns.standing.gather.Goals as goal

pub faults-preserved : goal.faults-preserved
faults-preserved c =
    let i = c.faults.invariant in
    let n = c.args.cycle in
    let f : Fault = c.at.result in
    record {
      faults = i.faults
          ∙ (gathered n c.args.group.now c.faults.i f c.faults.faults.items _ c.at.ensures refl
          ∙ ap (λ xs. xs ++ faults_in n (drop (c.faults.i + 1) c.args.group.now)) (sym c.append_in.ensures.items));
      few = omega (arith, i.few, c.append_in.ensures.few);
      room = le_trans i.room c.append_in.ensures.capacity;
    }

pub returns-clause-faults : goal.returns-clause-faults
returns-clause-faults c =
    sym (c.faults.invariant.faults
    ∙ (ap (λ fs. c.faults.faults.items ++ faults_in c.args.cycle fs)
    (drop_behind c.args.group.now c.faults.i (omega (arith, c.faults-test.false, c.faults.auto.i-end, c.len-i-end.ensures)))
    ∙ append-nil c.faults.faults.items))
