use Rattle.std.proofs.Common.{List, [], ◌∷◌, ℤ, IfOk, inl, inr, ◌≡◌, ◌≤◌, ap, sym, subst, length}
use Rattle.std.proofs.Math.Nat.{le_of_eq, le_trans}
use Rattle.std.proofs.lemmas.Result.{on_err_weaker}
use Rattle.coded_unit.specs.Seen.{UnitSeen}
use Rattle.op_graph.specs.Lists.{Lists}
use Rattle.signature_table.specs.Signatures.{Numbers}
use Rattle.fault_script.specs.Groups.{GroupFits}
use Rattle.fault_injector.specs.Names.{Names}
use Rattle.fault_injector.specs.Verdicts.{verdict_of}
use Rattle.fault_injector.specs.declared.verdicts.Verdict.{Verdict}
use Rattle.fault_injector.specs.Groups.{GroupsJudged, JudgedAlone}
use Rattle.fault_injector.specs.References.{KeptRun}
use Rattle.fault_injector.specs.Reruns.{InCycles, IsReference, Reran}
use Rattle.fault_injector.proofs.Alone.{at_kept, if_ok, judged_alone, parted}
use Rattle.fault_injector.proofs.campaign.reruns.rerun.verdict.Goals as goal

pub returns-in-Err : goal.returns-in-Err
returns-in-Err g c =
    let same = ap g.U.Unit.seen c.in-Err.ensures.err in
    record {
      verdict = λ fits honest. tt;
      judged = tt;
      names = tt;
      cycle = tt;
      never_falls = le_of_eq (sym (ap (λ (u : UnitSeen). u.wrong) same));
      err = inl same;
    }

pub returns-in-Ok : goal.returns-in-Ok
returns-in-Ok g c =
    let r : KeptRun = c.in-Ok.reference in
    let new = c.in-Ok.ensures in
    let told = c.verdict.ensures in
    let faults = c.args.group.now in
    let t = c.args.table.now in
    let h = c.args.graph.now in
    let rows = c.args.rows.now in
    let first : UnitSeen = g.U.Unit.seen c.args.unit.now in
    let mid : UnitSeen = g.U.Unit.seen c.new.new.unit in
    let now : UnitSeen = g.U.Unit.seen c.verdict.new.unit in
    let low : first.wrong ≤ mid.wrong = new.ran.carried.never_falls in
    let carried = c.groups_are_rerun_one_after_another.ensures.starts t h rows r.answers (faults ∷ []) r.end first mid new.ran in
    record {
      verdict = λ fits honest.
          let still = parted first.wrong mid.wrong now.wrong low told.never_falls honest in
          at_kept (λ (u : Numbers) (h : Lists) (xs : List (List ℤ)). IsReference u h xs r.answers → GroupFits h faults
          → IfOk c.verdict.result (λ (v : Verdict). v ≡ verdict_of u h faults xs)) r t h rows new.graph new.table new.rows
          (λ reference each. told.verdict reference each still.1) (new.honest still.0) fits;
      judged =
          if_ok (λ (v : Verdict). Reran r.table r.graph faults r.rows r.answers mid now v) (λ (v : Verdict). JudgedAlone t h rows faults v first now)
          c.verdict.result
          (λ v reran.
          judged_alone c.groups_are_rerun_one_after_another.ensures t h rows r faults v first mid now new.graph new.table new.rows new.ran reran)
          told.reran;
      names =
          at_kept (λ (u : Numbers) (h : Lists) (xs : List (List ℤ)). IfOk c.verdict.result (Names (length h.outputs) (length h.operations))) r t h rows
          new.graph new.table new.rows told.names;
      cycle =
          at_kept (λ (u : Numbers) (h : Lists) (xs : List (List ℤ)). IfOk c.verdict.result (InCycles (length xs))) r t h rows new.graph new.table
          new.rows told.cycle;
      never_falls = le_trans low told.never_falls;
      err =
          on_err_weaker c.verdict.result
          (λ same. inr (
            r.answers,
            subst (λ (u : UnitSeen). GroupsJudged t h rows r.answers (faults ∷ []) [] first u) (sym (ap g.U.Unit.seen same)) carried,
          )) told.err;
    }
