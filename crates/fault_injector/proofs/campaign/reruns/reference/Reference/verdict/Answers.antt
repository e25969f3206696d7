use Rattle.std.proofs.Common.{[], length, subst, sym, ◌∙◌, arith, rules}
use Rattle.coded_machine.specs.CycleEnds.{initial_words}
use Rattle.fault_script.specs.Changes.{acts_of}
use Rattle.fault_injector.specs.RunLaw.{no_words}
use Rattle.fault_injector.specs.Names.{Names}
use Rattle.fault_injector.specs.declared.verdicts.Verdict.{Verdict}
use Rattle.fault_injector.specs.References.{KeptRun}
use Rattle.fault_injector.specs.Reruns.{InCycles}
use Rattle.fault_injector.proofs.Named.{runs_named}
use Rattle.fault_injector.proofs.campaign.reruns.reference.Reference.verdict.Goals as goal

pub returns : goal.returns
returns g c =
    let r : KeptRun = c.args.self.now in
    let sound = c.cycles-cycles.ensures.sound in
    let reran = c.rerun.ensures in
    let named = runs_named c.entries_keep_their_rules.ensures r.table r.graph (acts_of c.args.group.now) (length r.rows) sound.0
    r.rows r.answers 0 no_words (initial_words r.graph r.table.seed) [] reran.given (omega arith) in
    let run_laws = c.runs_under_acts_keep_the_run_law.ensures in
    let ends = c.ends_under_acts_are_read_off_the_answers.ensures in
    record {
      reran = reran;
      verdict = λ right fits honest.
          reran.verdict_is
          ∙ c.verdicts_read_off_right_answers_are_defined.ensures r.table r.graph c.args.group.now r.rows r.answers reran.given sound.0 sound.1 sound.2.0 fits
          sound.3 right reran.exact.enough (reran.carried.honest honest.0 honest.1);
      names = subst (λ (v : Verdict). Names (length r.graph.outputs) (length r.graph.operations) v) (sym reran.verdict_is) named.names;
      cycle = subst (λ (v : Verdict). InCycles (length r.rows) v) (sym reran.verdict_is) named.cycle;
      never_falls = reran.carried.never_falls;
      err = tt;
      touched = c.touched_operations_are_told_by_what_they_read.ensures;
      asks = c.reruns_ask_at_touched_operations.ensures;
      right_runs = c.reruns_of_right_answers_are_right_runs.ensures;
      run_law = run_laws.runs;
      groups = run_laws.groups;
      values = c.one_fault_runs_by_its_act.ensures;
      accepted = ends.ends;
      outputs = ends.outputs;
    }

pub returns-in-Err : goal.returns-in-Err
returns-in-Err g c = search rules

pub returns-in-Err-with_capacity : goal.returns-in-Err-with_capacity
returns-in-Err-with_capacity g c = search rules
