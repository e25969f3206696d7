use Rattle.std.proofs.Common.{◌≡◌, ◌∙◌, ◌+◌, ◌<◌, All, List, ℤ, refl, sym, ap, subst, arith, drop, length}
use Rattle.op_graph.specs.Lists.{Lists}
use Rattle.coded_machine.specs.State.{setting}
use Rattle.fault_script.specs.declared.act.Fault.{Fault}
use Rattle.fault_injector.specs.Carried.{faults_of, keeps_of}
use Rattle.fault_injector.proofs.CarriedByHand.{drop_at}
use Rattle.fault_injector.proofs.Lists.{drop_all, width_at}
use Rattle.pair_channel.specs.PairStates.{PairState}
use Rattle.fault_injector.specs.GroupRuns.{CycleAsked}
use Rattle.fault_injector.specs.PairVerdicts.{verdict_at}
use Rattle.fault_injector.proofs.GroupSoFar.{GroupSoFar, Laws, group_ended, group_first, group_next, group_over, pair_cycles}
use Rattle.fault_injector.proofs.campaign.pairs.group_run.carry_rows.Goals as goal

pub rows-init : goal.rows-init
rows-init g c =
    let f = faults_of c.args.scripted.now.carried.items in
    record {
      cycles = ap (λ (x : PairState). x.cycles) c.requires.fresh;
      count = c.len-count.ensures.length;
      inputs = c.requires.inputs;
      outputs = c.requires.outputs;
      same = refl;
      faults = refl;
      fair = record {
        known = record {
          graph = c.len-rules.ensures.rules;
          table = c.step-step.ensures.ranges;
          profile = c.requires.table.0;
          fits = c.requires.faults;
        };
        second = c.step-other.ensures.ranges;
        few = c.requires.few;
      };
      so_far =
          group_first c.pairs_follow_their_answers.ensures c.args.table.now c.args.other.now c.args.graph.now f c.args.rows.now c.args.pair.now
          (keeps_of c.args.scripted.now.carried.items) c.args.scripted.now.wrong (g.U.Unit.seen c.args.scripted.now.unit.now) c.requires.fresh
          c.requires.kept;
    }

pub carry-requires : goal.carry-requires
carry-requires g c =
    let i = c.rows.invariant in
    record {
      going = i.so_far.run.going;
      first_going = i.so_far.run.first.going;
      between = i.so_far.between;
      few = omega (arith, i.cycles, i.count, c.rows-test.true, c.requires.few);
      out = i.outputs ∙ ap (λ (x : Lists). length x.outputs) (sym i.so_far.run.first.graph);
    }

pub rows-preserved : goal.rows-preserved
rows-preserved g c =
    let i = c.rows.invariant in
    let t = c.carry.ensures in
    let p : PairState = c.rows.pair in
    let q : PairState = c.carry.new.pair in
    let rows = c.args.rows.now in
    let rest = drop (c.rows.cycle + 1) rows in
    let row = c.get.new.out in
    let f = faults_of c.args.scripted.now.carried.items in
    let first = c.args.scripted.now.wrong in
    let mid = c.rows.scripted.wrong in
    let last = c.carry.new.scripted.wrong in
    let before = g.U.Unit.seen c.args.scripted.now.unit.now in
    let here = g.U.Unit.seen c.rows.scripted.unit.now in
    let after = g.U.Unit.seen c.carry.new.scripted.unit.now in
    let kept = keeps_of c.rows.scripted.carried.items in
    let next = keeps_of c.carry.new.scripted.carried.items in
    let so_far = subst (λ (xs : List (List ℤ)). GroupSoFar c.args.table.now c.args.other.now c.args.graph.now f rows xs p kept first mid before here)
    (drop_at rows c.rows.cycle row c.get.ensures) i.so_far in
    let asked = subst (λ (x : List Fault). CycleAsked x (setting p.first row) kept q.first.answers next here after) i.faults t.asked in
    record {
      cycles = pair_cycles c.args.table.now c.args.other.now c.args.graph.now f rows rest p q kept next row c.rows.outputs c.carry.new.outputs
          c.carry.result first mid last before here after so_far t.turn asked c.in-Released.is ∙ ap (λ n. n + 1) i.cycles;
      count = i.count;
      inputs = width_at rows (length c.args.graph.now.inputs) c.rows.cycle row c.requires.width c.get.ensures;
      outputs = t.width ∙ i.outputs;
      same = t.same ∙ i.same;
      faults = t.faults ∙ i.faults;
      fair = i.fair;
      so_far = group_next c.args.table.now c.args.other.now c.args.graph.now f rows rest p q kept next row c.rows.outputs c.carry.new.outputs
          c.carry.result first mid last before here after so_far t.turn asked c.in-Released.is c.pairs_follow_their_answers.ensures t.between;
    }

pub returns-in_default : goal.returns-in_default
returns-in_default g c =
    let i = c.rows.invariant in
    let t = c.carry.ensures in
    let p : PairState = c.rows.pair in
    let q : PairState = c.carry.new.pair in
    let rows = c.args.rows.now in
    let rest = drop (c.rows.cycle + 1) rows in
    let row = c.get.new.out in
    let f = faults_of c.args.scripted.now.carried.items in
    let first = c.args.scripted.now.wrong in
    let mid = c.rows.scripted.wrong in
    let last = c.carry.new.scripted.wrong in
    let before = g.U.Unit.seen c.args.scripted.now.unit.now in
    let here = g.U.Unit.seen c.rows.scripted.unit.now in
    let after = g.U.Unit.seen c.carry.new.scripted.unit.now in
    let kept = keeps_of c.rows.scripted.carried.items in
    let next = keeps_of c.carry.new.scripted.carried.items in
    let so_far = subst (λ (xs : List (List ℤ)). GroupSoFar c.args.table.now c.args.other.now c.args.graph.now f rows xs p kept first mid before here)
    (drop_at rows c.rows.cycle row c.get.ensures) i.so_far in
    let asked = subst (λ (x : List Fault). CycleAsked x (setting p.first row) kept q.first.answers next here after) i.faults t.asked in
    let laws : Laws = record {
      pairs = c.pairs_follow_their_answers.ensures;
      honest = c.one_honest_channel_holds_the_pair.ensures;
      runs = c.runs_under_acts_keep_the_run_law.ensures.runs;
      stands = c.runs_under_acts_keep_the_run_law.ensures.groups;
      scripted = c.scripted_runs_are_right_runs.ensures;
      ends = c.ends_under_acts_are_read_off_the_answers.ensures.ends;
      outputs = c.ends_under_acts_are_read_off_the_answers.ensures.outputs;
    } in
    record {
      same = t.same ∙ i.same;
      ran = group_ended c.args.table.now c.args.other.now c.args.graph.now f rows rest p q kept next row c.rows.outputs c.carry.new.outputs
          c.carry.result first mid last before here after so_far t.turn asked laws i.fair c.in_default.not-Released c.verdict_at.result
          (c.verdict_at.ensures ∙ ap (λ n. verdict_at n c.carry.result) (sym i.cycles));
    }

pub returns : goal.returns
returns g c =
    let i = c.rows.invariant in
    let rows = c.args.rows.now in
    let f = faults_of c.args.scripted.now.carried.items in
    let kept = keeps_of c.rows.scripted.carried.items in
    let before = g.U.Unit.seen c.args.scripted.now.unit.now in
    let now = g.U.Unit.seen c.rows.scripted.unit.now in
    let laws : Laws = record {
      pairs = c.pairs_follow_their_answers.ensures;
      honest = c.one_honest_channel_holds_the_pair.ensures;
      runs = c.runs_under_acts_keep_the_run_law.ensures.runs;
      stands = c.runs_under_acts_keep_the_run_law.ensures.groups;
      scripted = c.scripted_runs_are_right_runs.ensures;
      ends = c.ends_under_acts_are_read_off_the_answers.ensures.ends;
      outputs = c.ends_under_acts_are_read_off_the_answers.ensures.outputs;
    } in
    let over = drop_all rows c.rows.cycle (omega (arith, c.rows-test.false, i.count)) in
    let so_far = subst (λ (xs : List (List ℤ)). GroupSoFar c.args.table.now c.args.other.now c.args.graph.now f rows xs c.rows.pair kept
    c.args.scripted.now.wrong c.rows.scripted.wrong before now) over i.so_far in
    record {
      same = i.same;
      ran = group_over laws c.args.table.now c.args.other.now c.args.graph.now f rows c.rows.pair kept c.args.scripted.now.wrong c.rows.scripted.wrong before
          now i.fair so_far;
    }

pub get-requires-clause-there : goal.get-requires-clause-there
get-requires-clause-there g c = subst (λ n. c.rows.cycle < n) c.rows.invariant.count c.rows-test.true

pub get-requires-clause-width : goal.get-requires-clause-width
get-requires-clause-width g c = subst (λ n. All (λ (row : List ℤ). length row ≡ n) c.args.rows.now) (sym c.rows.invariant.inputs) c.requires.width
