use Rattle.std.proofs.Common.{◌≡◌, ℕ, ◌<◌, ◌≤◌, ◌+◌, ◌*◌, All, List, ℤ, None, vec_capacity, sym, ap, subst, ◌∙◌, arith, take, length}
use Rattle.std.proofs.Math.Nat.{le_of_eq, le_trans}
use Rattle.std.proofs.lemmas.List.{length-append}
use Rattle.vcp_base.specs.Limits.{most_cycles}
use Rattle.op_graph.specs.Lists.{Lists}
use Rattle.coded_machine.specs.declared.cycle_end.CycleEnd.{CycleEnd}
use Rattle.coded_machine.specs.declared.cycle_end.CycleEnd.TheVariants as end
use Rattle.coded_machine.specs.Runs.{RunSoFar, Turn}
use Rattle.coded_machine.specs.State.{State}
use Rattle.fault_injector.specs.Kept.{front_words}
use Rattle.fault_injector.specs.References.{RanOver, kept_cycles}
use Rattle.fault_injector.proofs.KeptAnswers.{whole_few, words_counted}
use Rattle.fault_injector.proofs.KeptRuns.{run_first, run_on, run_ended, run_whole, width_there, room_for, flat_more, nothing_flat, cycles_below}
use Rattle.fault_injector.proofs.campaign.reruns.kept.keep_run.Goals as goal

pub cycles-preserved : goal.cycles-preserved
cycles-preserved g c =
    let i = c.cycles.invariant in
    let unit = g.U.Unit in
    let m : State = c.cycles.machine in
    let f : State = c.args.machine.now in
    let n : State = c.cycle-end.new.self in
    let rows = c.args.rows.now in
    let words = c.cycles.words.items in
    let first = unit.seen c.args.unit.now in
    let before = unit.seen c.cycles.unit in
    let after = unit.seen c.cycle-end.new.unit in
    let turn =
    subst (λ (e : CycleEnd). Turn m n c.get.new.out e before.log after.log before.wrong after.wrong) c.in-Released.is
    (c.cycle-end.ensures.turn i.run.going) in
    let accepted = (c.cycle-end.ensures.accepted.0 c.in-Released.is).1 in
    let all = accepted.all ∙ ap (λ (h : Lists). length h.operations) i.run.graph in
    let run =
    run_on c.runs_follow_their_answers.ensures f.graph f.table rows c.cycles.i c.get.new.out words m n first.log before.log after.log first.wrong
    before.wrong after.wrong i.run i.flat c.get.ensures turn accepted.words all in
    let kept = c.keep_words-all.ensures.words in
    let more = words_counted n.answers accepted.words in
    record {
      run =
          subst (λ (ws : List ℤ). RunSoFar f.graph f.table (take (c.cycles.i + 1) rows) (kept_cycles (length f.graph.operations) (c.cycles.i + 1) ws None) n
          first.log after.log first.wrong after.wrong) (sym kept) run;
      between = c.cycle-end.ensures.between;
      flat = ap length kept ∙ (length-append words (front_words n.answers) ∙ flat_more _ _ c.cycles.i _ i.flat (more ∙ all));
      room = le_trans i.room c.keep_words-all.ensures.capacity;
      inputs = width_there rows (length f.graph.inputs) c.cycles.i c.get.new.out c.requires.width c.get.ensures;
      outputs = c.cycle-end.ensures.width ∙ i.outputs;
      count = i.count;
    }

pub returns-in_default : goal.returns-in_default
returns-in_default g c =
    let i = c.cycles.invariant in
    let unit = g.U.Unit in
    let m : State = c.cycles.machine in
    let f : State = c.args.machine.now in
    let n : State = c.cycle-end.new.self in
    let rows = c.args.rows.now in
    let words = c.cycles.words.items in
    let e = c.cycle-end.result in
    let size = length f.graph.operations in
    let first = unit.seen c.args.unit.now in
    let before = unit.seen c.cycles.unit in
    let after = unit.seen c.cycle-end.new.unit in
    let turn = c.cycle-end.ensures.turn i.run.going in
    let graph = ap (λ (h : Lists). length h.operations) (c.cycle-end.ensures.graph ∙ i.run.graph) in
    let all = c.keep_words-all.ensures in
    let result = c.ended.result in
    let over =
    run_ended c.runs_follow_their_answers.ensures f.graph f.table rows c.cycles.i c.get.new.out words m n e first.log before.log after.log first.wrong
    before.wrong after.wrong c.keep_words-all.result result.whole result.stop i.run i.flat c.get.ensures turn c.in_default.not-Released
    (λ yes. all.all yes ∙ graph)
    (λ no. subst (λ (k : ℕ). length (front_words n.answers) < k) graph (all.stopped no)) c.ended.ensures.whole c.ended.ensures.released c.ended.ensures.part c.ended.ensures.stopped in
    let kept = c.ended.ensures.words ∙ all.words in
    record {
      there = subst (λ (ws : List ℤ). result.whole * size ≤ length ws) (sym kept) over.1;
      ran =
          subst (λ (x : CycleEnd). RanOver f.graph f.table rows (kept_cycles size result.whole result.words.items result.stop) x
          first.log after.log first.wrong after.wrong) (sym c.ended.ensures.end)
          (subst (λ (ws : List ℤ). RanOver f.graph f.table rows (kept_cycles size result.whole ws result.stop) e
          first.log after.log first.wrong after.wrong) (sym kept) over.0);
    }

pub keep_words-all-requires-clause-few : goal.keep_words-all-requires-clause-few
keep_words-all-requires-clause-few g c =
    let i = c.cycles.invariant in
    let m : State = c.cycles.machine in
    let n : State = c.cycle-end.new.self in
    let same = ap (λ (h : Lists). length h.operations) c.cycle-end.ensures.graph in
    subst (λ (k : ℕ). length n.answers ≤ k) (sym same) (whole_few m.graph.operations n.answers (c.cycle-end.ensures.whole i.run.going))

pub cycles-init : goal.cycles-init
cycles-init g c =
    let f : State = c.args.machine.now in
    let first = g.U.Unit.seen c.args.unit.now in
    record {
      run = run_first c.runs_follow_their_answers.ensures c.args.rows.now c.args.words.items f first.log first.wrong c.requires.fresh;
      between = ap (λ (s : State). s.under_way) c.requires.fresh;
      flat = nothing_flat c.args.words.items (length f.graph.operations) c.requires.empty;
      room = c.requires.room;
      inputs = c.requires.inputs;
      outputs = c.requires.outputs;
      count = c.len-count.ensures.length;
    }

pub get-requires-clause-there : goal.get-requires-clause-there
get-requires-clause-there g c = subst (λ (n : ℕ). c.cycles.i < n) c.cycles.invariant.count c.cycles-test.true

pub get-requires-clause-width : goal.get-requires-clause-width
get-requires-clause-width g c =
    subst (λ (n : ℕ). All (λ (row : List ℤ). length row ≡ n) c.args.rows.now) (sym c.cycles.invariant.inputs) c.requires.width

pub cycle-end-requires-clause-cycle : goal.cycle-end-requires-clause-cycle
cycle-end-requires-clause-cycle g c =
    let i = c.cycles.invariant in
    let below = subst (λ (n : ℕ). c.cycles.i < n) i.count c.cycles-test.true in
    cycles_below c.args.rows.now c.cycles.i _ _ most_cycles i.run.many_rows i.run.many_cycles below c.requires.few

pub cycle-end-requires-clause-between : goal.cycle-end-requires-clause-between
cycle-end-requires-clause-between g c = c.cycles.invariant.between

pub cycle-end-requires-clause-out : goal.cycle-end-requires-clause-out
cycle-end-requires-clause-out g c = c.cycles.invariant.outputs ∙ ap (λ (h : Lists). length h.outputs) (sym c.cycles.invariant.run.graph)

pub keep_words-all-requires-clause-room : goal.keep_words-all-requires-clause-room
keep_words-all-requires-clause-room g c =
    let i = c.cycles.invariant in
    let f : State = c.args.machine.now in
    let words = c.cycles.words in
    let below = subst (λ (n : ℕ). c.cycles.i < n) i.count c.cycles-test.true in
    let same = ap (λ (h : Lists). length h.operations) (c.cycle-end.ensures.graph ∙ i.run.graph) in
    subst (λ (k : ℕ). length words.items + k ≤ vec_capacity words) (sym same)
    (room_for (length words.items) (length f.graph.operations) c.cycles.i (length c.args.rows.now) (vec_capacity words) i.flat below i.room)

pub ended-requires : goal.ended-requires
ended-requires g c =
    let below = subst (λ (n : ℕ). c.cycles.i < n) c.cycles.invariant.count c.cycles-test.true in le_trans below c.requires.few

pub returns-clause-there : goal.returns-clause-there
returns-clause-there g c =
    let i = c.cycles.invariant in
    let f : State = c.args.machine.now in
    let all : c.cycles.i ≡ c.len-count.result = omega (arith, c.cycles-test.false, c.cycles.auto.i-end) in
    subst (λ (k : ℕ). k * length f.graph.operations ≤ length c.cycles.words.items) all (le_of_eq (sym i.flat))

pub returns-clause-ran : goal.returns-clause-ran
returns-clause-ran g c =
    let i = c.cycles.invariant in
    let unit = g.U.Unit in
    let m : State = c.cycles.machine in
    let f : State = c.args.machine.now in
    let first = unit.seen c.args.unit.now in
    let now = unit.seen c.cycles.unit in
    let all : c.cycles.i ≡ c.len-count.result = omega (arith, c.cycles-test.false, c.cycles.auto.i-end) in
    let whole : c.cycles.i ≡ length c.args.rows.now = omega (arith, all, i.count) in
    subst (λ (k : ℕ). RanOver f.graph f.table c.args.rows.now (kept_cycles (length f.graph.operations) k c.cycles.words.items None) end.Released
    first.log now.log first.wrong now.wrong) all
    (run_whole c.runs_follow_their_answers.ensures f.graph f.table c.args.rows.now c.cycles.i
    (kept_cycles (length f.graph.operations) c.cycles.i c.cycles.words.items None) m first.log now.log first.wrong now.wrong i.run whole)
