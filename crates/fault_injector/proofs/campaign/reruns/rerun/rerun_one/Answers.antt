use Rattle.std.proofs.Common.{◌≡◌, ◌<◌, ◌≤◌, All, List, [], None, refl, ℤ, sym, ap, subst, ◌∙◌, length, slice_get, slice_index_or}
use Rattle.std.proofs.Math.Nat.{le_trans}
use Rattle.std.proofs.lemmas.Option.{get_or_from_slice_get}
use Rattle.coded_unit.specs.declared.call.Answer.{Answer}
use Rattle.vcp_base.specs.Limits.{most_operations}
use Rattle.op_graph.specs.Lists.{Lists}
use Rattle.op_graph.specs.Rules.{IsGraph}
use Rattle.signature_table.specs.Signatures.{IsTableOf, Numbers}
use Rattle.coded_machine.specs.Calls.{AllWords}
use Rattle.coded_machine.specs.CycleEnds.{end_of, first_outside, stored_words}
use Rattle.fault_script.specs.Changes.{acts_of}
use Rattle.fault_injector.specs.Begun.{RanAgain, answers_in}
use Rattle.fault_injector.specs.Crossing.{past_of, Room}
use Rattle.fault_injector.specs.References.{KeptRun}
use Rattle.fault_injector.specs.Reruns.{CycleAgain, cycle_again, stop_in}
use Rattle.fault_injector.specs.Touched.{held_marks}
use Rattle.fault_injector.specs.declared.campaign.reruns.rerun.Work.{Work}
use Rattle.fault_injector.proofs.KeptRuns.{width_there}
use Rattle.fault_injector.proofs.OneCycle.{answers_same, begins_same, marks_same, read_same, rows_same}
use Rattle.fault_injector.proofs.OutputsRead.{none_outside}
use Rattle.fault_injector.proofs.campaign.reruns.rerun.rerun_one.Goals as goal

pub cycle-other-requires : goal.cycle-other-requires
cycle-other-requires g c = c.requires.there

pub end-other_end-requires : goal.end-other_end-requires
end-other_end-requires g c = c.requires.there

pub gather-requires : goal.gather-requires
gather-requires g c = record { room = c.requires.faults }

pub mark_again-requires : goal.mark_again-requires
mark_again-requires g c =
    let r : KeptRun = c.args.reference.now in
    let w : Work = c.args.work.now in
    let room = c.requires.room in
    let there = ap (λ (rows : List (List ℤ)). slice_get rows c.args.n) (sym c.rows.ensures) ∙ c.get.ensures in
    record {
      standing = c.deref.ensures.value ∙ c.gather.ensures.faults;
      room = subst (λ (h : Lists). Room h (record w { inputs = c.get.new.out })) (sym c.graph-graph.ensures) (record {
        own = room.own;
        past = room.past;
        touched = room.touched;
        past_held = room.past_held;
        cell_marks = room.cell_marks;
        marked_by = room.marked_by;
        steady = room.steady;
        held = room.held;
        inputs = width_there r.rows (length r.graph.inputs) c.args.n c.get.new.out c.cycles-cycles.ensures.sound.4 there;
      });
    }

pub rerun_cycle-halted-requires : goal.rerun_cycle-halted-requires
rerun_cycle-halted-requires g c =
    let r : KeptRun = c.args.reference.now in
    let h : Lists = c.graph-graph.result.now in
    let t : Numbers = c.table-table.result.now in
    let cycles = c.cycles-cycles.ensures in
    record {
      empty = c.clear.ensures.items;
      room = subst (λ k. length h.operations ≤ k) (sym c.clear.ensures.capacity) c.mark_again.ensures.room.own;
      few = subst (λ (x : Lists). length x.operations ≤ most_operations) (sym c.graph-graph.ensures) cycles.sound.0.part.few_operations;
      table = subst (λ (x : Numbers). IsTableOf x h) (sym c.table-table.ensures) (subst (IsTableOf r.table) (sym c.graph-graph.ensures) cycles.sound.2);
      standing = c.deref.ensures.value ∙ c.gather.ensures.faults;
      cycle = le_trans c.requires.there (le_trans (subst (λ k. k ≤ length r.rows) cycles.count cycles.few) cycles.sound.3);
    }

pub end_of_answers-end-requires : goal.end_of_answers-end-requires
end_of_answers-end-requires g c =
    let r : KeptRun = c.args.reference.now in
    let h : Lists = c.graph-graph.result.now in
    let t : Numbers = c.table-table.result.now in
    let cycles = c.cycles-cycles.ensures in
    let few = subst (λ (x : Lists). length x.operations ≤ most_operations) (sym c.graph-graph.ensures) cycles.sound.0.part.few_operations in
    record {
      few = subst (λ (xs : List Answer). length xs ≤ most_operations) (sym c.deref-6.ensures.value) (le_trans c.rerun_cycle-halted.ensures.few few);
      words = λ on. subst AllWords (sym c.deref-6.ensures.value) (c.rerun_cycle-halted.ensures.words on);
      graph = subst IsGraph (sym c.graph-graph.ensures) cycles.sound.0;
      table = subst (λ (x : Numbers). IsTableOf x h) (sym c.table-table.ensures) (subst (IsTableOf r.table) (sym c.graph-graph.ensures) cycles.sound.2);
      cycle = le_trans c.requires.there (le_trans (subst (λ k. k ≤ length r.rows) cycles.count cycles.few) cycles.sound.3);
    }

pub returns-clause-faults : goal.returns-clause-faults
returns-clause-faults g c = c.gather.ensures.capacity

pub read-verdict-requires-clause-inside : goal.read-verdict-requires-clause-inside
read-verdict-requires-clause-inside g c = λ released.
    let h : Lists = c.graph-graph.result.now in
    subst (λ (xs : List Answer). first_outside h.profile xs h.outputs ≡ None) (c.deref-6.ensures.value ∙ sym c.deref-7.ensures.value)
    (none_outside h c.table-table.result.now c.args.n c.deref-6.result.now (ap stop_in (sym c.end_of_answers-end.ensures ∙ released)))

pub read-verdict-requires-clause-other_inside : goal.read-verdict-requires-clause-other_inside
read-verdict-requires-clause-other_inside g c = λ none.
    let r : KeptRun = c.args.reference.now in
    let n = c.args.n in
    let other = answers_in c.cycle-other.result in
    let there = get_or_from_slice_get r.answers n other [] c.cycle-other.ensures in
    subst (λ (h : Lists). first_outside h.profile other h.outputs ≡ None) (sym c.graph-graph.ensures)
    (subst (λ (xs : List Answer). first_outside r.graph.profile xs r.graph.outputs ≡ None) there
    (none_outside r.graph r.table n (slice_index_or r.answers n []) (ap stop_in (sym c.end-other_end.ensures) ∙ none)))

pub cross-requires : goal.cross-requires
cross-requires g c =
    let r : KeptRun = c.args.reference.now in
    let room = c.mark_again.ensures.room in
    let operations = ap (λ (h : Lists). length h.operations) c.graph-graph.ensures in
    let stores = ap (λ (h : Lists). length h.stores) c.graph-graph.ensures in
    let inputs = ap (λ (h : Lists). length h.inputs) c.graph-graph.ensures in
    let there = ap (λ (rows : List (List ℤ)). slice_get rows c.args.n) (sym c.rows.ensures) ∙ c.get.ensures in
    record {
      room = record {
        own = le_trans (subst (λ k. length c.graph-graph.result.now.operations ≤ k) (sym c.clear.ensures.capacity) room.own) c.rerun_cycle-halted.ensures.capacity;
        past = room.past;
        touched = room.touched;
        past_held = room.past_held;
        cell_marks = room.cell_marks;
        marked_by = room.marked_by;
        steady = room.steady;
        held = room.held;
        inputs = ap length c.mark_again.ensures.inputs
            ∙ (width_there r.rows (length r.graph.inputs) c.args.n c.get.new.out c.cycles-cycles.ensures.sound.4 there ∙ sym inputs);
      };
    }

pub returns-clause-ran : goal.returns-clause-ran
returns-clause-ran g c = λ row there other answered.
    let r : KeptRun = c.args.reference.now in
    let n = c.args.n in
    let acts = acts_of c.args.group.now in
    let w : Work = c.args.work.now in
    let u : Work = c.cross.new.work in
    let unit = g.U.Unit in
    let before = unit.seen c.args.unit.now in
    let after = unit.seen c.rerun_cycle-halted.new.unit in
    let h : Lists = c.graph-graph.result.now in
    let t = c.table-table.result.now in
    let kept = answers_in c.cycle-other.result in
    let same_other : kept ≡ other = answers_same kept other (sym c.cycle-other.ensures ∙ answered) in
    let row_there = ap (λ (rows : List (List ℤ)). slice_get rows n) (sym c.rows.ensures) ∙ c.get.ensures in
    let same_row : c.get.new.out ≡ row = rows_same c.get.new.out row (sym row_there ∙ there) in
    let marked = c.mark_again.ensures.marks ∙ marks_same r.graph h (acts n) w.cell_marks.items w.cell_marks.items other kept c.graph-graph.ensures
    refl same_other in
    let kept_on = c.mark_again.ensures in
    let begins =
    begins_same r.graph h r.table t acts n w.past_held.items c.deref-3.result.now w.past.items c.deref-4.result.now w.held.items c.deref-2.result.now
    w.cell_marks.items row c.mark_again.new.work.inputs other kept c.deref-5.result.now c.graph-graph.ensures c.table-table.ensures
    (c.deref-3.ensures.value ∙ kept_on.past_held) (c.deref-4.ensures.value ∙ kept_on.past) (c.deref-2.ensures.value ∙ kept_on.held)
    (kept_on.inputs ∙ same_row) same_other (c.deref-5.ensures.value ∙ marked) in
    let past = c.cross.ensures.past in
    let own = c.rerun_cycle-halted.new.own.items in
    let other_end = c.end-other_end.ensures ∙ ap (end_of r.graph r.table n) (get_or_from_slice_get r.answers n other [] answered) in
    record {
      ran =
          subst (λ (xs : List Answer). RanAgain (cycle_again r.table r.graph acts n (past_of w) w.held.items w.cell_marks.items row other) xs
          before.log after.log before.wrong after.wrong) (sym past)
          (subst (λ (b : CycleAgain). RanAgain b own before.log after.log before.wrong after.wrong) begins c.rerun_cycle-halted.ensures.ran);
      past_held = c.cross.ensures.past_held ∙ kept_on.held;
      held =
          c.cross.ensures.held ∙ (ap (λ (x : Lists). stored_words x own) c.graph-graph.ensures ∙ ap (stored_words r.graph) (sym past));
      cell_marks =
          c.cross.ensures.cell_marks
          ∙ (ap (λ (x : Lists). held_marks x c.mark_again.new.work.touched.items) c.graph-graph.ensures ∙ ap (held_marks r.graph) marked);
      verdict =
          c.read-verdict.ensures
          ∙ read_same r.graph h r.table t n u.past.items c.deref-6.result.now c.deref-7.result.now other kept c.end_of_answers-end.result c.end-other_end.result
          c.graph-graph.ensures c.table-table.ensures (c.deref-6.ensures.value ∙ sym past) (c.deref-7.ensures.value ∙ sym past) same_other
          c.end_of_answers-end.ensures other_end;
    }

pub get-requires-clause-there : goal.get-requires-clause-there
get-requires-clause-there g c =
    let r : KeptRun = c.args.reference.now in
    let cycles = c.cycles-cycles.ensures in
    subst (λ (rows : List (List ℤ)). c.args.n < length rows) (sym c.rows.ensures)
    (le_trans c.requires.there (subst (λ k. k ≤ length r.rows) cycles.count cycles.few))

pub get-requires-clause-width : goal.get-requires-clause-width
get-requires-clause-width g c =
    let r : KeptRun = c.args.reference.now in
    let w : Work = c.args.work.now in
    subst (λ (rows : List (List ℤ)). All (λ (row : List ℤ). length row ≡ length w.inputs) rows) (sym c.rows.ensures)
    (subst (λ k. All (λ (row : List ℤ). length row ≡ k) r.rows) (sym c.requires.room.inputs) c.cycles-cycles.ensures.sound.4)

pub returns-clause-room : goal.returns-clause-room
returns-clause-room g c =
    subst (λ (h : Lists). Room h c.cross.new.work) c.graph-graph.ensures c.cross.ensures.room
