use Rattle.std.proofs.Common.{[], ℕ, ◌-◌, ◌<◌, ◌≤◌, ap, arith, length, slice_index_or, subst, sym, ◌≡◌, vec_capacity, ◌∙◌}
use Rattle.std.proofs.Math.Nat.{le_trans}
use Rattle.std.proofs.lemmas.List.{with_items_is}
use Rattle.op_graph.specs.Lists.{Lists}
use Rattle.coded_machine.specs.CycleEnds.{stored_words}
use Rattle.fault_injector.specs.PassedOver.{last_answers}
use Rattle.fault_injector.specs.References.{KeptRun}
use Rattle.fault_injector.specs.Touched.{held_marks}
use Rattle.fault_injector.specs.declared.campaign.reruns.rerun.Work.{Work}
use Rattle.fault_injector.proofs.Crossed.{stored_length}
use Rattle.fault_injector.proofs.campaign.reruns.passing.copy_state.Goals as goal

before_too : (n k m : ℕ) → n < m → n - k < m
before_too n k m there = omega (arith, there)

pub returns-clause-past : goal.returns-clause-past
returns-clause-past c = c.copy_cycle.ensures.items

pub returns-clause-cell_marks : goal.returns-clause-cell_marks
returns-clause-cell_marks c = c.mark_cells.ensures.marks ∙ ap (λ (h : Lists). held_marks h []) c.graph-graph.ensures

pub store_cycle-requires : goal.store_cycle-requires
store_cycle-requires c = record { there = before_too c.args.n 2 _ c.requires.there; room = c.requires.room.past_held }

pub copy_cycle-requires : goal.copy_cycle-requires
copy_cycle-requires c = record { there = before_too c.args.n 1 _ c.requires.there; room = c.requires.room.past }

pub store_words-requires : goal.store_words-requires
store_words-requires c =
    record { cells = ap length c.deref_mut.ensures.value ∙ c.requires.room.held ∙ sym (ap (λ (h : Lists). length h.stores) c.graph-graph.ensures) }

pub mark_cells-requires : goal.mark_cells-requires
mark_cells-requires c =
    let w : Work = c.args.work.now in
    record { room = subst (λ (h : Lists). length h.stores ≤ vec_capacity w.cell_marks) (sym c.graph-graph.ensures) c.requires.room.cell_marks }

two_before : (n : ℕ) → n - 2 ≡ n - 1 - 1
two_before n = omega arith

pub returns-clause-past_held : goal.returns-clause-past_held
returns-clause-past_held c =
    let r : KeptRun = c.args.reference.now in
    c.store_cycle.ensures.items ∙ ap (λ k. stored_words r.graph (slice_index_or r.answers k [])) (two_before c.args.n)

pub returns-clause-held : goal.returns-clause-held
returns-clause-held c =
    let r : KeptRun = c.args.reference.now in
    let w : Work = c.args.work.now in
    let is =
    c.store_words.ensures
    ∙ (ap (λ (h : Lists). stored_words h c.deref.result.now) c.graph-graph.ensures
    ∙ ap (stored_words r.graph) (c.deref.ensures.value ∙ c.copy_cycle.ensures.items)) in
    with_items_is w.held c.store_words.new.held
    (ap length is ∙ (stored_length r.graph (last_answers r c.args.n) ∙ (sym c.requires.room.held ∙ sym w.held.ok.0))) ∙ is

pub returns-clause-room : goal.returns-clause-room
returns-clause-room c =
    let k : KeptRun = c.args.reference.now in
    let r = c.requires.room in
    record {
      own = r.own;
      past = le_trans r.past c.copy_cycle.ensures.capacity;
      touched = r.touched;
      past_held = le_trans r.past_held c.store_cycle.ensures.capacity;
      cell_marks = le_trans r.cell_marks c.mark_cells.ensures.capacity;
      marked_by = r.marked_by;
      steady = r.steady;
      held = ap length (returns-clause-held c) ∙ stored_length k.graph (last_answers k c.args.n);
      inputs = r.inputs;
    }
