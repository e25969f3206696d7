use Rattle.fault_injector.specs.declared.campaign.reruns.rerun.Work.{Work}
use Rattle.std.proofs.Common.{ap, ◌∙◌, ◌≤◌, length, subst, sym, vec_capacity}
use Rattle.std.proofs.Math.Nat.{le_trans}
use Rattle.std.proofs.lemmas.List.{with_items_is}
use Rattle.coded_machine.specs.CycleEnds.{stored_words}
use Rattle.fault_injector.specs.Touched.{held_marks}
use Rattle.fault_injector.proofs.Crossed.{stored_length}
use Rattle.fault_injector.proofs.campaign.reruns.rerun.cross.Goals as goal

pub returns-clause-past_held : goal.returns-clause-past_held
returns-clause-past_held c = c.copy_words.ensures.items ∙ c.deref.ensures.value

pub returns-clause-cell_marks : goal.returns-clause-cell_marks
returns-clause-cell_marks c = c.mark_cells.ensures.marks ∙ ap (held_marks c.args.graph.now) c.deref-3.ensures.value

pub copy_words-requires : goal.copy_words-requires
copy_words-requires c =
    let w : Work = c.args.work.now in
    subst (λ n. n ≤ vec_capacity w.past_held) (sym (ap length c.deref.ensures.value ∙ c.requires.room.held)) c.requires.room.past_held

pub store_words-requires : goal.store_words-requires
store_words-requires c = record { cells = ap length c.deref_mut.ensures.value ∙ c.requires.room.held }

pub mark_cells-requires : goal.mark_cells-requires
mark_cells-requires c = record { room = c.requires.room.cell_marks }

pub returns-clause-held : goal.returns-clause-held
returns-clause-held c =
    let w : Work = c.args.work.now in
    let is = c.store_words.ensures ∙ ap (stored_words c.args.graph.now) c.deref-2.ensures.value in
    with_items_is w.held c.store_words.new.held
    (ap length is ∙ (stored_length c.args.graph.now w.own.items ∙ (sym c.requires.room.held ∙ sym w.held.ok.0))) ∙ is

pub returns-clause-room : goal.returns-clause-room
returns-clause-room c =
    let w : Work = c.args.work.now in
    let r = c.requires.room in
    record {
      own = subst (λ v. length c.args.graph.now.operations ≤ vec_capacity v) (sym c.swap.ensures.x_after) r.past;
      past = subst (λ v. length c.args.graph.now.operations ≤ vec_capacity v) (sym c.swap.ensures.y_after) r.own;
      touched = r.touched;
      past_held = le_trans r.past_held c.copy_words.ensures.capacity;
      cell_marks = le_trans r.cell_marks c.mark_cells.ensures.capacity;
      marked_by = r.marked_by;
      steady = r.steady;
      held = ap length (returns-clause-held c) ∙ stored_length c.args.graph.now w.own.items;
      inputs = r.inputs;
    }
