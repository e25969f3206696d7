use Rattle.std.proofs.Common.{◌≤◌, vec_capacity, List, Bool, sym, subst, ap, ◌∙◌, length}
use Rattle.std.proofs.Math.Nat.{le_trans}
use Rattle.fault_script.specs.Changes.{acts_of}
use Rattle.fault_injector.specs.Begun.{answers_in}
use Rattle.fault_injector.specs.Touched.{StaysMarked, cycle_marks}
use Rattle.fault_injector.proofs.Untouched.{stays_marked}
use Rattle.fault_injector.proofs.campaign.reruns.rerun.mark_again.Goals as goal

pub returns-clause-room : goal.returns-clause-room
returns-clause-room c =
    let room = c.requires.room in
    let s = c.args.standing.now in
    let g = c.args.graph.now in
    let other = answers_in c.args.other.now in
    let acts = acts_of s.group.now s.cycle in
    let marks = c.mark_operations.new.marks.items in
    record {
      own = room.own;
      past = room.past;
      touched = le_trans room.touched c.mark_operations.ensures.capacity;
      past_held = room.past_held;
      cell_marks = subst (λ v. length g.stores ≤ vec_capacity v) (sym c.swap.ensures.x_after) room.marked_by;
      marked_by = subst (λ v. length g.stores ≤ vec_capacity v) (sym c.swap.ensures.y_after) room.cell_marks;
      steady = λ plain.
          let told = c.is_plain-plain.ensures in
          subst (λ v. StaysMarked g v.items marks) (sym c.swap.ensures.y_after)
          (stays_marked g other acts c.args.work.now.cell_marks.items marks (told.whole plain) (told.none plain)
          (c.mark_operations.ensures.marks ∙ ap (λ (held : List Bool). (cycle_marks g other acts held).given) c.deref.ensures.value));
      held = room.held;
      inputs = room.inputs;
    }
