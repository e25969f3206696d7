use Rattle.std.proofs.Common.{◌≡◌, ◌+◌, ◌++◌, ◌∷◌, [], Bool, List, ℕ, sym, subst, ap, ◌∙◌, arith, drop, length}
use Rattle.std.proofs.Math.Nat.{le_trans}
use Rattle.std.proofs.lemmas.List.{length-append}
use Rattle.op_graph.specs.declared.op.Op.{Op}
use Rattle.fault_script.specs.Changes.{acts_of}
use Rattle.fault_injector.specs.Begun.{answers_in}
use Rattle.fault_injector.specs.Touched.{given_marks, touched_at}
use Rattle.fault_injector.proofs.ListsOfReruns.{drop_there, drop_behind}
use Rattle.fault_injector.proofs.campaign.reruns.marks.mark_operations.Goals as goal

pub operations-init : goal.operations-init
operations-init c =
    let other = answers_in c.args.other.now in
    let acts = acts_of c.args.standing.now.group.now c.args.standing.now.cycle in
    let cells = c.args.cells.now in
    let ops = c.args.graph.now.operations in
    let marks = c.mark_front-front.new.marks.items in
    let begun = c.mark_front-front.ensures in
    record {
      marks =
          subst (λ (n : ℕ). given_marks other acts cells [] 0 ops ≡ given_marks other acts cells marks n (drop n ops)) (sym begun.count)
          (begun.begin other);
      marked = sym begun.count;
      room = begun.capacity;
      all = c.len-count.ensures.count;
    }

pub operations-preserved : goal.operations-preserved
operations-preserved c =
    let i = c.operations.invariant in
    let k = c.operations.k in
    let other = answers_in c.args.other.now in
    let acts = acts_of c.args.standing.now.group.now c.args.standing.now.cycle in
    let cells = c.args.cells.now in
    let ops = c.args.graph.now.operations in
    let rest = drop (k + 1) ops in
    let marks = c.operations.marks.items in
    let told : touched_at other acts (record { held = cells; given = marks }) k c.operation-op.result ≡ c.touched-marked.result =
    ap (λ (ms : List Bool). touched_at other acts (record { held = cells; given = ms }) k c.operation-op.result) (sym c.deref.ensures.value)
    ∙ sym c.touched-marked.ensures in
    record {
      marks = i.marks
          ∙ (ap (λ (left : List Op). given_marks other acts cells marks k left) (drop_there ops k c.operation-op.result c.operation-op.ensures)
          ∙ (ap (λ (b : Bool). given_marks other acts cells (marks ++ b ∷ []) (k + 1) rest) told
          ∙ ap (λ (ms : List Bool). given_marks other acts cells ms (k + 1) rest) (sym c.append.ensures.items)));
      marked = ap length c.append.ensures.items ∙ (length-append marks (c.touched-marked.result ∷ []) ∙ omega (arith, i.marked));
      room = le_trans i.room c.append.ensures.capacity;
      all = i.all;
    }

pub returns-clause-marks : goal.returns-clause-marks
returns-clause-marks c =
    let i = c.operations.invariant in
    let other = answers_in c.args.other.now in
    let acts = acts_of c.args.standing.now.group.now c.args.standing.now.cycle in
    sym (i.marks
    ∙ ap (λ (left : List Op). given_marks other acts c.args.cells.now c.operations.marks.items c.operations.k left)
    (drop_behind c.args.graph.now.operations c.operations.k (omega (arith, c.operations-test.false, i.all))))
