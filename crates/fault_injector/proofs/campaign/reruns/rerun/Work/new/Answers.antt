use Rattle.std.proofs.Common.{ℕ, ◌≤◌, ◌∙◌, ap, subst, length, vec_capacity}
use Rattle.std.proofs.lemmas.Bool.{false≢true}
use Rattle.std.proofs.lemmas.List.{length-replicate}
use Rattle.std.proofs.lemmas.Result.{IfOk-from_err}
use Rattle.op_graph.specs.Lists.{Lists}
use Rattle.signature_table.specs.Signatures.{Numbers}
use Rattle.coded_machine.specs.CycleEnds.{initial_words}
use Rattle.fault_injector.specs.References.{KeptRun}
use Rattle.fault_injector.proofs.campaign.reruns.rerun.Work.new.Goals as goal

pub returns-in_err-held : goal.returns-in_err-held
returns-in_err-held c = IfOk-from_err c.from_residual.result _ c.from_residual.ensures.0

pub returns-in_err-inputs : goal.returns-in_err-inputs
returns-in_err-inputs c = IfOk-from_err c.from_residual-in_err-inputs.result _ c.from_residual-in_err-inputs.ensures.0

pub returns : goal.returns
returns c =
    let r : KeptRun = c.args.reference.now in
    let graph = c.graph-graph.ensures in
    let operations = c.len-operations.ensures.count ∙ ap (λ (h : Lists). length h.operations) graph in
    let cells = c.cells-cells.ensures.stores ∙ ap (λ (h : Lists). length h.stores) graph in
    let six = c.if-full.false in
    let five = c.with_room-6.ensures.before six in
    let four = c.with_room-5.ensures.before five in
    let three = c.with_room-4.ensures.before four in
    let two = c.with_room-3.ensures.before three in
    let one = c.with_room-2.ensures.before two in
    record {
      room = record {
        own = subst (λ (n : ℕ). n ≤ vec_capacity c.with_room.result) operations (c.with_room.ensures.room one);
        past = subst (λ (n : ℕ). n ≤ vec_capacity c.with_room-2.result) operations (c.with_room-2.ensures.room two);
        touched = subst (λ (n : ℕ). n ≤ vec_capacity c.with_room-4.result) operations (c.with_room-4.ensures.room four);
        past_held = subst (λ (n : ℕ). n ≤ vec_capacity c.with_room-3.result) cells (c.with_room-3.ensures.room three);
        cell_marks = subst (λ (n : ℕ). n ≤ vec_capacity c.with_room-5.result) cells (c.with_room-5.ensures.room five);
        marked_by = subst (λ (n : ℕ). n ≤ vec_capacity c.with_room-6.result) cells (c.with_room-6.ensures.room six);
        steady = λ is. absurd (false≢true is);
        held = c.in_ok-held.ensures.count ∙ ap (λ (h : Lists). length h.stores) graph;
        inputs = ap length c.in_ok-inputs.ensures ∙ (length-replicate _ _ ∙ (c.inputs.ensures ∙ ap (λ (h : Lists). length h.inputs) graph));
      };
      held = c.in_ok-held.ensures.words
          ∙ (ap (λ (h : Lists). initial_words h c.table-table.result.now.seed) graph ∙ ap (λ (t : Numbers). initial_words r.graph t.seed) c.table-table.ensures);
      past = c.with_room-2.ensures.empty;
      past_held = c.with_room-3.ensures.empty;
      cell_marks = c.with_room-5.ensures.empty;
    }
