use Rattle.std.proofs.Common.{◌≡◌, ◌∷◌, [], false, List, Bool, ℕ, sym, subst, ap, ◌∙◌, arith, length}
use Rattle.std.proofs.Math.Nat.{le_trans}
use Rattle.std.proofs.lemmas.List.{length-append}
use Rattle.fault_script.specs.Changes.{acts_of}
use Rattle.fault_injector.specs.Touched.{BeginMarks, mark}
use Rattle.fault_injector.proofs.ListsOfReruns.{there_is}
use Rattle.fault_injector.proofs.Untouched.{front_more, none_more}
use Rattle.fault_injector.proofs.campaign.reruns.marks.mark_front.Goals as goal

pub front-preserved : goal.front-preserved
front-preserved c =
    let i = c.front.invariant in
    let s = c.args.standing.now in
    let acts = acts_of s.group.now s.cycle in
    let cells = c.args.cells.now in
    let marks = c.front.marks.items in
    let front = c.untouched_front-front.ensures in
    let longer = length-append marks (false ∷ []) in
    let there = there_is c.args.graph.now.operations (length marks) (omega (arith, i.marked, i.within, c.front-test.true)) in
    let none = front.faults (length marks) (omega (arith, i.marked, c.front-test.true)) in
    let begin =
    front_more c.args.graph.now acts cells marks there.0 there.1 none (front.cells (omega (arith, c.front-test.true))) i.none i.begin in
    record {
      begin =
          subst (BeginMarks c.args.graph.now acts cells) (sym c.append.ensures.items) begin;
      none = subst (λ (ms : List Bool). (k : ℕ) → mark ms k ≡ false) (sym c.append.ensures.items) (none_more marks i.none);
      marked = ap length c.append.ensures.items ∙ (longer ∙ omega (arith, i.marked));
      within = i.within;
      room = le_trans i.room c.append.ensures.capacity;
    }
