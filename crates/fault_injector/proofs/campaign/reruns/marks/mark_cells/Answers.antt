use Rattle.std.proofs.Common.{◌≡◌, ℕ, ◌+◌, ◌++◌, ◌∷◌, [], Bool, List, sym, ap, ◌∙◌, arith, drop, get_or, length, map}
use Rattle.std.proofs.Math.Nat.{le_trans}
use Rattle.std.proofs.lemmas.List.{append_assoc, append-nil, length-append}
use Rattle.fault_injector.specs.Touched.{mark}
use Rattle.fault_injector.proofs.ListsOfReruns.{drop_behind, drop_read}
use Rattle.fault_injector.proofs.campaign.reruns.marks.mark_cells.Goals as goal

pub cells-preserved : goal.cells-preserved
cells-preserved c =
    let i = c.cells.invariant in
    let k = c.cells.i in
    let given = c.args.given.now in
    let stores = c.args.graph.now.stores in
    let marks = c.cells.marks.items in
    let later = map (λ n. mark given n) (drop (k + 1) stores) in
    let there = drop_read stores k (omega (arith, c.cells-test.true, ap length i.stores)) in
    let told : mark given (get_or stores k 0) ≡ c.mark.result =
    ap (λ (ns : List ℕ). mark given (get_or ns k 0)) (sym i.stores) ∙ sym c.mark.ensures in
    record {
      marks = i.marks
          ∙ (ap (λ (left : List ℕ). marks ++ map (λ n. mark given n) left) there
          ∙ (ap (λ (b : Bool). marks ++ b ∷ later) told
          ∙ (sym (append_assoc marks (c.mark.result ∷ []) later) ∙ ap (λ (ms : List Bool). ms ++ later) (sym c.append.ensures.items))));
      marked = ap length c.append.ensures.items ∙ (length-append marks (c.mark.result ∷ []) ∙ omega (arith, i.marked));
      room = le_trans i.room c.append.ensures.capacity;
      stores = i.stores;
    }

pub returns-clause-marks : goal.returns-clause-marks
returns-clause-marks c =
    let i = c.cells.invariant in
    let given = c.args.given.now in
    sym (i.marks
    ∙ (ap (λ (left : List ℕ). c.cells.marks.items ++ map (λ n. mark given n) left)
    (drop_behind c.args.graph.now.stores c.cells.i (omega (arith, c.cells-test.false, ap length i.stores))) ∙ append-nil c.cells.marks.items))
