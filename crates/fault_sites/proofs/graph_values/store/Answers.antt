use Rattle.std.proofs.Common.{◌≡◌, ℕ, ℤ, ◌+◌, ◌++◌, ◌∷◌, [], List, sym, ap, ◌∙◌, arith, drop, get_or, length, map, w64, SFits, rules}
use Rattle.std.proofs.lemmas.Int.{to_z-of_z}
use Rattle.std.proofs.lemmas.List.{append_assoc, append-nil, length-append}
use Rattle.vcp_base.specs.Values.{at}
use Rattle.fault_sites.proofs.Lists.{drop_behind, drop_read}
use Rattle.fault_sites.proofs.graph_values.store.Goals as goal

pub cells-preserved : goal.cells-preserved
cells-preserved c =
    let i = c.cells.invariant in
    let k = c.cells.i in
    let given = c.args.values.now in
    let stores = c.args.graph.now.stores in
    let cells = c.cells.cells.items in
    let later = map (λ n. at given n) (drop (k + 1) stores) in
    let there = drop_read stores k (omega (arith, c.cells-test.true, ap length i.stores)) in
    let told : at given (get_or stores k 0) ≡ c.at.result =
    ap (λ (ns : List ℕ). at given (get_or ns k 0)) (sym i.stores) ∙ sym c.at.ensures in
    let fits : SFits w64 c.at.result = search rules in
    let pushed : c.append.new.values.items ≡ cells ++ c.at.result ∷ [] =
    c.append.ensures.items ∙ ap (λ (v : ℤ). cells ++ v ∷ []) (to_z-of_z w64 c.at.result fits) in
    record {
      left = i.left
          ∙ (ap (λ (left : List ℕ). cells ++ map (λ n. at given n) left) there
          ∙ (ap (λ (v : ℤ). cells ++ v ∷ later) told
          ∙ (sym (append_assoc cells (c.at.result ∷ []) later) ∙ ap (λ (vs : List ℤ). vs ++ later) (sym pushed))));
      given = ap length pushed ∙ (length-append cells (c.at.result ∷ []) ∙ omega (arith, i.given));
      room = omega (arith, i.room, c.append.ensures.capacity);
      stores = i.stores;
    }

pub returns-clause-cells : goal.returns-clause-cells
returns-clause-cells c =
    let i = c.cells.invariant in
    let given = c.args.values.now in
    sym (i.left
    ∙ (ap (λ (left : List ℕ). c.cells.cells.items ++ map (λ n. at given n) left)
    (drop_behind c.args.graph.now.stores c.cells.i (omega (arith, c.cells-test.false, ap length i.stores))) ∙ append-nil c.cells.cells.items))
