-- Renumbering: a closed part of a graph means the same.
use Rattle.std.proofs.Common.{◌≡◌, ℕ, suc, ◌+◌, ◌<◌, ℤ, true, List, [], ◌∷◌, length, map, slice_get, Option, Some, None, refl, sym, ap, subst, ◌∙◌, arith}
use Rattle.vcp_base.specs.declared.kind.StopKind.{StopKind}
use Rattle.vcp_base.specs.Values.{at}
use Rattle.op_graph.specs.declared.op.Outlet.{Outlet}
use Rattle.op_graph.specs.Lists.{Lists, output_column}
use Rattle.op_graph.specs.Rules.{IsGraph}
use Rattle.op_graph.specs.GraphRun.{cycle, initial, stored, outputs, Run, after_cycle, run_from}
use Rattle.graph_passes.specs.Part.{Numbering, chosen, moved, moved_output, moved_load, part_of, IsClosed}
use Rattle.graph_passes.specs.SameRun.{SamePlace, SameEnd, MeansAs}
use Rattle.graph_passes.proofs.Chosen.{map_at, get_there, chosen_at, chosen_no_more}
use Rattle.graph_passes.proofs.Cycles.{Laws, Setting, Agrees, SameCycle, cycle_same}

-- ---- outputs and cells

outputs_from : (m : Numbering) (vs ws : List ℤ) (xs : List Outlet) → ((k : ℕ) (o : Outlet) → slice_get xs k ≡ Some o → at ws (m.number o.op) ≡ at vs o.op) →
    map (λ o. at vs o.op) xs ≡ map (λ o. at ws o.op) (map (moved_output m) xs)
outputs_from m vs ws [] same = refl
outputs_from m vs ws (o ∷ xs) same = ap (λ v. v ∷ map (λ p. at vs p.op) xs) (sym (same 0 o refl))
    ∙ ap (λ l. at ws (m.number o.op) ∷ l) (outputs_from m vs ws xs (λ k p there. same (suc k) p there))

outputs_same : (m : Numbering) (g : Lists) (cells held row : List ℤ) (s : Setting m g cells held) (vs ws : List ℤ) →
    Agrees m g.operations held row (length g.operations) vs ws → outputs g vs ≡ outputs (part_of m g) ws
outputs_same m g cells held row s vs ws a =
    outputs_from m vs ws g.outputs (λ k o there. a.same o.op (s.laws.entries.output g k o s.graph.part there).operation (s.closed.outputs k o there))

-- the cells hold the same after the cycle
cells_same : (m : Numbering) (g : Lists) (cells held row : List ℤ) (s : Setting m g cells held) (vs ws : List ℤ) →
    Agrees m g.operations held row (length g.operations) vs ws →
    (k : ℕ) → k < length g.stores → m.kept_cell k ≡ true → at (stored (part_of m g) ws) (m.cell_number k) ≡ at (stored g vs) k
cells_same m g cells held row s vs ws a k lt kept =
    let n = get_there g.stores k lt in
    let place : slice_get (chosen m.kept_cell m.number 0 g.stores) (m.cell_number k) ≡ Some (m.number n.0) = ap (slice_get
    (chosen m.kept_cell m.number 0 g.stores)) (s.closed.cell_number k kept) ∙ chosen_at m.kept_cell m.number k n.0 g.stores n.1 kept in
    map_at (λ j. at ws j) (chosen m.kept_cell m.number 0 g.stores) (m.cell_number k) (m.number n.0) place
    ∙ a.same n.0 (s.laws.entries.store g k n.0 s.graph.part n.1).store (s.closed.stores k n.0 n.1 kept)
    ∙ sym (map_at (λ j. at vs j) g.stores k n.0 n.1)

pub first_same : (m : Numbering) (g : Lists) → IsGraph g → IsClosed m g → (k : ℕ) → k < length g.stores → m.kept_cell k ≡ true →
    at (initial (part_of m g)) (m.cell_number k) ≡ at (initial g) k
first_same m g graph closed k lt kept =
    let all = graph.all_stored in
    let l = get_there g.loads k (omega (arith, lt, all)) in
    let place : slice_get (chosen m.kept_cell (moved_load m) 0 g.loads) (m.cell_number k) ≡ Some (moved_load m l.0) = ap (slice_get (chosen m.kept_cell
    (moved_load m) 0 g.loads)) (closed.cell_number k kept) ∙ chosen_at m.kept_cell (moved_load m) k l.0 g.loads l.1 kept in
    map_at (λ x. x.init) (chosen m.kept_cell (moved_load m) 0 g.loads) (m.cell_number k) (moved_load m l.0) place
    ∙ sym (map_at (λ x. x.init) g.loads k l.0 l.1)

-- ---- the run

pub record SameFrom (g h : Lists) (a b : Run) : Type 0 where
  pub rows : a.rows ≡ b.rows
  pub end : SameEnd g h a.end b.end

pub after_same : (g h : Lists) (vs ws : List ℤ) (next follow : List ℤ → Run) (s : Option StopKind) → (s ≡ None → outputs g vs ≡ outputs h ws) → (s ≡ None →
    SameFrom g h (next (stored g vs)) (follow (stored h ws))) →
    ((why : StopKind) → s ≡ Some why → SamePlace (slice_get g.operations (length vs)) (slice_get h.operations (length ws))) →
    SameFrom g h (after_cycle g vs next s) (after_cycle h ws follow s)
after_same g h vs ws next follow None same rest place =
    let r = rest refl in
    record { rows = ap (λ o. o ∷ (next (stored g vs)).rows) (same refl) ∙ ap (λ l. outputs h ws ∷ l) r.rows; end = r.end }
after_same g h vs ws next follow (Some why) same rest place = record { rows = refl; end = (refl, place why refl) }

run_same : (m : Numbering) (g : Lists) (rows : List (List ℤ)) (cells held : List ℤ) → Setting m g cells held →
    SameFrom g (part_of m g) (run_from g cells rows) (run_from (part_of m g) held rows)
run_same m g [] cells held s = record { rows = refl; end = tt }
run_same m g (row ∷ rows) cells held s =
    let h = part_of m g in
    let c = cycle g cells row in
    let d = cycle h held row in
    let nothing : Agrees m g.operations held row 0 [] [] = record {
      whole = refl;
      part = refl;
      there = λ k lt stands. absurd
          (omega arith);
      same = λ k lt stands. absurd (omega arith);
      settled = λ k op lt kept there. absurd (omega arith);
    } in
    let same : SameCycle m g held row c d = cycle_same m g cells held row s 0 g.operations (λ k. ap (slice_get g.operations)
    (let e : k ≡ 0 + k = omega arith in e)) (omega arith) [] [] nothing (s.laws.operands.cycle g cells row s.graph s.fit) in
    let went : SameFrom g h (after_cycle g c.values (λ kept. run_from g kept rows) c.stop) (after_cycle h d.values (λ kept. run_from h kept rows) c.stop) =
    after_same g h c.values d.values (λ kept. run_from g kept rows) (λ kept. run_from h kept rows) c.stop
    (λ e. outputs_same m g cells held row s c.values d.values (same.whole e))
    (λ e. run_same m g rows (stored g c.values) (stored h d.values) (record {
      laws = s.laws;
      graph = s.graph;
      closed = s.closed;
      fit = s.laws.operands.cells_kept g cells row s.graph s.fit e;
      same = cells_same m g cells held row s c.values d.values (same.whole e);
    }))
    same.halted in
    subst (λ e. SameFrom g h (after_cycle g c.values (λ kept. run_from g kept rows) c.stop) (after_cycle h d.values (λ kept. run_from h kept rows) e))
    (sym same.stop) went

columns_same : (m : Numbering) (names : List (List ℕ)) (xs : List Outlet) → map (output_column names) (map (moved_output m) xs) ≡ map (output_column names) xs
columns_same m names [] = refl
columns_same m names (o ∷ xs) = ap (λ l. output_column names o ∷ l) (columns_same m names xs)

pub part_means : (laws : Laws) (m : Numbering) (g : Lists) → IsGraph g → IsClosed m g → MeansAs g (part_of m g)
part_means laws m g graph closed = record {
  profile = refl;
  names = refl;
  inputs = refl;
  columns = columns_same m g.names g.outputs;
  turn_nodes = refl;
  no_more = chosen_no_more m.kept (moved m) 0 g.operations;
  runs = λ rows. let r = run_same m g rows (initial g) (initial (part_of m g)) (record {
    laws = laws;
    graph = graph;
    closed = closed;
    fit = laws.operands.cells_at_first g graph;
    same = first_same m g graph closed;
  }) in record { outputs = r.rows; end = r.end };
}
