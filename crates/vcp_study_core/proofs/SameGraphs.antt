-- SameGraphs: graphs that differ in places of the source alone are told alike, but for the place of a stop.
use Rattle.std.proofs.Common.{◌≡◌, ℤ, ◌++◌, refl, sym, ap, ◌∙◌, List, [], ◌∷◌, map, slice_get, option_map, Option, Some, None, Ok, Err}
use Rattle.std.proofs.lemmas.Option.{slice_get-map}
use Rattle.vcp_base.specs.Kinds.{Outcome}
use Rattle.vcp_base.specs.Stops.{ToldStop}
use Rattle.vcp_base.specs.declared.kind.StopKind.{StopKind}
use Rattle.op_graph.specs.Lists.{Lists}
use Rattle.op_graph.specs.declared.op.Op.{Op}
use Rattle.op_graph.specs.GraphRun.{Cycle, Run, Stop, after, after_cycle, cycle, cycle_from, graph_run, initial, outcome_of, outputs, run_from, stored}
use Rattle.flat_expr.specs.Told.{Told, graph_end, halted_at, told_graph}
use Rattle.vcp_study_core.specs.SameGraphs.{AreSameButForPlaces, told_anywhere, unplaced, unplaced_end, unplaced_graph}

-- ---- a run doesn't look at places

after_same : (values : List ℤ) (o : Outcome) (f h : ℤ → Cycle) → ((v : ℤ) → f v ≡ h v) → after values f o ≡ after values h o
after_same values (Ok v) f h same = same v
after_same values (Err why) f h same = refl

cycle_same : (cells row values : List ℤ) (ops : List Op) → cycle_from cells row values (map unplaced ops) ≡ cycle_from cells row values ops
cycle_same cells row values [] = refl
cycle_same cells row values (op ∷ ops) =
    after_same values (outcome_of cells row values op) (λ v. cycle_from cells row (values ++ v ∷ []) (map unplaced ops))
    (λ v. cycle_from cells row (values ++ v ∷ []) ops) (λ v. cycle_same cells row (values ++ v ∷ []) ops)

further_same : (g : Lists) (values : List ℤ) (o : Option StopKind) (f h : List ℤ → Run) → ((m : List ℤ) → f m ≡ h m)
    → after_cycle g values f o ≡ after_cycle g values h o
further_same g values None f h same =
    ap (λ (r : Run). record { rows = outputs g values ∷ r.rows; end = r.end }) (same (stored g values))
further_same g values (Some why) f h same = refl

run_same : (g : Lists) (cells : List ℤ) (rows : List (List ℤ)) → run_from (unplaced_graph g) cells rows ≡ run_from g cells rows
run_same g cells [] = refl
run_same g cells (row ∷ rows) =
    let next : List ℤ → Run = λ held. run_from (unplaced_graph g) held rows in
    let same : cycle (unplaced_graph g) cells row ≡ cycle g cells row = cycle_same cells row [] g.operations in
    ap (λ (c : Cycle). after_cycle g c.values next c.stop) same
    ∙ further_same g (cycle g cells row).values (cycle g cells row).stop next (λ held. run_from g held rows) (λ held. run_same g held rows)

-- ---- nor does what is told of it, but for the place of its stop

halted_same : (g : Lists) (why : StopKind) (o : Option Op)
    → unplaced_end (halted_at (unplaced_graph g) why (option_map unplaced o)) ≡ unplaced_end (halted_at g why o)
halted_same g why None = refl
halted_same g why (Some op) = refl

end_same : (g : Lists) (e : Option Stop) → unplaced_end (graph_end (unplaced_graph g) e) ≡ unplaced_end (graph_end g e)
end_same g None = refl
end_same g (Some s) =
    ap (λ (o : Option Op). unplaced_end (halted_at (unplaced_graph g) s.kind o)) (slice_get-map unplaced g.operations s.op)
    ∙ halted_same g s.kind (slice_get g.operations s.op)

abbrev told_by : Lists → Run → Told
told_by g r = record { rows = r.rows; end = unplaced_end (graph_end g r.end) }

unplaced_told : (g : Lists) (rows : List (List ℤ)) → told_anywhere (told_graph (unplaced_graph g) rows) ≡ told_anywhere (told_graph g rows)
unplaced_told g rows =
    let run : graph_run (unplaced_graph g) rows ≡ graph_run g rows = run_same g (initial g) rows in
    let by_run : told_anywhere (told_graph (unplaced_graph g) rows) ≡ told_by (unplaced_graph g) (graph_run g rows) =
    ap (λ (r : Run). record { rows = r.rows; end = unplaced_end (graph_end (unplaced_graph g) r.end) }) run in
    by_run ∙ ap (λ (e : Option ToldStop). record { rows = (graph_run g rows).rows; end = e }) (end_same g (graph_run g rows).end)

pub told_alike : (g h : Lists) → AreSameButForPlaces g h → (rows : List (List ℤ))
    → told_anywhere (told_graph g rows) ≡ told_anywhere (told_graph h rows)
told_alike g h same rows =
    sym (unplaced_told g rows) ∙ ap (λ (x : Lists). told_anywhere (told_graph x rows)) same ∙ unplaced_told h rows
