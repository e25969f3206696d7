use Rattle.std.proofs.Common.{◌≡◌, ◌≤◌, ◌+◌, ◌++◌, ◌∷◌, [], ℕ, ℤ, List, sym, ap, ◌∙◌, arith, drop, length, w64, SFits, rules}
use Rattle.std.proofs.lemmas.Int.{to_z-of_z}
use Rattle.std.proofs.lemmas.List.{length-append}
use Rattle.vcp_base.specs.Kinds.{Outcome}
use Rattle.op_graph.specs.declared.op.Op.{Op}
use Rattle.op_graph.specs.GraphRun.{Cycle, after, cycle_from, outcome_of}
use Rattle.fault_sites.proofs.Lists.{drop_behind, drop_there}
use Rattle.fault_sites.proofs.graph_values.run_cycle.Goals as goal

-- the cycle that is left, by what the operation gave
step : (cells row values : List ℤ) (ops rest : List Op) (op : Op) (o : Outcome) → ops ≡ op ∷ rest → o ≡ outcome_of cells row values op
    → cycle_from cells row values ops ≡ after values (λ v. cycle_from cells row (values ++ v ∷ []) rest) o
step cells row values ops rest op o cut told =
    ap (λ (xs : List Op). cycle_from cells row values xs) cut
    ∙ ap (λ (r : Outcome). after values (λ v. cycle_from cells row (values ++ v ∷ []) rest) r) (sym told)

pub operations-preserved : goal.operations-preserved
operations-preserved c =
    let i = c.operations.invariant in
    let k = c.operations.k in
    let cells = c.args.cells.now in
    let row = c.args.row.now in
    let ops = c.args.graph.now.operations in
    let values = c.operations.values.items in
    let told : c.outcome.result ≡ outcome_of cells row values c.operation-op.result =
    c.outcome.ensures ∙ ap (λ (vs : List ℤ). outcome_of cells row vs c.operation-op.result) c.deref.ensures.value in
    let next = step cells row values (drop k ops) (drop (k + 1) ops) c.operation-op.result c.outcome.result
    (drop_there ops k c.operation-op.result c.operation-op.ensures) told in
    let fits : SFits w64 c.in-Ok.value = search rules in
    let pushed : c.append.new.values.items ≡ values ++ c.in-Ok.value ∷ [] =
    c.append.ensures.items ∙ ap (λ (v : ℤ). values ++ v ∷ []) (to_z-of_z w64 c.in-Ok.value fits) in
    record {
      left = i.left ∙ (next
          ∙ (ap (λ (r : Outcome). after values (λ v. cycle_from cells row (values ++ v ∷ []) (drop (k + 1) ops)) r) c.in-Ok.is
          ∙ ap (λ (vs : List ℤ). cycle_from cells row vs (drop (k + 1) ops)) (sym pushed)));
      given = ap length pushed ∙ (length-append values (c.in-Ok.value ∷ []) ∙ omega (arith, i.given));
      room = omega (arith, i.room, c.append.ensures.capacity);
      all = i.all;
    }

pub returns-in-Err-clause-stop : goal.returns-in-Err-clause-stop
returns-in-Err-clause-stop c =
    let i = c.operations.invariant in
    let k = c.operations.k in
    let cells = c.args.cells.now in
    let row = c.args.row.now in
    let ops = c.args.graph.now.operations in
    let values = c.operations.values.items in
    let told : c.outcome.result ≡ outcome_of cells row values c.operation-op.result =
    c.outcome.ensures ∙ ap (λ (vs : List ℤ). outcome_of cells row vs c.operation-op.result) c.deref.ensures.value in
    let next = step cells row values (drop k ops) (drop (k + 1) ops) c.operation-op.result c.outcome.result
    (drop_there ops k c.operation-op.result c.operation-op.ensures) told in
    let whole = i.left ∙ (next ∙ ap (λ (r : Outcome). after values (λ v. cycle_from cells row (values ++ v ∷ []) (drop (k + 1) ops)) r) c.in-Err.is) in
    sym (ap (λ (x : Cycle). x.stop) whole)

pub returns-in-Err-clause-values : goal.returns-in-Err-clause-values
returns-in-Err-clause-values c =
    let i = c.operations.invariant in
    let k = c.operations.k in
    let cells = c.args.cells.now in
    let row = c.args.row.now in
    let ops = c.args.graph.now.operations in
    let values = c.operations.values.items in
    let told : c.outcome.result ≡ outcome_of cells row values c.operation-op.result =
    c.outcome.ensures ∙ ap (λ (vs : List ℤ). outcome_of cells row vs c.operation-op.result) c.deref.ensures.value in
    let next = step cells row values (drop k ops) (drop (k + 1) ops) c.operation-op.result c.outcome.result
    (drop_there ops k c.operation-op.result c.operation-op.ensures) told in
    let whole = i.left ∙ (next ∙ ap (λ (r : Outcome). after values (λ v. cycle_from cells row (values ++ v ∷ []) (drop (k + 1) ops)) r) c.in-Err.is) in
    sym (ap (λ (x : Cycle). x.values) whole)

pub append-requires : goal.append-requires
append-requires c =
    let i = c.operations.invariant in omega (arith, i.given, i.room, i.all, c.requires, c.operations-test.true)

pub returns-in-Err-clause-capacity : goal.returns-in-Err-clause-capacity
returns-in-Err-clause-capacity c = c.operations.invariant.room

-- where no operation is left
whole : (cells row values : List ℤ) (ops : List Op) (k : ℕ) (is : Cycle) → is ≡ cycle_from cells row values (drop k ops) → length ops ≤ k
    → is ≡ cycle_from cells row values []
whole cells row values ops k is left past = left ∙ ap (λ (xs : List Op). cycle_from cells row values xs) (drop_behind ops k past)

pub returns-clause-stop : goal.returns-clause-stop
returns-clause-stop c =
    let i = c.operations.invariant in
    let past : length c.args.graph.now.operations ≤ c.operations.k = omega (arith, c.operations-test.false, i.all) in
    sym
    (ap (λ (x : Cycle). x.stop)
    (whole c.args.cells.now c.args.row.now c.operations.values.items c.args.graph.now.operations c.operations.k _ i.left past))

pub returns-clause-values : goal.returns-clause-values
returns-clause-values c =
    let i = c.operations.invariant in
    let past : length c.args.graph.now.operations ≤ c.operations.k = omega (arith, c.operations-test.false, i.all) in
    sym
    (ap (λ (x : Cycle). x.values)
    (whole c.args.cells.now c.args.row.now c.operations.values.items c.args.graph.now.operations c.operations.k _ i.left past))

pub returns-clause-capacity : goal.returns-clause-capacity
returns-clause-capacity c = c.operations.invariant.room
