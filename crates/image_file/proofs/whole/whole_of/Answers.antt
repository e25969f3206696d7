use Rattle.std.proofs.Common.{◌≡◌, ◌∙◌, None, map, ap, refl}
use Rattle.image_file.specs.Pieces.{listed}
use Rattle.image_file.specs.Image.{image_piece, later_lists, load_of, store_of, op_piece, said, Said}
use Rattle.image_file.proofs.Chains.{since, then, stays, still}
use Rattle.image_file.proofs.whole.whole_of.Goals as goal

pub turns_of-turn_nodes-requires : goal.turns_of-turn_nodes-requires
turns_of-turn_nodes-requires c = c.head_here-counts.ensures.below.1

pub operations_of-operations-requires-clause-step : goal.operations_of-operations-requires-clause-step
operations_of-operations-requires-clause-step c = c.head_here-counts.ensures.below.0

pub operations_of-operations-requires-clause-few : goal.operations_of-operations-requires-clause-few
operations_of-operations-requires-clause-few c = c.head_here-counts.ensures.below.2

pub operations_of-operations-requires-clause-rising : goal.operations_of-operations-requires-clause-rising
operations_of-operations-requires-clause-rising c = λ o.
    let loaded = c.stores_of-stores.ensures.keeps.before o in
    let read = c.turns_of-turn_nodes.ensures.before (c.loads_of-loads.ensures.keeps.before loaded) in
    let names = c.head_here-counts.result.names in
    let operations = c.head_here-counts.result.operations in
    let loads = c.deref-6.ensures.value ∙ c.loads_of-loads.ensures.loads loaded ∙ ap (map load_of) c.deref.ensures.value in
    let stores = c.deref-7.ensures.value ∙ c.stores_of-stores.ensures.stores o ∙ ap (map store_of) c.deref-2.ensures.value in
    record {
      names = names;
      operations = operations;
      outputs = rw c.deref-4.ensures.value (c.outputs_of-outputs.ensures.rising (c.cells_of-cells.ensures.is.before read));
      loads = rw loads (c.cells_of-cells.ensures.loads read);
      stores = rw (loads, stores) (c.cells_of-cells.ensures.stores read);
    }

pub returns-clause-is : goal.returns-clause-is
unfolding image_piece later_lists
returns-clause-is c =
    let same = λ (o : c.stores_of-stores.new.bytes.fault ≡ None).
    let loaded = c.stores_of-stores.ensures.keeps.before o in
    let loads = c.deref-6.ensures.value ∙ c.loads_of-loads.ensures.loads loaded ∙ ap (map load_of) c.deref.ensures.value in
    let stores = c.deref-7.ensures.value ∙ c.stores_of-stores.ensures.stores o ∙ ap (map store_of) c.deref-2.ensures.value in
    let said_is : said c.head_here-counts.result.profile c.head_here-counts.result.seed c.head_here-counts.result.step c.inputs_of-inputs.result.items
    c.outputs_of-outputs.result.items c.cells_of-cells.result.items c.head_here-counts.result.turn_nodes
    ≡ record {
      profile = c.head_here-counts.result.profile;
      seed = c.head_here-counts.result.seed;
      step = c.head_here-counts.result.step;
      scope = record { inputs = c.deref-3.result.now; outputs = c.deref-4.result.now; loads = c.deref-6.result.now; stores = c.deref-7.result.now };
      cells = c.deref-5.result.now;
      turn_nodes = c.head_here-counts.result.turn_nodes;
    } = rw (c.deref-3.ensures.value, c.deref-4.ensures.value, c.deref-5.ensures.value, loads, stores) refl in
    ap (λ (s : Said). (listed c.head_here-counts.result.operations (op_piece s)).read c.stores_of-stores.new.bytes.left.now) said_is in
    then _ c.head_here-counts.ensures.is
    (then _ c.names_of-names.ensures
    (then _ c.inputs_of-inputs.ensures
    (then _ c.outputs_of-outputs.ensures.is
    (then _ c.cells_of-cells.ensures.is
    (then _ (still (still c.turns_of-turn_nodes.ensures c.loads_of-loads.ensures.keeps) c.stores_of-stores.ensures.keeps)
    (then _ (since same c.operations_of-operations.ensures) (stays refl)))))))

pub returns-clause-loads : goal.returns-clause-loads
returns-clause-loads c = λ o. c.loads_of-loads.ensures.loads (c.stores_of-stores.ensures.keeps.before (c.operations_of-operations.ensures.before o))
    ∙ ap (map load_of) c.deref.ensures.value

pub returns-clause-stores : goal.returns-clause-stores
returns-clause-stores c = λ o. c.stores_of-stores.ensures.stores (c.operations_of-operations.ensures.before o) ∙ ap (map store_of) c.deref-2.ensures.value
