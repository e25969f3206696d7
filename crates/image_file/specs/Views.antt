-- What the reader's values say.
use Rattle.std.specs.Prelude.{◌≡◌, ℕ, []}
use Rattle.op_graph.specs.Rules.{Scope as Lists, Each, OutputFits, LoadFits, StoreFits}
use Rattle.image_file.specs.declared.head.Counts.{Counts}
use Rattle.image_file.specs.declared.scope.Scope.{Scope}
use Rattle.image_file.specs.declared.walk.Walk.{Walk}
use Rattle.op_graph.specs.Walk.{passed}
use Rattle.image_file.specs.declared.whole.Whole.{Whole}
use Rattle.image_file.specs.Image.{Head, Said, Parts}

abbrev pub head : Counts → Head
head c = record {
  profile = c.profile;
  step = c.step;
  seed = c.seed;
  names = c.names;
  inputs = c.inputs;
  outputs = c.outputs;
  cells = c.cells;
  turn_nodes = c.turn_nodes;
  operations = c.operations;
}

abbrev pub scope_of : Scope → Lists
scope_of s = record { inputs = s.inputs.now; outputs = s.outputs.now; loads = s.loads.now; stores = s.stores.now }

abbrev pub said_of : Scope → Said
said_of s = record { profile = s.profile; seed = s.seed; step = s.step; scope = scope_of s; cells = s.cells.now; turn_nodes = s.turn_nodes }

abbrev pub parts : Whole → Parts
parts w = record {
  profile = w.counts.profile;
  step = w.counts.step;
  seed = w.counts.seed;
  names = w.names.items;
  inputs = w.inputs.items;
  outputs = w.outputs.items;
  cells = w.cells.items;
  turn_nodes = w.turn_nodes.items;
  operations = w.operations.items;
}

-- the operations of outputs and cells rise, as their rules say
pub record Rising (s : Lists) : Type 0 where
  pub names : ℕ
  pub operations : ℕ
  pub outputs : Each (OutputFits names operations) [] s.outputs
  pub loads : Each (LoadFits names operations) [] s.loads
  pub stores : Each (StoreFits s.loads operations) [] s.stores

-- the walk has come to operation i
pub record IsAt (s : Lists) (i : ℕ) (w : Walk) : Type 0 where
  pub out : w.out ≡ passed (λ o. o.op) i s.outputs
  pub load : w.load ≡ passed (λ l. l.load) i s.loads
  pub store : w.store ≡ passed (λ n. n) i s.stores
