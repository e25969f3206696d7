use Rattle.op_graph.specs.declared.op.Loaded.{Loaded}
use Rattle.op_graph.specs.declared.op.Outlet.{Outlet}
use Rattle.op_graph.proofs.Walks.{walk_finds, walk_finds_store, walk_begins, walk_goes_on, outputs_rise, loads_rise, stores_rise}
use Rattle.op_graph.proofs.laws.entries_are_found_by_one_walk.Goals as goal

pub returns : goal.returns
returns c = record {
  out = λ s names n i h. walk_finds (λ (o : Outlet). o.op) (λ o. o.ty) i s.outputs (outputs_rise names n s.outputs h);
  load = λ s names n i h. walk_finds (λ (l : Loaded). l.load) (λ l. l.ty) i s.loads (loads_rise names n s.loads h);
  store = λ s n i h. walk_finds_store s.loads i s.stores (stores_rise s.loads n s.stores h);
  out_begins = λ outputs. walk_begins (λ (o : Outlet). o.op) outputs;
  load_begins = λ loads. walk_begins (λ (l : Loaded). l.load) loads;
  store_begins = λ stores. walk_begins (λ m. m) stores;
  out_goes_on = λ outputs names n i h. walk_goes_on (λ (o : Outlet). o.op) i outputs (outputs_rise names n outputs h);
  load_goes_on = λ loads names n i h. walk_goes_on (λ (l : Loaded). l.load) i loads (loads_rise names n loads h);
  store_goes_on = λ loads stores n i h. walk_goes_on (λ m. m) i stores (stores_rise loads n stores h);
}
