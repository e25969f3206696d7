use Rattle.std.proofs.Common.{ℕ, ◌<◌, ◌≤◌, w32, ◌≡◌, Some, slice_get, sym, ap, subst, ◌∙◌, rules, w64, arith}
use mir.Val.{Fits, SFits}
use Rattle.std.proofs.lemmas.Int.{to_z-of_z}
use Rattle.std.specs.Prelude.{unsigned_abs}
use Rattle.vcp_base.specs.Limits.{most_cells}
use Rattle.vcp_base.specs.declared.kind.Kind.TheVariants as kind
use Rattle.graph_passes.proofs.CellOperations.{load_inside, store_inside, joined_long, other_of_load, other_of_store, other_of_none, not_load, not_store}
use Rattle.graph_passes.proofs.Copies.{cell_parts}
use Rattle.graph_passes.proofs.needed.other_of_cell.Goals as goal

-- the number of a cell has 32 bits
small_cell : {v u n : ℕ} → v ≡ u → u < n → n ≤ most_cells → Fits w32 v
small_cell is there few = record { fits = omega (arith, is, there, few) }

-- and is that of a cell with its store
cell_there : {v u n m : ℕ} → v ≡ u → u < n → m ≡ n → v < m
cell_there is there long = rw (is, long) there

pub overflow_cast-unsigned_abs : goal.overflow_cast-unsigned_abs
overflow_cast-unsigned_abs c =
    let g = c.args.graph.now in
    let op = c.operation-op.result in
    let entries = c.entries_keep_their_rules.ensures in
    let walks = c.entries_are_found_by_one_walk.ensures in
    let fit : SFits w64 op.imm = search rules in
    let value : c.unsigned_abs.result ≡ unsigned_abs op.imm = c.unsigned_abs.ensures.value ∙ ap unsigned_abs (to_z-of_z w64 op.imm fit) in
    let is : op.kind ≡ kind.Load = c.in-Load.is in
    let inside = load_inside entries walks g c.requires.graph c.args.q op c.operation-op.ensures is in
    let few = c.requires.graph.part.few_cells in
    small_cell value inside few

pub cell-requires : goal.cell-requires
cell-requires c =
    let g = c.args.graph.now in
    let op = c.operation-op.result in
    let entries = c.entries_keep_their_rules.ensures in
    let walks = c.entries_are_found_by_one_walk.ensures in
    let fit : SFits w64 op.imm = search rules in
    let value : c.unsigned_abs.result ≡ unsigned_abs op.imm = c.unsigned_abs.ensures.value ∙ ap unsigned_abs (to_z-of_z w64 op.imm fit) in
    let is : op.kind ≡ kind.Load = c.in-Load.is in
    let inside = load_inside entries walks g c.requires.graph c.args.q op c.operation-op.ensures is in
    cell_there value inside (joined_long g.loads g.stores c.requires.graph.all_stored)

pub overflow_cast-unsigned_abs-in-Store : goal.overflow_cast-unsigned_abs-in-Store
overflow_cast-unsigned_abs-in-Store c =
    let g = c.args.graph.now in
    let op = c.operation-op.result in
    let entries = c.entries_keep_their_rules.ensures in
    let walks = c.entries_are_found_by_one_walk.ensures in
    let fit : SFits w64 op.imm = search rules in
    let value : c.unsigned_abs-in-Store.result ≡ unsigned_abs op.imm = c.unsigned_abs-in-Store.ensures.value ∙ ap unsigned_abs (to_z-of_z w64 op.imm fit) in
    let is : op.kind ≡ kind.Store = c.in-Store.is in
    let inside = store_inside entries walks g c.requires.graph c.args.q op c.operation-op.ensures is in
    let few = c.requires.graph.part.few_cells in
    small_cell value inside few

pub cell-requires-in-Store : goal.cell-requires-in-Store
cell-requires-in-Store c =
    let g = c.args.graph.now in
    let op = c.operation-op.result in
    let entries = c.entries_keep_their_rules.ensures in
    let walks = c.entries_are_found_by_one_walk.ensures in
    let fit : SFits w64 op.imm = search rules in
    let value : c.unsigned_abs-in-Store.result ≡ unsigned_abs op.imm = c.unsigned_abs-in-Store.ensures.value ∙ ap unsigned_abs (to_z-of_z w64 op.imm fit) in
    let is : op.kind ≡ kind.Store = c.in-Store.is in
    let inside = store_inside entries walks g c.requires.graph c.args.q op c.operation-op.ensures is in
    cell_there value inside (joined_long g.loads g.stores c.requires.graph.all_stored)

pub returns-in-Load : goal.returns-in-Load
returns-in-Load c =
    let g = c.args.graph.now in
    let op = c.operation-op.result in
    let entries = c.entries_keep_their_rules.ensures in
    let walks = c.entries_are_found_by_one_walk.ensures in
    let fit : SFits w64 op.imm = search rules in
    let value : c.unsigned_abs.result ≡ unsigned_abs op.imm = c.unsigned_abs.ensures.value ∙ ap unsigned_abs (to_z-of_z w64 op.imm fit) in
    let is : op.kind ≡ kind.Load = c.in-Load.is in
    let stored = subst (λ i. slice_get g.stores i ≡ Some c.cell.result.store) value
    (cell_parts g.loads g.stores c.unsigned_abs.result c.cell.result c.cell.ensures).store in
    let other = other_of_load entries walks g c.requires.graph c.args.q op c.operation-op.ensures is
    c.cell.result.store stored in
    record { there = other.inside; sound = other.sound; complete = other.complete }

pub returns-in-Store : goal.returns-in-Store
returns-in-Store c =
    let g = c.args.graph.now in
    let op = c.operation-op.result in
    let entries = c.entries_keep_their_rules.ensures in
    let walks = c.entries_are_found_by_one_walk.ensures in
    let fit : SFits w64 op.imm = search rules in
    let value : c.unsigned_abs-in-Store.result ≡ unsigned_abs op.imm = c.unsigned_abs-in-Store.ensures.value ∙ ap unsigned_abs (to_z-of_z w64 op.imm fit) in
    let is : op.kind ≡ kind.Store = c.in-Store.is in
    let parts = cell_parts g.loads g.stores c.unsigned_abs-in-Store.result c.cell-in-Store.result c.cell-in-Store.ensures in
    let other = other_of_store entries walks g c.requires.graph c.args.q op c.operation-op.ensures is
    (record { name = c.cell-in-Store.result.name; ty = c.cell-in-Store.result.ty; init = c.cell-in-Store.result.init; load = c.cell-in-Store.result.load })
    (ap (slice_get g.loads) (sym value) ∙ parts.load) in
    record { there = other.inside; sound = other.sound; complete = other.complete }

pub returns-in_default : goal.returns-in_default
returns-in_default c =
    let g = c.args.graph.now in
    let op = c.operation-op.result in
    let other = other_of_none c.entries_keep_their_rules.ensures g c.requires.graph c.args.q op c.operation-op.ensures
    (not_load op.kind c.in_default.not-Load) (not_store op.kind c.in_default.not-Store) in
    record { there = other.inside; sound = other.sound; complete = other.complete }
