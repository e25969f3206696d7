use Rattle.std.proofs.Common.{◌≡◌, ◌+◌, ◌<◌, suc, length, Some, true, sym, ap, subst, arith}
use Rattle.std.proofs.lemmas.Option.{slice_get_within}
use Rattle.vcp_base.specs.Limits.{most_operations}
use Rattle.op_graph.specs.Lists.{Lists}
use Rattle.op_graph.specs.Rules.{IsPart, operand_fits}
use Rattle.op_graph.specs.Building.{with_store, type_of}
use Rattle.flat_expr.specs.Closing.{Closes}
use Rattle.flat_expr.specs.State.{whole_size}
use Rattle.flat_expr.proofs.Closing.{cell_place, closes_store, store_room, refused_by}
use Rattle.flat_expr.proofs.Ended.{cell_held, handed_refusal, cell_inside}
use Rattle.flat_expr.proofs.ending.close_cell.Goals as goal

pub cell-loaded-requires : goal.cell-loaded-requires
cell-loaded-requires c = c.requires.4

pub at-variable-requires : goal.at-variable-requires
at-variable-requires c =
    let h = c.requires.2 in
    let cell = h.cells c.args.cell c.cell-loaded.result c.cell-loaded.ensures in
    subst (λ l. c.cell-loaded.result.name < length l) c.requires.3 (slice_get_within c.requires.0.slots c.cell-loaded.result.name cell.of cell.there)

pub bounds : goal.bounds
bounds c =
    cell_inside c.requires.0 c.requires.1 c.args.cell c.args.graph.now c.args.known.now c.args.cell c.cell-loaded.result c.requires.2 c.cell-loaded.ensures

pub bounds-known-loaded : goal.bounds-known-loaded
bounds-known-loaded c =
    cell_inside c.requires.0 c.requires.1 c.args.cell c.args.graph.now c.args.known.now c.args.cell c.cell-loaded.result c.requires.2 c.cell-loaded.ensures

pub unreachable-unreachable : goal.unreachable-unreachable
unreachable-unreachable c =
    cell_held c.requires.0 c.requires.1 c.args.cell c.args.graph.now c.args.known.now c.args.cell c.cell-loaded.result c.requires.2 c.cell-loaded.ensures
    c.in_default.is

pub store-requires : goal.store-requires
store-requires c =
    let h = c.requires.2 in
    record {
      next = sym h.so_far;
      there = c.requires.4;
      value =
          subst (λ o. operand_fits c.args.graph.now.operations (Some (type_of o)) c.in-Some.k ≡ true) (sym c.cell-loaded.ensures)
          (cell_place c.requires.0 c.requires.1 c.args.cell c.in-Some.k c.args.graph.now c.args.known.now c.cell-loaded.result c.cell-loaded.ensures c.in-Some.is h);
    }

pub returns-in_err-store : goal.returns-in_err-store
returns-in_err-store c = λ s n h same.
    handed_refusal s _ c.store.result c.from_residual.result _ c.in_err-store.was c.from_residual.ensures.1
    (refused_by c.store.result (length c.args.graph.now.operations) (most_operations < whole_size s) c.store.ensures.full
    (store_room s n c.args.cell c.args.graph.now c.args.known.now most_operations h c.requires.4))

pub returns : goal.returns
returns c = λ s n h same.
    let l = c.cell-loaded.result in
    let v = c.at-variable.result.now in
    let e : c.store.new.self ≡ with_store c.args.graph.now l.ty c.in-Some.k v.spot =
    subst (λ o. c.store.new.self ≡ with_store c.args.graph.now (type_of o) c.in-Some.k v.spot) c.cell-loaded.ensures c.in_ok-store.ensures.added in
    let next : suc c.args.cell ≡ c.args.cell + 1 = omega arith in (
      ap (λ (g : Lists). g.loads) e,
      subst (λ m. Closes s n m c.store.new.self c.args.known.now) next
          (subst (λ g. Closes s n (suc c.args.cell) g c.args.known.now) (sym e)
          (closes_store s n c.args.cell c.in-Some.k c.args.graph.now c.args.known.now l v.spot c.cell-loaded.ensures c.in-Some.is
          (subst IsPart e c.store.ensures.rules) h)),
    )
