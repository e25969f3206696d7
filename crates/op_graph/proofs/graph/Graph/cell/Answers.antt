use Rattle.std.proofs.Common.{◌≡◌, ◌<◌, sym, subst, arith, length, slice_get, Some, refl}
use Rattle.std.proofs.lemmas.Grind.{common_steps}
use Rattle.std.proofs.lemmas.Int.{to_z-of_z}
use Rattle.std.proofs.lemmas.Option.{slice_get_read}
use Rattle.op_graph.specs.declared.op.Cell.{Cell}
use Rattle.op_graph.specs.Lists.{Lists, cells}
use Rattle.op_graph.proofs.Cells.{joined_fewer, joined_at}
use Rattle.op_graph.proofs.graph.Graph.cell.Goals as goal

pub index-loaded-requires : goal.index-loaded-requires
index-loaded-requires c =
    let below = subst (λ (g : Lists). c.args.i < length (cells g)) (sym c.self.view_is) c.requires in
    omega (arith, (joined_fewer c.self.inside.lists.loads.items c.self.inside.lists.stores.items).0)

pub index-requires : goal.index-requires
index-requires c =
    let below = subst (λ (g : Lists). c.args.i < length (cells g)) (sym c.self.view_is) c.requires in
    omega (arith, (joined_fewer c.self.inside.lists.loads.items c.self.inside.lists.stores.items).1)

pub returns : goal.returns
returns c =
    let loads = c.self.inside.lists.loads.items in
    let stores = c.self.inside.lists.stores.items in
    let l = c.index-loaded.result.now in
    let n = c.index.result.now in
    let below = subst (λ (g : Lists). c.args.i < length (cells g)) (sym c.self.view_is) c.requires in
    let few = joined_fewer loads stores in
    let load = slice_get_read loads (length loads) c.args.i l refl (omega (arith, few.0)) c.index-loaded.ensures in
    let store = slice_get_read stores (length stores) c.args.i n refl (omega (arith, few.1)) c.index.ensures in
    let cell : Cell = record { name = l.name; ty = l.ty; init = l.init; load = l.load; store = n } in
    let found : slice_get (cells c.args.self.now) c.args.i ≡ Some cell =
    subst (λ (g : Lists). slice_get (cells g) c.args.i ≡ Some cell) c.self.view_is (joined_at loads stores c.args.i l n load store) in
    grind (arith, common_steps, to_z-of_z)
