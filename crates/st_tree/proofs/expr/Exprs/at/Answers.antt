use Rattle.std.proofs.Common.{length, refl, ap}
use Rattle.std.proofs.lemmas.Option.{slice_get_read}
use Rattle.st_tree.specs.ExprViews.{expr_trees}
use Rattle.st_tree.proofs.Listed.{from_place}
use Rattle.st_tree.proofs.expr.Exprs.at.Goals as goal

pub returns : goal.returns
returns c =
    let xs = c.args.self.now.items.items in
    let there = slice_get_read xs (length xs) c.args.i c.index.result.now refl c.requires c.index.ensures in
    record { item = there; tree = ap expr_trees (from_place xs c.args.i c.index.result.now there) }
