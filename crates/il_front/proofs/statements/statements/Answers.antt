use Rattle.std.proofs.Common.{arith}
use Rattle.std.proofs.lemmas.Option.{slice_get-get_or}
use Rattle.vcp_typed.specs.TStmtViews.{tstmt_tree, tstmt_trees}
use Rattle.il_front.specs.Places.{place_in}
use Rattle.st_types.specs.Full.{so, so-three}
use Rattle.il_front.proofs.PlaceLaws.{statement-more, statement-end}
use Rattle.il_front.proofs.statements.statements.Goals as goal

pub each-preserved : goal.each-preserved
each-preserved c =
    so-three c.each.invariant c.statement.ensures c.append.ensures
    (λ h s more.
    statement-more (place_in c.args.places) (tstmt_trees c.each.body.items.items) (tstmt_trees c.append.new.body.items.items)
    (tstmt_tree c.statement.result) c.each.ty c.args.code.now c.each.k _ c.next_type-ty.result _
    (slice_get-get_or c.args.code.now c.each.k _ c.each-test.true) more s c.next_type-ty.ensures h)

pub returns : goal.returns
returns c =
    so c.each.invariant
    (statement-end (place_in c.args.places) (tstmt_trees c.each.body.items.items) c.each.ty c.args.code.now c.each.k _ (omega arith))
