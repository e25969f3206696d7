use Rattle.st_parser.specs.declared.marks.Mark.TheVariants as mark
use Rattle.st_parser.specs.ProgramViews.{program}
use Rattle.st_parser.proofs.MarkTests.{this-mark, other-mark, refused-here}
use Rattle.st_parser.proofs.declarations.decl_at.Goals as goal

pub returns-then-is-2 : goal.returns-then-is-2
returns-then-is-2 c =
    let v = program c.with_block.new.parsed in
    other-mark v c.with_block.result c.args.mark mark.Name _ _ c.if-is.ensures
    (this-mark v c.with_block.result c.args.mark mark.EndVar _ _ c.if-is-2.ensures c.with_block.ensures)

pub returns : goal.returns
returns c =
    let v = program c.args.parsed.now in
    other-mark v c.refuse_program.result c.args.mark mark.Name _ _ c.if-is.ensures
    (other-mark v c.refuse_program.result c.args.mark mark.EndVar _ _ c.if-is-2.ensures
    (refused-here v c.refuse_program.result c.args.t c.refuse_program.ensures))
