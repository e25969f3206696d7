use Rattle.st_tree.specs.Spelling.{bytes_in}
use Rattle.st_parser.specs.ExprMachine.{Context}
use Rattle.st_parser.proofs.statements.stmt_step.Goals as goal

pub returns-in-LoopBegun : goal.returns-in-LoopBegun
returns-in-LoopBegun c = rw c.in-LoopBegun.is (c.loop_begun_at.ensures _ _)

pub returns-in-LoopNamed : goal.returns-in-LoopNamed
returns-in-LoopNamed c =
    let k : Context = record { bytes = bytes_in c.args.source.text.now; most = c.args.source.most } in
    rw c.in-LoopNamed.is (c.loop_named_at.ensures k _ _)

pub returns-in-Named : goal.returns-in-Named
returns-in-Named c = rw c.in-Named.is c.named_at.ensures

pub returns-in-Reading : goal.returns-in-Reading
returns-in-Reading c = rw c.in-Reading.is c.read_at.ensures

pub returns-in-Labelling : goal.returns-in-Labelling
returns-in-Labelling c = rw c.in-Labelling.is c.label_step.ensures
