use Rattle.st_tree.specs.Spelling.{bytes_in}
use Rattle.st_parser.specs.ExprMachine.{Context}
use Rattle.st_parser.proofs.declarations.program_step.Goals as goal

pub returns-in-AtType : goal.returns-in-AtType
returns-in-AtType c = rw c.in-AtType.is c.type_at.ensures

pub returns-in-AtInit : goal.returns-in-AtInit
returns-in-AtInit c =
    let k : Context = record { bytes = bytes_in c.args.source.text.now; most = c.args.source.most } in
    rw c.in-AtInit.is (c.init_begins.ensures k)

pub returns-in-InBody : goal.returns-in-InBody
returns-in-InBody c = rw c.in-InBody.is c.body_step.ensures

pub returns-in-AtName : goal.returns-in-AtName
returns-in-AtName c = rw c.in-AtName.is c.name_at.ensures

pub returns-in-AtBlock : goal.returns-in-AtBlock
returns-in-AtBlock c = rw c.in-AtBlock.is c.block_at.ensures

pub returns-in-AtVar : goal.returns-in-AtVar
returns-in-AtVar c = rw c.in-AtVar.is c.var_at.ensures

pub returns-in-InInit : goal.returns-in-InInit
returns-in-InInit c = rw c.in-InInit.is c.init_at.ensures
