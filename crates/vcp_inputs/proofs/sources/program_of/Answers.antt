use Rattle.std.proofs.Common.{◌≢◌, rules}
use borrow.Author.Tests.{tests}
use Rattle.st_lexer.specs.declared.fault.LexFault.TheVariants as lexer
use Rattle.st_parser.specs.declared.fault.SyntaxFault.TheVariants as syntax
use Rattle.vcp_inputs.specs.Programs.{unlexed, unparsed}
use Rattle.vcp_inputs.proofs.Taken.{is_program}
use Rattle.vcp_inputs.proofs.Causes.{lexing_placed, parsing_placed}
use Rattle.vcp_inputs.proofs.sources.program_of.Goals as goal

pub returns-in-Err-clause-err : goal.returns-in-Err-clause-err
returns-in-Err-clause-err c =
    let other : c.in-Err.fault ≢ lexer.Memory = search (tests, rules) in
    unlexed c.in-Err.fault other c.in-Err.ensures.err

pub returns-in-Err-clause-caused : goal.returns-in-Err-clause-caused
returns-in-Err-clause-caused c =
    let other : c.in-Err.fault ≢ lexer.Memory = search (tests, rules) in
    lexing_placed c.in-Err.fault other

pub returns-in-Ok-parse-clause-ok : goal.returns-in-Ok-parse-clause-ok
returns-in-Ok-parse-clause-ok c =
    is_program c.args.source.now c.in-Ok.tokens.tokens _ c.in-Ok.ensures.ok c.in-Ok-parse.ensures.spelled c.in-Ok-parse.ensures.one

pub returns-clause-err : goal.returns-clause-err
returns-clause-err c =
    let other : c.in-Err-parse.fault ≢ syntax.Memory = search (tests, rules) in
    unparsed c.in-Ok.tokens.tokens c.in-Err-parse.fault other c.in-Ok.ensures.ok (rw c.in-Ok.ensures.end at c.in-Err-parse.ensures.err)

pub returns-clause-caused : goal.returns-clause-caused
returns-clause-caused c =
    let other : c.in-Err-parse.fault ≢ syntax.Memory = search (tests, rules) in
    parsing_placed c.in-Err-parse.fault other
