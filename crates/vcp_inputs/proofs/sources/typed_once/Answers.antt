use Rattle.std.proofs.Common.{◌≢◌, rules}
use borrow.Author.Tests.{tests}
use Rattle.st_types.specs.declared.fault.TypeFault.TheVariants as typing
use Rattle.vcp_inputs.specs.Programs.{mistyped}
use Rattle.vcp_inputs.proofs.Taken.{has_names, without_tree}
use Rattle.vcp_inputs.proofs.Causes.{typing_placed}
use Rattle.vcp_inputs.proofs.sources.typed_once.Goals as goal

pub typed-requires : goal.typed-requires
typed-requires c = record { names = has_names c.args.source.now _ c.spelled_names_are_declarable.ensures.names c.requires.short c.in-Ok.ensures.ok }

pub returns-in-Ok-typed-clause-ok : goal.returns-in-Ok-typed-clause-ok
returns-in-Ok-typed-clause-ok c = record { tree = _; program = c.in-Ok.ensures.ok; typed = c.in-Ok-typed.ensures.ok }

pub returns-in-Ok-clause-err : goal.returns-in-Ok-clause-err
returns-in-Ok-clause-err c =
    let other : c.in-Err-typed.fault ≢ typing.Memory = search (tests, rules) in
    mistyped _ c.in-Err-typed.fault c.in-Ok.ensures.ok other c.in-Err-typed.ensures.err

pub returns-in-Ok-clause-caused : goal.returns-in-Ok-clause-caused
returns-in-Ok-clause-caused c =
    let other : c.in-Err-typed.fault ≢ typing.Memory = search (tests, rules) in
    typing_placed c.in-Err-typed.fault other

pub returns-clause-err : goal.returns-clause-err
returns-clause-err c = without_tree c.args.source.now _ c.in-Err.ensures.err

pub returns-clause-caused : goal.returns-clause-caused
returns-clause-caused c = c.in-Err.ensures.caused
