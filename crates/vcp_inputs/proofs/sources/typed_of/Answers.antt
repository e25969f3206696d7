use Rattle.std.proofs.Common.{refl, Some, arith}
use Rattle.std.proofs.lemmas.Bool.Decides.{nat_tests}
use Rattle.vcp_base.specs.Limits.{most_source_bytes}
use Rattle.vcp_inputs.specs.Files.{long}
use Rattle.vcp_inputs.specs.Programs.{TypedOf, NotTyped}
use Rattle.vcp_inputs.proofs.Taken.{by_result}
use Rattle.vcp_inputs.proofs.sources.typed_of.Goals as goal

pub returns-then-len-gt-MOST_SOURCE_BYTES-clause-loads : goal.returns-then-len-gt-MOST_SOURCE_BYTES-clause-loads
returns-then-len-gt-MOST_SOURCE_BYTES-clause-loads c name broken =
    (c.args.source.now, refl, long (grind (arith, nat_tests, c.if-len-gt-MOST_SOURCE_BYTES.true, c.len.ensures)))

pub returns-clause-loads : goal.returns-clause-loads
returns-clause-loads c name broken =
    by_result TypedOf NotTyped (λ _. Some c.args.source.now) name most_source_bytes broken broken c.args.source.now c.typed_program.result
    (c.args.source.now, refl, grind (arith, nat_tests, c.if-len-gt-MOST_SOURCE_BYTES.false, c.len.ensures), refl)
    (rw c.bytes.ensures at c.typed_program.ensures.ok) (rw c.bytes.ensures at c.typed_program.ensures.err)
