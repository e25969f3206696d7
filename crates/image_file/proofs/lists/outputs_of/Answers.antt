use Rattle.std.proofs.Common.{◌∙◌, sym, arith}
use Rattle.image_file.specs.Entries.{output_piece}
use Rattle.image_file.proofs.Loop.{one_more, is_done}
use Rattle.image_file.proofs.PieceLaws.{listed_law}
use Rattle.image_file.proofs.Sections.{output_law}
use Rattle.image_file.proofs.Kept.{outputs_keep}
use Rattle.image_file.proofs.Chains.{stopped, not_none}
use Rattle.image_file.proofs.lists.outputs_of.Goals as goal

pub entries-preserved : goal.entries-preserved
entries-preserved c =
    one_more (λ b. (output_piece c.args.counts.now.profile c.args.counts.now.names c.args.counts.now.operations b).read)
    _ c.entries.found.items _ c.args.counts.now.outputs c.entries.counter c.output_of-entry.result
    c.entries.invariant c.entries-test.true c.deref.ensures.value c.output_of-entry.ensures c.push.ensures.keeps c.push.ensures.pushed

pub returns-then-is_some-clause-is : goal.returns-then-is_some-clause-is
returns-then-is_some-clause-is c = stopped c.entries.invariant (sym c.is_some.ensures ∙ c.if-is_some.true)

pub returns-then-is_some-clause-rising : goal.returns-then-is_some-clause-rising
returns-then-is_some-clause-rising c = λ o. absurd (not_none c.entries.bytes.fault (sym c.is_some.ensures ∙ c.if-is_some.true) o)

pub returns-clause-is : goal.returns-clause-is
returns-clause-is c =
    is_done (λ b. (output_piece c.args.counts.now.profile c.args.counts.now.names c.args.counts.now.operations b).read)
    c.entries.found.items c.args.counts.now.outputs c.entries.counter (omega (arith, c.entries-test)) c.entries.invariant

pub returns-clause-rising : goal.returns-clause-rising
returns-clause-rising c = λ o.
    let all = is_done (λ b. (output_piece c.args.counts.now.profile c.args.counts.now.names c.args.counts.now.operations b).read)
    c.entries.found.items c.args.counts.now.outputs c.entries.counter (omega (arith, c.entries-test)) c.entries.invariant in
    outputs_keep c.args.counts.now.profile c.args.counts.now.names c.args.counts.now.operations c.entries.found.items
    (((listed_law c.args.counts.now.outputs (output_piece c.args.counts.now.profile c.args.counts.now.names c.args.counts.now.operations)
    (output_law c.args.counts.now.profile c.args.counts.now.names c.args.counts.now.operations)).takes c.args.bytes.now.left.now
    c.entries.found.items c.entries.bytes.left.now
    c.are_bytes.ensures (all.same o)).1.1)
