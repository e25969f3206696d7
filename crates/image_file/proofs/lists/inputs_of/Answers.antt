use Rattle.std.proofs.Common.{◌∙◌, sym, arith}
use Rattle.image_file.specs.Entries.{input_piece}
use Rattle.image_file.proofs.Loop.{one_more, is_done}
use Rattle.image_file.proofs.Chains.{stopped}
use Rattle.image_file.proofs.lists.inputs_of.Goals as goal

pub entries-preserved : goal.entries-preserved
entries-preserved c =
    one_more (λ b. (input_piece c.args.counts.now.profile c.args.counts.now.names b).read)
    _ c.entries.found.items _ c.args.counts.now.inputs c.entries.counter c.input_of-entry.result
    c.entries.invariant c.entries-test.true c.deref.ensures.value c.input_of-entry.ensures c.push.ensures.keeps c.push.ensures.pushed

pub returns-then-is_some : goal.returns-then-is_some
returns-then-is_some c = stopped c.entries.invariant (sym c.is_some.ensures ∙ c.if-is_some.true)

pub returns : goal.returns
returns c =
    is_done (λ b. (input_piece c.args.counts.now.profile c.args.counts.now.names b).read) c.entries.found.items c.args.counts.now.inputs c.entries.counter
    (omega (arith, c.entries-test)) c.entries.invariant
