use Rattle.std.proofs.Common.{◌∙◌, sym, arith}
use Rattle.image_file.specs.Entries.{cell_piece}
use Rattle.image_file.proofs.Loop.{one_more, is_done}
use Rattle.image_file.proofs.PieceLaws.{listed_law}
use Rattle.image_file.proofs.Sections.{cell_law}
use Rattle.image_file.proofs.Kept.{loads_keep, stores_keep}
use Rattle.image_file.proofs.Chains.{stopped, not_none}
use Rattle.image_file.proofs.lists.cells_of.Goals as goal

pub entries-preserved : goal.entries-preserved
entries-preserved c =
    one_more (λ b. (cell_piece c.args.counts.now.profile c.args.counts.now.names c.args.counts.now.operations b).read)
    _ c.entries.found.items _ c.args.counts.now.cells c.entries.counter c.cell_of-entry.result
    c.entries.invariant c.entries-test.true c.deref.ensures.value c.cell_of-entry.ensures c.push.ensures.keeps c.push.ensures.pushed

pub returns-then-is_some-clause-is : goal.returns-then-is_some-clause-is
returns-then-is_some-clause-is c = stopped c.entries.invariant (sym c.is_some.ensures ∙ c.if-is_some.true)

pub returns-then-is_some-clause-loads : goal.returns-then-is_some-clause-loads
returns-then-is_some-clause-loads c = λ o. absurd (not_none c.entries.bytes.fault (sym c.is_some.ensures ∙ c.if-is_some.true) o)

pub returns-then-is_some-clause-stores : goal.returns-then-is_some-clause-stores
returns-then-is_some-clause-stores c = λ o. absurd (not_none c.entries.bytes.fault (sym c.is_some.ensures ∙ c.if-is_some.true) o)

pub returns-clause-is : goal.returns-clause-is
returns-clause-is c =
    is_done (λ b. (cell_piece c.args.counts.now.profile c.args.counts.now.names c.args.counts.now.operations b).read)
    c.entries.found.items c.args.counts.now.cells c.entries.counter (omega (arith, c.entries-test)) c.entries.invariant

pub returns-clause-loads : goal.returns-clause-loads
returns-clause-loads c = λ o.
    let all = is_done (λ b. (cell_piece c.args.counts.now.profile c.args.counts.now.names c.args.counts.now.operations b).read)
    c.entries.found.items c.args.counts.now.cells c.entries.counter (omega (arith, c.entries-test)) c.entries.invariant in
    loads_keep c.args.counts.now.profile c.args.counts.now.names c.args.counts.now.operations c.entries.found.items
    (((listed_law c.args.counts.now.cells (cell_piece c.args.counts.now.profile c.args.counts.now.names c.args.counts.now.operations)
    (cell_law c.args.counts.now.profile c.args.counts.now.names c.args.counts.now.operations)).takes c.args.bytes.now.left.now
    c.entries.found.items c.entries.bytes.left.now
    c.are_bytes.ensures (all.same o)).1.1)

pub returns-clause-stores : goal.returns-clause-stores
returns-clause-stores c = λ o.
    let all = is_done (λ b. (cell_piece c.args.counts.now.profile c.args.counts.now.names c.args.counts.now.operations b).read)
    c.entries.found.items c.args.counts.now.cells c.entries.counter (omega (arith, c.entries-test)) c.entries.invariant in
    stores_keep c.args.counts.now.profile c.args.counts.now.names c.args.counts.now.operations c.entries.found.items
    (((listed_law c.args.counts.now.cells (cell_piece c.args.counts.now.profile c.args.counts.now.names c.args.counts.now.operations)
    (cell_law c.args.counts.now.profile c.args.counts.now.names c.args.counts.now.operations)).takes c.args.bytes.now.left.now
    c.entries.found.items c.entries.bytes.left.now
    c.are_bytes.ensures (all.same o)).1.1)
