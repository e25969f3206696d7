use Rattle.std.proofs.Common.{sym, ◌∙◌, true≢false}
use Rattle.graph_passes.specs.Marking.{Takes}
use Rattle.graph_passes.proofs.Queueing.{grows_as, grows_by_none}
use Rattle.graph_passes.proofs.needed.mark_operand.Goals as goal

pub returns-then-reads_operation-clause-grows : goal.returns-then-reads_operation-clause-grows
returns-then-reads_operation-clause-grows c =
    let op = c.args.op.now in
    let reads = sym (c.reads_operation.ensures op.from) ∙ c.if-reads_operation.true in
    grows_as _ (Takes op) _ _ _ _ (λ k e. record { place = c.args.j; operand = reads; names = c.requires.names ∙ sym e }) c.mark.ensures.grows

pub returns-then-reads_operation-clause-marked : goal.returns-then-reads_operation-clause-marked
returns-then-reads_operation-clause-marked c = λ reads. c.mark.ensures.marked

pub returns-else-reads_operation-clause-grows : goal.returns-else-reads_operation-clause-grows
returns-else-reads_operation-clause-grows c = grows_by_none (Takes c.args.op.now) _ _ c.requires.queue

pub returns-else-reads_operation-clause-marked : goal.returns-else-reads_operation-clause-marked
returns-else-reads_operation-clause-marked c = λ reads.
    absurd (true≢false (sym reads ∙ sym (c.reads_operation.ensures c.args.op.now.from) ∙ c.if-reads_operation.false))
