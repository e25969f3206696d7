use Rattle.std.proofs.Common.{refl, sym, ◌∙◌}
use Rattle.fault_sites.proofs.LinesTaken.{counts, too_many}
use Rattle.fault_sites.proofs.named.reading.line_taken.Goals as goal

pub returns-then-count-clause-ok : goal.returns-then-count-clause-ok
returns-then-count-clause-ok c =
    counts c.args.graph.now c.args.before c.fault_count.result c.args.text.now c.in-Ok.meant (sym c.meaning.ensures ∙ c.in-Ok.is)
    c.fault_count.ensures.count c.if-count.true

pub returns-else-count-clause-refused : goal.returns-else-count-clause-refused
returns-else-count-clause-refused c = (
  refl,
  too_many c.args.graph.now c.args.before c.fault_count.result c.args.text.now c.in-Ok.meant (sym c.meaning.ensures ∙ c.in-Ok.is)
      c.fault_count.ensures.count c.if-count.false,
)
