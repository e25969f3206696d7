use Rattle.std.proofs.Common.{◌∙◌}
use Rattle.il_front.proofs.TableLaws.{entries-more}
use Rattle.il_front.proofs.operand.table_of.Goals as goal

pub loop-i-preserved : goal.loop-i-preserved
loop-i-preserved c =
    entries-more c.args.slots.now.items.items c.loop-i.i c.at-slot.result.now _ c.loop-i.names _ c.requires.fit c.at-slot.ensures c.loop-i.invariant
    (c.in-Ok.ensures ∙ c.bytes.ensures) c.in-Ok-declare.ensures.declared
