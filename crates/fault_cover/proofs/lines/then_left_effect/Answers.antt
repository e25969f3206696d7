use Rattle.std.proofs.Common.{ap}
use Rattle.fault_cover.specs.Leftovers.{effect_text}
use Rattle.vcp_outside.specs.Pens.{and_then, same}
use Rattle.fault_cover.proofs.lines.then_left_effect.Goals as goal

pub returns-in-RunsOn : goal.returns-in-RunsOn
returns-in-RunsOn g c = same (and_then c.numbered.ensures c.numbered-in-RunsOn.ensures) (ap effect_text c.in-RunsOn.is)

pub returns-in-Beyond : goal.returns-in-Beyond
returns-in-Beyond g c = same c.text.ensures (ap effect_text c.in-Beyond.is)
