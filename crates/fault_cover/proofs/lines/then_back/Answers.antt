use Rattle.std.proofs.Common.{ap, inl, inr}
use Rattle.fault_cover.specs.CoverText.{back}
use Rattle.vcp_outside.specs.Pens.{and_then, same}
use Rattle.fault_cover.proofs.lines.then_back.Goals as goal

pub returns-in-AddToResult : goal.returns-in-AddToResult
returns-in-AddToResult g c = same c.text.ensures (ap back c.in-AddToResult.is)

pub returns-in-Late : goal.returns-in-Late
returns-in-Late g c = same (and_then c.numbered.ensures c.numbered-in-Late.ensures) (ap back c.in-Late.is)

pub returns-in-Does : goal.returns-in-Does
returns-in-Does g c = same c.then_rest.ensures (ap back c.in-Does.is)

pub returns-in-AddToOperand : goal.returns-in-AddToOperand
returns-in-AddToOperand g c =
    let told = and_then c.numbered-in-AddToOperand.ensures c.text-in-AddToOperand.ensures in
    elim c.in-AddToOperand.is [ inl s ↦ same told (ap back s) | inr s ↦ same told (ap back s) ]
