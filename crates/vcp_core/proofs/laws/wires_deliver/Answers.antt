use Rattle.std.proofs.Common.{List, ℤ, length, Option, Some, None}
use Rattle.telegram.specs.Deliveries.{AreYoung, Rising, delivered}
use Rattle.telegram.specs.WireRead.{wire_read}
use Rattle.telegram.specs.declared.event.Event.{Event}
use Rattle.telegram.specs.declared.wire.Wire.{Wire}
use Rattle.telegram.specs.WireRun.{Handing}
use Rattle.telegram.specs.Runs.{events_before, told_handings}
use Rattle.telegram.specs.Sends.{Cut}
use Rattle.vcp_core.proofs.laws.wires_deliver.Goals as goal

-- what holds of the handings of any events holds of those that are told
told_have : (P : List Handing → Type 0) (w : Wire) → ((words : List (List ℤ)) (es : List Event) → P (wire_read w words es)) → (es : List Event)
    (words : List (List ℤ)) (cut : Option Cut) → P (told_handings w es words cut)
told_have P w has es words None = has words es
told_have P w has es words (Some c) = has words (events_before (length words) es)

pub returns : goal.returns
returns c s fits = record {
  rises = told_have (λ hs. Rising (delivered hs)) s.wire (λ words es. c.deliveries_rise.ensures.read s.wire words es) s.events;
  young = told_have (λ hs. AreYoung s.wire.age hs) s.wire (λ words es. c.deliveries_are_young.ensures.read s.wire words es) s.events;
  right = c.receipts_follow_the_equation.ensures.run s.wire s.events fits.wire fits.events;
  sent = c.unaltered_come_from_their_sender.ensures s.wire s.events fits.wire fits.events;
}
