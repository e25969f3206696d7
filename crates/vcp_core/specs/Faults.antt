-- Faults: how a command ends whose text or last line was written, or whose faults were judged, or whose script of a wire was run; or not all of it.
use Rattle.std.specs.Prelude.{Result, Ok, Err}
use Rattle.fault_injector.specs.declared.campaign.fault.CampaignFault.{CampaignFault}
use Rattle.fault_injector.specs.declared.campaign.fault.CampaignFault.TheVariants as campaign
use Rattle.telegram.specs.declared.runs.wire_end.WireEnd.{WireEnd}
use Rattle.telegram.specs.declared.runs.wire_end.WireRunFault.{WireRunFault}
use Rattle.telegram.specs.declared.runs.wire_end.WireRunFault.TheVariants as wire
use Rattle.vcp_core.specs.declared.ending.Ending.{Ending}
use Rattle.vcp_core.specs.declared.ending.Ending.TheVariants as end
use Rattle.vcp_core.specs.declared.fault.Fault.{Fault}
use Rattle.vcp_core.specs.declared.fault.Fault.TheVariants as fault
use Rattle.vcp_core.specs.Reach.{wire_ending}

abbrev pub text_end : {E : Type 0} → Result (Unit {0}) E → Result Ending Fault
text_end (Ok _) = Ok end.Done
text_end (Err e) = Err fault.Write

abbrev pub line_end : {E : Type 0} → Result (Unit {0}) E → Ending → Result Ending E
line_end (Ok _) e = Ok e
line_end (Err f) e = Err f

abbrev pub of_campaign : CampaignFault → Fault
of_campaign campaign.Write = fault.Write
of_campaign campaign.Memory = fault.Memory

abbrev pub campaign_end : Result (Unit {0}) CampaignFault → Result Ending Fault
campaign_end (Ok _) = Ok end.Done
campaign_end (Err e) = Err (of_campaign e)

abbrev pub of_wire : WireRunFault → Fault
of_wire wire.Write = fault.Write
of_wire wire.Memory = fault.Memory

abbrev pub wire_end : Result WireEnd WireRunFault → Result Ending Fault
wire_end (Ok e) = Ok (wire_ending e)
wire_end (Err e) = Err (of_wire e)
