use Rattle.std.proofs.Common.{◌==◌, not, refl}
use Rattle.range_audit.specs.Audit.{IsAuditWithin}
use Rattle.range_audit.specs.RangeText.{ranges_text}
use Rattle.vcp_study_core.specs.Texts.{IsRanged, WritesOne}
use Rattle.vcp_study_core.proofs.Facts.{appends-nothing}
use Rattle.vcp_study_core.proofs.Carrying.{no_memory, wrote}
use Rattle.vcp_study_core.proofs.Ranged.{ranged, some_named}
use Rattle.vcp_study_core.proofs.ranges.write_ranges.Goals as goal

pub returns-in-Ok : goal.returns-in-Ok
returns-in-Ok g c =
    let graph = c.args.graph.now in
    let inputs = c.args.inputs.now in
    let known = c.in-Ok.ensures in
    let audit : IsAuditWithin graph inputs c.in-Ok.ranges = record {
      known = known.known;
      stops = known.stops;
      holds = known.holds;
      names = known.names;
      ends = known.ends;
      able = known.able;
      types = known.types;
    } in
    let text = ranges_text c.args.all graph c.in-Ok.ranges in
    let named = c.count_named-named.result in
    let found = not (named == 0) in
    let is = ranged graph inputs c.args.all c.in-Ok.ranges audit named found c.count_named-named.ensures (some_named named) known.never
    c.all_rows_are_in_no_ranges.ensures in
    wrote (WritesOne (IsRanged graph inputs c.args.all)) _ _ text found (text, found, is, refl) c.write_ranges.result
    c.write_ranges.ensures c.told.result c.told.ensures.ok c.told.ensures.err

pub returns-in-Err : goal.returns-in-Err
returns-in-Err g c = no_memory _ _ _ (appends-nothing _)
