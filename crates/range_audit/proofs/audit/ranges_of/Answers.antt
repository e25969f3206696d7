use Rattle.std.proofs.Common.{refl}
use Rattle.range_audit.proofs.NoneNamed.{never, of_all_rows}
use Rattle.range_audit.proofs.audit.ranges_of.Goals as goal

pub returns : goal.returns
returns c =
    let g = c.args.graph.now in
    let told = c.in_ok-told.told in
    let within = c.in_ok-told.ensures in
    let is = of_all_rows g _ told refl
    (record {
      known = within.known;
      stops = within.stops;
      holds = within.holds;
      names = within.names;
      ends = within.ends;
      able = within.able;
      types = within.types;
    }) in
    record { known = is.known; stops = is.stops; holds = is.holds; names = is.names; ends = is.ends; able = is.able; types = is.types; never = never g told is }
