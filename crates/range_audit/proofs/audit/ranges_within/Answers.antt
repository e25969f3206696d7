use Rattle.std.proofs.Common.{subst}
use Rattle.range_walk.specs.Walking.{IsWalk}
use Rattle.range_audit.proofs.Cycles.{audit}
use Rattle.range_audit.proofs.NoneNamed.{never_within}
use Rattle.range_audit.proofs.Typed.{typed_always, typed_sound}
use Rattle.range_audit.proofs.audit.ranges_within.Goals as goal

pub closer-told-requires : goal.closer-told-requires
closer-told-requires c =
    let g = c.args.graph.now in
    let walk = subst (λ cells. IsWalk g.operations cells c.args.inputs.now c.in_ok-typed.typed) c.deref.ensures.value c.in_ok-typed.ensures in
    record {
      sound = typed_sound g c.args.inputs.now c.in_ok-cells.cells c.operands_are_in_their_types.ensures c.len-operations.ensures.rules
          c.in_ok-cells.ensures.holds c.in_ok-typed.typed walk;
      always = c.settled-boxes.ensures;
    }

pub settled-boxes-requires : goal.settled-boxes-requires
settled-boxes-requires c =
    typed_always c.args.graph.now c.args.inputs.now c.in_ok-cells.cells c.operands_are_in_their_types.ensures c.len-operations.ensures.rules
    c.in_ok-cells.ensures.holds _ c.in_ok-cells.ensures.many c.in_ok-types.ensures

pub returns : goal.returns
returns c =
    let g = c.args.graph.now in
    let inputs = c.args.inputs.now in
    let told = c.closer-told.result in
    let laws = c.operands_are_in_their_types.ensures in
    let is = audit g inputs told laws c.entries_keep_their_rules.ensures c.len-operations.ensures.rules c.closer-told.ensures in
    record {
      known = is.known;
      stops = is.stops;
      holds = is.holds;
      names = is.names;
      ends = is.ends;
      able = is.able;
      types = is.types;
      never = never_within g inputs told is;
    }
