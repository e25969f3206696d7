use Rattle.std.proofs.Common.{take, flat_map}
use Rattle.vcp_outside.specs.Gathering.{GathersTo}
use Rattle.vcp_outside.specs.Characters.{escape_in}
use Rattle.vcp_outside.proofs.svg.characters.then_escaped.Given as goal

abbrev pub invariant-bytes : goal.invariant-bytes
invariant-bytes g l = GathersTo (g.O.Sink.seen l.fn.out) (g.O.Sink.seen l.out)
    l.fn.line l.line (flat_map (escape_in l.escaping) (take l.i l.bytes))
