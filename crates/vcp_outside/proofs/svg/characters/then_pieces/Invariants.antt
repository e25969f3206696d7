use Rattle.std.proofs.Common.{take, flat_map}
use Rattle.vcp_outside.specs.Gathering.{GathersTo}
use Rattle.vcp_outside.specs.Characters.{escaped_in, piece_bytes}
use Rattle.vcp_outside.proofs.svg.characters.then_pieces.Given as goal

abbrev pub invariant-pieces : goal.invariant-pieces
invariant-pieces g l = GathersTo (g.O.Sink.seen l.fn.out) (g.O.Sink.seen l.out)
    l.fn.line l.line (flat_map (λ piece. escaped_in l.escaping (piece_bytes piece)) (take l.i l.pieces))
