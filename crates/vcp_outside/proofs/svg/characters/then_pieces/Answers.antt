use Rattle.vcp_outside.specs.Characters.{escaped_in, piece_bytes}
use Rattle.vcp_outside.proofs.Gathering.{gathered_next}
use Rattle.vcp_outside.proofs.svg.characters.then_pieces.Goals as goal

pub pieces-preserved : goal.pieces-preserved
pieces-preserved g c =
    gathered_next (λ piece. escaped_in c.args.escaping (piece_bytes piece)) c.args.pieces.now c.pieces.i _ _ _ _ _ _ _ c.pieces-test.true c.pieces.invariant
    c.then_piece.ensures
