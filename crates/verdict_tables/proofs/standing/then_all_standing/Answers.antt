use Rattle.std.proofs.Common.{◌≡◌, ℕ, ap, ◌∙◌, length, add-one, arith}
use Rattle.verdict_tables.specs.Parts.{PartFits, mark_of}
use Rattle.verdict_tables.proofs.PartByPart.{as_many_at}
use Rattle.verdict_tables.proofs.Picking.{at_place}
use Rattle.vcp_outside.specs.Pens.{unmoved, and_then}
use Rattle.verdict_tables.proofs.standing.then_all_standing.Goals as goal

pub parts-init : goal.parts-init
parts-init g c = unmoved

pub then_standing_in-pen-requires-clause-fits : goal.then_standing_in-pen-requires-clause-fits
then_standing_in-pen-requires-clause-fits g c = at_place (PartFits c.args.graph.now) c.args.parts.now c.parts.k c.at.result.now c.at.ensures c.requires.fits

pub then_standing_in-pen-requires-clause-each : goal.then_standing_in-pen-requires-clause-each
then_standing_in-pen-requires-clause-each g c =
    as_many_at c.args.endings.now c.args.parts.now c.parts.k c.at-in-parts.result.now c.at.result.now c.requires.each c.at-in-parts.ensures c.at.ensures

pub parts-preserved : goal.parts-preserved
parts-preserved g c =
    let mark : c.mark_of-mark.result ≡ mark_of (length c.args.parts.now) c.parts.k =
    c.mark_of-mark.ensures ∙ ap (λ (m : ℕ). mark_of m c.parts.k) c.len-many.ensures in
    rw (add-one c.parts.k, c.at.ensures, c.at-in-parts.ensures) (and_then c.parts.invariant (rw mark at c.then_standing_in-pen.ensures))

pub returns : goal.returns
returns g c =
    let all : c.parts.k ≡ length c.args.parts.now = omega (arith, c.parts-test.false, c.parts.auto.k-end, c.len-many.ensures) in
    rw all at c.parts.invariant
