use Rattle.std.proofs.Common.{◌≡◌, ℕ, ap, ◌∙◌, length, add-one, arith}
use Rattle.verdict_tables.specs.Parts.{IsWhole, PartFits, mark_of}
use Rattle.verdict_tables.proofs.Picking.{at_place}
use Rattle.vcp_outside.specs.Pens.{unmoved, and_then}
use Rattle.verdict_tables.proofs.unseen.then_all_unseen.Goals as goal

pub parts-init : goal.parts-init
parts-init g c = unmoved

pub then_unseen_in-pen-requires-clause-whole : goal.then_unseen_in-pen-requires-clause-whole
then_unseen_in-pen-requires-clause-whole g c = at_place IsWhole c.args.parts.now c.parts.k c.at.result.now c.at.ensures c.requires.whole

pub then_unseen_in-pen-requires-clause-fits : goal.then_unseen_in-pen-requires-clause-fits
then_unseen_in-pen-requires-clause-fits g c = at_place (PartFits c.args.graph.now) c.args.parts.now c.parts.k c.at.result.now c.at.ensures c.requires.fits

pub parts-preserved : goal.parts-preserved
parts-preserved g c =
    let mark : c.mark_of-mark.result ≡ mark_of (length c.args.parts.now) c.parts.k =
    c.mark_of-mark.ensures ∙ ap (λ (m : ℕ). mark_of m c.parts.k) c.len-many.ensures in
    rw (add-one c.parts.k, c.at.ensures) (and_then c.parts.invariant (rw mark at c.then_unseen_in-pen.ensures))

pub returns : goal.returns
returns g c =
    let all : c.parts.k ≡ length c.args.parts.now = omega (arith, c.parts-test.false, c.parts.auto.k-end, c.len-many.ensures) in
    rw all at c.parts.invariant
