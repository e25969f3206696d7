use Rattle.std.proofs.Common.{refl, ◌∙◌, sym}
use Rattle.range_walk.proofs.narrowing.go_through.Goals as goal

pub operations-init : goal.operations-init
operations-init c = record { many = refl; fits = λ held row vs hold given whole fit. fit }

pub operations-preserved : goal.operations-preserved
operations-preserved c =
    let i = c.operations.invariant in
    record {
      many = c.settle.ensures.many ∙ i.many;
      fits = λ held row vs hold given whole fit.
          c.settle.ensures.fits held row vs hold given (whole ∙ sym i.many) (i.fits held row vs hold given whole fit);
    }

pub returns-clause-fits : goal.returns-clause-fits
returns-clause-fits c = c.operations.invariant.fits

pub returns-clause-many : goal.returns-clause-many
returns-clause-many c = c.operations.invariant.many
