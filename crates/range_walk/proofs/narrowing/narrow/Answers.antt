use Rattle.std.proofs.Common.{refl, ◌∙◌, sym}
use Rattle.range_walk.proofs.narrowing.narrow.Goals as goal

pub passes-init : goal.passes-init
passes-init c = record { many = refl; fits = λ held row vs hold given whole fit. fit }

pub passes-preserved : goal.passes-preserved
passes-preserved c =
    let i = c.passes.invariant in
    record {
      many = c.go_through-in-passes.ensures.many ∙ c.go_through.ensures.many ∙ i.many;
      fits = λ held row vs hold given whole fit.
          let count = whole ∙ sym i.many in
          c.go_through-in-passes.ensures.fits held row vs hold given (count ∙ sym c.go_through.ensures.many)
          (c.go_through.ensures.fits held row vs hold given count (i.fits held row vs hold given whole fit));
    }

pub returns-then-same-clause-many : goal.returns-then-same-clause-many
returns-then-same-clause-many c = c.go_through-in-passes.ensures.many ∙ c.go_through.ensures.many ∙ c.passes.invariant.many

pub returns-then-same-clause-fits : goal.returns-then-same-clause-fits
returns-then-same-clause-fits c = λ held row vs hold given whole fit.
    let count = whole ∙ sym c.passes.invariant.many in
    c.go_through-in-passes.ensures.fits held row vs hold given (count ∙ sym c.go_through.ensures.many)
    (c.go_through.ensures.fits held row vs hold given count (c.passes.invariant.fits held row vs hold given whole fit))

pub returns-clause-fits : goal.returns-clause-fits
returns-clause-fits c = c.passes.invariant.fits

pub returns-clause-many : goal.returns-clause-many
returns-clause-many c = c.passes.invariant.many
