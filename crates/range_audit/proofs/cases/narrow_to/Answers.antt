use Rattle.std.proofs.Common.{◌∙◌, sym, arith}
use Rattle.range_audit.proofs.cases.narrow_to.Goals as goal

pub narrow-requires : goal.narrow-requires
narrow-requires c = record { many = omega (arith, c.put.ensures.many, c.requires.many); cells = c.args.cycle.now.many }

pub returns-clause-many : goal.returns-clause-many
returns-clause-many c = c.narrow.ensures.many ∙ c.put.ensures.many

pub returns-clause-fits : goal.returns-clause-fits
returns-clause-fits c = record {
  fits = λ held row vs hold given whole fit i.
      c.narrow.ensures.fits held row vs hold given (whole ∙ sym c.put.ensures.many)
      (c.put.ensures.fits vs (omega (arith, whole, c.requires.there)) fit i);
}
