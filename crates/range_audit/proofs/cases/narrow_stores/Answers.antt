use Rattle.std.proofs.Common.{◌<◌, ◌∙◌, subst, sym}
use Rattle.range_audit.proofs.Steps.{as_many}
use Rattle.range_audit.proofs.cases.narrow_stores.Goals as goal

pub cells-init : goal.cells-init
cells-init c = record { many = c.requires.many; fits = λ held row vs hold given whole fit. fit }

pub range_by_cases-r-requires : goal.range_by_cases-r-requires
range_by_cases-r-requires c =
    let i = c.cells.invariant in
    record { there = subst (λ m. c.store_at-store.result < m) (sym i.many) c.store_at-store.ensures; many = as_many _ _ i.many }

pub put-requires : goal.put-requires
put-requires c = subst (λ m. c.store_at-store.result < m) (sym c.cells.invariant.many) c.store_at-store.ensures

pub cells-preserved : goal.cells-preserved
cells-preserved c =
    let i = c.cells.invariant in
    record {
      many = c.put.ensures.many ∙ i.many;
      fits = λ held row vs hold given whole fit.
          let before = i.fits held row vs hold given whole fit in
          c.put.ensures.fits vs (subst (λ m. c.store_at-store.result < m) (sym (whole ∙ c.requires.many)) c.store_at-store.ensures) before
          (c.range_by_cases-r.ensures held row vs hold given (whole ∙ c.requires.many ∙ sym i.many) before);
    }

pub returns-clause-many : goal.returns-clause-many
returns-clause-many c = c.cells.invariant.many ∙ sym c.requires.many

pub returns-clause-fits : goal.returns-clause-fits
returns-clause-fits c = c.cells.invariant.fits
