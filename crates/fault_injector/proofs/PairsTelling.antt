-- PairsTelling: the totals of verdicts on a pair.
use Rattle.std.proofs.Common.{◌≡◌, ◌+◌, suc, List, [], ◌∷◌, ◌++◌, length, refl, arith}
use Rattle.fault_injector.specs.declared.campaign.pairs.lines.PairTotals.{PairTotals}
use Rattle.fault_injector.specs.declared.campaign.pairs.verdict.PairVerdict.{PairVerdict}
use Rattle.fault_injector.specs.declared.campaign.pairs.verdict.PairVerdict.TheVariants as held
use Rattle.fault_injector.specs.GroupLines.{groups_in, counted, no_groups, totals_after, totals_of}

pub totals_next : (t : PairTotals) (vs : List PairVerdict) (v : PairVerdict) → totals_after t (vs ++ v ∷ []) ≡ counted (totals_after t vs) v
totals_next t [] v = refl
totals_next t (w ∷ vs) v = totals_next (counted t w) vs v

one_counted : (t : PairTotals) (v : PairVerdict) → groups_in (counted t v) ≡ suc (groups_in t)
one_counted t held.Same = omega arith
one_counted t (held.Held cycle) = omega arith

-- as many groups are counted as there are verdicts
all_counted : (t : PairTotals) (vs : List PairVerdict) → groups_in (totals_after t vs) ≡ groups_in t + length vs
all_counted t [] = omega arith
all_counted t (v ∷ vs) = omega (arith, all_counted (counted t v) vs, one_counted t v)

pub many_counted : (vs : List PairVerdict) → groups_in (totals_of vs) ≡ length vs
many_counted vs = omega (arith, all_counted no_groups vs)
