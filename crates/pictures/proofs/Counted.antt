-- Counted: totals count verdicts by what they say.
use Rattle.std.proofs.Common.{◌≡◌, ℕ, ◌+◌, ◌==◌, cond, List, [], ◌∷◌, length, refl, arith}
use Rattle.fault_injector.specs.declared.verdicts.Verdict.{Verdict}
use Rattle.fault_injector.specs.declared.verdicts.Verdict.TheVariants as verdict
use Rattle.fault_injector.specs.declared.lines.Totals.{Totals}
use Rattle.fault_injector.specs.FaultLines.{faults as faults_in, no_verdicts, counted, totals_after, totals_of}
use Rattle.pictures.specs.declared.looks.Worst.{Worst}
use Rattle.pictures.specs.declared.looks.Worst.TheVariants as worst
use Rattle.pictures.specs.WorstVerdict.{sort_of, badness, times}

-- how many say this
abbrev pub count_of : Worst → Totals → ℕ
count_of worst.Wrong t = t.wrong
count_of worst.RanOn t = t.ran_on
count_of worst.Same t = t.same
count_of worst.Stopped t = t.stopped
count_of worst.Refused t = t.refused

one_more : (w : Worst) (t : Totals) (v : Verdict) → count_of w (counted t v) ≡ count_of w t + cond (badness (sort_of v) == badness w) 1 0
one_more worst.Wrong t verdict.Same = omega arith
one_more worst.Wrong t (verdict.Wrong cycle output got want) = omega arith
one_more worst.Wrong t (verdict.RanOn cycle) = omega arith
one_more worst.Wrong t (verdict.Refused cycle output found wanted) = omega arith
one_more worst.Wrong t (verdict.Stopped cycle op kind) = omega arith
one_more worst.RanOn t verdict.Same = omega arith
one_more worst.RanOn t (verdict.Wrong cycle output got want) = omega arith
one_more worst.RanOn t (verdict.RanOn cycle) = omega arith
one_more worst.RanOn t (verdict.Refused cycle output found wanted) = omega arith
one_more worst.RanOn t (verdict.Stopped cycle op kind) = omega arith
one_more worst.Same t verdict.Same = omega arith
one_more worst.Same t (verdict.Wrong cycle output got want) = omega arith
one_more worst.Same t (verdict.RanOn cycle) = omega arith
one_more worst.Same t (verdict.Refused cycle output found wanted) = omega arith
one_more worst.Same t (verdict.Stopped cycle op kind) = omega arith
one_more worst.Stopped t verdict.Same = omega arith
one_more worst.Stopped t (verdict.Wrong cycle output got want) = omega arith
one_more worst.Stopped t (verdict.RanOn cycle) = omega arith
one_more worst.Stopped t (verdict.Refused cycle output found wanted) = omega arith
one_more worst.Stopped t (verdict.Stopped cycle op kind) = omega arith
one_more worst.Refused t verdict.Same = omega arith
one_more worst.Refused t (verdict.Wrong cycle output got want) = omega arith
one_more worst.Refused t (verdict.RanOn cycle) = omega arith
one_more worst.Refused t (verdict.Refused cycle output found wanted) = omega arith
one_more worst.Refused t (verdict.Stopped cycle op kind) = omega arith

all_after : (w : Worst) (t : Totals) (vs : List Verdict) → count_of w (totals_after t vs) ≡ count_of w t + times w vs
all_after w t [] = omega arith
all_after w t (v ∷ vs) =
    let later : count_of w (totals_after (counted t v) vs) ≡ count_of w (counted t v) + times w vs = all_after w (counted t v) vs in
    omega (arith, later, one_more w t v)

none_before : (w : Worst) → count_of w no_verdicts ≡ 0
none_before worst.Wrong = refl
none_before worst.RanOn = refl
none_before worst.Same = refl
none_before worst.Stopped = refl
none_before worst.Refused = refl

pub counted_all : (w : Worst) (vs : List Verdict) → count_of w (totals_of vs) ≡ times w vs
counted_all w vs = omega (arith, all_after w no_verdicts vs, none_before w)

-- how many there are
one_counted : (t : Totals) (v : Verdict) → faults_in (counted t v) ≡ faults_in t + 1
one_counted t verdict.Same = omega arith
one_counted t (verdict.Wrong cycle output got want) = omega arith
one_counted t (verdict.RanOn cycle) = omega arith
one_counted t (verdict.Refused cycle output found wanted) = omega arith
one_counted t (verdict.Stopped cycle op kind) = omega arith

many_after : (t : Totals) (vs : List Verdict) → faults_in (totals_after t vs) ≡ faults_in t + length vs
many_after t [] = omega arith
many_after t (v ∷ vs) =
    let later : faults_in (totals_after (counted t v) vs) ≡ faults_in (counted t v) + length vs = many_after (counted t v) vs in
    omega (arith, later, one_counted t v)

pub many_in_all : (vs : List Verdict) → faults_in (totals_of vs) ≡ length vs
many_in_all vs = omega (arith, many_after no_verdicts vs)
