-- WorstIs: the look by the totals of verdicts is that of the worst of them.
use Rattle.std.proofs.Common.{◌≡◌, ℕ, ◌<◌, Bool, true, false, cond, nat_lt, List, [], ◌∷◌, length, refl, arith}
use Rattle.std.proofs.lemmas.Bool.{ltb-true, ltb-false}
use Rattle.fault_script.specs.declared.act.Fault.{Fault}
use Rattle.fault_injector.specs.declared.verdicts.Verdict.{Verdict}
use Rattle.fault_injector.specs.declared.lines.Totals.{Totals}
use Rattle.fault_injector.specs.FaultLines.{faults as faults_in, totals_of}
use Rattle.verdict_tables.specs.declared.tables.Table.TheVariants as table
use Rattle.verdict_tables.specs.Tables.{picked}
use Rattle.pictures.specs.declared.looks.Look.{Look}
use Rattle.pictures.specs.declared.looks.Worst.{Worst}
use Rattle.pictures.specs.declared.looks.Worst.TheVariants as worst
use Rattle.pictures.specs.VerdictLooks.{tried, worst_of, verdict_looks}
use Rattle.pictures.specs.WorstVerdict.{badness, times, IsWorst, IsWorstLook}
use Rattle.pictures.proofs.Counted.{count_of, counted_all, many_in_all}

none_of_all : (vs : List Verdict) → length vs ≡ 0 → vs ≡ []
none_of_all [] e = refl
none_of_all (v ∷ vs) e = absurd (omega (arith, e))

module _ (vs : List Verdict) (t : Totals) (counts : (w : Worst) → count_of w t ≡ times w vs) (many : faults_in t ≡ length vs) where
  either : (b : Bool) (l m : Look) → (b ≡ true → IsWorst vs l) → (b ≡ false → IsWorst vs m) → IsWorst vs (cond b l m)
  either true l m first second = first refl
  either false l m first second = second refl

  absent : (w : Worst) → nat_lt 0 (count_of w t) ≡ false → times w vs ≡ 0
  absent w is = omega (arith, counts w, ltb-false 0 (count_of w t) is)

  there : (w : Worst) → ((u : Worst) → badness w < badness u → times u vs ≡ 0) → nat_lt 0 (count_of w t) ≡ true → IsWorst vs (tried w (count_of w t) t)
  there w none is = (ltb-true 0 (count_of w t) is, counts w, many, none)

  above_wrong : (u : Worst) → badness worst.Wrong < badness u → times u vs ≡ 0
  above_wrong worst.Wrong lt = absurd (omega (arith, lt))
  above_wrong worst.RanOn lt = absurd (omega (arith, lt))
  above_wrong worst.Same lt = absurd (omega (arith, lt))
  above_wrong worst.Stopped lt = absurd (omega (arith, lt))
  above_wrong worst.Refused lt = absurd (omega (arith, lt))

  above_ran_on : (nat_lt 0 t.wrong ≡ false) → (u : Worst) → badness worst.RanOn < badness u → times u vs ≡ 0
  above_ran_on no_wrong worst.Wrong lt = absent worst.Wrong no_wrong
  above_ran_on no_wrong worst.RanOn lt = absurd (omega (arith, lt))
  above_ran_on no_wrong worst.Same lt = absurd (omega (arith, lt))
  above_ran_on no_wrong worst.Stopped lt = absurd (omega (arith, lt))
  above_ran_on no_wrong worst.Refused lt = absurd (omega (arith, lt))

  above_same : (nat_lt 0 t.wrong ≡ false) → (nat_lt 0 t.ran_on ≡ false) → (u : Worst) → badness worst.Same < badness u → times u vs ≡ 0
  above_same no_wrong no_ran_on worst.Wrong lt = absent worst.Wrong no_wrong
  above_same no_wrong no_ran_on worst.RanOn lt = absent worst.RanOn no_ran_on
  above_same no_wrong no_ran_on worst.Same lt = absurd (omega (arith, lt))
  above_same no_wrong no_ran_on worst.Stopped lt = absurd (omega (arith, lt))
  above_same no_wrong no_ran_on worst.Refused lt = absurd (omega (arith, lt))

  above_stopped : (nat_lt 0 t.wrong ≡ false) → (nat_lt 0 t.ran_on ≡ false) → (nat_lt 0 t.same ≡ false) → (u : Worst) → badness worst.Stopped < badness u
      → times u vs ≡ 0
  above_stopped no_wrong no_ran_on no_same worst.Wrong lt = absent worst.Wrong no_wrong
  above_stopped no_wrong no_ran_on no_same worst.RanOn lt = absent worst.RanOn no_ran_on
  above_stopped no_wrong no_ran_on no_same worst.Same lt = absent worst.Same no_same
  above_stopped no_wrong no_ran_on no_same worst.Stopped lt = absurd (omega (arith, lt))
  above_stopped no_wrong no_ran_on no_same worst.Refused lt = absurd (omega (arith, lt))

  above_refused : (nat_lt 0 t.wrong ≡ false) → (nat_lt 0 t.ran_on ≡ false) → (nat_lt 0 t.same ≡ false) → (nat_lt 0 t.stopped ≡ false) → (u : Worst)
      → badness worst.Refused < badness u → times u vs ≡ 0
  above_refused no_wrong no_ran_on no_same no_stopped worst.Wrong lt = absent worst.Wrong no_wrong
  above_refused no_wrong no_ran_on no_same no_stopped worst.RanOn lt = absent worst.RanOn no_ran_on
  above_refused no_wrong no_ran_on no_same no_stopped worst.Same lt = absent worst.Same no_same
  above_refused no_wrong no_ran_on no_same no_stopped worst.Stopped lt = absent worst.Stopped no_stopped
  above_refused no_wrong no_ran_on no_same no_stopped worst.Refused lt = absurd (omega (arith, lt))

  pub worst_is : IsWorst vs (worst_of t)
  worst_is =
      either (nat_lt 0 t.wrong) _ _ (there worst.Wrong above_wrong)
      (λ no_wrong. either (nat_lt 0 t.ran_on) _ _ (there worst.RanOn (above_ran_on no_wrong))
      (λ no_ran_on. either (nat_lt 0 t.same) _ _ (there worst.Same (above_same no_wrong no_ran_on))
      (λ no_same. either (nat_lt 0 t.stopped) _ _ (there worst.Stopped (above_stopped no_wrong no_ran_on no_same))
      (λ no_stopped. either (nat_lt 0 t.refused) _ _ (there worst.Refused (above_refused no_wrong no_ran_on no_same no_stopped))
      (λ no_refused. none_of_all vs
      (omega (
        arith,
        many,
        ltb-false 0 t.wrong no_wrong,
        ltb-false 0 t.ran_on no_ran_on,
        ltb-false 0 t.same no_same,
        ltb-false 0 t.stopped no_stopped,
        ltb-false 0 t.refused no_refused,
      )))))))

-- the look of operation n
pub worst_look : (groups : List (List Fault)) (vs : List Verdict) (n : ℕ) → IsWorstLook groups vs n (verdict_looks groups vs n)
worst_look groups vs n =
    let ours = picked table.Operations n groups vs in worst_is ours (totals_of ours) (λ w. counted_all w ours) (many_in_all ours)
