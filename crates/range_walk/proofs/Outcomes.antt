-- Outcomes: what is told of an operation holds, where its bounds do.
use Rattle.std.proofs.Common.{◌≡◌, ◌≢◌, ℤ, Bool, true, false, not, cond, List, Ok, Err, refl, sym, ap, subst, ◌⊎◌, inl, inr}
use Rattle.std.proofs.lemmas.Bool.{both_ways, true_from_ne_false, false_from_ne_true, not_from_false}
use Rattle.vcp_base.specs.declared.kind.Kind.{Kind}
use Rattle.vcp_base.specs.declared.kind.Kind.TheVariants as kind
use Rattle.vcp_base.specs.declared.kind.StopKind.{StopKind}
use Rattle.vcp_base.specs.declared.kind.StopKind.TheVariants as stop
use Rattle.vcp_base.specs.Kinds.{Outcome, divides_by_zero, value}
use Rattle.vcp_base.specs.Types.{fits}
use Rattle.op_graph.specs.declared.op.Op.{Op}
use Rattle.op_graph.specs.GraphRun.{own, operand}
use Rattle.op_graph.specs.Rules.{is_input}
use Rattle.range_walk.specs.declared.range.Bounds.{Bounds}
use Rattle.range_walk.specs.declared.range.Range.{Range}
use Rattle.range_walk.specs.Known.{may_stop}
use Rattle.range_walk.specs.Intervals.{IsIn, IsWithin}
use Rattle.range_walk.specs.Walking.{Tells}

-- an outcome by its three tests
abbrev pub by_tests : Bool → Bool → Bool → ℤ → Outcome
by_tests a b c w = cond a (cond b (Err stop.DivZero) (cond c (Ok w) (Err stop.Range))) (Err stop.Operand)

pub ok_says : (a b c : Bool) (w v : ℤ) → by_tests a b c w ≡ Ok v → (b ≡ false) × (c ≡ true) × (w ≡ v)
ok_says true true c w v h = absurd cc
ok_says true false true w v h = let same : w ≡ v = cc in (refl, refl, same)
ok_says true false false w v h = absurd cc
ok_says false b c w v h = absurd cc

pub err_says : (a b c : Bool) (w : ℤ) (why : StopKind) → by_tests a b c w ≡ Err why → why ≢ stop.Operand
    → ((b ≡ true) × (why ≡ stop.DivZero)) ⊎ ((b ≡ false) × (c ≡ false) × (why ≡ stop.Range))
err_says true true c w why h other = let same : why ≡ stop.DivZero = cc in inl (refl, same)
err_says true false true w why h other = absurd cc
err_says true false false w why h other = let same : why ≡ stop.Range = cc in inr (refl, refl, same)
err_says false b c w why h other = let same : why ≡ stop.Operand = cc in absurd (other same)

pub range_says : (a b c : Bool) (w : ℤ) → by_tests a b c w ≡ Err stop.Range → (a ≡ true) × (b ≡ false) × (c ≡ false)
range_says true true c w h = absurd cc
range_says true false true w h = absurd cc
range_says true false false w h = (refl, refl, refl)
range_says false b c w h = absurd cc

own_is : (row : List ℤ) (k : Kind) (imm : ℤ) → is_input k ≡ false → own row k imm ≡ imm
own_is row kind.Input imm h = absurd cc
own_is row _ imm h = refl

pub computed_tells : (held row vs : List ℤ) (op : Op) (bounds : Bounds) (r : Range) (fit div_zero : Bool) → is_input op.kind ≡ false
    → (div_zero ≡ false → divides_by_zero op.kind (operand held vs op 1 op.b) ≡ false)
    → (divides_by_zero op.kind (operand held vs op 1 op.b) ≡ false
    → IsWithin bounds (value op.kind op.imm (operand held vs op 0 op.a) (operand held vs op 1 op.b) (operand held vs op 2 op.c)))
    → (fit ≡ true → (v : ℤ) → IsWithin bounds v → fits op.ty v ≡ true)
    → ((v : ℤ) → fits op.ty v ≡ true → IsWithin bounds v → IsIn r v)
    → Tells held row vs op (record { range = r; stops = record { range = not fit; div_zero = div_zero } })
computed_tells held row vs op bounds r fit div_zero no_input divides within typed met =
    let x = operand held vs op 0 op.a in
    let y = operand held vs op 1 op.b in
    let z = operand held vs op 2 op.c in
    let same : value op.kind op.imm x y z ≡ value op.kind (own row op.kind op.imm) x y z =
    ap (λ o. value op.kind o x y z) (sym (own_is row op.kind op.imm no_input)) in
    let inside : divides_by_zero op.kind y ≡ false → IsWithin bounds (value op.kind (own row op.kind op.imm) x y z) =
    λ d. subst (λ v. IsWithin bounds v) same (within d) in
    record {
      value = λ v e.
          let says = ok_says _ _ _ _ v e in
          met v (subst (λ w. fits op.ty w ≡ true) says.2 says.1) (subst (λ w. IsWithin bounds w) says.2 (inside says.0));
      stop = λ why own_fits no e.
          elim (err_says _ _ _ _ why e no) [
            | inl p ↦ subst (λ w. may_stop w (record { range = not fit; div_zero = div_zero }) ≡ true) (sym p.1)
                (true_from_ne_false div_zero (λ d. both_ways _ (divides d) p.0))
            | inr p ↦ subst (λ w. may_stop w (record { range = not fit; div_zero = div_zero }) ≡ true) (sym p.2)
                (not_from_false fit (false_from_ne_true fit (λ f. both_ways _ p.1 (typed f _ (inside p.0)))))
          ];
    }
