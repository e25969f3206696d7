-- InputValues: the value of an INPUT is that of its input in the row.
use Rattle.std.proofs.Common.{◌≡◌, ℤ, true, false, List, inl, inr, refl, ap, sym, subst, ◌∙◌}
use Rattle.std.specs.Prelude.{unsigned_abs}
use Rattle.vcp_base.specs.declared.kind.Kind.{Kind}
use Rattle.vcp_base.specs.declared.kind.Kind.TheVariants as kind
use Rattle.std.proofs.lemmas.Bool.{both_ways}
use Rattle.vcp_base.specs.Kinds.{divides_by_zero, value}
use Rattle.vcp_base.specs.Types.{fits}
use Rattle.vcp_base.specs.Values.{at}
use Rattle.op_graph.specs.declared.op.Op.{Op}
use Rattle.op_graph.specs.GraphRun.{own, operand}
use Rattle.op_graph.specs.Rules.{is_input}
use Rattle.range_walk.specs.declared.range.Range.{Range}
use Rattle.range_walk.specs.declared.told.Told.{Told}
use Rattle.range_walk.specs.Intervals.{IsIn}
use Rattle.range_walk.specs.Walking.{Tells}
use Rattle.range_walk.proofs.Outcomes.{ok_says, err_says}

own_value : (k : Kind) (own a b c : ℤ) → k ≡ kind.Input → value k own a b c ≡ own
own_value kind.Input own a b c e = refl
own_value _ own a b c e = absurd cc

own_input : (row : List ℤ) (k : Kind) (imm : ℤ) → k ≡ kind.Input → own row k imm ≡ at row (unsigned_abs imm)
own_input row kind.Input imm e = refl
own_input row _ imm e = absurd cc

-- an INPUT gives a value of its type, and doesn't stop on a row that fits
pub input_of_type : (held row vs : List ℤ) (op : Op) (r : Range) → op.kind ≡ kind.Input → ((v : ℤ) → fits op.ty v ≡ true → IsIn r v)
    → Tells held row vs op (record { range = r; stops = record { range = false; div_zero = false } })
input_of_type held row vs op r is inside = record {
  value = λ v e. let says = ok_says _ _ _ _ v e in inside v (subst (λ w. fits op.ty w ≡ true) says.2 says.1);
  stop = λ why own_fits no e.
      let never : ⊥ =
      elim (err_says _ _ _ _ why e no) [
        | inl p ↦ both_ways _ (ap (λ k. divides_by_zero k (operand held vs op 1 op.b)) is) p.0
        | inr p ↦ both_ways _ p.1 (subst (λ w. fits op.ty w ≡ true) (sym (own_value op.kind _ _ _ _ is)) (own_fits (ap is_input is)))
      ] in
      absurd never;
}

-- what is told of an INPUT holds with another range that has the value of its input
pub input_tells : (held row vs : List ℤ) (op : Op) (t : Told) (r : Range) → op.kind ≡ kind.Input
    → (IsIn t.range (at row (unsigned_abs op.imm)) → IsIn r (at row (unsigned_abs op.imm))) → Tells held row vs op t
    → Tells held row vs op (record { range = r; stops = t.stops })
input_tells held row vs op t r is inside tells = record {
  value = λ v e.
      let says = ok_says _ _ _ _ v e in
      let same : at row (unsigned_abs op.imm) ≡ v = sym (own_value op.kind _ _ _ _ is ∙ own_input row op.kind op.imm is) ∙ says.2 in
      subst (λ w. IsIn r w) same (inside (subst (λ w. IsIn t.range w) (sym same) (tells.value v e)));
  stop = tells.stop;
}
