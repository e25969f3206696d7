-- Outs: the operation of an output is an OUT of the output's type.
use Rattle.std.proofs.Common.{ℕ, zero, suc, ◌+◌, ◌<◌, ◌≡◌, ◌≢◌, true, false, refl, ap, subst, sym, ◌∙◌, ◌&&◌, Bool, List, [], ◌∷◌, length, take, slice_get, arith, eq-eqb, Some}
use Rattle.std.specs.Option.{is_some}
use Rattle.std.specs.Prelude.{All, ◌==◌}
use Rattle.std.proofs.lemmas.Bool.{ne_eqb}
use Rattle.vcp_base.specs.declared.kind.Kind.{Kind}
use Rattle.vcp_base.specs.declared.kind.Kind.TheVariants as kind
use Rattle.vcp_base.specs.declared.ty.Ty.{Ty}
use Rattle.vcp_base.specs.declared.ty.Ty.TheVariants as ty
use Rattle.op_graph.specs.declared.op.Op.{Op}
use Rattle.op_graph.specs.declared.op.Outlet.{Outlet}
use Rattle.op_graph.specs.Lists.{Lists}
use Rattle.op_graph.specs.Rules.{IsGraph, entry, found, agree, is_out, kind_fits, same_type, from_fits, ty_fits, entry_of, OpFits, scope, place_of}
use Rattle.op_graph.specs.declared.rules.Entry.{Entry}
use Rattle.op_graph.specs.declared.rules.Place.{Place}
use Rattle.op_graph.specs.Laws.{EntryLaws}

-- the output of an operation is the first of that operation, whose number is above those of the outputs before it
found_at : (outputs : List Outlet) (i : ℕ) (o : Outlet) (j : ℕ) → slice_get outputs i ≡ Some o → All (λ (p : Outlet). p.op < o.op) (take i outputs)
    → found (λ (p : Outlet). p.op == o.op) (λ p. p.ty) j outputs ≡ Some (entry (j + i) o.ty)
found_at [] i o j there rises = absurd cc
found_at (p ∷ outputs) zero o j there rises = let same : p ≡ o = cc in rw (same, eq-eqb o.op o.op refl) (ap (λ k. Some (entry k o.ty)) (omega arith))
found_at (p ∷ outputs) (suc i) o j there rises =
    let below : p.op < o.op = rises 0 p (omega arith) in
    let other : p.op ≢ o.op = omega (arith, below) in
    let rest = found_at outputs i o (j + 1) there (λ k d lt. rises (suc k) d (omega (arith, lt))) in
    rw (ne_eqb p.op o.op other) (rest ∙ ap (λ k. Some (entry k o.ty)) (omega arith))

and_right : (a b : Bool) → (a && b) ≡ true → b ≡ true
and_right true b e = e
and_right false b e = absurd cc

is_out_kind : (k : Kind) → is_out k ≡ true → k ≡ kind.Out
is_out_kind k e = elim k as (λ x. is_out x ≡ true → x ≡ kind.Out) [ kind.Out ↦ (λ _. refl) | _ ↦ (λ h. absurd cc) ] e

agrees : (b : Bool) → agree b true ≡ true → b ≡ true
agrees true e = refl
agrees false e = absurd cc

-- an operation that is an output's is an OUT
out_kind : (p : Place) (k : Kind) (e : Entry) → p.out ≡ Some e → kind_fits p k ≡ true → k ≡ kind.Out
out_kind p k e is fits =
    let last : agree (is_out k) (is_some p.out) ≡ true = and_right _ _ fits in
    is_out_kind k (agrees (is_out k) (subst (λ o. agree (is_out k) (is_some o) ≡ true) is last))

same_type_is : (a b : Ty) → same_type a b ≡ true → a ≡ b
same_type_is ty.Bool ty.Bool h = refl
same_type_is ty.Bool ty.Int h = absurd cc
same_type_is ty.Bool ty.Dint h = absurd cc
same_type_is ty.Bool ty.Lint h = absurd cc
same_type_is ty.Int ty.Bool h = absurd cc
same_type_is ty.Int ty.Int h = refl
same_type_is ty.Int ty.Dint h = absurd cc
same_type_is ty.Int ty.Lint h = absurd cc
same_type_is ty.Dint ty.Bool h = absurd cc
same_type_is ty.Dint ty.Int h = absurd cc
same_type_is ty.Dint ty.Dint h = refl
same_type_is ty.Dint ty.Lint h = absurd cc
same_type_is ty.Lint ty.Bool h = absurd cc
same_type_is ty.Lint ty.Int h = absurd cc
same_type_is ty.Lint ty.Dint h = absurd cc
same_type_is ty.Lint ty.Lint h = refl

-- and of the output's type
out_type : (p : Place) (from to : Ty) (e : Entry) → p.out ≡ Some e → from_fits (entry_of p kind.Out) kind.Out from ≡ true → ty_fits kind.Out from to ≡ true
    → e.ty ≡ to
out_type p from to e is first second = same_type_is e.ty from (subst (λ o. from_fits o kind.Out from ≡ true) is first) ∙ same_type_is from to second

-- an operation is an OUT of this type
pub record IsOut (op : Op) (t : Ty) : Type 0 where
  pub kind : op.kind ≡ kind.Out
  pub ty : op.ty ≡ t

pub output_is_out : EntryLaws → (g : Lists) (i : ℕ) (o : Outlet) (op : Op) → IsGraph g → slice_get g.outputs i ≡ Some o → slice_get g.operations o.op ≡ Some op
    → IsOut op o.ty
output_is_out laws g i o op graph there here =
    let place = place_of (scope g) o.op in
    let rises = (laws.output g i o graph.part there).operation_rises in
    let out : place.out ≡ Some (entry (0 + i) o.ty) = found_at g.outputs i o 0 there rises in
    let rules : OpFits place (length g.turn_nodes) (take o.op g.operations) op = laws.operation g o.op op graph.part here in
    let is : op.kind ≡ kind.Out = out_kind place op.kind (entry (0 + i) o.ty) out rules.kind in
    record {
      kind = is;
      ty = sym (out_type place op.from op.ty (entry (0 + i) o.ty) out (subst (λ k. from_fits (entry_of place k) k op.from ≡ true) is rules.from)
          (subst (λ k. ty_fits k op.from op.ty ≡ true) is rules.ty));
    }
