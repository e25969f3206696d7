use Rattle.std.proofs.Common.{◌≡◌, inl, inr, false, length, Option, Some, slice_get, sym, ap, subst, ◌∙◌, arith}
use Rattle.std.proofs.lemmas.Bool.{cases_order}
use Rattle.std.proofs.lemmas.Option.{slice_get_within}
use Rattle.op_graph.specs.declared.op.Op.{Op}
use Rattle.pictures.specs.declared.layout.BoxPlace.{BoxPlace}
use Rattle.pictures.specs.Arrangement.{IsWithin}
use Rattle.pictures.specs.Constants.{is_constant}
use Rattle.pictures.proofs.rows.corner.Goals as goal

same_there : {X : Type 0} (o : Option X) (x y : X) → o ≡ Some x → o ≡ Some y → x ≡ y
same_there o x y e f = cc

pub places-preserved : goal.places-preserved
places-preserved c = λ k op p lt there is at.
    elim (cases_order k c.places.i) [
      | inl e ↦
          let op_is : c.operation.result ≡ op =
          same_there (slice_get c.args.graph.now.operations c.places.i) c.operation.result op c.operation.ensures
          (ap (slice_get c.args.graph.now.operations) (sym e) ∙ there) in
          let place_is : c.place_of-place.result ≡ p =
          same_there (slice_get c.args.places.now c.places.i) c.place_of-place.result p c.place_of-place.ensures
          (ap (slice_get c.args.places.now) (sym e) ∙ at) in
          let plain : c.is_constant-constant.result ≡ false = c.is_constant-constant.ensures ∙ (ap (λ (o : Op). is_constant o.kind) op_is ∙ is) in
          subst (λ (q : BoxPlace). IsWithin c.with_place-corner.result q) place_is (c.with_place-corner.ensures.last plain)
      | inr (inl l) ↦ c.with_place-corner.ensures.earlier p (c.places.invariant k op p l there is at)
      | inr (inr l) ↦ absurd (omega (arith, l, lt))
    ]

pub returns : goal.returns
returns c = λ i op p there is at.
    let all : c.places.i ≡ length c.args.graph.now.operations = omega (arith, c.places-test.false, c.places.auto.i-end, c.len-i-end.ensures.count) in
    c.places.invariant i op p (omega (arith, all, slice_get_within c.args.graph.now.operations i op there)) there is at
