use Rattle.std.proofs.Common.{◌≡◌, Some, length, slice_get, refl, sym, ap, ◌∙◌, subst, arith}
use Rattle.std.specs.Prelude.{IfErr}
use Rattle.std.proofs.lemmas.Result.{err_from_is_err_and}
use Rattle.vcp_base.specs.declared.kind.Kind.TheVariants as kind
use Rattle.vcp_base.specs.declared.ty.Ty.TheVariants as ty
use Rattle.flat_expr.specs.State.{IsState, IsA, IsPlace, Makes, Assigns, Leaves, no_slot, one_slot, acts}
use Rattle.flat_expr.proofs.Assigning.{chosen}
use Rattle.flat_expr.proofs.Codes.{still}
use Rattle.flat_expr.proofs.Refusals.{later_leaves, more_leaves}
use Rattle.flat_expr.proofs.Steps.{slot_there}
use Rattle.flat_expr.proofs.flat.Flat.choose.Goals as goal

pub returns-clause-made : goal.returns-clause-made
returns-clause-made c =
    let x = slot_there c.args.self.now.slots c.args.slot c.requires.slot in
    let t : c.type_of-ty.result ≡ x.0.ty = c.type_of-ty.ensures.value x.0 x.1 in
    let old = c.in_ok-old.ensures.made x.0 x.1 in
    let sel = subst
    (λ u. Makes c.read.new.self c.add.new.self u 1
    (acts c.read.new.self kind.Sel u c.args.path c.in_ok-old.old c.args.op c.args.spot) c.in_ok-value.value) t c.in_ok-value.ensures.made in
    subst (λ s. Assigns c.args.self.now s c.args.slot c.args.op) (sym c.set.ensures.known)
    (chosen c.args.self.now c.read.new.self c.add.new.self x.0.ty c.args.slot c.args.path c.args.op c.in_ok-old.old c.in_ok-value.value c.args.spot c.requires.slot c.requires.path (subst IsState c.set.ensures.known c.set.ensures.state) (c.requires.fits x.0 x.1) old sel)

pub returns-in_err-value-clause-refuses : goal.returns-in_err-value-clause-refuses
returns-in_err-value-clause-refuses c =
    let x = slot_there c.args.self.now.slots c.args.slot c.requires.slot in
    let old = c.in_ok-old.ensures.made x.0 x.1 in
    let q = err_from_is_err_and c.from_residual-in_err-value.result c.from_residual-in_err-value.ensures.1 in
    let h =
    later_leaves (one_slot c.args.slot) no_slot (one_slot c.args.slot) c.args.self.now c.read.new.self c.add.new.self 0 1 c.add.result (λ s no. (no, refl))
    old.follows old.unread old.count c.add.ensures.refuses in
    rw (q.1, q.2) (subst (λ r. IfErr r (λ e. Leaves c.args.self.now c.add.new.self (one_slot c.args.slot) 1 e)) c.in_err-value.was h)

pub add-requires-clause-a : goal.add-requires-clause-a
add-requires-clause-a c =
    let x = slot_there c.args.self.now.slots c.args.slot c.requires.slot in
    let old = c.in_ok-old.ensures.made x.0 x.1 in
    old.follows.typed ty.Bool c.args.path (subst (IsPlace ty.Bool c.args.self.now.graph.operations) c.requires.path old.follows.before.path)

pub add-requires-clause-b : goal.add-requires-clause-b
add-requires-clause-b c =
    let x = slot_there c.args.self.now.slots c.args.slot c.requires.slot in
    let old = c.in_ok-old.ensures.made x.0 x.1 in
    subst (λ u. IsA u c.read.new.self.graph.operations c.in_ok-old.old) (sym (c.type_of-ty.ensures.value x.0 x.1)) old.place

pub add-requires-clause-c : goal.add-requires-clause-c
add-requires-clause-c c =
    let x = slot_there c.args.self.now.slots c.args.slot c.requires.slot in
    let old = c.in_ok-old.ensures.made x.0 x.1 in
    subst (λ u. IsA u c.read.new.self.graph.operations c.args.op) (sym (c.type_of-ty.ensures.value x.0 x.1))
    (old.follows.typed x.0.ty c.args.op (c.requires.fits x.0 x.1))

pub set-requires-clause-slot : goal.set-requires-clause-slot
set-requires-clause-slot c =
    let x = slot_there c.args.self.now.slots c.args.slot c.requires.slot in
    let old = c.in_ok-old.ensures.made x.0 x.1 in
    let same = ap length (c.in_ok-value.ensures.made.follows.slots ∙ old.follows.slots) in
    omega (arith, same, c.requires.slot)

pub set-requires-clause-fits : goal.set-requires-clause-fits
set-requires-clause-fits c = λ y h.
    let x = slot_there c.args.self.now.slots c.args.slot c.requires.slot in
    let old = c.in_ok-old.ensures.made x.0 x.1 in
    let there : slice_get c.args.self.now.slots c.args.slot ≡ Some y =
    sym (ap (λ l. slice_get l c.args.slot) (c.in_ok-value.ensures.made.follows.slots ∙ old.follows.slots)) ∙ h in
    subst (λ u. IsA u c.add.new.self.graph.operations c.in_ok-value.value) (c.type_of-ty.ensures.value y there) c.in_ok-value.ensures.made.place

pub add-requires-clause-from : goal.add-requires-clause-from
add-requires-clause-from c =
    let x = slot_there c.args.self.now.slots c.args.slot c.requires.slot in
    let old = c.in_ok-old.ensures.made x.0 x.1 in
    still c.args.self.now.graph.profile c.read.new.self.graph.profile c.type_of-ty.result old.follows.profile c.type_of-ty.ensures.code

pub add-requires-clause-ty : goal.add-requires-clause-ty
add-requires-clause-ty c =
    let x = slot_there c.args.self.now.slots c.args.slot c.requires.slot in
    let old = c.in_ok-old.ensures.made x.0 x.1 in
    still c.args.self.now.graph.profile c.read.new.self.graph.profile c.type_of-ty.result old.follows.profile c.type_of-ty.ensures.code

pub returns-in_err-old-clause-made : goal.returns-in_err-old-clause-made
returns-in_err-old-clause-made c = rw (err_from_is_err_and c.from_residual.result c.from_residual.ensures.1).1 tt

pub returns-in_err-value-clause-made : goal.returns-in_err-value-clause-made
returns-in_err-value-clause-made c = rw (err_from_is_err_and c.from_residual-in_err-value.result c.from_residual-in_err-value.ensures.1).1 tt

pub returns-in_err-old-clause-refuses : goal.returns-in_err-old-clause-refuses
returns-in_err-old-clause-refuses c =
    let q = err_from_is_err_and c.from_residual.result c.from_residual.ensures.1 in
    let h =
    more_leaves (one_slot c.args.slot) (one_slot c.args.slot) c.args.self.now c.read.new.self 0 1 c.read.result (λ slot no. no) (omega arith) c.read.ensures.refuses in
    rw (q.1, q.2) (subst (λ r. IfErr r (λ e. Leaves c.args.self.now c.read.new.self (one_slot c.args.slot) 1 e)) c.in_err-old.was h)
