use Rattle.std.proofs.Common.{◌≡◌, None, sym, ap, ◌∙◌, subst}
use Rattle.flat_expr.specs.State.{State, IsState, Assigns}
use Rattle.flat_expr.proofs.Assigning.{assigned}
use Rattle.flat_expr.proofs.Steps.{slot_there}
use Rattle.flat_expr.proofs.flat.Flat.assign.Goals as goal

pub returns-in-None-clause-made : goal.returns-in-None-clause-made
returns-in-None-clause-made c =
    let x = slot_there c.args.self.now.slots c.args.slot c.requires.slot in
    let none : c.args.self.now.path ≡ None = sym (ap (λ (s : State). s.path) c.self.view_is) ∙ c.in-None.is in
    subst (λ s. Assigns c.args.self.now s c.args.slot c.args.op) (sym c.set.ensures.known)
    (assigned c.args.self.now x.0.ty c.args.slot c.args.op c.requires.slot (subst IsState c.self.view_is c.self.invariant)
    (subst IsState c.set.ensures.known c.set.ensures.state) none (c.requires.fits x.0 x.1))
