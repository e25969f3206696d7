use Rattle.op_graph.specs.Rules.{is_number}
use Rattle.flat_expr.proofs.Codes.{still}
use Rattle.flat_expr.proofs.Ops.{neg_types}
use Rattle.std.proofs.Common.{true}
use Rattle.std.proofs.Common.{◌≡◌, Some, refl, sym, subst}
use Rattle.std.proofs.lemmas.Result.{IfOk-weaker}
use Rattle.vcp_base.specs.declared.ty.Ty.TheVariants as ty
use Rattle.flat_expr.specs.State.{Makes}
use Rattle.flat_expr.proofs.Operators.{negated, not_made}
use Rattle.flat_expr.specs.State.{signs, IsA}
use Rattle.st_tree.specs.declared.expr.UnOp.{UnOp}
use Rattle.st_tree.specs.declared.expr.UnOp.TheVariants as un
use Rattle.vcp_base.specs.declared.ty.Ty.{Ty}
use Rattle.vcp_typed.specs.Rules.{signed}
use Rattle.flat_expr.proofs.Refusals.{later_refuses}
use Rattle.flat_expr.proofs.flat.Flat.sign.Goals as goal

pub returns-in_ok-m-in-Neg-clause-made : goal.returns-in_ok-m-in-Neg-clause-made
returns-in_ok-m-in-Neg-clause-made c =
    IfOk-weaker c.add.result _ _ (λ k p.
    subst (λ (op : UnOp). Makes c.args.self.now c.add.new.self c.args.ty 2 (signs c.args.self.now op c.args.ty c.args.a c.args.spot) k) (sym c.in-Neg.is)
    (negated c.args.self.now c.mask.new.self c.add.new.self c.args.ty c.args.a c.in_ok-m-in-Neg.m k c.args.spot c.in_ok-m-in-Neg.ensures.made p)) c.add.ensures.made

bool_of : (t : Ty) → signed un.Not t ≡ Some t → t ≡ ty.Bool
bool_of ty.Bool h = refl
bool_of ty.Int h = absurd cc
bool_of ty.Dint h = absurd cc
bool_of ty.Lint h = absurd cc

pub returns-in-Not-clause-made : goal.returns-in-Not-clause-made
returns-in-Not-clause-made c =
    let t : c.args.ty ≡ ty.Bool = bool_of c.args.ty (subst (λ (op : UnOp). signed op c.args.ty ≡ Some c.args.ty) c.in-Not.is c.requires.types) in
    IfOk-weaker c.add-in-Not.result _ _ (λ k p.
    subst (λ (op : UnOp). Makes c.args.self.now c.add-in-Not.new.self c.args.ty 2 (signs c.args.self.now op c.args.ty c.args.a c.args.spot) k) (sym c.in-Not.is)
    (subst (λ u. Makes c.args.self.now c.add-in-Not.new.self u 2 (signs c.args.self.now un.Not u c.args.a c.args.spot) k) (sym t)
    (not_made c.args.self.now c.add-in-Not.new.self c.args.a k c.args.spot
    (subst (λ u. IsA u c.args.self.now.graph.operations c.args.a) t c.requires.a) p))) c.add-in-Not.ensures.made

pub returns-in_ok-m-in-Neg-clause-refuses : goal.returns-in_ok-m-in-Neg-clause-refuses
returns-in_ok-m-in-Neg-clause-refuses c = later_refuses c.args.self.now c.mask.new.self c.add.new.self 1 1 c.add.result
    c.in_ok-m-in-Neg.ensures.made.follows c.in_ok-m-in-Neg.ensures.made.unread c.in_ok-m-in-Neg.ensures.made.count c.add.ensures.refuses

number_of : (t : Ty) → signed un.Neg t ≡ Some t → is_number t ≡ true
number_of ty.Bool h = absurd cc
number_of ty.Int h = refl
number_of ty.Dint h = refl
number_of ty.Lint h = refl

pub mask-requires : goal.mask-requires
mask-requires c =
    record { there = c.requires.a; number = number_of c.args.ty (subst (λ (op : UnOp). signed op c.args.ty ≡ Some c.args.ty) c.in-Neg.is c.requires.types); code = c.requires.code }

pub add-requires : goal.add-requires
add-requires c =
    let m = c.in_ok-m-in-Neg.ensures.made in
    let number = number_of c.args.ty (subst (λ (op : UnOp). signed op c.args.ty ≡ Some c.args.ty) c.in-Neg.is c.requires.types) in
    let code = still _ _ c.args.ty m.follows.profile c.requires.code in
    record { plain = refl; types = neg_types c.args.ty number; from = code; ty = code; a = m.place; b = refl; c = refl }

pub add-requires-in-Not : goal.add-requires-in-Not
add-requires-in-Not c =
    let t : c.args.ty ≡ ty.Bool = bool_of c.args.ty (subst (λ (op : UnOp). signed op c.args.ty ≡ Some c.args.ty) c.in-Not.is c.requires.types) in
    record { plain = refl; types = refl; from = refl; ty = refl; a = subst (λ u. IsA u c.args.self.now.graph.operations c.args.a) t c.requires.a; b = refl; c = refl }
