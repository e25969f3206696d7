use Rattle.flat_expr.proofs.Refusals.{more_refuses, at_least}
use Rattle.std.proofs.Common.{◌≡◌, pos, true, cond, refl, sym, ap, ◌∙◌, subst, arith}
use Rattle.std.specs.Prelude.{IfErr}
use Rattle.std.proofs.lemmas.Result.{IfOk-weaker}
use Rattle.vcp_base.specs.declared.ty.Ty.{Ty}
use Rattle.vcp_base.specs.Code.{admits}
use Rattle.vcp_base.specs.Kinds.{same}
use Rattle.vcp_base.specs.Values.{at}
use Rattle.vcp_typed.specs.Meaning.{lesser, greater}
use Rattle.vcp_typed.specs.Size.{function_size}
use Rattle.flat_expr.specs.State.{Makes, Refuses, FunFits, applies}
use Rattle.flat_expr.proofs.Conversions.{conversion_fits, conversion_last, conversion_size, argument_fits, converted}
use Rattle.flat_expr.proofs.Operators.{selected, total_step}
use Rattle.flat_expr.proofs.Ops.{sel_types}
use Rattle.flat_expr.proofs.flat.Flat.apply.Goals as goal

pub returns-in-Min-clause-made : goal.returns-in-Min-clause-made
returns-in-Min-clause-made c =
    IfOk-weaker c.pick.result _ _ (λ k p.
    subst (λ f. Makes c.args.self.now c.pick.new.self c.args.ty (function_size f)
    (applies c.args.self.now f c.args.ty c.args.a c.args.b c.args.c c.args.spot) k) (sym c.in-Min.is)
    (total_step c.args.self.now c.pick.new.self c.args.ty _ (λ vs. lesser (at vs c.args.a) (at vs c.args.b)) _ _ k (omega arith)
    (λ now vs types. refl) p)) c.pick.ensures.made

pub returns-in-Max-clause-made : goal.returns-in-Max-clause-made
returns-in-Max-clause-made c =
    IfOk-weaker c.pick-in-Max.result _ _ (λ k p.
    subst (λ f. Makes c.args.self.now c.pick-in-Max.new.self c.args.ty (function_size f)
    (applies c.args.self.now f c.args.ty c.args.a c.args.b c.args.c c.args.spot) k) (sym c.in-Max.is)
    (total_step c.args.self.now c.pick-in-Max.new.self c.args.ty _ (λ vs. greater (at vs c.args.a) (at vs c.args.b)) _ _ k (omega arith)
    (λ now vs types. refl) p)) c.pick-in-Max.ensures.made

pub returns-in-Limit-clause-made : goal.returns-in-Limit-clause-made
returns-in-Limit-clause-made c =
    IfOk-weaker c.limit.result _ _ (λ k p.
    subst (λ f. Makes c.args.self.now c.limit.new.self c.args.ty (function_size f)
    (applies c.args.self.now f c.args.ty c.args.a c.args.b c.args.c c.args.spot) k) (sym c.in-Limit.is)
    (total_step c.args.self.now c.limit.new.self c.args.ty _ (λ vs. lesser (greater (at vs c.args.b) (at vs c.args.a)) (at vs c.args.c)) _ _ k (omega arith)
    (λ now vs types. refl) p)) c.limit.ensures.made

pub returns-in-Sel-clause-made : goal.returns-in-Sel-clause-made
returns-in-Sel-clause-made c =
    let f = subst (λ f. FunFits f c.args.ty c.args.self.now.graph.operations c.args.a c.args.b c.args.c) c.in-Sel.is c.requires.arguments in
    IfOk-weaker c.add.result _ _ (λ k p.
    subst (λ f. Makes c.args.self.now c.add.new.self c.args.ty (function_size f)
    (applies c.args.self.now f c.args.ty c.args.a c.args.b c.args.c c.args.spot) k) (sym c.in-Sel.is)
    (total_step c.args.self.now c.add.new.self c.args.ty _ (λ vs. cond (same (at vs c.args.a) (pos 0)) (at vs c.args.b) (at vs c.args.c)) _ _ k (omega arith)
    (λ now vs types. refl)
    (selected c.args.self.now c.add.new.self c.args.ty c.args.a c.args.b c.args.c k c.args.spot f.1 f.2 p))) c.add.ensures.made

pub convert-requires-clause-types : goal.convert-requires-clause-types
convert-requires-clause-types c = conversion_fits c.args.fun (c.in-Some.from, c.in-Some.to) (sym c.conversion.ensures ∙ c.in-Some.is)

pub convert-requires-clause-from : goal.convert-requires-clause-from
convert-requires-clause-from c =
    let last = conversion_last c.args.ty c.args.fun (c.in-Some.from, c.in-Some.to) (sym c.conversion.ensures ∙ c.in-Some.is) in
    subst (λ t. admits c.args.self.now.graph.profile t ≡ true) last c.requires.last

pub convert-requires-clause-to : goal.convert-requires-clause-to
convert-requires-clause-to c =
    let fit = argument_fits c.args.ty c.args.self.now.graph.operations c.args.a c.args.b c.args.c c.args.fun (c.in-Some.from, c.in-Some.to)
    (sym c.conversion.ensures ∙ c.in-Some.is) c.requires.arguments in
    subst (λ t. admits c.args.self.now.graph.profile t ≡ true) fit.0 c.requires.ty

pub convert-requires-clause-a : goal.convert-requires-clause-a
convert-requires-clause-a c =
    let fit = argument_fits c.args.ty c.args.self.now.graph.operations c.args.a c.args.b c.args.c c.args.fun (c.in-Some.from, c.in-Some.to)
    (sym c.conversion.ensures ∙ c.in-Some.is) c.requires.arguments in fit.1

pub returns-in-Some-clause-made : goal.returns-in-Some-clause-made
returns-in-Some-clause-made c =
    let types : Ty × Ty = (c.in-Some.from, c.in-Some.to) in
    let is = sym c.conversion.ensures ∙ c.in-Some.is in
    let fit = argument_fits c.args.ty c.args.self.now.graph.operations c.args.a c.args.b c.args.c c.args.fun types is c.requires.arguments in
    let two = conversion_size c.args.fun types is in
    IfOk-weaker c.convert.result _ _ (λ k p.
    subst (λ n. Makes c.args.self.now c.convert.new.self c.args.ty n (applies c.args.self.now c.args.fun c.args.ty c.args.a c.args.b c.args.c c.args.spot) k)
    (sym two)
    (subst (λ u. Makes c.args.self.now c.convert.new.self u 2 (applies c.args.self.now c.args.fun u c.args.a c.args.b c.args.c c.args.spot) k) (sym fit.0)
    (converted c.args.self.now c.convert.new.self c.args.a c.args.b c.args.c k c.args.spot c.args.fun types is fit.1 p))) c.convert.ensures.made

pub returns-in-Some-clause-refuses : goal.returns-in-Some-clause-refuses
returns-in-Some-clause-refuses c =
    let two = conversion_size c.args.fun (c.in-Some.from, c.in-Some.to) (sym c.conversion.ensures ∙ c.in-Some.is) in
    subst (λ n. IfErr c.convert.result (λ e. Refuses c.args.self.now c.convert.new.self n e)) (sym two) c.convert.ensures.refuses

-- ---- what the calls require, and their refusals

pub absolute-requires : goal.absolute-requires
absolute-requires c =
    let f = subst (λ f. FunFits f c.args.ty c.args.self.now.graph.operations c.args.a c.args.b c.args.c) c.in-Abs.is c.requires.arguments in
    record { number = f.0; code = c.requires.ty; a = f.1 }

pub returns-in-Abs-clause-refuses : goal.returns-in-Abs-clause-refuses
returns-in-Abs-clause-refuses c =
    more_refuses c.args.self.now c.absolute.new.self 5 (function_size c.args.fun) c.absolute.result
    (at_least 5 0 (function_size c.args.fun) (ap function_size c.in-Abs.is)) c.absolute.ensures.refuses

pub pick-requires : goal.pick-requires
pick-requires c =
    let f = subst (λ f. FunFits f c.args.ty c.args.self.now.graph.operations c.args.a c.args.b c.args.c) c.in-Min.is c.requires.arguments in
    record { number = f.0; code = c.requires.ty; x = f.2; y = f.1; a = f.1; b = f.2 }

pub returns-in-Min-clause-refuses : goal.returns-in-Min-clause-refuses
returns-in-Min-clause-refuses c =
    more_refuses c.args.self.now c.pick.new.self 2 (function_size c.args.fun) c.pick.result
    (at_least 2 1 (function_size c.args.fun) (ap function_size c.in-Min.is)) c.pick.ensures.refuses

pub pick-requires-in-Max : goal.pick-requires-in-Max
pick-requires-in-Max c =
    let f = subst (λ f. FunFits f c.args.ty c.args.self.now.graph.operations c.args.a c.args.b c.args.c) c.in-Max.is c.requires.arguments in
    record { number = f.0; code = c.requires.ty; x = f.1; y = f.2; a = f.1; b = f.2 }

pub returns-in-Max-clause-refuses : goal.returns-in-Max-clause-refuses
returns-in-Max-clause-refuses c =
    more_refuses c.args.self.now c.pick-in-Max.new.self 2 (function_size c.args.fun) c.pick-in-Max.result
    (at_least 2 1 (function_size c.args.fun) (ap function_size c.in-Max.is)) c.pick-in-Max.ensures.refuses

pub limit-requires : goal.limit-requires
limit-requires c =
    let f = subst (λ f. FunFits f c.args.ty c.args.self.now.graph.operations c.args.a c.args.b c.args.c) c.in-Limit.is c.requires.arguments in
    record { number = f.0; code = c.requires.ty; low = f.1; a = f.2; high = f.3 }

pub returns-in-Limit-clause-refuses : goal.returns-in-Limit-clause-refuses
returns-in-Limit-clause-refuses c =
    more_refuses c.args.self.now c.limit.new.self 6 (function_size c.args.fun) c.limit.result
    (at_least 6 0 (function_size c.args.fun) (ap function_size c.in-Limit.is)) c.limit.ensures.refuses

pub add-requires : goal.add-requires
add-requires c =
    let f = subst (λ f. FunFits f c.args.ty c.args.self.now.graph.operations c.args.a c.args.b c.args.c) c.in-Sel.is c.requires.arguments in
    record { plain = refl; types = sel_types c.args.ty; from = c.requires.ty; ty = c.requires.ty; a = f.0; b = f.1; c = f.2 }

pub returns-in-Sel-clause-refuses : goal.returns-in-Sel-clause-refuses
returns-in-Sel-clause-refuses c =
    more_refuses c.args.self.now c.add.new.self 1 (function_size c.args.fun) c.add.result
    (at_least 1 2 (function_size c.args.fun) (ap function_size c.in-Sel.is)) c.add.ensures.refuses
