use Rattle.std.proofs.Common.{[], ◌∷◌, Ok, ap, sym, ◌∙◌, w64}
use Rattle.std.proofs.lemmas.Int.{to_z-of_z}
use Rattle.std.specs.Int.{int_max}
use Rattle.vcp_typed.specs.declared.expr.Fun.{Fun}
use Rattle.vcp_typed.specs.Meaning.{apply, lesser}
use Rattle.st_plain.proofs.Wide.{in-range, widens, from-two, of-two, max-is, magnitude-within, magnitude-is, chosen-first, chosen-other}
use Rattle.st_plain.proofs.operators.apply.Goals as goal

pub overflow_cast-a : goal.overflow_cast-a
overflow_cast-a c = widens c.args.a c.ranges.a

pub overflow_cast-a-in-LintToDint : goal.overflow_cast-a-in-LintToDint
overflow_cast-a-in-LintToDint c = widens c.args.a c.ranges.a

pub overflow_cast-unsigned_abs : goal.overflow_cast-unsigned_abs
overflow_cast-unsigned_abs c = magnitude-within c.unsigned_abs.result c.unsigned_abs.type_inv

pub returns-in-Abs : goal.returns-in-Abs
returns-in-Abs c =
    in-range c.args.ty c.args.spot c.in_range.result _ _ c.in_range.ensures
    (magnitude-is c.args.a c.unsigned_abs.result c.ranges.a c.unsigned_abs.type_inv c.unsigned_abs.ensures.value)
    ∙ ap (λ (f : Fun). apply f c.args.ty c.args.spot [] (c.args.a ∷ c.args.b ∷ c.args.c ∷ [])) (sym c.in-Abs.is)

pub returns-in-Min : goal.returns-in-Min
returns-in-Min c =
    ap (λ v. Ok v) (of-two lesser c.args.a c.args.b c.min.result c.ranges.a c.ranges.b (record { sfits = c.min.type_inv }) c.min.ensures.value)
    ∙ ap (λ (f : Fun). apply f c.args.ty c.args.spot [] (c.args.a ∷ c.args.b ∷ c.args.c ∷ [])) (sym c.in-Min.is)

pub returns-in-Max : goal.returns-in-Max
returns-in-Max c =
    ap (λ v. Ok v)
    (of-two int_max c.args.a c.args.b c.max.result c.ranges.a c.ranges.b (record { sfits = c.max.type_inv }) c.max.ensures.value ∙ max-is c.args.a c.args.b)
    ∙ ap (λ (f : Fun). apply f c.args.ty c.args.spot [] (c.args.a ∷ c.args.b ∷ c.args.c ∷ [])) (sym c.in-Max.is)

pub returns-in-Limit : goal.returns-in-Limit
returns-in-Limit c =
    let m = c.max-in-Limit in
    let v = from-two int_max c.args.b c.args.a m.result c.ranges.b c.ranges.a m.ensures.value ∙ max-is c.args.b c.args.a in
    ap (λ v. Ok v)
    (of-two lesser m.result c.args.c c.min-in-Limit.result (record { sfits = m.type_inv }) c.ranges.c (record { sfits = c.min-in-Limit.type_inv })
    c.min-in-Limit.ensures.value ∙ ap (λ x. lesser x c.args.c) v)
    ∙ ap (λ (f : Fun). apply f c.args.ty c.args.spot [] (c.args.a ∷ c.args.b ∷ c.args.c ∷ [])) (sym c.in-Limit.is)

pub returns-then-a-eq0 : goal.returns-then-a-eq0
returns-then-a-eq0 c =
    ap (λ v. Ok v) (to_z-of_z w64 c.args.b c.ranges.b ∙ chosen-first c.args.a c.args.b c.args.c c.ranges.a c.if-a-eq0.true)
    ∙ ap (λ (f : Fun). apply f c.args.ty c.args.spot [] (c.args.a ∷ c.args.b ∷ c.args.c ∷ [])) (sym c.in-Sel.is)

pub returns-else-a-eq0 : goal.returns-else-a-eq0
returns-else-a-eq0 c =
    ap (λ v. Ok v) (to_z-of_z w64 c.args.c c.ranges.c ∙ chosen-other c.args.a c.args.b c.args.c c.if-a-eq0.false)
    ∙ ap (λ (f : Fun). apply f c.args.ty c.args.spot [] (c.args.a ∷ c.args.b ∷ c.args.c ∷ [])) (sym c.in-Sel.is)
