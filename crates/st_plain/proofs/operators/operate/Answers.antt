use Rattle.std.proofs.Common.{ap, sym, ◌∙◌, [], Ok, w64}
use Rattle.std.specs.Prelude.{int_le, int_lt}
use Rattle.std.proofs.lemmas.Int.{to_z-of_z}
use Rattle.vcp_base.specs.Kinds.{truth}
use Rattle.st_tree.specs.declared.expr.BinOp.{BinOp}
use Rattle.st_tree.specs.declared.expr.BinOp.TheVariants as bin
use Rattle.vcp_typed.specs.Meaning.{operate}
use Rattle.st_plain.proofs.Wide.{of-two, in-range, widens, product-within, product-is, sum-within, sum-is, difference-within, difference-is}
use Rattle.st_plain.proofs.operators.operate.Goals as goal

pub overflow_cast-x : goal.overflow_cast-x
overflow_cast-x c = widens c.args.a c.ranges.a

pub overflow_cast-y : goal.overflow_cast-y
overflow_cast-y c = widens c.args.b c.ranges.b

pub overflow_mul-x : goal.overflow_mul-x
overflow_mul-x c = product-within c.args.a c.args.b c.ranges.a c.ranges.b

pub overflow_add-x : goal.overflow_add-x
overflow_add-x c = sum-within c.args.a c.args.b c.ranges.a c.ranges.b

pub overflow_sub-x : goal.overflow_sub-x
overflow_sub-x c = difference-within c.args.a c.args.b c.ranges.a c.ranges.b

pub returns-in-Mul : goal.returns-in-Mul
returns-in-Mul c =
    in-range c.args.ty c.args.spot c.in_range.result _ _ c.in_range.ensures (product-is c.args.a c.args.b c.ranges.a c.ranges.b)
    ∙ ap (λ (op : BinOp). operate op c.args.ty c.args.spot [] c.args.a c.args.b) (sym c.in-Mul.is)

pub returns-in-Add : goal.returns-in-Add
returns-in-Add c =
    in-range c.args.ty c.args.spot c.in_range-in-Add.result _ _ c.in_range-in-Add.ensures (sum-is c.args.a c.args.b c.ranges.a c.ranges.b)
    ∙ ap (λ (op : BinOp). operate op c.args.ty c.args.spot [] c.args.a c.args.b) (sym c.in-Add.is)

pub returns-in-Sub : goal.returns-in-Sub
returns-in-Sub c =
    in-range c.args.ty c.args.spot c.in_range-in-Sub.result _ _ c.in_range-in-Sub.ensures (difference-is c.args.a c.args.b c.ranges.a c.ranges.b)
    ∙ ap (λ (op : BinOp). operate op c.args.ty c.args.spot [] c.args.a c.args.b) (sym c.in-Sub.is)

pub returns-in-Div : goal.returns-in-Div
returns-in-Div c =
    c.quotient.ensures ∙ (λ i. operate bin.Div c.args.ty c.args.spot [] (to_z-of_z w64 c.args.a c.ranges.a i) (to_z-of_z w64 c.args.b c.ranges.b i))
    ∙ ap (λ (op : BinOp). operate op c.args.ty c.args.spot [] c.args.a c.args.b) (sym c.in-Div.is)

pub returns-in-Mod : goal.returns-in-Mod
returns-in-Mod c =
    c.remainder.ensures ∙ (λ i. operate bin.Mod c.args.ty c.args.spot [] (to_z-of_z w64 c.args.a c.ranges.a i) (to_z-of_z w64 c.args.b c.ranges.b i))
    ∙ ap (λ (op : BinOp). operate op c.args.ty c.args.spot [] c.args.a c.args.b) (sym c.in-Mod.is)

pub returns-in-Lt : goal.returns-in-Lt
returns-in-Lt c =
    ap (λ v. Ok v) (of-two (λ x y. truth (int_lt x y)) c.args.a c.args.b c.truth.result c.ranges.a c.ranges.b (record { sfits = c.truth.type_inv })
    c.truth.ensures)
    ∙ ap (λ (op : BinOp). operate op c.args.ty c.args.spot [] c.args.a c.args.b) (sym c.in-Lt.is)

pub returns-in-Gt : goal.returns-in-Gt
returns-in-Gt c =
    ap (λ v. Ok v) (of-two (λ x y. truth (int_lt y x)) c.args.a c.args.b c.truth-in-Gt.result c.ranges.a c.ranges.b (record { sfits = c.truth-in-Gt.type_inv })
    c.truth-in-Gt.ensures)
    ∙ ap (λ (op : BinOp). operate op c.args.ty c.args.spot [] c.args.a c.args.b) (sym c.in-Gt.is)

pub returns-in-Le : goal.returns-in-Le
returns-in-Le c =
    ap (λ v. Ok v) (of-two (λ x y. truth (int_le x y)) c.args.a c.args.b c.truth-in-Le.result c.ranges.a c.ranges.b (record { sfits = c.truth-in-Le.type_inv })
    c.truth-in-Le.ensures)
    ∙ ap (λ (op : BinOp). operate op c.args.ty c.args.spot [] c.args.a c.args.b) (sym c.in-Le.is)

pub returns-in-Ge : goal.returns-in-Ge
returns-in-Ge c =
    ap (λ v. Ok v) (of-two (λ x y. truth (int_le y x)) c.args.a c.args.b c.truth-in-Ge.result c.ranges.a c.ranges.b (record { sfits = c.truth-in-Ge.type_inv })
    c.truth-in-Ge.ensures)
    ∙ ap (λ (op : BinOp). operate op c.args.ty c.args.spot [] c.args.a c.args.b) (sym c.in-Ge.is)
