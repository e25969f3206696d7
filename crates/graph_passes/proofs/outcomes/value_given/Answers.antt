use Rattle.std.proofs.Common.{◌≡◌, ◌∙◌, ℤ, Some, None, Ok, Err, ap, sym, rules, w64, to_z, of_z}
use mir.Val.{SFits}
use mir.Syntax.{w128}
use Rattle.std.proofs.lemmas.Int.{to_z-of_z}
use Rattle.vcp_base.specs.Kinds.{Outcome, outcome}
use Rattle.vcp_base.specs.declared.kind.Kind.{Kind}
use Rattle.vcp_base.specs.declared.kind.StopKind.{StopKind}
use Rattle.vcp_base.specs.declared.ty.Ty.{Ty}
use Rattle.graph_passes.specs.Folding.{value_unless_stop}
use Rattle.graph_passes.proofs.outcomes.value_given.Goals as goal

given_ok : (o p : Outcome) (v w : ℤ) → o ≡ Ok v → p ≡ o → w ≡ v → Some w ≡ value_unless_stop p
given_ok o p v w is same equal = ap Some equal ∙ ap value_unless_stop (sym is ∙ sym same)

given_err : (o p : Outcome) (why : StopKind) → o ≡ Err why → p ≡ o → None ≡ value_unless_stop p
given_err o p why is same = ap value_unless_stop (sym is ∙ sym same)

widened : (x y : ℤ) → y ≡ to_z w64 (of_z w64 x) → SFits w64 x → SFits w128 y → x ≡ to_z w128 (of_z w128 y)
widened x y e short wide = sym (to_z-of_z w64 x short) ∙ sym e ∙ sym (to_z-of_z w128 y wide)

alike : (k : Kind) (from to : Ty) (i a b c j x y z : ℤ) → i ≡ j → a ≡ x → b ≡ y → c ≡ z → outcome k from to i a b c ≡ outcome k from to j x y z
alike k from to i a b c j x y z imm first second third =
    ap (λ n. outcome k from to n a b c) imm ∙ ap (λ n. outcome k from to j n b c) first ∙ ap (λ n. outcome k from to j x n c) second
    ∙ ap (λ n. outcome k from to j x y n) third

pub returns-in-Ok : goal.returns-in-Ok
returns-in-Ok c =
    let op = c.args.op.now in
    let imm : op.imm ≡ to_z w64 (of_z w64 op.imm) = sym (to_z-of_z w64 op.imm (search rules)) in
    let first : c.args.a ≡ to_z w128 (of_z w128 c.from.result) = widened c.args.a c.from.result c.from.ensures (search rules) (search rules) in
    let second : c.args.b ≡ to_z w128 (of_z w128 c.from-2.result) = widened c.args.b c.from-2.result c.from-2.ensures (search rules) (search rules) in
    let third : c.args.c ≡ to_z w128 (of_z w128 c.from-3.result) = widened c.args.c c.from-3.result c.from-3.ensures (search rules) (search rules) in
    let same : outcome op.kind op.from op.ty op.imm c.args.a c.args.b c.args.c ≡ c.outcome.result =
    alike op.kind op.from op.ty op.imm c.args.a c.args.b c.args.c _ _ _ _ imm first second third ∙ sym c.outcome.ensures.value in
    let wide : SFits w128 c.in-Ok.v = search rules in
    let short : SFits w64 c.in-Ok.v = search rules in
    let equal : to_z w64 (of_z w64 (to_z w128 (of_z w128 c.in-Ok.v))) ≡ c.in-Ok.v = ap (λ x. to_z w64 (of_z w64 x)) (to_z-of_z w128 c.in-Ok.v wide)
    ∙ to_z-of_z w64 c.in-Ok.v short in
    given_ok c.outcome.result (outcome op.kind op.from op.ty op.imm c.args.a c.args.b c.args.c) c.in-Ok.v _ c.in-Ok.is same equal

pub returns-in-Err : goal.returns-in-Err
returns-in-Err c =
    let op = c.args.op.now in
    let imm : op.imm ≡ to_z w64 (of_z w64 op.imm) = sym (to_z-of_z w64 op.imm (search rules)) in
    let first : c.args.a ≡ to_z w128 (of_z w128 c.from.result) = widened c.args.a c.from.result c.from.ensures (search rules) (search rules) in
    let second : c.args.b ≡ to_z w128 (of_z w128 c.from-2.result) = widened c.args.b c.from-2.result c.from-2.ensures (search rules) (search rules) in
    let third : c.args.c ≡ to_z w128 (of_z w128 c.from-3.result) = widened c.args.c c.from-3.result c.from-3.ensures (search rules) (search rules) in
    let same : outcome op.kind op.from op.ty op.imm c.args.a c.args.b c.args.c ≡ c.outcome.result =
    alike op.kind op.from op.ty op.imm c.args.a c.args.b c.args.c _ _ _ _ imm first second third ∙ sym c.outcome.ensures.value in
    given_err c.outcome.result (outcome op.kind op.from op.ty op.imm c.args.a c.args.b c.args.c) c.in-Err.field-0 c.in-Err.is same
