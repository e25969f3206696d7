use Rattle.std.proofs.Common.{◌≡◌, ◌∙◌, ap, sym, true, false, nat_lt, Ok, to_z, of_z, w64, arith}
use mir.Syntax.{w128}
use Rattle.std.proofs.lemmas.Int.{to_z-of_z}
use Rattle.std.proofs.lemmas.Result.{err_from_is_err_and}
use Rattle.vcp_base.specs.Kinds.{takes, operands, outcome}
use Rattle.vcp_base.proofs.OutcomeLaws.{unfit_first, unfit_second, unfit_third, reads_alone}
use Rattle.vcp_base.proofs.outcomes.outcome.Goals as goal

pub returns-in_err-a-clause-value : goal.returns-in_err-a-clause-value
returns-in_err-a-clause-value c =
    let p = err_from_is_err_and c.from_residual.result c.from_residual.ensures.1 in
    let e : takes c.args.kind 0 c.args.from c.args.a ≡ false = rw (to_z-of_z w128 c.args.a c.ranges.a) at c.in_err-a.ensures.err.1 in
    rw (p.1, p.2) (rw (c.in_err-a.ensures.err.0) (unfit_first c.args.kind c.args.from c.args.ty c.args.imm c.args.a c.args.b c.args.c e))

pub returns-in_err-b-clause-value : goal.returns-in_err-b-clause-value
returns-in_err-b-clause-value c =
    let p = err_from_is_err_and c.from_residual-in_err-b.result c.from_residual-in_err-b.ensures.1 in
    let e : takes c.args.kind 1 c.args.from c.args.b ≡ false = rw (to_z-of_z w128 c.args.b c.ranges.b) at c.in_err-b.ensures.err.1 in
    rw (p.1, p.2) (rw (c.in_err-b.ensures.err.0) (unfit_second c.args.kind c.args.from c.args.ty c.args.imm c.args.a c.args.b c.args.c e))

pub returns-in_err-c-clause-value : goal.returns-in_err-c-clause-value
returns-in_err-c-clause-value c =
    let p = err_from_is_err_and c.from_residual-in_err-c.result c.from_residual-in_err-c.ensures.1 in
    let e : takes c.args.kind 2 c.args.from c.args.c ≡ false = rw (to_z-of_z w128 c.args.c c.ranges.c) at c.in_err-c.ensures.err.1 in
    rw (p.1, p.2) (rw (c.in_err-c.ensures.err.0) (unfit_third c.args.kind c.args.from c.args.ty c.args.imm c.args.a c.args.b c.args.c e))

pub returns-in_err-v-clause-value : goal.returns-in_err-v-clause-value
returns-in_err-v-clause-value c =
    let p = err_from_is_err_and c.from_residual-in_err-v.result c.from_residual-in_err-v.ensures.1 in
    let e : nat_lt 0 (operands c.args.kind) ≡ true → c.in_ok-a.a ≡ c.args.a =
    λ h. c.in_ok-a.ensures.ok.1 h ∙ to_z-of_z w128 c.args.a c.ranges.a in
    let f : nat_lt 1 (operands c.args.kind) ≡ true → c.in_ok-b.b ≡ c.args.b =
    λ h. c.in_ok-b.ensures.ok.1 h ∙ to_z-of_z w128 c.args.b c.ranges.b in
    let g : nat_lt 2 (operands c.args.kind) ≡ true → c.in_ok-c.c ≡ c.args.c =
    λ h. c.in_ok-c.ensures.ok.1 h ∙ to_z-of_z w128 c.args.c c.ranges.c in
    let i = to_z-of_z w64 c.args.imm c.ranges.imm in
    let x = to_z-of_z w64 c.in_ok-a.a c.in_ok-a.ensures.width in
    let y = to_z-of_z w64 c.in_ok-b.b c.in_ok-b.ensures.width in
    let z = to_z-of_z w64 c.in_ok-c.c c.in_ok-c.ensures.width in
    rw (p.1, p.2) (sym c.in_err-v.was ∙ c.short_outcome.ensures
    ∙ (λ j. outcome c.args.kind c.args.from c.args.ty (i j) (x j) (y j) (z j))
    ∙ reads_alone c.args.kind c.args.from c.args.ty c.args.imm c.args.a c.args.b c.args.c c.in_ok-a.a c.in_ok-b.b c.in_ok-c.c e f g)

pub returns-clause-value : goal.returns-clause-value
returns-clause-value c =
    let v : to_z w128 (of_z w128 (to_z w64 (of_z w64 c.in_ok-v.v))) ≡ c.in_ok-v.v = grind (arith, to_z-of_z) in
    let e : nat_lt 0 (operands c.args.kind) ≡ true → c.in_ok-a.a ≡ c.args.a =
    λ h. c.in_ok-a.ensures.ok.1 h ∙ to_z-of_z w128 c.args.a c.ranges.a in
    let f : nat_lt 1 (operands c.args.kind) ≡ true → c.in_ok-b.b ≡ c.args.b =
    λ h. c.in_ok-b.ensures.ok.1 h ∙ to_z-of_z w128 c.args.b c.ranges.b in
    let g : nat_lt 2 (operands c.args.kind) ≡ true → c.in_ok-c.c ≡ c.args.c =
    λ h. c.in_ok-c.ensures.ok.1 h ∙ to_z-of_z w128 c.args.c c.ranges.c in
    let i = to_z-of_z w64 c.args.imm c.ranges.imm in
    let x = to_z-of_z w64 c.in_ok-a.a c.in_ok-a.ensures.width in
    let y = to_z-of_z w64 c.in_ok-b.b c.in_ok-b.ensures.width in
    let z = to_z-of_z w64 c.in_ok-c.c c.in_ok-c.ensures.width in
    ap Ok v ∙ sym c.in_ok-v.was ∙ c.short_outcome.ensures
    ∙ (λ j. outcome c.args.kind c.args.from c.args.ty (i j) (x j) (y j) (z j))
    ∙ reads_alone c.args.kind c.args.from c.args.ty c.args.imm c.args.a c.args.b c.args.c c.in_ok-a.a c.in_ok-b.b c.in_ok-c.c e f g
