use Rattle.std.proofs.Common.{◌≡◌, ◌≤◌, ℕ, ℤ, pos, List, length, w64, SFits, refl, sym, ap, ◌∙◌, arith, rules}
use Rattle.std.proofs.lemmas.Int.{to_z-of_z}
use Rattle.std.proofs.lemmas.List.{get_or_past}
use Rattle.std.proofs.lemmas.Option.{get_or_from_slice_get}
use Rattle.std.specs.Prelude.{unsigned_abs}
use Rattle.vcp_base.specs.declared.kind.Kind.{Kind}
use Rattle.vcp_base.specs.declared.kind.Kind.TheVariants as kind
use Rattle.vcp_base.specs.Values.{at}
use Rattle.op_graph.specs.GraphRun.{own}
use Rattle.fault_sites.proofs.graph_values.own.Goals as goal

-- of an INPUT
input : (row : List ℤ) (k : Kind) (imm : ℤ) (n : ℕ) → k ≡ kind.Input → n ≡ unsigned_abs imm → at row n ≡ own row k imm
input row k imm n is number = ap (at row) number ∙ sym (ap (λ (k : Kind). own row k imm) is)

-- of any other
other : (row : List ℤ) (k : Kind) (imm : ℤ) → (k ≡ kind.Input → ⊥) → imm ≡ own row k imm
other row kind.Input imm never = absurd (never refl)
other row kind.Const imm never = refl
other row kind.Load imm never = refl
other row kind.Store imm never = refl
other row kind.Out imm never = refl
other row kind.Conv imm never = refl
other row kind.Neg imm never = refl
other row kind.Not imm never = refl
other row kind.Add imm never = refl
other row kind.Sub imm never = refl
other row kind.Mul imm never = refl
other row kind.Div imm never = refl
other row kind.Mod imm never = refl
other row kind.Eq imm never = refl
other row kind.Lt imm never = refl
other row kind.And imm never = refl
other row kind.Or imm never = refl
other row kind.Xor imm never = refl
other row kind.Sel imm never = refl

pub returns-then-n-len : goal.returns-then-n-len
returns-then-n-len c =
    let imm = c.args.op.now.imm in
    let fits : SFits w64 imm = search rules in
    let value : SFits w64 c.at.result = record { sfits = c.at.type_inv } in
    to_z-of_z w64 c.at.result value
    ∙ (sym (get_or_from_slice_get c.args.row.now c.unsigned_abs-n.result c.at.result (pos 0) c.at.ensures)
    ∙ input c.args.row.now c.args.op.now.kind imm c.unsigned_abs-n.result c.in-Input.is (c.unsigned_abs-n.ensures.value ∙ ap unsigned_abs (to_z-of_z w64 imm fits)))

pub returns-else-n-len : goal.returns-else-n-len
returns-else-n-len c =
    let imm = c.args.op.now.imm in
    let fits : SFits w64 imm = search rules in
    let past : length c.args.row.now ≤ c.unsigned_abs-n.result = omega (arith, c.len.ensures, c.if-n-len.false) in
    sym (get_or_past c.args.row.now c.unsigned_abs-n.result (pos 0) past)
    ∙ input c.args.row.now c.args.op.now.kind imm c.unsigned_abs-n.result c.in-Input.is (c.unsigned_abs-n.ensures.value ∙ ap unsigned_abs (to_z-of_z w64 imm fits))

pub returns-in_default : goal.returns-in_default
returns-in_default c =
    let imm = c.args.op.now.imm in
    let fits : SFits w64 imm = search rules in
    to_z-of_z w64 imm fits ∙ other c.args.row.now c.args.op.now.kind imm c.in_default.not-Input
