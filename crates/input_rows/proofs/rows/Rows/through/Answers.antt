use Rattle.std.proofs.Common.{◌≡◌, ◌≤◌, ◌∙◌, sym, ap, subst, ℕ, Bool, true, false, All, length, Option, Some, None, IfSome, arith}
use Rattle.std.proofs.lemmas.Grind.{common_steps, elements}
use Rattle.vcp_base.specs.Types.{AreIn}
use Rattle.input_rows.specs.declared.fault.RowFault.{RowFault}
use Rattle.input_rows.specs.RowsOf.{RowsLeft, IsOfRecord, through, behind_wanted}
use Rattle.input_rows.specs.Sources.{rows_left}
use Rattle.input_rows.specs.WantedRows.{wanted_rows}
use Rattle.input_rows.proofs.rows.Rows.through.Goals as goal

typed : (cycle : ℕ) (left : RowsLeft) → All (AreIn left.types) left.rows → All (AreIn (through cycle left).types) (through cycle left).rows
typed cycle left all = grind (arith, elements)

few : (cycle : ℕ) (left : RowsLeft) → length (through cycle left).rows ≤ length left.rows
few cycle left = grind (arith, common_steps)

behind : (enough : Bool) (refusal : Option RowFault) → IfSome refusal IsOfRecord → IfSome (behind_wanted enough None refusal) IsOfRecord
behind true refusal is = tt
behind false None is = tt
behind false (Some why) is = is

pub returns : goal.returns
returns c =
    let left = c.args.self in
    let n = c.args.cycle in
    let is : wanted_rows c.through.result (rows_left c.self.inside.source) ≡ through n left = c.through.ensures (rows_left c.self.inside.source)
    ∙ ap (through n) c.self.view_is in
    record {
      rows = is;
      types = ap (λ (l : RowsLeft). l.types) is;
      typed = λ all. subst (λ (l : RowsLeft). All (AreIn l.types) l.rows) (sym is) (typed n left all);
      few = subst (λ (l : RowsLeft). length l.rows ≤ length left.rows) (sym is) (few n left);
      behind = λ was. subst (λ (l : RowsLeft). IfSome l.refusal IsOfRecord) (sym is) (behind _ left.refusal was);
      fresh = ap (λ (l : RowsLeft). l.ended) is;
    }
