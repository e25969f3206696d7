use Rattle.std.proofs.Common.{sym, ◌∙◌, below_more, arith, rules}
use Rattle.std.proofs.lemmas.Option.{slice_get_within, same_Some}
use Rattle.vcp_base.specs.Values.{at}
use Rattle.range_audit.proofs.Boxed.{InsideAt, inside_same}
use Rattle.range_audit.proofs.Steps.{get_there}
use Rattle.range_audit.proofs.boxes.is_inside.Goals as goal

pub cells-preserved : goal.cells-preserved
cells-preserved c =
    let here : InsideAt c.args.cells.now c.args.other.now c.cells.j = λ s r a b.
    let s_is = same_Some c.range_at-cell.result s (sym c.range_at-cell.ensures ∙ a) in
    let r_is = same_Some c.range_at-wide.result r (sym c.range_at-wide.ensures ∙ b) in
    inside_same c.range_at-cell.result s c.range_at-wide.result r s_is r_is (c.is_inside-is.ensures (search rules)) in
    below_more (InsideAt c.args.cells.now c.args.other.now) c.cells.j c.cells.invariant here

pub returns : goal.returns
returns c = λ e held hold. (
  omega arith,
  λ j r there.
      let lt = slice_get_within c.args.other.now j r there in
      let s = get_there c.args.cells.now j (omega (arith, lt)) in
      c.cells.invariant j (omega (arith, lt)) s.0 r s.1 there (at held j) (hold j s.0 s.1),
)
