use Rattle.std.proofs.Common.{◌≡◌, ◌+◌, ◌-◌, ◌≤◌, ℕ, List, ℤ, length, take, drop, sym, ap, ◌∙◌, arith}
use Rattle.std.proofs.lemmas.List.{length-take-le, length-drop}
use Rattle.input_rows.proofs.row_list.copy_row.Goals as goal

part_is : (values : List ℤ) (start width : ℕ) → take (start + width - start) (drop start values) ≡ take width (drop start values)
part_is values start width = ap (λ (n : ℕ). take n (drop start values)) (omega arith)

part_long : (values : List ℤ) (start width : ℕ) → start + width ≤ length values → length (take (start + width - start) (drop start values)) ≡ width
part_long values start width there =
    ap length (part_is values start width) ∙ length-take-le width (drop start values) (omega (arith, there, length-drop start values))

pub copy_from-requires : goal.copy_from-requires
copy_from-requires c = part_long c.args.values.now c.args.start c.args.width c.requires.there ∙ sym c.requires.width

pub returns : goal.returns
returns c = c.copy_from.ensures ∙ part_is c.args.values.now c.args.start c.args.width
