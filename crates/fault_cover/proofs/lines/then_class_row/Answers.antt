use Rattle.std.proofs.Common.{◌++◌, codes, sym, ◌∙◌, arith}
use Rattle.fault_cover.specs.CoverText.{class_name, columns_text, sum_of}
use Rattle.fault_cover.proofs.Going.{a_row, no_row}
use Rattle.fault_cover.proofs.lines.then_class_row.Goals as goal

pub returns-then-sum-eq0 : goal.returns-then-sum-eq0
returns-then-sum-eq0 g c = λ few.
    let t = c.args.tally.now in
    no_row (sum_of t) (columns_text t ++ (codes "  " ++ (class_name c.args.class ++ codes "\n"))) (sym (c.sum.ensures few) ∙ c.if-sum-eq0.true)

pub returns : goal.returns
returns g c = λ few.
    let t = c.args.tally.now in
    a_row (sum_of t) (columns_text t) (class_name c.args.class) (λ none. omega (arith, none, c.sum.ensures few, c.if-sum-eq0.false))
    (c.then_columns.ensures few) (rw c.class_name.ensures at c.texts.ensures)
