use Rattle.std.proofs.Common.{◌≡◌, ◌++◌, ap, sym, ◌∙◌, add-one, arith}
use Rattle.fault_sites.specs.Sites.{each_below}
use Rattle.verdict_tables.specs.SumText.{delay_text}
use Rattle.fault_cover.specs.CoverText.{delay_row, heard_of, is_late, refused_only, row_text}
use Rattle.fault_cover.proofs.Tallying.{count_few}
use Rattle.vcp_outside.specs.Pens.{unmoved, and_then, same}
use Rattle.fault_cover.proofs.writing.then_delay_rows.Goals as goal

pub delays-init : goal.delays-init
delays-init g c = λ covered are few. unmoved

pub delays-preserved : goal.delays-preserved
delays-preserved g c = λ covered are few.
    let n = c.delays.n in
    let is = c.delayed.ensures covered are few in
    let most = count_few (is_late n) (heard_of covered) in
    let row = c.then_delay_row-pen.ensures (omega (arith, is, most, few)) in
    same (and_then (c.delays.invariant covered are few) row)
    (ap (each_below (delay_row (heard_of covered))) (add-one n)
    ∙ ap (λ m. each_below (delay_row (heard_of covered)) n ++ row_text (delay_text n) (refused_only m)) (sym is))

pub returns : goal.returns
returns g c =
    let all : c.delays.n ≡ 17 = omega arith in rw all at c.delays.invariant
