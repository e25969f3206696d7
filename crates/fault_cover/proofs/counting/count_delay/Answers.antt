use Rattle.std.proofs.Common.{◌∙◌, ap, set, arith}
use Rattle.fault_cover.specs.CoverText.{is_late}
use Rattle.fault_cover.proofs.Tallying.{count_few, delay_rises}
use Rattle.fault_cover.proofs.counting.count_delay.Goals as goal

pub returns-in-Refused : goal.returns-in-Refused
returns-in-Refused c = λ past h e few are.
    let row = c.delay_row-row.result in
    let inside = c.delay_row-row.ensures.within in
    delay_rises c.args.delays.now _ past h row inside (λ n lt. ap (is_late n) (e ∙ c.in-Refused.is) ∙ c.delay_row-row.ensures.row n lt)
    (ap (set c.args.delays.now row) (c.plus.ensures (let each = are.each row inside in let most = count_few (is_late row) past in omega (
      arith,
      few,
      each,
      most,
    )))) are
