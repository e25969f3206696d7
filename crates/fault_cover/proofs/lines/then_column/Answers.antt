use Rattle.std.proofs.Common.{◌-◌, ap, ◌∙◌}
use Rattle.std.specs.Prelude.{replicate}
use Rattle.fault_cover.proofs.lines.then_column.Goals as goal

pub returns : goal.returns
returns g c =
    let many = c.saturating_sub.ensures ∙ ap (λ d. 12 - d) c.digits_in.ensures in
    let left = c.blanks.ensures ∙ ap (λ k. replicate k 32) many in
    rw left at c.numbered.ensures
