use Rattle.std.proofs.Common.{drop, sum_by}
use Rattle.std.specs.List.{list_any}
use Rattle.vcp_typed.specs.declared.measure.Measure.{Measure}
use Rattle.vcp_typed.specs.Measures.{Grows}
use Rattle.vcp_typed.specs.Size.{section_size}
use Rattle.vcp_typed.specs.Wide.{is_lint}
use Rattle.vcp_typed.proofs.measure.slots_measure.Given as goal

-- what the rest adds from here on, all slots add from the start on
abbrev pub invariant-each : goal.invariant-each
invariant-each l =
    (r : Measure) → Grows l.sum r (sum_by (λ s. section_size s.section) (drop l.s-index l.slots)) (list_any (λ s. is_lint s.ty) (drop l.s-index l.slots))
    → Grows l.fn.total r (sum_by (λ s. section_size s.section) l.slots) (list_any (λ s. is_lint s.ty) l.slots)
