use Rattle.std.proofs.Common.{◌+◌, ◌||◌, ap, refl, ◌∙◌, sum_by}
use Rattle.std.specs.List.{list_any}
use Rattle.vcp_typed.specs.declared.slot.Slot.{Slot}
use Rattle.vcp_typed.specs.TStmtViews.{tstmt_trees}
use Rattle.vcp_typed.specs.Size.{cut, section_size, stmts_size}
use Rattle.vcp_typed.specs.Wide.{is_lint, stmts_are_wide}
use Rattle.vcp_typed.proofs.measure.measured.Goals as goal

pub returns : goal.returns
returns c =
    let slots = c.deref.ensures.value in
    let body = c.deref-2.ensures.value in record {
      size =
          c.stmts_measure.ensures.size _ (c.slots_measure.ensures.size 2 refl)
          ∙ (λ i. cut (2 + sum_by (λ (s : Slot). section_size s.section) (slots i) + stmts_size (tstmt_trees (body i))));
      wide =
          c.stmts_measure.ensures.found ∙ ap (λ x. x || stmts_are_wide (tstmt_trees c.deref-2.result.now)) c.slots_measure.ensures.found
          ∙ (λ i. list_any (λ (s : Slot). is_lint s.ty) (slots i) || stmts_are_wide (tstmt_trees (body i)));
    }
