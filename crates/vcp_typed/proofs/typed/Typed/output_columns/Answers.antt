use Rattle.std.proofs.Common.{ap, ◌∙◌}
use Rattle.std.proofs.lemmas.Result.{IfOk-weaker}
use Rattle.st_tree.specs.declared.program.Section.TheVariants as section
use Rattle.vcp_typed.specs.Fitting.{columns_in, output_columns}
use Rattle.vcp_typed.proofs.Columns.{of_outputs}
use Rattle.vcp_typed.proofs.typed.Typed.output_columns.Goals as goal

pub returns : goal.returns
returns c =
    IfOk-weaker c.columns_of.result _ _
    (λ columns is. is ∙ ap (columns_in section.Output) c.deref.ensures.value ∙ of_outputs c.self.inside.slots.items.items
    ∙ ap (λ p. output_columns p.slots) c.self.view_is) c.columns_of.ensures
