use Rattle.std.proofs.Common.{ap, ◌∙◌}
use Rattle.std.proofs.lemmas.Result.{IfOk-weaker}
use Rattle.st_tree.specs.declared.program.Section.TheVariants as section
use Rattle.vcp_typed.specs.Fitting.{columns_in, input_columns}
use Rattle.vcp_typed.proofs.Columns.{of_inputs}
use Rattle.vcp_typed.proofs.typed.Typed.columns.Goals as goal

pub returns : goal.returns
returns c =
    IfOk-weaker c.columns_of.result _ _
    (λ columns is. is ∙ ap (columns_in section.Input) c.deref.ensures.value ∙ of_inputs c.self.inside.slots.items.items
    ∙ ap (λ p. input_columns p.slots) c.self.view_is) c.columns_of.ensures
