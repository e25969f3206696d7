use Rattle.std.proofs.Common.{subst, sym, ◌∙◌, w64, rules}
use Rattle.std.proofs.lemmas.Int.{to_z-of_z}
use Rattle.range_walk.specs.Intervals.{IsIn}
use Rattle.range_audit.specs.Searching.{Loads}
use Rattle.range_audit.proofs.cells.loaded_range.Goals as goal

pub returns-then-typed : goal.returns-then-typed
returns-then-typed c = λ v loaded. c.of_type.ensures v (subst (λ t. Loads t c.args.load v) c.if-typed.true loaded)

pub returns : goal.returns
returns c = λ v loaded.
    let is = subst (λ t. Loads t c.args.load v) c.if-typed.false loaded in
    subst (λ x. IsIn c.only.result x) (to_z-of_z w64 c.args.load.init (search rules) ∙ sym is) c.only.ensures
