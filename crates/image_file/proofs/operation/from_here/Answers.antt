use Rattle.op_graph.specs.Rules.{from_fits, entry_of}
use Rattle.image_file.specs.Codes.{type_of}
use Rattle.image_file.proofs.Chains.{narrowed}
use Rattle.image_file.proofs.operation.from_here.Goals as goal

pub returns : goal.returns
returns c =
    narrowed _ (type_of c.args.profile) (from_fits (entry_of c.args.p.now c.args.kind) c.args.kind) _ c.any_ty-ty.ensures c.check.ensures.left
    (rw (c.from_fits.ensures, c.entry_of.ensures) at c.check.ensures.fault)
