use Rattle.op_graph.specs.Rules.{ty_fits}
use Rattle.image_file.specs.Codes.{type_of}
use Rattle.image_file.proofs.Chains.{narrowed}
use Rattle.image_file.proofs.operation.ty_here.Goals as goal

pub returns : goal.returns
returns c =
    narrowed _ (type_of c.args.profile) (ty_fits c.args.kind c.args.from) _ c.any_ty-ty.ensures c.check.ensures.left
    (rw c.ty_fits.ensures at c.check.ensures.fault)
