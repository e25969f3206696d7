use Rattle.op_graph.specs.Rules.{kind_fits}
use Rattle.image_file.specs.Pieces.{byte_at}
use Rattle.image_file.specs.Codes.{kind_of}
use Rattle.image_file.proofs.Chains.{narrowed}
use Rattle.image_file.proofs.operation.kind_here.Goals as goal

pub returns : goal.returns
returns c = narrowed (byte_at c.args.bytes.now.left.now) kind_of (kind_fits c.args.p.now) _ c.any_kind-kind.ensures c.check.ensures.left
    (rw c.kind_fits.ensures at c.check.ensures.fault)
