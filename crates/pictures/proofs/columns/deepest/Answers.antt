use Rattle.std.proofs.Common.{arith}
use Rattle.pictures.proofs.ByDepth.{greatest_more, greatest_all}
use Rattle.pictures.proofs.columns.deepest.Goals as goal

pub depths-init : goal.depths-init
depths-init c = omega arith

pub depths-preserved : goal.depths-preserved
depths-preserved c =
    greatest_more c.args.depths.now c.depths.i c.depths.greatest c.greater-greatest.result (omega arith) c.greater-greatest.ensures.value c.depths.invariant

pub returns : goal.returns
returns c = greatest_all c.args.depths.now c.depths.i c.depths.greatest (omega arith) c.depths.invariant
