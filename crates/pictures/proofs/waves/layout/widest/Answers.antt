use Rattle.std.proofs.Common.{◌≡◌, length, arith}
use Rattle.pictures.proofs.Walk.{columns_have}
use Rattle.pictures.proofs.waves.layout.widest.Goals as goal

pub columns-init : goal.columns-init
columns-init c = record { room = λ cell le. tt; few = omega arith }

pub columns-preserved : goal.columns-preserved
columns-preserved c =
    let i = c.columns.invariant in
    record {
      room = λ cell le.
          columns_have cell c.args.run.now c.columns.column (i.room cell (omega (arith, le, c.max-widest.ensures)))
          (c.widest_in-here.ensures.room cell (omega (arith, le, c.max-widest.ensures)));
      few = omega (arith, i.few, c.widest_in-here.ensures.few, c.max-widest.ensures);
    }

pub returns : goal.returns
returns c =
    let all : c.columns.column ≡ length c.args.run.now.names = omega arith in
    record { room = rw all at c.columns.invariant.room; few = c.columns.invariant.few }
