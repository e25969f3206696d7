use Rattle.std.proofs.Common.{◌≤◌, [], ◌∷◌, ◌++◌, length, arith}
use Rattle.pictures.proofs.Walk.{begun, next_at, all, one_has, wider}
use Rattle.pictures.proofs.waves.layout.widest_in.Goals as goal

pub stretches-init : goal.stretches-init
stretches-init c = record { drawn = []; before = begun c.args.run.now c.args.column; room = λ cell le. tt; few = omega arith }

pub stretches-preserved : goal.stretches-preserved
stretches-preserved c =
    let i = c.stretches.invariant in
    let stretch = c.stretch_from-stretch.result in
    let here = c.cell_for-here.result in
    record {
      drawn = i.drawn ++ stretch ∷ [];
      before = next_at c.args.run.now c.args.column c.stretches.at stretch i.drawn c.stretch_from-stretch.ensures.stretch (omega arith) i.before;
      room = λ cell le.
          one_has cell i.drawn stretch (i.room cell (omega (arith, le, c.max-widest.ensures)))
          (wider here cell stretch (omega (arith, le, c.max-widest.ensures)) c.cell_for-here.ensures.room);
      few = omega (arith, i.few, c.cell_for-here.ensures.few, c.max-widest.ensures);
    }

pub returns : goal.returns
returns c =
    let i = c.stretches.invariant in
    let done : length c.args.run.now.rows ≤ c.stretches.at = omega arith in
    record {
      room = λ cell le. rw (all c.args.run.now c.args.column c.stretches.at i.drawn done i.before) (i.room cell le);
      few = i.few;
    }
