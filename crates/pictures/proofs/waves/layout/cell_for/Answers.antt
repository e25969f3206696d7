use Rattle.std.proofs.Common.{◌-◌, arith}
use Rattle.std.proofs.Math.Nat.{div-le_self}
use Rattle.pictures.specs.WavesElements.{need_of}
use Rattle.pictures.proofs.Rooms.{less_by, room_of}
use Rattle.pictures.proofs.waves.layout.cell_for.Goals as goal

pub returns : goal.returns
returns c =
    let s = c.args.stretch in
    let cycles = s.end - s.start in
    record {
      room = less_by (need_of s) c.need-need.result _ c.need-need.ensures.need (room_of c.need-need.result cycles (omega arith));
      few = omega (arith, div-le_self c.need-need.result cycles, c.need-need.ensures.few);
    }
