use Rattle.std.proofs.Common.{sym, subst, arith}
use Rattle.vcp_base.specs.Values.{at}
use Rattle.range_walk.specs.Intervals.{IsIn}
use Rattle.range_walk.proofs.Operands.{other_there, load_read, read_other}
use Rattle.range_walk.proofs.told.read_range.Goals as goal

pub returns-in-Load : goal.returns-in-Load
returns-in-Load c = λ held vs hold fit le.
    let op = c.args.op.now in
    load_read c.range_at.result held vs op.kind op.imm c.args.n c.in-Load.is
    (subst (λ p. IsIn c.range_at.result (at held p)) c.own_place-place.ensures (hold c.own_place-place.result c.range_at.result c.range_at.ensures))

pub returns-in_default : goal.returns-in_default
returns-in_default c = λ held vs hold fit le.
    let op = c.args.op.now in
    let within = other_there _ _ op.kind op.imm c.args.n c.in_default.not-Load c.requires in
    subst (λ v. IsIn c.earlier_range.result v) (sym (read_other held vs op.kind op.imm c.args.n c.in_default.not-Load))
    (fit c.args.n c.earlier_range.result (omega (arith, within, le)) c.earlier_range.ensures)
