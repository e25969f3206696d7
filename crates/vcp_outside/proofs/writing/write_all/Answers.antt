use Rattle.std.proofs.Common.{rules, ◌∙◌}
use Rattle.vcp_outside.proofs.Steps.{appends-more}
use Rattle.vcp_outside.proofs.Causes.{written_whole, written_part}
use Rattle.vcp_outside.proofs.writing.write_all.Goals as goal

pub writing-preserved : goal.writing-preserved
writing-preserved g c = record {
  in_range = search rules;
  bytes = appends-more _ _ _ c.writing.at c.in_ok-at.field-0 c.args.piece.now c.writing.invariant.bytes c.in_ok-at.ensures.bytes;
  stayed = c.in_ok-at.ensures.cause.stayed ∙ c.writing.invariant.stayed;
}

pub returns-in_err-at : goal.returns-in_err-at
returns-in_err-at g c =
    let s = c.writing.invariant in
    written_part _ _ _ _ _ _ c.writing.at c.args.piece.now _ c.from_residual.result c.from_residual.ensures.0 c.writing-test.true s.bytes s.stayed
    c.in_err-at.ensures.bytes c.in_err-at.ensures.cause

pub returns : goal.returns
returns g c =
    let s = c.writing.invariant in
    written_whole _ _ _ _ c.writing.at c.args.piece.now _ s.in_range c.writing-test.false s.bytes s.stayed
