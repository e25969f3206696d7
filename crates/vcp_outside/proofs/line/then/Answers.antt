use Rattle.std.proofs.Common.{refl}
use Rattle.std.proofs.lemmas.Bool.{false≢true}
use Rattle.vcp_outside.proofs.Causes.{written_on, written_no_more}
use Rattle.vcp_outside.proofs.line.then.Goals as goal

pub returns-in-Ok : goal.returns-in-Ok
returns-in-Ok g c = record {
  writes = λ start before text.
      written_on start _ _ before _ _ text c.args.piece.now c.in-Ok.field-0 c.args.so_far c.write_all.result c.in-Ok.is c.write_all.ensures;
  after_failure = rw c.in-Ok.is tt;
  stays_failed = λ failed. absurd (false≢true (rw c.in-Ok.is at failed));
}

pub returns-in-Err : goal.returns-in-Err
returns-in-Err g c = record {
  writes = λ start before text. written_no_more start _ before _ text c.args.piece.now c.in-Err.field-0 _ c.args.so_far c.in-Err.is;
  after_failure = rw c.in-Err.is refl;
  stays_failed = λ failed. refl;
}
