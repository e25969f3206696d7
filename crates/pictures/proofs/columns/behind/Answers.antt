use Rattle.std.proofs.Common.{get_or, length, slice_get}
use Rattle.std.proofs.lemmas.Option.{slice_get-get_or}
use Rattle.pictures.proofs.ByDepth.{not_read, not_there, read_there, one_more_few, one_more_fits}
use Rattle.pictures.proofs.columns.behind.Goals as goal

pub returns-then-not-reads-clause-value : goal.returns-then-not-reads-clause-value
returns-then-not-reads-clause-value c = not_read (slice_get c.args.depths.now c.args.n) c.args.reads c.if-not-reads.true

pub returns-then-n-depths-clause-value : goal.returns-then-n-depths-clause-value
returns-then-n-depths-clause-value c = not_there c.args.depths.now c.args.n c.args.reads c.if-n-depths.true

pub overflow_add-result : goal.overflow_add-result
overflow_add-result c =
    let depths = c.args.depths.now in
    let there = slice_get-get_or depths c.args.n 0 c.if-n-depths.false in
    record { fits = one_more_fits _ (length depths) (one_more_few depths c.args.n (get_or depths c.args.n 0) c.requires.low there) c.requires.few }

pub returns : goal.returns
returns c =
    let depths = c.args.depths.now in
    let there = slice_get-get_or depths c.args.n 0 c.if-n-depths.false in
    record {
      value = read_there depths c.args.n (get_or depths c.args.n 0) c.args.reads c.if-not-reads.false there;
      few = one_more_few depths c.args.n (get_or depths c.args.n 0) c.requires.low there;
    }
