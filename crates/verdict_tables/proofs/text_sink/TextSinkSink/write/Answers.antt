use Rattle.std.proofs.Common.{rules}
use Rattle.verdict_tables.proofs.text_sink.TextSinkSink.write.Goals as goal

pub returns-then-is_empty : goal.returns-then-is_empty
returns-then-is_empty c = search rules

pub returns-in-Err : goal.returns-in-Err
returns-in-Err c = search rules
