use Rattle.std.proofs.Common.{◌≡◌, ◌≤◌, ◌++◌, true, drop, length, vec_capacity}
use Rattle.verdict_tables.specs.AnswersOver.{all_words, answers_from, answers_in}
use Rattle.verdict_tables.specs.Begun.{setting, acts, past}
use Rattle.verdict_tables.proofs.endless.cycle.run_cycle.Given as goal

abbrev pub invariant-operations : goal.invariant-operations
invariant-operations l = record {
  answers :
      answers_in (setting l.b) (acts l.b) (past l.b)
      ≡ l.own.items ++ answers_from (setting l.b) (acts l.b) (past l.b) l.own.items (drop l.k l.b.setting.graph.now.operations);
  answered : length l.own.items ≡ l.k;
  words : all_words l.own.items ≡ true;
  room : vec_capacity l.fn.own ≤ vec_capacity l.own;
  all : l.count ≡ length l.b.setting.graph.now.operations;
}
