use Rattle.std.proofs.Common.{◌≡◌, drop}
use Rattle.verdict_tables.specs.Endings.{words_differ}
use Rattle.verdict_tables.proofs.endless.ending.words_differ.Given as goal

abbrev pub invariant-words : goal.invariant-words
invariant-words l = words_differ l.words l.others ≡ words_differ (drop l.i l.words) (drop l.i l.others)
