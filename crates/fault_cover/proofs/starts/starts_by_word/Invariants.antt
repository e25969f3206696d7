use Rattle.std.proofs.Common.{◌≡◌, ◌++◌, drop, map}
use Rattle.fault_cover.specs.Beginnings.{starts_of}
use Rattle.fault_cover.proofs.starts.starts_by_word.Given as goal

abbrev pub invariant-words : goal.invariant-words
invariant-words l = l.starts.items ++ map (starts_of l.profile) (drop l.k l.by_word) ≡ map (starts_of l.profile) l.by_word
