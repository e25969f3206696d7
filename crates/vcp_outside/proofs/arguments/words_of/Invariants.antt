use Rattle.std.proofs.Common.{◌≡◌, ◌++◌, drop, map}
use Rattle.std.specs.Prelude.{string_bytes}
use Rattle.vcp_outside.proofs.arguments.words_of.Given as goal

abbrev pub invariant-each : goal.invariant-each
invariant-each l = l.words ++ map string_bytes (drop l.argument-index l.rest) ≡ map string_bytes l.rest
