use Rattle.std.proofs.Common.{◌≡◌, ◌<◌, IfSome}
use Rattle.verdict_tables.specs.Outcome.{named_below}
use Rattle.verdict_tables.proofs.words.output.Given as goal

abbrev pub invariant-outputs : goal.invariant-outputs
invariant-outputs l = record {
  value : l.found ≡ named_below l.graph l.name l.n;
  there : IfSome l.found (λ n. n < l.n);
}
