-- A writer of the host as a sink.
use Rattle.std.specs.Prelude.{ℕ, List, Option}

-- a writer of the host: the bytes that it holds, where they are known, and the count of faults
pub record SinkOnHost : Type 0 where
  pub contents : Option (List ℕ)
  pub faults : ℕ
