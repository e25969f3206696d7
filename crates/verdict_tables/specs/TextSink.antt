-- TextSink: a sink that keeps a text.
use Rattle.std.specs.Prelude.{ℕ, List}

-- what was written, and how often memory was wanted for it
pub record TextInMemory : Type 0 where
  pub bytes : List ℕ
  pub faults : ℕ
