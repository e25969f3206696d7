-- A sink in memory: what was written, how much it takes in all, the count, and the calls.
use Rattle.std.specs.Prelude.{ℕ, nat_eq, ◌-◌, ◌≤◌, cond, List, length}
use Rattle.vcp_outside.specs.FailingCalls.{CallCount, one_more}

-- a sink in memory: the bytes that were written, how many it takes in all, the count of faults, and its writes of some
-- bytes, of which some are made to fail
pub record SinkInMemory : Type 0 where
  pub bytes : List ℕ
  pub room : ℕ
  pub faults : ℕ
  pub calls : CallCount

-- how many bytes the sink still takes
abbrev pub room_left : SinkInMemory → ℕ
room_left sink = sink.room - length sink.bytes

-- the sink takes no more bytes
abbrev pub IsFull : SinkInMemory → Type 0
IsFull sink = sink.room ≤ length sink.bytes

-- the calls after a write of a piece; a write of no bytes isn't counted
abbrev pub calls_after : CallCount → List ℕ → CallCount
calls_after calls piece = cond (nat_eq (length piece) 0) calls (one_more calls)
