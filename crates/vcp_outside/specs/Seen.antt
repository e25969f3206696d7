-- Seen: what contracts see, at one moment, of files and of a sink: one record an object.
use Rattle.std.specs.Prelude.{ℕ, List, Option}
use Rattle.vcp_outside.specs.Held.{Held}

-- Files: the bytes under each name, and those of the begun file that are still unread, where they are told (before any file is begun none
-- are unread); how often a call failed, and how often one failed that was not for a name that is lacking, both up to 2^64 - 1.
pub record FilesSeen : Type 0 where
  pub held : Option Held
  pub rest : Option (List ℕ)
  pub faults : ℕ
  pub broken : ℕ

-- A sink: the bytes that were written to it, where they are told, and how often a write failed, up to 2^64 - 1.
pub record SinkSeen : Type 0 where
  pub written : Option (List ℕ)
  pub faults : ℕ
