-- Files in memory: what was put, what is unread, the counts, and the calls.
use Rattle.std.specs.Prelude.{ℕ, ◌≤◌, List, [], length, drop, reverse, find, Option, Some, None, bytes_eq, slice_get, option_map, IsSomeAnd}
use Rattle.vcp_outside.specs.FailingCalls.{CallCount}
use Rattle.vcp_outside.specs.declared.mem_files.Entry.{Entry}
use Rattle.vcp_outside.specs.declared.mem_files.Begun.{Begun}

-- files in memory: the entries in the order in which they were put, the unread bytes of the begun file, the counts of
-- faults and of breaks, and their calls, of which some are made to fail
pub record FilesInMemory : Type 0 where
  pub entries : List Entry
  pub unread : List ℕ
  pub faults : ℕ
  pub broken : ℕ
  pub calls : CallCount

-- the entry that was put last under a name
abbrev pub last_named : List Entry → List ℕ → Option Entry
last_named entries name = find (λ e. bytes_eq e.name name) (reverse entries)

-- the bytes that were put last under a name
abbrev pub latest : List Entry → List ℕ → Option (List ℕ)
latest entries name = option_map (λ e. e.bytes) (last_named entries name)

-- the bytes from a place in an entry on
abbrev pub bytes_from : Option Entry → ℕ → List ℕ
bytes_from None at = []
bytes_from (Some entry) at = drop at entry.bytes

-- the unread bytes of the begun entry
abbrev pub unread_at : List Entry → Option Begun → List ℕ
unread_at entries None = []
unread_at entries (Some begun) = bytes_from (slice_get entries begun.entry) begun.at

-- the begun entry is there, and the place lies within its bytes
abbrev pub IsPlace : List Entry → Option Begun → Type 0
IsPlace entries None = Unit {0}
IsPlace entries (Some begun) = IsSomeAnd (slice_get entries begun.entry) (λ entry. begun.at ≤ length entry.bytes)
