-- The host's files.
use Rattle.std.specs.Prelude.{ℕ, Bool, List, Option}

-- the host's files: whether one is begun, the bytes that it still gives, where they are known, and the count of faults
pub record FilesOnHost : Type 0 where
  pub is_begun : Bool
  pub unread : Option (List ℕ)
  pub faults : ℕ
