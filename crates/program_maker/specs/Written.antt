-- Written: what a text is after more was written.
use Rattle.std.specs.Prelude.{◌≡◌, ℕ, false, List, ◌++◌}
use Rattle.program_maker.specs.declared.writer.Writer.{Writer}

-- Unless memory ran out, now or before, these bytes stand behind the others.
pub record Writes (old new : Writer) (more : List ℕ) : Type 0 where
  pub so_far : new.has_failed ≡ false → old.has_failed ≡ false
  pub adds : new.has_failed ≡ false → new.text.list.items ≡ old.text.list.items ++ more
