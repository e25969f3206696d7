-- NamedLaws: what holds of the scripts of all texts.
use Rattle.std.specs.Prelude.{◌≡◌, ℕ, ◌^◌, ◌≤◌, List, length, All, Ok}
use Rattle.std.specs.Str.Lines.{lines}
use Rattle.vcp_base.specs.Limits.{most_source_bytes}
use Rattle.op_graph.specs.Lists.{Lists}
use Rattle.vcp_base.specs.Lines.{read_lines}
use Rattle.fault_script.specs.ScriptOf.{script_of}
use Rattle.fault_sites.specs.NamedScript.{groups_from}
use Rattle.fault_sites.specs.NamedEntries.{most_named_bytes, checked, entries_in, text_of_script}

-- What is written of a text that is taken: each line that isn't skipped has its faults there, and the script is read back as exactly these, from line
-- 2 on.
pub record Compiled (digest : List ℕ) (g : Lists) (text : List ℕ) : Type 0 where
  pub whole : length (entries_in g text) ≡ length (read_lines 1 (lines text))
  pub read : script_of g (text_of_script digest g text) ≡ Ok (groups_from 2 (entries_in g text))

-- The digits of the digest are no control characters.
abbrev pub IsCompiled : Type 0
IsCompiled =
    (digest : List ℕ) (g : Lists) (text : List ℕ) → All (λ b. 32 ≤ b) digest → length g.operations ≤ 2 ^ 32 → checked digest g text ≡ Ok tt
    → Compiled digest g text

-- such a script is short enough to be read from a file, where the text isn't too long and the digest has at most 1,000 digits
abbrev pub IsShortEnough : Type 0
IsShortEnough =
    (digest : List ℕ) (g : Lists) (text : List ℕ) → length digest ≤ 1000 → length g.operations ≤ 2 ^ 32 → length text ≤ most_named_bytes
    → checked digest g text ≡ Ok tt → length (text_of_script digest g text) ≤ most_source_bytes
