-- RestScript: the script of groups in which a word changes between two of its readings, and what is written of groups that are chosen.
use Rattle.std.specs.Prelude.{ℕ, ◌≡◌, ◌≤◌, true, false, List, [], length, Option, Result, Ok, Err}
use Rattle.std.specs.Io.KnownBytes.{Appends}
use Rattle.vcp_base.specs.Limits.{most_source_bytes}
use Rattle.vcp_outside.specs.Written.{AppendsPart}
use Rattle.op_graph.specs.Lists.{Lists}
use Rattle.signature_table.specs.Signatures.{Numbers}
use Rattle.fault_script.specs.ScriptOf.{most_faults, script_of}
use Rattle.fault_sites.specs.declared.site.Site.{Site}
use Rattle.fault_sites.specs.Digest.{digest_of}
use Rattle.fault_sites.specs.Rests.{first_fits, fitting, kept_groups, lines_of, rest_text, said_groups}
use Rattle.fault_sites.specs.Script.{WritesNumber}
use Rattle.fault_sites.specs.declared.scripts.chosen.Chosen.{Chosen}
use Rattle.fault_sites.specs.declared.scripts.chosen.Chosen.TheVariants as chosen
use Rattle.fault_sites.specs.declared.scripts.unwritten.Unwritten.{Unwritten}
use Rattle.fault_sites.specs.declared.scripts.unwritten.Unwritten.TheVariants as unwritten

-- A text is the script of these groups of an image: a remark with the class's name and the image's digest, and each group between `begin` and `end`.
-- They have at most as many fault lines as a script may have, and the text is one that `inject` takes: it is read back as these groups, in this order.
pub record IsGroupScript (g : Lists) (t : Numbers) (gs : List (List Site)) (text : List ℕ) : Type 0 where
  pub told : text ≡ rest_text (digest_of g t.seed t.step) gs
  pub few : lines_of gs ≤ most_faults
  pub read : script_of g text ≡ Ok (said_groups 2 gs)
  pub short : length text ≤ most_source_bytes

-- how far the script of the first of these groups is written, up to the one with which it would have too many fault lines: whole, or a part where the sink
-- failed, or nothing, as where the first one alone has too many
abbrev pub WritesGroups : Lists → Numbers → List (List Site) → Option (List ℕ) → Option (List ℕ) → Result (Unit {0}) Unwritten → Type 0
WritesGroups g t gs old new (Ok _) =
    (first_fits most_faults gs ≡ true) × (text : List ℕ) × IsGroupScript g t (fitting most_faults gs) text × Appends old new text
WritesGroups g t gs old new (Err unwritten.Failed) =
    (first_fits most_faults gs ≡ true) × (text : List ℕ) × IsGroupScript g t (fitting most_faults gs) text × AppendsPart old new text
WritesGroups g t gs old new (Err unwritten.TooMany) = (first_fits most_faults gs ≡ false) × Appends old new []
WritesGroups g t gs old new (Err unwritten.Memory) = Appends old new []

-- of these groups what is chosen is written: the script of all, or of a part, or how many there are
abbrev pub WritesChosenGroups : Lists → Numbers → List (List Site) → Chosen → Option (List ℕ) → Option (List ℕ) → Result (Unit {0}) Unwritten → Type 0
WritesChosenGroups g t gs chosen.All old new result = WritesGroups g t gs old new result
WritesChosenGroups g t gs (chosen.Part part) old new result = WritesGroups g t (kept_groups part gs) old new result
WritesChosenGroups g t gs chosen.Number old new result = WritesNumber (length gs) old new result
