-- Script: the script of sites of an image that `inject` takes, and what is written of sites that are chosen.
use Rattle.std.specs.Prelude.{ℕ, ◌≡◌, ◌<◌, ◌≤◌, List, [], ◌++◌, length, decimal, codes, Option, Some, None, Result, Ok, Err}
use Rattle.std.specs.Io.KnownBytes.{Appends}
use Rattle.vcp_base.specs.Limits.{most_source_bytes}
use Rattle.vcp_outside.specs.declared.failed.Failed.{Failed}
use Rattle.vcp_outside.specs.Written.{AppendsPart}
use Rattle.op_graph.specs.Lists.{Lists}
use Rattle.signature_table.specs.Signatures.{Numbers}
use Rattle.fault_script.specs.ScriptOf.{most_faults, script_of}
use Rattle.fault_sites.specs.declared.part.Part.{Part}
use Rattle.fault_sites.specs.declared.site.Site.{Site}
use Rattle.fault_sites.specs.Part.{kept}
use Rattle.fault_sites.specs.SiteText.{named_remark, said_from, site_lines}
use Rattle.fault_sites.specs.Digest.{digest_of}
use Rattle.fault_sites.specs.declared.scripts.chosen.Chosen.{Chosen}
use Rattle.fault_sites.specs.declared.scripts.chosen.Chosen.TheVariants as chosen
use Rattle.fault_sites.specs.declared.scripts.unwritten.Unwritten.{Unwritten}
use Rattle.fault_sites.specs.declared.scripts.unwritten.Unwritten.TheVariants as unwritten

-- A text is the script of these sites of an image: a remark with the class's name and the image's digest, and a line for each site. There are
-- at most as many as a script may have, and the text is one that `inject` takes: it is read back as these faults, a group each, in this order.
pub record IsScript (g : Lists) (t : Numbers) (name : List ℕ) (xs : List Site) (text : List ℕ) : Type 0 where
  pub told : text ≡ named_remark name (digest_of g t.seed t.step) ++ site_lines xs
  pub few : length xs ≤ most_faults
  pub read : script_of g text ≡ Ok (said_from 2 xs)
  pub short : length text ≤ most_source_bytes

-- the outcome of what is written, where the sink answered this
abbrev pub outcome : Result (Unit {0}) Failed → Result (Unit {0}) Unwritten
outcome (Ok done) = Ok done
outcome (Err _) = Err unwritten.Failed

-- how far the script of these sites is written: whole, or a part where the sink failed, or nothing, as where there are too many
abbrev pub WritesScript : Lists → Numbers → List ℕ → List Site → Option (List ℕ) → Option (List ℕ) → Result (Unit {0}) Unwritten → Type 0
WritesScript g t name xs old new (Ok _) = (text : List ℕ) × IsScript g t name xs text × Appends old new text
WritesScript g t name xs old new (Err unwritten.Failed) = (text : List ℕ) × IsScript g t name xs text × AppendsPart old new text
WritesScript g t name xs old new (Err unwritten.TooMany) = (most_faults < length xs) × Appends old new []
WritesScript g t name xs old new (Err unwritten.Memory) = Appends old new []

-- how far a number is written in a line
abbrev pub WritesNumber : ℕ → Option (List ℕ) → Option (List ℕ) → Result (Unit {0}) Unwritten → Type 0
WritesNumber n old new (Ok _) = Appends old new (decimal n ++ codes "\n")
WritesNumber n old new (Err unwritten.Failed) = AppendsPart old new (decimal n ++ codes "\n")
WritesNumber n old new (Err unwritten.Memory) = Appends old new []
WritesNumber n old new (Err unwritten.TooMany) = ⊥

-- the part of so many that is chosen, where more than their number is wanted
abbrev pub chosen_part : ℕ → Chosen → Option Part
chosen_part total chosen.All = Some (record { skip = 0; left = total })
chosen_part total (chosen.Part part) = Some part
chosen_part total chosen.Number = None

-- of these sites what is chosen is written: the script of all, or of a part, or how many there are
abbrev pub WritesChosen : Lists → Numbers → List ℕ → List Site → Chosen → Option (List ℕ) → Option (List ℕ) → Result (Unit {0}) Unwritten → Type 0
WritesChosen g t name xs chosen.All old new result = WritesScript g t name xs old new result
WritesChosen g t name xs (chosen.Part part) old new result = WritesScript g t name (kept part xs) old new result
WritesChosen g t name xs chosen.Number old new result = WritesNumber (length xs) old new result
