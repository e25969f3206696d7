-- Laws: what holds of the sites of all graphs.
use Rattle.std.specs.Prelude.{◌≡◌, ◌≢◌, ℕ, ℤ, ◌+ℤ◌, ◌+◌, ◌^◌, ◌<◌, ◌≤◌, ◌==◌, Bool, not, cond, List, [], ◌∷◌, ◌++◌, length, All, Ok}
use Rattle.std.specs.Str.Lines.{lines}
use Rattle.vcp_base.specs.Limits.{most_cycles, most_operations, most_source_bytes}
use Rattle.op_graph.specs.Lists.{Lists}
use Rattle.op_graph.specs.Rules.{IsPart}
use Rattle.signature_table.specs.Signatures.{IsTable, Numbers}
use Rattle.vcp_base.specs.Lines.{read_lines}
use Rattle.fault_script.specs.Fits.{Fits}
use Rattle.fault_script.specs.ScriptOf.{says, items_of, most_faults, script_of}
use Rattle.fault_sites.specs.declared.class.Classes.{Classes}
use Rattle.fault_sites.specs.declared.part.Part.{Part}
use Rattle.fault_sites.specs.declared.run_class.RunClass.{RunClass}
use Rattle.fault_sites.specs.declared.run_class.RunClass.TheVariants as run
use Rattle.fault_sites.specs.declared.site.Site.{Site}
use Rattle.fault_sites.specs.Flips.{bit_of, flip}
use Rattle.fault_sites.specs.Part.{kept}
use Rattle.fault_sites.specs.Readings.{IsReadBy, readings_within}
use Rattle.fault_sites.specs.RunSites.{run_sites, run_text}
use Rattle.fault_sites.specs.Sites.{as_fault, sites}
use Rattle.fault_sites.specs.SiteText.{said_from, site_text, sites_text}

-- no two of these are one
abbrev pub Distinct : {X : Type 0} → List X → Type 0
Distinct [] = Unit {0}
Distinct (x ∷ xs) = All (λ y. x ≢ y) xs × Distinct xs

-- each site fits the graph, whatever line it has
abbrev pub EachFits : Type 0
EachFits = (c : Classes) (g : Lists) (cycles line : ℕ) → cycles ≤ most_cycles → All (λ s. Fits g (as_fault line s)) (sites c g cycles)

-- each site stands once
abbrev pub EachOnce : Type 0
EachOnce = (c : Classes) (g : Lists) (cycles : ℕ) → Distinct (sites c g cycles)

-- two parts, one behind the other, are one part of both lengths
abbrev pub PartsAreWhole : Type 0
PartsAreWhole = (xs : List Site) (skip first second : ℕ) →
    kept (record { skip = skip; left = first + second }) xs
    ≡ kept (record { skip = skip; left = first }) xs ++ kept (record { skip = skip + first; left = second }) xs

-- The line of a fault that fits the graph is read as that fault, behind so many fault lines, whatever text follows it.
abbrev pub IsLineRead : Type 0
IsLineRead =
    (g : Lists) (s : Site) (rest : List ℕ) (number before : ℕ) → length g.operations ≤ 2 ^ 32 → before < most_faults → Fits g (as_fault 0 s)
    → items_of g before (read_lines number (lines (site_text s ++ rest)))
    ≡ says (Ok (as_fault number s)) ∷ items_of g (before + 1) (read_lines (number + 1) (lines rest))

-- The script of a part is read back as the faults of its sites, a group each, from line 2 on. The digits of the digest are no control characters.
abbrev pub IsReadBack : Type 0
IsReadBack =
    (c : Classes) (digest : List ℕ) (g : Lists) (cycles : ℕ) (p : Part) → All (λ b. 32 ≤ b) digest → cycles ≤ most_cycles
    → length g.operations ≤ 2 ^ 32 → length (kept p (sites c g cycles)) ≤ most_faults →
    script_of g (sites_text c digest g cycles p) ≡ Ok (said_from 2 (kept p (sites c g cycles)))

-- such a script is short enough to be read from a file, where the digest has at most 1,000 digits
abbrev pub IsShort : Type 0
IsShort =
    (c : Classes) (digest : List ℕ) (g : Lists) (cycles : ℕ) (p : Part) → length digest ≤ 1000 → cycles ≤ most_cycles
    → length g.operations ≤ 2 ^ 32 → length (kept p (sites c g cycles)) ≤ most_faults →
    length (sites_text c digest g cycles p) ≤ most_source_bytes

-- what flips bit b of a word, where it is added, turns this bit and no other
abbrev pub TurnsOneBit : Type 0
TurnsOneBit = (w : ℤ) (b c : ℕ) → bit_of (w +ℤ flip w b) c ≡ cond (c == b) (not (bit_of w c)) (bit_of w c)

-- each flip stands once
abbrev pub EachFlipOnce : Type 0
EachFlipOnce = (t : Numbers) (g : Lists) (rows : List (List ℤ)) → Distinct (run_sites run.Flips t g rows)

-- each site that a run decides stands once, in the code of a table
abbrev pub EachRunSiteOnce : Type 0
EachRunSiteOnce =
    (c : RunClass) (t : Numbers) (g : Lists) (rows : List (List ℤ)) → IsTable t → length rows ≤ most_cycles → length g.operations ≤ most_operations
    → Distinct (run_sites c t g rows)

-- each reading of a word is by an operation that is there, in the cycle or by the LOAD of its cell in the next
abbrev pub EachReading : Type 0
EachReading = (g : Lists) (more : Bool) (k : ℕ) → IsPart g → All (IsReadBy g (cond more 1 0)) (readings_within g more k)

-- the same of the sites that a run decides: each fits the graph, and their script is read back
abbrev pub EachRunSiteFits : Type 0
EachRunSiteFits =
    (c : RunClass) (t : Numbers) (g : Lists) (rows : List (List ℤ)) (line : ℕ) → length rows ≤ most_cycles
    → All (λ s. Fits g (as_fault line s)) (run_sites c t g rows)

abbrev pub RunIsReadBack : Type 0
RunIsReadBack =
    (c : RunClass) (digest : List ℕ) (t : Numbers) (g : Lists) (rows : List (List ℤ)) (p : Part) → All (λ b. 32 ≤ b) digest → length rows ≤ most_cycles
    → length g.operations ≤ 2 ^ 32 → length (kept p (run_sites c t g rows)) ≤ most_faults →
    script_of g (run_text c digest t g rows p) ≡ Ok (said_from 2 (kept p (run_sites c t g rows)))

abbrev pub RunIsShort : Type 0
RunIsShort =
    (c : RunClass) (digest : List ℕ) (t : Numbers) (g : Lists) (rows : List (List ℤ)) (p : Part) → length digest ≤ 1000 → length rows ≤ most_cycles
    → length g.operations ≤ 2 ^ 32 → length (kept p (run_sites c t g rows)) ≤ most_faults →
    length (run_text c digest t g rows p) ≤ most_source_bytes
