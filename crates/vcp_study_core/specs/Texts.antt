-- Texts: what commands on an image write, by what they read.
use Rattle.std.specs.Prelude.{ℕ, zero, suc, ◌≡◌, ◌≢◌, ◌<◌, ◌≤◌, Bool, true, false, Option, List, [], ◌++◌, codes, decimal, length, Ok, Err}
use Rattle.vcp_base.specs.Limits.{most_source_bytes}
use Rattle.op_graph.specs.Lists.{Lists}
use Rattle.weight_audit.specs.Audit.{most_weights, weights_up_to}
use Rattle.range_walk.specs.Known.{KnownRanges}
use Rattle.range_walk.specs.declared.range.Range.{Range}
use Rattle.range_walk.specs.declared.range.Stops.{Stops}
use Rattle.range_audit.specs.Audit.{IsAuditWithin, named_below, NamesStops, NeverStops, NeverStopsWithin}
use Rattle.range_audit.specs.RangeText.{ranges_text}
use Rattle.pictures.specs.WavesElements.{IsPictureOf}
use Rattle.pictures.specs.RunOf.{Recorded, run_of}
use Rattle.pictures.specs.declared.waves.fault.RunTextFault.{RunTextFault}
use Rattle.pictures.specs.declared.waves.fault.RunTextFault.TheVariants as run_fault
use Rattle.pictures.specs.declared.waves.times.Period.{Period}
use Rattle.fault_script.specs.ScriptOf.{most_faults}
use Rattle.fault_sites.specs.Part.{kept}
use Rattle.fault_sites.specs.RestScript.{IsGroupScript}
use Rattle.fault_sites.specs.Rests.{first_fits, fitting, kept_groups}
use Rattle.fault_sites.specs.Script.{IsScript}
use Rattle.fault_sites.specs.declared.scripts.chosen.Chosen.{Chosen}
use Rattle.fault_sites.specs.declared.scripts.chosen.Chosen.TheVariants as chosen
use Rattle.fault_sites.specs.declared.site.Site.{Site}
use Rattle.fault_cover.specs.Certain.{CertainAtOperation, CertainAtRest, CertainOfSameKind}
use Rattle.fault_cover.specs.CoverText.{CoverOf}
use Rattle.fault_cover.specs.Telling.{subject}
use Rattle.fault_cover.specs.declared.class.CoverClasses.{CoverClasses}
use Rattle.fault_sites.specs.NamedEntries.{checked, text_of_script}
use Rattle.fault_sites.specs.NamedLaws.{Compiled}
use Rattle.fault_sites.specs.declared.named.refused.Refused.{Refused}
use Rattle.fault_injector.specs.FaultLines.{totals_of}
use Rattle.pictures.specs.FaultsText.{IsFaultsPicture}
use Rattle.verdict_tables.specs.declared.parts.Part.{Part}
use Rattle.verdict_tables.specs.Parts.{all_verdicts}
use Rattle.verdict_tables.specs.SumText.{shows_unseen}
use Rattle.vcp_inputs.specs.declared.images.Image.{Image}
use Rattle.vcp_inputs.specs.declared.refusal.NoInput.TheVariants as input
use Rattle.vcp_inputs.specs.declared.refusal.Refusal.TheVariants as refusal
use Rattle.vcp_inputs.specs.Answer.{Answer}
use Rattle.vcp_study_core.specs.CarriedOut.{written}
use Rattle.vcp_study_core.specs.FromFiles.{input_answer, own_answer}
use Rattle.vcp_study_core.specs.Parts.{digits}
use Rattle.vcp_study_core.specs.declared.fault.StudyRefusal.TheVariants as why

-- a text is written of which this is said, also whether what is looked for is found
abbrev pub WritesOne : (List ℕ → Bool → Type 0) → Answer → Type 0
WritesOne Is x = (text : List ℕ) × (found : Bool) × Is text found × (x ≡ written text found)

-- one by which nothing is looked for
abbrev pub Draws : (List ℕ → Type 0) → List ℕ → Bool → Type 0
Draws Is text found = Is text × (found ≡ false)

-- such a text of an image, M, which is refused where its graph has too many weights up to a horizon
pub data Weighed (horizon : ℕ) (m : List ℕ) (i : Image) (Is : List ℕ → Bool → Type 0) (x : Answer) : Type 0 where
  too_large : most_weights < weights_up_to i.graph horizon → x ≡ input_answer m (input.Refused refusal.Audit) → Weighed horizon m i Is x
  few : weights_up_to i.graph horizon ≤ most_weights → WritesOne Is x → Weighed horizon m i Is x

-- ---- runs

-- the timing diagram of the run that the text of FILE has, of which a cycle takes so long where that is said; or its first fault as a run
pub data Waves (period : Option Period) (name text : List ℕ) (x : Answer) : Type 0 where
  no_run : (f : RunTextFault) → f ≢ run_fault.Memory → run_of text ≡ Err f → x ≡ own_answer name (why.Run f) → Waves period name text x
  waves : (recorded : Recorded) → run_of text ≡ Ok recorded → WritesOne (Draws (IsPictureOf recorded period)) x → Waves period name text x

-- ---- ranges

-- operations are named, by how many
abbrev pub are_named : ℕ → Bool
are_named zero = false
are_named (suc n) = true

-- A text says between which ends the values of a graph's operations are on rows whose inputs are in these ranges, and which of these may stop;
-- and it is found whether one is named. Nothing is found only where no run over such rows that fit ends at a stop; without ranges, no run
-- over rows that fit.
pub record IsRanged (g : Lists) (inputs : List Range) (all : Bool) (text : List ℕ) (found : Bool) : Type 0 where
  pub audit : KnownRanges
  pub is : IsAuditWithin g inputs audit
  pub told : text ≡ ranges_text all g audit
  pub answers : found ≡ are_named (named_below audit.stops (length g.operations))
  pub never : found ≡ false → NeverStopsWithin g inputs
  pub never_at_all : found ≡ false → inputs ≡ [] → NeverStops g

-- ---- faults

-- A text is the cover of an image's faults of these classes, by operations that may stop of which no others do; and it is found
-- whether a fault is reported neither as refused nor as nothing. What is reported is certain in every run over rows that fit: of a
-- fault at one operation, and of a number that is
-- added to the later readings of a word, so of each class.
pub record IsCover (i : Image) (horizon : ℕ) (classes : CoverClasses) (text : List ℕ) (found : Bool) : Type 0 where
  pub stops : List Stops
  pub names : NamesStops i.graph stops
  pub cover : CoverOf (subject i.graph i.table horizon stops) classes (digits i) text found
  pub certain : CertainAtOperation
  pub at_rest : CertainAtRest
  pub same_kind : CertainOfSameKind

-- the script of these sites of an image, M, under this name, which is refused where it would have too many
pub data SitesScript (m : List ℕ) (i : Image) (name : List ℕ) (xs : List Site) (x : Answer) : Type 0 where
  too_many : most_faults < length xs → x ≡ own_answer m why.Sites → SitesScript m i name xs x
  sites_script : WritesOne (Draws (IsScript i.graph i.table name xs)) x → SitesScript m i name xs x

-- of these sites what is chosen: the script of all, or of a part, or how many there are
abbrev pub Chooses : List ℕ → Image → List ℕ → List Site → Chosen → Answer → Type 0
Chooses m i name xs chosen.All x = SitesScript m i name xs x
Chooses m i name xs (chosen.Part part) x = SitesScript m i name (kept part xs) x
Chooses m i name xs chosen.Number x = x ≡ written (decimal (length xs) ++ codes "\n") false

-- the script of the first of these groups of an image, M, up to the one with which it would have too many faults; M is refused where the first alone has
pub data GroupsScript (m : List ℕ) (i : Image) (gs : List (List Site)) (x : Answer) : Type 0 where
  too_long : first_fits most_faults gs ≡ false → x ≡ own_answer m why.Sites → GroupsScript m i gs x
  groups_script : first_fits most_faults gs ≡ true → WritesOne (Draws (IsGroupScript i.graph i.table (fitting most_faults gs))) x → GroupsScript m i gs x

-- of these groups what is chosen
abbrev pub ChoosesGroups : List ℕ → Image → List (List Site) → Chosen → Answer → Type 0
ChoosesGroups m i gs chosen.All x = GroupsScript m i gs x
ChoosesGroups m i gs (chosen.Part part) x = GroupsScript m i (kept_groups part gs) x
ChoosesGroups m i gs chosen.Number x = x ≡ written (decimal (length gs) ++ codes "\n") false

-- A text is the script of the lines of another, all of which are taken over the image. Each has its faults there, and `inject` reads exactly these.
pub record IsNamedScript (i : Image) (named text : List ℕ) : Type 0 where
  pub taken : checked (digits i) i.graph named ≡ Ok tt
  pub told : text ≡ text_of_script (digits i) i.graph named
  pub compiled : Compiled (digits i) i.graph named
  pub short : length text ≤ most_source_bytes

-- the script of the lines of NAMED's text over an image, or the first line that is refused
pub data NamedScript (name : List ℕ) (i : Image) (named : List ℕ) (x : Answer) : Type 0 where
  refused_line : (r : Refused) → checked (digits i) i.graph named ≡ Err r → x ≡ own_answer name (why.Named r) → NamedScript name i named x
  named_script : WritesOne (Draws (IsNamedScript i named)) x → NamedScript name i named x

-- ---- verdicts

-- the picture of a graph by the verdicts of a part; a fault is found that is unseen
abbrev pub ShowsPart : Lists → Part → Answer → Type 0
ShowsPart g p x = WritesOne (λ text found. IsFaultsPicture g p.script p.verdicts text × (found ≡ shows_unseen (totals_of p.verdicts))) x

-- a text on parts, in which a fault is found that is unseen
abbrev pub sums_up : List Part → List ℕ → Answer
sums_up parts text = written text (shows_unseen (totals_of (all_verdicts parts)))
