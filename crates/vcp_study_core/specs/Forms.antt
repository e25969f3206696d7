-- Forms: which words are a command. The first word names it, the second one is a file's name, and its other words follow, in their order.
use Rattle.std.specs.Prelude.{ℕ, zero, suc, ◌≤◌, ◌==◌, Bool, true, false, cond, bytes_eq, List, [], ◌∷◌, length, drop, Option, Some, None, codes}
use Rattle.std.specs.Option.{option_and_then, option_map}
use Rattle.vcp_base.specs.Limits.{most_cycles, most_horizon}
use Rattle.vcp_base.specs.Numerals.{numeral_of}
use Rattle.vcp_inputs.specs.Forms.{Rows, file as from_file, cycles as from_cycles, rows_of, AreFew, Code, IsCode, as_code, code_of, name_and_rest, number_and_rest, number_within, rows_and_rest, is_end}
use Rattle.verdict_tables.specs.Parts.{most_parts}
use Rattle.fault_cover.specs.declared.class.CoverClasses.{CoverClasses}
use Rattle.fault_cover.specs.CoverText.{classes_in}
use Rattle.fault_sites.specs.declared.class.Classes.{Classes}
use Rattle.fault_sites.specs.declared.run_class.RunClass.{RunClass}
use Rattle.fault_sites.specs.RunSites.{run_class_of}
use Rattle.fault_sites.specs.SiteText.{classes_of}
use Rattle.fault_sites.specs.declared.scripts.chosen.Chosen.{Chosen}
use Rattle.fault_sites.specs.declared.scripts.chosen.Chosen.TheVariants as chosen
use Rattle.pictures.specs.declared.waves.times.Period.{Period}
use Rattle.pictures.specs.Times.{period_of}
use Rattle.vcp_study_core.specs.declared.command.StudyCommand.{StudyCommand}
use Rattle.vcp_study_core.specs.declared.command.StudyCommand.TheVariants as command
use Rattle.vcp_study_core.specs.declared.command.ListStudy.{ListStudy}
use Rattle.vcp_study_core.specs.declared.command.ListStudy.TheVariants as of_list
use Rattle.vcp_study_core.specs.declared.command.Drawing.{Drawing}
use Rattle.vcp_study_core.specs.declared.command.Drawing.TheVariants as drawing
use Rattle.vcp_study_core.specs.declared.command.AloneStudy.{AloneStudy}
use Rattle.vcp_study_core.specs.declared.command.AloneStudy.TheVariants as by_itself
use Rattle.vcp_study_core.specs.declared.command.ImageStudy.{ImageStudy}
use Rattle.vcp_study_core.specs.declared.command.ImageStudy.TheVariants as image
use Rattle.vcp_study_core.specs.declared.part_words.Named.{Named}
use Rattle.vcp_study_core.specs.declared.part_words.PartWords.{PartWords}

-- the names of the files of a part of a campaign: its script, and what was printed on it
pub record PartNames : Type 0 where
  pub script : List ℕ
  pub verdicts : List ℕ

-- what is done with an image: HORIZON, whether all operations are reported and FILE, CLASS of faults, CYCLES, CLASS and which of the sites, ROWS, CLASS and
-- which of the sites, CYCLES and which groups of `rest`, the names of SCRIPT and VERDICTS, and NAMED
pub data Study : Type 0 where
  graph : ℕ → Study
  dot : ℕ → Study
  ranges : Bool → Option (List ℕ) → Study
  cover : ℕ → CoverClasses → Study
  sites : ℕ → Classes → Chosen → Study
  run_sites : Rows → RunClass → Chosen → Study
  rest_sites : ℕ → Chosen → Study
  sum : List PartNames → Study
  sum_apart : List PartNames → Rows → Study
  faults : PartNames → Study
  script_named : List ℕ → Study

-- a command with its words: FILE and TIME, where it is said; P and CODE of an instruction list; or M with what is done with it
pub data Form : Type 0 where
  waves : List ℕ → Option Period → Form
  list_image : List ℕ → Code → Form
  list_text : List ℕ → Form
  on : List ℕ → Study → Form

-- ---- words behind M

-- what was taken, where no words are left
abbrev pub last_taken : {X : Type 0} → X × List (List ℕ) → Option X
last_taken x = cond (is_end x.1) (Some x.0) None

-- a file's name, as the last word
abbrev pub last_name : List (List ℕ) → Option (List ℕ)
last_name words = option_and_then last_taken (name_and_rest words)

-- HORIZON, as the last word
abbrev pub last_horizon : List (List ℕ) → Option ℕ
last_horizon words = option_and_then last_taken (number_and_rest 0 most_horizon words)

-- of `ranges`, behind `--all` where it is said: `--inputs` and FILE
abbrev pub inputs_form : Bool → List ℕ → List (List ℕ) → Option Study
inputs_form all w rest =
    cond (bytes_eq w (codes "--inputs")) (option_map (λ f. ranges all (Some f)) (last_name rest)) None

-- behind `--all`: FILE may be said
abbrev pub all_form : List (List ℕ) → Option Study
all_form [] = Some (ranges true None)
all_form (w ∷ rest) = inputs_form true w rest

-- all operations are reported where `--all` is said, and then FILE may be said
abbrev pub ranges_form : List (List ℕ) → Option Study
ranges_form [] = Some (ranges false None)
ranges_form (w ∷ rest) = cond (bytes_eq w (codes "--all")) (all_form rest) (inputs_form false w rest)

-- of `cover`: HORIZON and CLASS
abbrev pub last_class : List (List ℕ) → Option CoverClasses
last_class [] = None
last_class (w ∷ rest) = option_and_then (λ c. last_taken (c, rest)) (classes_in w)

abbrev pub cover_form : List (List ℕ) → Option Study
cover_form words = option_and_then (λ h. option_map (cover h.0) (last_class h.1)) (number_and_rest 0 most_horizon words)

-- which of the sites: without more words all; `--count` asks how many there are; FROM COUNT is a part
abbrev pub number_word : List ℕ → Option Chosen
number_word w = cond (bytes_eq w (codes "--count")) (Some chosen.Number) None

abbrev pub part_of : List ℕ → List ℕ → Option Chosen
part_of from count =
    option_and_then (λ skip. option_map (λ left. chosen.Part (record { skip = skip; left = left })) (numeral_of count)) (numeral_of from)

abbrev pub chosen_of : List (List ℕ) → Option Chosen
chosen_of [] = Some chosen.All
chosen_of (w ∷ []) = number_word w
chosen_of (w ∷ v ∷ rest) = cond (is_end rest) (part_of w v) None

-- CYCLES, where a file's name may be too
abbrev pub cycles_in : Rows → Option ℕ
cycles_in (from_file w) = number_within 1 most_cycles w
cycles_in (from_cycles n) = None

-- CYCLES, CLASS, and which of the sites
abbrev pub class_form : Rows → List ℕ → List (List ℕ) → Option Study
class_form rows w rest =
    option_and_then (λ n. option_and_then (λ c. option_map (sites n c) (chosen_of rest)) (classes_of w)) (cycles_in rows)

-- ROWS, CLASS, one that the words of a run decide, and which of the sites; or CYCLES, CLASS, and which of the sites
abbrev pub of_class : Rows → List ℕ → List (List ℕ) → Option RunClass → Option Study
of_class rows w rest None = class_form rows w rest
of_class rows w rest (Some c) = option_map (run_sites rows c) (chosen_of rest)

-- CYCLES, `rest`, and which of the groups
abbrev pub rest_form : Rows → List (List ℕ) → Option Study
rest_form rows words = option_and_then (λ n. option_map (rest_sites n) (chosen_of words)) (cycles_in rows)

abbrev pub behind_form : Rows → List (List ℕ) → Option Study
behind_form rows [] = None
behind_form rows (w ∷ words) = cond (bytes_eq w (codes "rest")) (rest_form rows words) (of_class rows w words (run_class_of w))

abbrev pub sites_form : List (List ℕ) → Option Study
sites_form words = option_and_then (λ r. behind_form r.0 r.1) (rows_and_rest words)

-- ---- words of `sum` behind M: SCRIPT and VERDICTS of each part, and ROWS where one word more is there

-- what is next behind M: no more words, a part and the words behind it, or ROWS as the last word
pub data SumWord : Type 0 where
  no_more : SumWord
  a_part : List (List ℕ) → SumWord
  the_rows : Rows → SumWord

-- a script's name is followed by that of its verdicts
abbrev pub part_by : Rows → List (List ℕ) → Option SumWord
part_by (from_file script) rest = option_map (λ v. a_part v.1) (name_and_rest rest)
part_by (from_cycles n) rest = None

abbrev pub next_by : (Rows × List (List ℕ)) → Option SumWord
next_by r = cond (is_end r.1) (Some (the_rows r.0)) (part_by r.0 r.1)

abbrev pub next_of : List (List ℕ) → Option SumWord
next_of [] = Some no_more
next_of (w ∷ words) = option_and_then next_by (rows_and_rest (w ∷ words))

-- how many parts are behind M, and ROWS where it is there
pub record Behind : Type 0 where
  pub parts : ℕ
  pub rows : Option Rows

abbrev pub one_more : Behind → Behind
one_more d = record d { parts = suc d.parts }

abbrev pub behind_by : (List (List ℕ) → Option Behind) → SumWord → Option Behind
behind_by later no_more = Some (record { parts = 0; rows = None })
behind_by later (a_part words) = option_map one_more (later words)
behind_by later (the_rows r) = Some (record { parts = 0; rows = Some r })

-- the same where there are at most so many parts
abbrev pub behind_of : ℕ → List (List ℕ) → Option Behind
behind_of zero words = option_and_then (behind_by (λ more. None)) (next_of words)
behind_of (suc n) words = option_and_then (behind_by (λ more. behind_of n more)) (next_of words)

-- the names of so many parts at the front of words
abbrev pub names_in : ℕ → List (List ℕ) → List PartNames
names_in zero words = []
names_in (suc n) [] = []
names_in (suc n) (s ∷ []) = []
names_in (suc n) (s ∷ v ∷ words) = (record { script = s; verdicts = v }) ∷ names_in n words

abbrev pub sum_with : List PartNames → Option Rows → Study
sum_with names None = sum names
sum_with names (Some rows) = sum_apart names rows

abbrev pub sum_behind : List (List ℕ) → Behind → Option Study
sum_behind words d = cond (d.parts == 0) None (Some (sum_with (names_in d.parts words) d.rows))

abbrev pub sum_form : List (List ℕ) → Option Study
sum_form words = option_and_then (sum_behind words) (behind_of most_parts words)

-- ---- commands

-- of `faults`: SCRIPT and VERDICTS
abbrev pub faults_form : List (List ℕ) → Option Study
faults_form words =
    option_and_then (λ s. option_map (λ v. faults (record { script = s.0; verdicts = v })) (last_name s.1)) (name_and_rest words)

-- of `script`: NAMED
abbrev pub script_form : List (List ℕ) → Option Study
script_form words = option_map script_named (last_name words)

-- what a command's name and its words behind M say, a line a form: of the studies of scripts of faults, and of all
abbrev pub fault_study_of : List ℕ → List (List ℕ) → Option Study
fault_study_of w words =
    cond (bytes_eq w (codes "sites")) (sites_form words)
    (cond (bytes_eq w (codes "sum")) (sum_form words)
    (cond (bytes_eq w (codes "faults")) (faults_form words)
    (cond (bytes_eq w (codes "script")) (script_form words) None)))

abbrev pub study_of : List ℕ → List (List ℕ) → Option Study
study_of w words =
    cond (bytes_eq w (codes "graph")) (option_map graph (last_horizon words))
    (cond (bytes_eq w (codes "dot")) (option_map dot (last_horizon words))
    (cond (bytes_eq w (codes "ranges")) (ranges_form words)
    (cond (bytes_eq w (codes "cover")) (cover_form words) (fault_study_of w words))))

-- of `waves`, behind FILE: `--cycle-time` and TIME may be said
abbrev pub last_period : List (List ℕ) → Option Period
last_period [] = None
last_period (w ∷ rest) = option_and_then (λ period. last_taken (period, rest)) (period_of w)

abbrev pub waves_form : List ℕ → List (List ℕ) → Option Form
waves_form file [] = Some (waves file None)
waves_form file (w ∷ rest) = cond (bytes_eq w (codes "--cycle-time")) (option_map (λ period. waves file (Some period)) (last_period rest)) None

-- the command that a name, a file's name and the words behind it say
abbrev pub named_form : List ℕ → List ℕ → List (List ℕ) → Option Form
named_form w m words =
    cond (bytes_eq w (codes "waves")) (waves_form m words)
    (cond (bytes_eq w (codes "image")) (option_map (list_image m) (code_of words))
    (cond (bytes_eq w (codes "text")) (cond (is_end words) (Some (list_text m)) None)
    (option_map (on m) (study_of w words))))

-- the command that words say
abbrev pub form_of : List (List ℕ) → Option Form
form_of [] = None
form_of (w ∷ words) = option_and_then (λ m. named_form w m.0 m.1) (name_and_rest words)

-- ---- commands, as code has them

abbrev pub as_names : Named → PartNames
as_names n = record { script = n.script.now; verdicts = n.verdicts.now }

abbrev pub names_of : PartWords → List PartNames
names_of p = names_in p.left (drop p.at p.words.now)

abbrev pub drawn : ℕ → Drawing → Study
drawn horizon drawing.Picture = graph horizon
drawn horizon drawing.Dot = dot horizon

abbrev pub alone : AloneStudy → Study
alone (by_itself.Drawn horizon how) = drawn horizon how
alone (by_itself.Cover horizon classes) = cover horizon classes
alone (by_itself.Sites cycles classes which) = sites cycles classes which
alone (by_itself.RestSites cycles which) = rest_sites cycles which

abbrev pub study : ImageStudy → Study
study (image.Alone s) = alone s
study (image.Ranges all inputs) = ranges all (option_map (λ f. f.now) inputs)
study (image.RunSites rows class which) = run_sites (rows_of rows) class which
study (image.Sum parts rows) = sum_with (names_of parts) (option_map rows_of rows)
study (image.Faults names) = faults (as_names names)
study (image.Script named) = script_named named.now

abbrev pub list_form : List ℕ → ListStudy → Form
list_form p (of_list.Image code) = list_image p (as_code code)
list_form p of_list.Text = list_text p

abbrev pub form : StudyCommand → Form
form (command.Waves file period) = waves file.now period
form (command.List source made) = list_form source.now made
form (command.On m s) = on m.now (study s)

-- a horizon, a code, and the numbers of cycles and of parts, are within their limits
abbrev pub IsSoundStudy : Study → Type 0
IsSoundStudy (graph horizon) = horizon ≤ most_horizon
IsSoundStudy (dot horizon) = horizon ≤ most_horizon
IsSoundStudy (cover horizon classes) = horizon ≤ most_horizon
IsSoundStudy (sites cycles classes which) = cycles ≤ most_cycles
IsSoundStudy (run_sites rows class which) = AreFew rows
IsSoundStudy (rest_sites cycles which) = cycles ≤ most_cycles
IsSoundStudy (sum names) = length names ≤ most_parts
IsSoundStudy (sum_apart names rows) = AreFew rows × (length names ≤ most_parts)
IsSoundStudy _ = Unit {0}

abbrev pub IsSound : Form → Type 0
IsSound (waves file period) = Unit {0}
IsSound (list_image p code) = IsCode code
IsSound (list_text p) = Unit {0}
IsSound (on m s) = IsSoundStudy s

-- the usage line
abbrev pub usage_text : List ℕ
usage_text = codes "usage: vcp_study graph M HORIZON, dot M HORIZON, waves FILE, waves FILE --cycle-time TIME, ranges M, ranges M --all, ranges M --inputs FILE, ranges M --all --inputs FILE, cover M HORIZON CLASS, sites M CYCLES CLASS, sites M CYCLES CLASS FROM COUNT, sites M CYCLES CLASS --count, sites M ROWS flips, sites M ROWS flips FROM COUNT, sites M ROWS flips --count, sites M ROWS late, sites M ROWS late FROM COUNT, sites M ROWS late --count, sum M SCRIPT VERDICTS .., sum M SCRIPT VERDICTS .. ROWS, faults M SCRIPT VERDICTS, script M NAMED, image P CODE or text P\n"
