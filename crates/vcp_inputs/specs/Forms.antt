-- Forms: which words are a command. The first word names it, and its own words follow, in their order.
use Rattle.std.specs.Prelude.{ℕ, ◌==◌, ◌-◌, ◌<◌, ◌≤◌, Bool, true, false, cond, not, ◌&&◌, nat_le, List, [], ◌∷◌, Option, Some, None, codes, bytes_eq}
use Rattle.std.specs.Option.{option_and_then, option_map, option_or}
use Rattle.vcp_base.specs.Limits.{most_cycles, most_horizon, seeds, most_step}
use Rattle.vcp_inputs.specs.declared.words.command.Code.{Code as CodeWords}
use Rattle.vcp_inputs.specs.declared.words.command.Command.{Command}
use Rattle.vcp_inputs.specs.declared.words.command.Command.TheVariants as command
use Rattle.vcp_inputs.specs.declared.words.command.ImageRun.{ImageRun}
use Rattle.vcp_inputs.specs.declared.words.command.ImageRun.TheVariants as image
use Rattle.vcp_inputs.specs.declared.words.command.ImageText.{ImageText}
use Rattle.vcp_inputs.specs.declared.words.command.ImageText.TheVariants as text
use Rattle.vcp_inputs.specs.declared.words.command.ProgramRun.{ProgramRun}
use Rattle.vcp_inputs.specs.declared.words.command.ProgramRun.TheVariants as program
use Rattle.vcp_inputs.specs.declared.words.command.SourceText.{SourceText}
use Rattle.vcp_inputs.specs.declared.words.command.SourceText.TheVariants as of_source
use Rattle.vcp_inputs.specs.declared.words.command.SingleRun.{SingleRun}
use Rattle.vcp_inputs.specs.declared.words.command.SingleRun.TheVariants as single
use Rattle.vcp_inputs.specs.declared.words.command.RowsWord.{RowsWord}
use Rattle.vcp_inputs.specs.declared.words.command.RowsWord.TheVariants as word
use Rattle.vcp_base.specs.Numerals.{numeral_of}

-- where the rows of a run come from: the file under a name, or so many cycles without inputs
pub data Rows : Type 0 where
  file : List ℕ → Rows
  cycles : ℕ → Rows

-- the code of a run: the seed of its signatures and the step of its stamps
pub record Code : Type 0 where
  pub seed : ℕ
  pub step : ℕ

-- the seed and the step where the words give none
abbrev pub default_seed : ℕ
default_seed = 305419896

abbrev pub default_step : ℕ
default_step = 1

abbrev pub default_code : Code
default_code = record { seed = default_seed; step = default_step }

-- the greatest number of a made program
abbrev pub most_made : ℕ
most_made = 4294967295

-- a command with its words: P is a source's name, M an image's, F a script's; then ROWS, CODE, CYCLE, HORIZON, SEED and the number of a
-- made program
pub data Form : Type 0 where
  check : List ℕ → Form
  format : List ℕ → Form
  plain : List ℕ → Rows → Form
  run : List ℕ → Rows → Code → Form
  il : List ℕ → Rows → Code → Form
  compile : List ℕ → Code → Form
  list : List ℕ → Form
  exec : List ℕ → Rows → Form
  trace : List ℕ → Rows → ℕ → Form
  widen : List ℕ → Form
  audit : List ℕ → ℕ → Form
  inject : List ℕ → Rows → List ℕ → Form
  pair : List ℕ → Rows → ℕ → Form
  pairs : List ℕ → Rows → ℕ → List ℕ → Form
  wire : List ℕ → Form
  demo : ℕ → Form

-- ---- single words

-- a word that can be a file's name: it isn't empty and doesn't begin with `-`
abbrev pub is_file_name : List ℕ → Bool
is_file_name [] = false
is_file_name (b ∷ bytes) = not (b == 45)

-- the number that a word gives, where it is one from `least` to `most`
abbrev pub within : ℕ → ℕ → ℕ → Option ℕ
within least most n = cond (nat_le least n && nat_le n most) (Some n) None

abbrev pub number_within : ℕ → ℕ → List ℕ → Option ℕ
number_within least most w = option_and_then (within least most) (numeral_of w)

-- ---- what the words at the front give, and the words after them

-- a file's name
abbrev pub name_and_rest : List (List ℕ) → Option (List ℕ × List (List ℕ))
name_and_rest [] = None
name_and_rest (w ∷ rest) = cond (is_file_name w) (Some (w, rest)) None

-- a number of cycles that a run may have
abbrev pub cycles_and_rest : List (List ℕ) → Option (Rows × List (List ℕ))
cycles_and_rest [] = None
cycles_and_rest (w ∷ rest) = option_map (λ n. (cycles n, rest)) (number_within 0 most_cycles w)

-- ROWS: `--cycles N`, or a file's name
abbrev pub rows_and_rest : List (List ℕ) → Option (Rows × List (List ℕ))
rows_and_rest [] = None
rows_and_rest (w ∷ rest) =
    cond (bytes_eq w (codes "--cycles")) (cycles_and_rest rest)
    (cond (is_file_name w) (Some (file w, rest)) None)

-- CYCLE, HORIZON, SEED, or the number of a made program: a number from `least` to `most`
abbrev pub number_and_rest : ℕ → ℕ → List (List ℕ) → Option (ℕ × List (List ℕ))
number_and_rest least most [] = None
number_and_rest least most (w ∷ rest) = option_map (λ n. (n, rest)) (number_within least most w)

-- ---- CODE: neither of the options `--seed N` and `--step N`, one, or both in either order

-- the number that an option's two words give, where they are of this option
abbrev pub option_number : List ℕ → ℕ → ℕ → List ℕ → List ℕ → Option ℕ
option_number name least most w n = cond (bytes_eq w name) (number_within least most n) None

abbrev pub seed_of : List ℕ → List ℕ → Option ℕ
seed_of w n = option_number (codes "--seed") 0 (seeds - 1) w n

abbrev pub step_of : List ℕ → List ℕ → Option ℕ
step_of w n = option_number (codes "--step") 1 most_step w n

-- the code of a seed and a step, where there are both
abbrev pub code_with : Option ℕ → Option ℕ → Option Code
code_with (Some seed) (Some step) = Some (record { seed = seed; step = step })
code_with (Some seed) None = None
code_with None step = None

-- the code that words give
abbrev pub code_of : List (List ℕ) → Option Code
code_of [] = Some default_code
code_of (w ∷ n ∷ []) = option_or (code_with (seed_of w n) (Some default_step)) (code_with (Some default_seed) (step_of w n))
code_of (w ∷ n ∷ v ∷ m ∷ []) = option_or (code_with (seed_of w n) (step_of v m)) (code_with (seed_of v m) (step_of w n))
code_of _ = None

-- ---- forms

-- what is said of that which the words at the front give and of the words after them, if they give it
abbrev pub followed : {X : Type 0} → Option (X × List (List ℕ)) → (X → List (List ℕ) → Option Form) → Option Form
followed None more = None
followed (Some front) more = more front.0 front.1

-- a file's name, and then more words
abbrev pub name_then : (List ℕ → List (List ℕ) → Option Form) → List (List ℕ) → Option Form
name_then more words = followed (name_and_rest words) more

-- ROWS, and then more words
abbrev pub rows_then : (Rows → List (List ℕ) → Option Form) → List (List ℕ) → Option Form
rows_then more words = followed (rows_and_rest words) more

-- a number from `least` to `most`, and then more words
abbrev pub number_then : ℕ → ℕ → (ℕ → List (List ℕ) → Option Form) → List (List ℕ) → Option Form
number_then least most more words = followed (number_and_rest least most words) more

-- CODE to the last word
abbrev pub code_then : (Code → Form) → List (List ℕ) → Option Form
code_then f words = option_map f (code_of words)

-- no more words
abbrev pub is_end : List (List ℕ) → Bool
is_end [] = true
is_end (w ∷ rest) = false

abbrev pub end_then : Form → List (List ℕ) → Option Form
end_then f words = cond (is_end words) (Some f) None

-- the command on an image that a name and the words behind it say, a line a form
abbrev pub image_form : List ℕ → List (List ℕ) → Option Form
image_form w words =
    cond (bytes_eq w (codes "list")) (name_then (λ m. end_then (list m)) words)
    (cond (bytes_eq w (codes "exec")) (name_then (λ m. rows_then (λ rows. end_then (exec m rows))) words)
    (cond (bytes_eq w (codes "trace")) (name_then (λ m. rows_then (λ rows. number_then 0 (most_cycles - 1) (λ c. end_then (trace m rows c)))) words)
    (cond (bytes_eq w (codes "widen")) (name_then (λ m. end_then (widen m)) words)
    (cond (bytes_eq w (codes "audit")) (name_then (λ m. number_then 0 most_horizon (λ h. end_then (audit m h))) words)
    (cond (bytes_eq w (codes "inject")) (name_then (λ m. rows_then (λ rows. name_then (λ f. end_then (inject m rows f)))) words)
    (cond (bytes_eq w (codes "pair")) (name_then (λ m. rows_then (λ rows. number_then 0 (seeds - 1) (λ s. end_then (pair m rows s)))) words)
    (cond (bytes_eq w (codes "pairs")) (name_then (λ m. rows_then (λ rows. number_then 0 (seeds - 1) (λ s. name_then (λ f. end_then (pairs m rows s f))))) words)
    None)))))))

-- the command that words say, a line a form
abbrev pub form_of : List (List ℕ) → Option Form
form_of [] = None
form_of (w ∷ words) =
    cond (bytes_eq w (codes "check")) (name_then (λ p. end_then (check p)) words)
    (cond (bytes_eq w (codes "format")) (name_then (λ p. end_then (format p)) words)
    (cond (bytes_eq w (codes "plain")) (name_then (λ p. rows_then (λ rows. end_then (plain p rows))) words)
    (cond (bytes_eq w (codes "run")) (name_then (λ p. rows_then (λ rows. code_then (run p rows))) words)
    (cond (bytes_eq w (codes "il")) (name_then (λ p. rows_then (λ rows. code_then (il p rows))) words)
    (cond (bytes_eq w (codes "compile")) (name_then (λ p. code_then (compile p)) words)
    (cond (bytes_eq w (codes "wire")) (name_then (λ f. end_then (wire f)) words)
    (cond (bytes_eq w (codes "demo")) (number_then 0 most_made (λ n. end_then (demo n)) words)
    (image_form w words))))))))

-- the usage line, which words get that are none of the forms
abbrev pub usage_text : List ℕ
usage_text = codes "usage: vcp check P, format P, plain P ROWS, run P ROWS CODE, compile P CODE, list M, exec M ROWS, trace M ROWS CYCLE, inject M ROWS F, audit M HORIZON, widen M, il P ROWS CODE, pair M ROWS SEED, pairs M ROWS SEED F, wire F or demo N\n"

-- ---- commands as values

-- where a command takes its rows from
abbrev pub rows_of : RowsWord → Rows
rows_of (word.File name) = file name.now
rows_of (word.Cycles n) = cycles n

-- the code that a command gives
abbrev pub as_code : CodeWords → Code
as_code c = record { seed = c.seed; step = c.step }

-- what is written of P, the run of P on ROWS, what is printed of M, and the run of M on ROWS, alone or under the faults of a script, on two channels where the second has a seed:
-- each as a form
abbrev pub source_text : List ℕ → SourceText → Form
source_text p of_source.Size = check p
source_text p (of_source.Image code) = compile p (as_code code)

abbrev pub program_run : List ℕ → Rows → ProgramRun → Form
program_run p rows program.Plain = plain p rows
program_run p rows (program.Run code) = run p rows (as_code code)
program_run p rows (program.Il code) = il p rows (as_code code)

abbrev pub image_text : List ℕ → ImageText → Form
image_text m text.List = list m
image_text m text.Widen = widen m
image_text m (text.Audit horizon) = audit m horizon

abbrev pub single_run : List ℕ → Rows → SingleRun → Form
single_run m rows single.Exec = exec m rows
single_run m rows (single.Trace cycle) = trace m rows cycle
single_run m rows (single.Pair seed) = pair m rows seed

abbrev pub faults_run : List ℕ → Rows → Option ℕ → List ℕ → Form
faults_run m rows None f = inject m rows f
faults_run m rows (Some seed) f = pairs m rows seed f

abbrev pub image_run : List ℕ → Rows → ImageRun → Form
image_run m rows (image.Single how) = single_run m rows how
image_run m rows (image.Faults second script) = faults_run m rows second script.now

-- a command, as a form
abbrev pub form : Command → Form
form (command.Format source) = format source.now
form (command.Source source which) = source_text source.now which
form (command.ProgramRows source rows how) = program_run source.now (rows_of rows) how
form (command.Image source which) = image_text source.now which
form (command.ImageRows source rows how) = image_run source.now (rows_of rows) how
form (command.Wire script) = wire script.now
form (command.Demo number) = demo number

-- ---- what holds of each command

-- rows that are a number of cycles are as many as a run may have
abbrev pub AreFew : Rows → Type 0
AreFew (file name) = Unit {0}
AreFew (cycles n) = n ≤ most_cycles

-- a seed and a step in their ranges
pub record IsCode (code : Code) : Type 0 where
  pub seed : code.seed < seeds
  pub step_from : 1 ≤ code.step
  pub step_to : code.step ≤ most_step

-- the rows are few, the code and the seed in their ranges, the cycle one that a run may have, and the horizon one that an audit may have, where the
-- command has them
abbrev pub IsSound : Form → Type 0
IsSound (check p) = Unit {0}
IsSound (format p) = Unit {0}
IsSound (plain p rows) = AreFew rows
IsSound (run p rows code) = AreFew rows × IsCode code
IsSound (il p rows code) = AreFew rows × IsCode code
IsSound (compile p code) = IsCode code
IsSound (list m) = Unit {0}
IsSound (exec m rows) = AreFew rows
IsSound (trace m rows cycle) = AreFew rows × (cycle < most_cycles)
IsSound (widen m) = Unit {0}
IsSound (audit m horizon) = horizon ≤ most_horizon
IsSound (inject m rows f) = AreFew rows
IsSound (pair m rows seed) = AreFew rows × (seed < seeds)
IsSound (pairs m rows seed f) = AreFew rows × (seed < seeds)
IsSound (wire f) = Unit {0}
IsSound (demo n) = Unit {0}
