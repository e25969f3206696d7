-- FromFiles: what comes of reading files: something is found, or the command ends with an answer, by which nothing is written to the output.
use Rattle.std.specs.Prelude.{ℕ, ◌≡◌, ◌≤◌, List, [], length, Some, Result, Ok, Err}
use Rattle.vcp_outside.specs.Held.{Held}
use Rattle.vcp_inputs.specs.Files.{Never, NotLoaded}
use Rattle.vcp_inputs.specs.Lines.{memory_text, write_fault_text, input_text, input_status}
use Rattle.vcp_inputs.specs.declared.refusal.NoInput.{NoInput}
use Rattle.vcp_inputs.specs.Answer.{Answer}
use Rattle.vcp_study_core.specs.Lines.{own_text}
use Rattle.vcp_study_core.specs.declared.fault.Fault.{Fault}
use Rattle.vcp_study_core.specs.declared.fault.Fault.TheVariants as fault
use Rattle.vcp_study_core.specs.declared.fault.StudyRefusal.{StudyRefusal}

pub data FromFiles (V : Type 0) : Type 0 where
  got : V → FromFiles V
  ends_by : Answer → FromFiles V

-- ---- answers by which nothing is written

-- there is nothing of what lines tell by a name
abbrev pub input_answer : List ℕ → NoInput → Answer
input_answer name i = record { out = []; err = input_text name i; status = input_status i }

-- what this program alone refuses
abbrev pub own_answer : List ℕ → StudyRefusal → Answer
own_answer name why = record { out = []; err = own_text name why; status = 1 }

-- memory was wanted
abbrev pub memory_answer : Answer
memory_answer = record { out = []; err = memory_text; status = 7 }

-- a fault of a command
abbrev pub fault_answer : Fault → Answer
fault_answer (fault.Input name i) = input_answer name.now i
fault_answer (fault.Refused name why) = own_answer name.now why
fault_answer fault.Write = record { out = []; err = write_fault_text; status = 6 }
fault_answer fault.Memory = memory_answer

-- what a call gives that reads files
abbrev pub as_found : {V : Type 0} → Result V Fault → FromFiles V
as_found (Ok v) = got v
as_found (Err e) = ends_by (fault_answer e)

abbrev pub as_found_by : {V W : Type 0} → Result V Fault → (V → W) → FromFiles W
as_found_by (Ok v) f = got (f v)
as_found_by (Err e) f = ends_by (fault_answer e)

-- ---- of files

-- what is given of a file, or of ROWS, which lines tell by this name
abbrev pub OfLoads : {V : Type 0} → (Result V NoInput → Type 0) → List ℕ → FromFiles V → Type 0
OfLoads Gives name (got v) = Gives (Ok v)
OfLoads Gives name (ends_by x) = (i : NoInput) × Gives (Err i) × (x ≡ input_answer name i)

-- What the text of the file under a name comes to, by what such a text comes to; or there is no such file, no longer than it may be. The files' count of
-- those that broke was b before, and is n.
pub data OfText {V : Type 0} (Comes : List ℕ → FromFiles V → Type 0) (name : List ℕ) (most : ℕ) (held : Held) (b n : ℕ) : FromFiles V → Type 0 where
  of_text : (text : List ℕ) → held name ≡ Some text → length text ≤ most → (r : FromFiles V) → Comes text r → OfText Comes name most held b n r
  no_text : (i : NoInput) → NotLoaded Never held name most b n i → OfText Comes name most held b n (ends_by (input_answer name i))

-- The answer of a command that reads something first: the one with which it ends where that isn't found; or one of what it does with it. The files' count
-- was b before, k behind what was read first, and is n.
pub data Onward {V : Type 0} (First : ℕ → ℕ → FromFiles V → Type 0) (Next : V → ℕ → ℕ → Answer → Type 0) (b n : ℕ) (x : Answer) : Type 0 where
  nothing : First b n (ends_by x) → Onward First Next b n x
  onward : (v : V) (k : ℕ) → b ≤ k → First b k (got v) → Next v k n x → Onward First Next b n x
