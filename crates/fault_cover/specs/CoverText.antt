-- CoverText: the lines of a cover. Each ends with LF.
use Rattle.std.specs.List.{All, filter}
use Rattle.std.specs.Prelude.{◌≡◌, ℕ, ◌+◌, ◌-◌, ◌==◌, ◌&&◌, Bool, true, false, not, cond, List, [], ◌++◌, length, map, replicate, slice_get, flat_map}
use Rattle.std.specs.Prelude.{decimal, codes, count_by, bytes_eq, Option, Some, None}
use Rattle.op_graph.specs.Lists.{Lists}
use Rattle.run_report.specs.Variables.{output_name}
use Rattle.fault_sites.specs.Sites.{each_below}
use Rattle.fault_sites.specs.SiteText.{verb, rest}
use Rattle.verdict_tables.specs.Places.{operation_text}
use Rattle.verdict_tables.specs.Tables.{own_delays, is_delay}
use Rattle.verdict_tables.specs.SumText.{delay_text}
use Rattle.fault_cover.specs.declared.class.CoverClass.{CoverClass}
use Rattle.fault_cover.specs.declared.class.CoverClass.TheVariants as cover
use Rattle.fault_cover.specs.declared.class.CoverClasses.{CoverClasses}
use Rattle.fault_cover.specs.declared.class.CoverClasses.TheVariants as covers
use Rattle.fault_cover.specs.declared.disturbance.Disturbance.{Disturbance}
use Rattle.fault_cover.specs.declared.disturbance.Disturbance.TheVariants as disturbance
use Rattle.fault_cover.specs.declared.tally.Tally.{Tally}
use Rattle.fault_cover.specs.declared.effect.Effect.{Effect}
use Rattle.fault_cover.specs.declared.effect.Effect.TheVariants as told
use Rattle.fault_cover.specs.Classes.{Single, fault_at, singles, classes_of}
use Rattle.fault_cover.specs.Telling.{Subject, Tells}

-- ---- names

abbrev pub class_name : CoverClass → List ℕ
class_name cover.Add = codes "add"
class_name cover.Rest = codes "rest"
class_name cover.Stale = codes "stale"
class_name cover.Skip = codes "skip"
class_name cover.From = codes "from"
class_name cover.Late = codes "late"
class_name cover.Operator = codes "operator"

abbrev pub classes_name : CoverClasses → List ℕ
classes_name (covers.One c) = class_name c
classes_name covers.All = codes "all"

-- the classes that a word names
abbrev pub classes_in : List ℕ → Option CoverClasses
classes_in w =
    cond (bytes_eq w (codes "add")) (Some (covers.One cover.Add))
    (cond (bytes_eq w (codes "rest")) (Some (covers.One cover.Rest))
    (cond (bytes_eq w (codes "stale")) (Some (covers.One cover.Stale))
    (cond (bytes_eq w (codes "skip")) (Some (covers.One cover.Skip))
    (cond (bytes_eq w (codes "from")) (Some (covers.One cover.From))
    (cond (bytes_eq w (codes "late")) (Some (covers.One cover.Late))
    (cond (bytes_eq w (codes "operator")) (Some (covers.One cover.Operator))
    (cond (bytes_eq w (codes "all")) (Some covers.All)
    None)))))))

-- a fault as a script spells it, with N for whatever cycle: what is in front of the cycle, and behind the operation
abbrev pub front : Disturbance → List ℕ
front disturbance.AddToResult = codes "result "
front (disturbance.AddToOperand j) = codes "operand "
front (disturbance.AddToRest right) = codes "rest "
front (disturbance.Late j r) = codes "operand "
front (disturbance.Does a) = verb a

abbrev pub back : Disturbance → List ℕ
back disturbance.AddToResult = codes " add any"
back (disturbance.AddToOperand j) = codes " " ++ (decimal j ++ codes " add any")
back (disturbance.AddToRest right) = codes " " ++ (decimal right ++ codes " add any")
back (disturbance.Late j r) = codes " " ++ (decimal j ++ (codes " late " ++ decimal r))
back (disturbance.Does a) = rest a

abbrev pub single_text : Single → List ℕ
single_text f = front f.does ++ (codes "N " ++ (decimal f.op ++ back f.does))

abbrev pub place_text : Lists → ℕ → List ℕ
place_text g k = operation_text g k (slice_get g.operations k)

-- ---- what is reported of each fault

pub record Heard : Type 0 where
  pub fault : Single
  pub told : Effect

-- this is reported of what is amiss at operation k
abbrev pub heard_as : ℕ → Disturbance → Effect → Heard
heard_as k d x = record { fault = fault_at k d; told = x }

-- this is reported of each of these faults, and becomes of it
pub record AreHeard (s : Subject) (faults : List Single) (heard : List Heard) : Type 0 where
  pub faults_are : map (λ h. h.fault) heard ≡ faults
  pub told : All (λ h. Tells s h.fault.op h.fault.does h.told) heard

-- a class, and what is reported of its faults, in order
pub record Covered : Type 0 where
  pub class : CoverClass
  pub heard : List Heard

-- each fault of the class is among them, once, with what becomes of it
abbrev pub IsCovered : Subject → Covered → Type 0
IsCovered s c = AreHeard s (singles c.class s.graph) c.heard

-- of all these classes, class by class
abbrev pub heard_of : List Covered → List Heard
heard_of covered = flat_map (λ c. c.heard) covered

-- of operation k, class by class
abbrev pub heard_at : List Covered → ℕ → List Heard
heard_at covered k = filter (λ h. h.fault.op == k) (heard_of covered)

-- ---- counts

abbrev pub is_refused : Effect → Bool
is_refused (told.Refused borders) = true
is_refused _ = false

abbrev pub is_nothing : Effect → Bool
is_nothing told.Nothing = true
is_nothing _ = false

abbrev pub is_shown : Effect → Bool
is_shown (told.Shows borders output) = true
is_shown _ = false

abbrev pub is_running_on : Effect → Bool
is_running_on (told.RunsOn borders q) = true
is_running_on _ = false

abbrev pub is_beyond : Effect → Bool
is_beyond told.Beyond = true
is_beyond _ = false

-- of how many such a thing is reported
abbrev pub count_told : (Effect → Bool) → List Heard → ℕ
count_told is heard = count_by (λ h. is h.told) heard

abbrev pub tally : List Heard → Tally
tally heard = record {
  refused = count_told is_refused heard;
  nothing = count_told is_nothing heard;
  shows = count_told is_shown heard;
  runs_on = count_told is_running_on heard;
  beyond = count_told is_beyond heard;
}

abbrev pub sum_of : Tally → ℕ
sum_of t = t.refused + t.nothing + t.shows + t.runs_on + t.beyond

-- ---- tables

-- a number at the right end of a column of twelve
abbrev pub column_text : ℕ → List ℕ
column_text n = replicate (12 - length (decimal n)) 32 ++ decimal n

abbrev pub columns_text : Tally → List ℕ
columns_text t =
    column_text (sum_of t) ++ (column_text t.refused ++ (column_text t.nothing ++ (column_text t.shows ++ (column_text t.runs_on ++ column_text t.beyond))))

-- the names of the columns, before what the rows are about
abbrev pub heading_text : List ℕ → List ℕ
heading_text about = codes "      faults     refused     nothing       shows     runs-on      beyond  " ++ (about ++ codes "\n")

-- a row with these counts; none where nothing is counted
abbrev pub row_text : List ℕ → Tally → List ℕ
row_text name t = cond (sum_of t == 0) [] (columns_text t ++ (codes "  " ++ (name ++ codes "\n")))

abbrev pub class_row : Covered → List ℕ
class_row c = row_text (class_name c.class) (tally c.heard)

-- reported as refused, by a number of cycles that row n of the delays has
abbrev pub is_late : ℕ → Effect → Bool
is_late n (told.Refused borders) = is_delay n borders
is_late n told.Nothing = false
is_late n (told.Shows borders output) = false
is_late n (told.RunsOn borders q) = false
is_late n told.Beyond = false

abbrev pub delays : List Heard → ℕ → ℕ
delays heard n = count_told (is_late n) heard

-- so many are refused
abbrev pub refused_only : ℕ → Tally
refused_only n = record { refused = n; nothing = 0; shows = 0; runs_on = 0; beyond = 0 }

abbrev pub delay_row : List Heard → ℕ → List ℕ
delay_row heard n = row_text (delay_text n) (refused_only (delays heard n))

-- ---- the faults that are neither refused nor nothing

-- the line of a fault that shows
abbrev pub shows_text : Lists → Single → Effect → List ℕ
shows_text g f (told.Shows borders output) =
    codes "shows " ++ (decimal borders ++ (codes " " ++ (output_name g output ++ (codes ": " ++ (single_text f ++ (codes ": " ++ (place_text g f.op ++ codes
    "\n")))))))
shows_text g f (told.Refused borders) = []
shows_text g f told.Nothing = []
shows_text g f (told.RunsOn borders q) = []
shows_text g f told.Beyond = []

-- how many faults of an operation there are of which something is reported
abbrev pub number_text : Lists → ℕ → ℕ → List ℕ
number_text g k n = codes ": faults " ++ (decimal n ++ (codes " of " ++ (place_text g k ++ codes "\n")))

abbrev pub is_run_on : ℕ → ℕ → Effect → Bool
is_run_on borders q (told.RunsOn b p) = b == borders && p == q
is_run_on borders q _ = false

-- the line of those that run on across so many borders at operation q, and of those that are beyond; none where there are none
abbrev pub run_on_text : Lists → List Heard → ℕ → ℕ → ℕ → List ℕ
run_on_text g heard k borders q =
    let n = count_told (is_run_on borders q) heard in
    cond (n == 0) [] (codes "runs-on " ++ (decimal borders ++ (codes " " ++ (decimal q ++ number_text g k n))))

abbrev pub beyond_text : Lists → List Heard → ℕ → List ℕ
beyond_text g heard k =
    let n = count_told is_beyond heard in
    cond (n == 0) [] (codes "beyond" ++ number_text g k n)

-- of the faults of operation k: by the number of borders, and then by the operation that may stop
abbrev pub left_text : Lists → ℕ → List Heard → ℕ → List ℕ
left_text g horizon heard k =
    each_below (λ b. each_below (λ q. run_on_text g heard k b q) (length g.operations)) (horizon + 1) ++ beyond_text g heard k

-- ---- the whole text

abbrev pub remark : CoverClasses → ℕ → List ℕ → List ℕ
remark classes horizon digest =
    codes "# cover " ++ (classes_name classes ++ (codes " " ++ (decimal horizon ++ (codes " of " ++ (digest ++ codes "\n")))))

abbrev pub totals_line : Tally → List ℕ
totals_line t =
    (codes "faults " ++ decimal (sum_of t)) ++ ((codes " refused " ++ decimal t.refused) ++ ((codes " nothing " ++ decimal t.nothing)
    ++ ((codes " shows " ++ decimal t.shows) ++ ((codes " runs-on " ++ decimal t.runs_on) ++ (codes " beyond " ++ decimal t.beyond)))))

abbrev pub totals_text : Tally → List ℕ
totals_text t = totals_line t ++ codes "\n"

abbrev pub tables_text : List Covered → List ℕ
tables_text covered =
    heading_text (codes "by what the fault does") ++ (flat_map class_row covered
    ++ (heading_text (codes "by how many cycles later it is refused") ++ each_below (delay_row (heard_of covered)) (own_delays + 1)))

abbrev pub lines_text : Lists → ℕ → List Covered → List ℕ
lines_text g horizon covered =
    flat_map (λ h. shows_text g h.fault h.told) (heard_of covered)
    ++ each_below (λ k. left_text g horizon (heard_at covered k) k) (length g.operations)

abbrev pub cover_text : Lists → ℕ → List Covered → CoverClasses → List ℕ → List ℕ
cover_text g horizon covered classes digest =
    remark classes horizon digest ++ (tables_text covered ++ (lines_text g horizon covered ++ totals_text (tally (heard_of covered))))

-- something is reported of a fault that is neither `refused` nor `nothing`
abbrev pub leaves_any : Tally → Bool
leaves_any t = not (t.shows + t.runs_on + t.beyond == 0)

-- The text is the cover of these classes: each fault of each class is counted in it once, under what is reported of it; each that shows has its line; and
-- each other that is neither refused nor does nothing is in the number of its operation's line. `left` says whether there are any of those.
pub record CoverOf (s : Subject) (classes : CoverClasses) (digest text : List ℕ) (left : Bool) : Type 0 where
  pub covered : List Covered
  pub classes_are : map (λ c. c.class) covered ≡ classes_of classes
  pub all : All (IsCovered s) covered
  pub text_is : text ≡ cover_text s.graph s.horizon covered classes digest
  pub left_is : left ≡ leaves_any (tally (heard_of covered))
