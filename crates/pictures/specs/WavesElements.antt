-- WavesElements: how the values, the names, the cycles and the end of a run are drawn, and the text of the picture.
use Rattle.std.specs.Prelude.{◌≡◌, ◌<◌, ◌≤◌, ℕ, ◌+◌, ◌-◌, ◌*◌, ◌%◌, ◌==◌, Bool, cond, ◌&&◌, nat_lt, int_lt, Option, Some, None, IfSome, List, [], ◌∷◌, ◌++◌, length, codes, decimal, flat_map, slice_index_or, ℤ, pos}
use Rattle.std.specs.Fmt.{signed_decimal}
use Rattle.std.specs.List.{AllByRecursion, concat}
use Rattle.std.specs.Ordering.{int_eq}
use Rattle.vcp_outside.specs.declared.svg.names.Tag.TheVariants as tag
use Rattle.vcp_outside.specs.declared.svg.names.Name.TheVariants as name
use Rattle.vcp_outside.specs.Elements.{Element, attribute, element, picture_text}
use Rattle.pictures.specs.declared.waves.ending.Mark.{Mark}
use Rattle.pictures.specs.declared.waves.ending.Mark.TheVariants as mark
use Rattle.pictures.specs.declared.waves.ending.Ending.{Ending}
use Rattle.pictures.specs.declared.waves.layout.Layout.{Layout}
use Rattle.pictures.specs.declared.waves.stretches.Stretch.{Stretch}
use Rattle.pictures.specs.declared.waves.times.Period.{Period}
use Rattle.pictures.specs.RunOf.{Recorded}
use Rattle.pictures.specs.WavesDrawn.{lanes, is_level}
use Rattle.pictures.specs.Times.{time_pieces}
use Rattle.vcp_outside.specs.Drawing.{each_below}

-- the distance of a cycle's begin from the left, and of a column's upper side from above
abbrev pub start_of : Layout → ℕ → ℕ
start_of l cycle = l.left + cycle * l.cell

abbrev pub top_of : ℕ → ℕ
top_of column = 48 + column * 44

-- ---- lines and texts

-- a line of a class between two places
abbrev pub line_element : List ℕ → ℕ → ℕ → ℕ → ℕ → Element
line_element class x1 y1 x2 y2 = element tag.Line
    (attribute name.Class class ∷ attribute name.X1 (decimal x1) ∷ attribute name.Y1 (decimal y1)
    ∷ attribute name.X2 (decimal x2) ∷ attribute name.Y2 (decimal y2) ∷ []) []

-- a text of a class at a place
abbrev pub text_element : List ℕ → ℕ → ℕ → List (List ℕ) → Element
text_element class x y content = element tag.Text
    (attribute name.Class class ∷ attribute name.X (decimal x) ∷ attribute name.Y (decimal y) ∷ []) content

-- ---- a stretch

-- words at a place
abbrev pub words_element : ℕ → ℕ → List ℕ → Element
words_element x y words = element tag.Text (attribute name.X (decimal x) ∷ attribute name.Y (decimal y) ∷ []) (words ∷ [])

-- a line from the begin of the first cycle to the end of the last one, from one height to another
abbrev pub slope_element : Layout → Stretch → List ℕ → ℕ → ℕ → List (List ℕ) → Element
slope_element l s class from to content = element tag.Line
    (attribute name.Column (decimal s.column) ∷ attribute name.Cycle (decimal s.start) ∷ attribute name.Class class
    ∷ attribute name.X1 (decimal (start_of l s.start)) ∷ attribute name.Y1 (decimal from)
    ∷ attribute name.X2 (decimal (start_of l s.end)) ∷ attribute name.Y2 (decimal to) ∷ []) content

-- the height at which a level is drawn, below the upper side of its column: 0 is low
abbrev pub level_of : ℤ → ℕ
level_of v = cond (int_eq v (pos 0)) 30 8

-- a level: a line from the begin of the first cycle to the end of the last one
abbrev pub level_element : Layout → Stretch → Element
level_element l s = slope_element l s (codes "level") (top_of s.column + level_of s.first) (top_of s.column + level_of s.first)
    (signed_decimal s.first ∷ [])

-- a number that holds: a rectangle from the begin of the first cycle to the end of the last one
abbrev pub number_element : Layout → Stretch → Element
number_element l s = element tag.Rect
    (attribute name.Column (decimal s.column) ∷ attribute name.Cycle (decimal s.start) ∷ attribute name.Class (codes "number")
    ∷ attribute name.X (decimal (start_of l s.start)) ∷ attribute name.Y (decimal (top_of s.column + 8))
    ∷ attribute name.Width (decimal ((s.end - s.start) * l.cell)) ∷ attribute name.Height (decimal 22) ∷ []) (signed_decimal s.first ∷ [])

-- a ramp rises or falls
abbrev pub rises : Stretch → Bool
rises s = int_lt s.first s.last

-- a number that changes by the same amount with each cycle: a slope from the begin of the first cycle to the end of the last one
abbrev pub ramp_element : Layout → Stretch → Element
ramp_element l s = slope_element l s (codes "ramp") (top_of s.column + cond (rises s) 30 8) (top_of s.column + cond (rises s) 8 30)
    (signed_decimal s.first ∷ codes " to " ∷ signed_decimal s.last ∷ [])

-- the value holds
abbrev pub holds : Stretch → Bool
holds s = int_eq s.first s.last

abbrev pub value_element : Layout → Stretch → Element
value_element l s = cond s.is_level (level_element l s) (cond (holds s) (number_element l s) (ramp_element l s))

-- an edge, where a stretch begins behind another
abbrev pub edge_element : Layout → Stretch → Element
edge_element l s = line_element (codes "edge") (start_of l s.start) (top_of s.column + 8) (start_of l s.start) (top_of s.column + 30)

abbrev pub edge_elements : Layout → Stretch → List Element
edge_elements l s = cond (nat_lt 0 s.start) (edge_element l s ∷ []) []

-- a number is written at the begin of its stretch, in a ramp above the slope where that rises, and below it where it falls
abbrev pub first_element : Layout → Stretch → Element
first_element l s = text_element (codes "first") (start_of l s.start + 4)
    (top_of s.column + cond (holds s) 23 (cond (rises s) 17 30)) (signed_decimal s.first ∷ [])

-- of a ramp the last value is written at the end, on the other side of the slope
abbrev pub last_element : Layout → Stretch → Element
last_element l s = text_element (codes "last") (start_of l s.end - 4) (top_of s.column + cond (rises s) 30 17) (signed_decimal s.last ∷ [])

abbrev pub label_elements : Layout → Stretch → List Element
label_elements l s = cond s.is_level [] (first_element l s ∷ cond (holds s) [] (last_element l s ∷ []))

abbrev pub stretch_elements : Layout → Stretch → List Element
stretch_elements l s = value_element l s ∷ (edge_elements l s ++ label_elements l s)

-- ---- names

-- the name of a column
abbrev pub name_element : Recorded → List ℕ → ℕ → ℕ → ℕ → Element
name_element run class x y column = element tag.Text
    (attribute name.Column (decimal column) ∷ attribute name.Class class ∷ attribute name.X (decimal x) ∷ attribute name.Y (decimal (top_of column + y)) ∷ [])
    (slice_index_or run.names column [] ∷ [])

-- the names of the columns below this one, in a class, so far from the left and below the upper sides
abbrev pub names_elements : Recorded → List ℕ → ℕ → ℕ → ℕ → List Element
names_elements run class x y columns = each_below (λ column. name_element run class x y column ∷ []) columns

-- ---- columns of levels

-- a level is drawn over a base line, which is the height of 0
abbrev pub base_element : Layout → ℕ → ℕ → Element
base_element l cycles column = line_element (codes "base") (start_of l 0) (top_of column + 30) (start_of l cycles) (top_of column + 30)

abbrev pub base_elements : Layout → Recorded → ℕ → List Element
base_elements l run column = cond (is_level run column) (base_element l (length run.rows) column ∷ []) []

-- the base lines of the columns below this one
abbrev pub bases_elements : Layout → Recorded → ℕ → List Element
bases_elements l run columns = each_below (base_elements l run) columns

-- ---- cycles

-- the begin of a cycle, from above the first column to below the last one, and the cycle's number
abbrev pub begin_element : Layout → ℕ → ℕ → Element
begin_element l columns cycle = line_element (codes "cycle") (start_of l cycle) 48 (start_of l cycle) (top_of columns)

abbrev pub cycle_element : Layout → ℕ → ℕ → Element
cycle_element l columns cycle = words_element (start_of l cycle + 4) (top_of columns + 14) (decimal cycle)

-- below its number, when the cycle begins
abbrev pub time_element : Layout → ℕ → Period → ℕ → Element
time_element l columns period cycle = text_element (codes "time") (start_of l cycle + 4) (top_of columns + 28) (time_pieces period cycle)

-- where it is known how long a cycle takes
abbrev pub time_elements : Layout → ℕ → Option Period → ℕ → List Element
time_elements l columns None cycle = []
time_elements l columns (Some period) cycle = time_element l columns period cycle ∷ []

-- of so many cycles the first is marked
abbrev pub mark_elements : Layout → ℕ → Option Period → ℕ → List Element
mark_elements l columns period cycle =
    cond (cycle % l.every == 0) (begin_element l columns cycle ∷ cycle_element l columns cycle ∷ time_elements l columns period cycle) []

-- a page has so many cycles; behind the first one the names stand again at the begin of each
abbrev pub page_elements : Layout → Recorded → ℕ → List Element
page_elements l run cycle = cond (nat_lt 0 cycle && cycle % l.page == 0)
    (names_elements run (codes "again") (start_of l cycle + 4) 4 (length run.names)) []

abbrev pub cycle_elements : Layout → Recorded → Option Period → ℕ → List Element
cycle_elements l run period cycle = mark_elements l (length run.names) period cycle ++ page_elements l run cycle

-- the cycles below this one
abbrev pub cycles_elements : Layout → Recorded → Option Period → ℕ → List Element
cycles_elements l run period cycles = each_below (cycle_elements l run period) cycles

-- ---- the end

abbrev pub class_of : Mark → List ℕ
class_of mark.Ended = codes "ended"
class_of mark.Stopped = codes "stopped"
class_of mark.Refused = codes "refused"

-- the end of the run, behind its rows: a line and the words of the last line
abbrev pub mark_element : Layout → ℕ → ℕ → Ending → Element
mark_element l columns cycles ending = line_element (class_of ending.mark) (start_of l cycles) 24 (start_of l cycles) (top_of columns)

abbrev pub ending_element : Layout → ℕ → Ending → Element
ending_element l cycles ending = words_element (start_of l cycles + 4) 34 ending.text

abbrev pub ending_elements : Layout → ℕ → ℕ → Ending → List Element
ending_elements l columns cycles ending = mark_element l columns cycles ending ∷ ending_element l cycles ending ∷ []

-- ---- the picture

abbrev pub style : Element
style = element tag.Style [] (codes "text{font:11px monospace}.level,.edge,.ramp{stroke:#000;stroke-width:2}.base{stroke:#999}.number{fill:#dde8f4}.last{text-anchor:end}.again,.time{fill:#666}.cycle{stroke:#ccc}.ended{stroke:#000}.stopped,.refused{stroke:#d00;stroke-width:3}" ∷ [])

abbrev pub waves_elements : Layout → Recorded → Option Period → List Element
waves_elements l run period =
    style ∷ (cycles_elements l run period (length run.rows) ++ (names_elements run (codes "name") 8 23 (length run.names)
    ++ (bases_elements l run (length run.names)
    ++ (flat_map (stretch_elements l) (lanes run) ++ ending_elements l (length run.names) (length run.rows) run.ending))))

-- the size of the picture
abbrev pub width_of : Layout → Recorded → ℕ
width_of l run = start_of l (length run.rows) + l.room

abbrev pub height_below : Option Period → ℕ
height_below None = 24
height_below (Some period) = 38

abbrev pub height_of : Recorded → Option Period → ℕ
height_of run period = top_of (length run.names) + height_below period

-- the timing diagram of a run in a layout, with the times of its cycles where it is known how long one takes
abbrev pub waves_text : Layout → Recorded → Option Period → List ℕ
waves_text l run period = picture_text (width_of l run) (height_of run period) (waves_elements l run period)

-- ---- its layout

-- the width of a character, in pixels
abbrev pub character : ℕ
character = 7

-- the width of a text that is written 4 pixels behind the begin of a cycle
abbrev pub text_width : List ℕ → ℕ
text_width text = 4 + length text * character

-- the width of the texts of a stretch
abbrev pub need_of : Stretch → ℕ
need_of s = cond s.is_level 0 (cond (holds s) (text_width (signed_decimal s.first)) (text_width (signed_decimal s.first) + text_width (signed_decimal s.last)))

-- the texts of a stretch have room in its cycles, where each is so wide
abbrev pub HasRoom : ℕ → Stretch → Type 0
HasRoom cell s = need_of s ≤ cell * (s.end - s.start)

-- the most pixels from one place where the names stand to the next
abbrev pub page_width : ℕ
page_width = 1000

-- the times of cycles that are marked have room
abbrev pub TimesHaveRoom : Layout → ℕ → Period → Type 0
TimesHaveRoom l cycles period = (cycle : ℕ) → cycle < cycles → text_width (concat (time_pieces period cycle)) ≤ l.every * l.cell

-- cycles are wide enough for their values and, as far as they are marked, for their numbers and times; and the names stand again in time
pub record HaveRoom (run : Recorded) (period : Option Period) (l : Layout) : Type 0 where
  pub values : AllByRecursion (HasRoom l.cell) (lanes run)
  pub marked : 0 < l.every
  pub numbers : (cycle : ℕ) → cycle < length run.rows → text_width (decimal cycle) ≤ l.every * l.cell
  pub times : IfSome period (TimesHaveRoom l (length run.rows))
  pub paged : 0 < l.page
  pub names : l.page * l.cell ≤ page_width

-- a text is a timing diagram of the run, of which a cycle takes so long where that is known, in which its texts have room
pub record IsPictureOf (run : Recorded) (period : Option Period) (text : List ℕ) : Type 0 where
  pub layout : Layout
  pub wide : HaveRoom run period layout
  pub told : text ≡ waves_text layout run period
