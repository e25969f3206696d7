-- Rests: the groups of faults in which a word changes between two of its readings: the same number is added to it in each of the later ones.
use Rattle.std.specs.Prelude.{ℕ, ◌+◌, ◌-◌, ◌*◌, Bool, true, cond, ◌&&◌, nat_lt, nat_le, List, [], ◌∷◌, ◌++◌, length, take, drop, slice_get, Option, Some, None, ℤ, codes}
use Rattle.op_graph.specs.declared.op.Op.{Op}
use Rattle.op_graph.specs.Lists.{Lists}
use Rattle.op_graph.specs.Rules.{is_out}
use Rattle.fault_script.specs.declared.act.Act.TheVariants as act
use Rattle.fault_script.specs.declared.act.Fault.{Fault}
use Rattle.fault_sites.specs.declared.part.Part.{Part}
use Rattle.fault_sites.specs.declared.reading.Reading.{Reading}
use Rattle.fault_sites.specs.declared.site.Site.{Site}
use Rattle.fault_sites.specs.Readings.{readings_within}
use Rattle.fault_sites.specs.Sites.{addend, addend_count, as_fault, each_below, site}
use Rattle.fault_sites.specs.SiteText.{named_remark, site_lines}

-- ---- the groups

-- a number is added in each of these readings of a word of cycle n
abbrev pub changed : ℕ → ℤ → List Reading → List Site
changed n e [] = []
changed n e (r ∷ more) = site (n + r.borders) r.op (act.OperandAdd r.operand e) ∷ changed n e more

-- a number that is greater in a later cycle, and in a cycle at a later operation
abbrev pub place : Reading → ℕ
place r = r.borders * 4294967296 + r.op

-- Each of these readings stands behind the one before it. They don't where an operation reads the word twice in a cycle: a group of a script has one
-- fault an operation and cycle, and so can't change both.
abbrev pub rises : List Reading → Bool
rises [] = true
rises (r ∷ []) = true
rises (r ∷ s ∷ more) = nat_lt (place r) (place s) && rises (s ∷ more)

-- with each number that `bits` adds, the least first
abbrev pub groups_of : ℕ → List Reading → List (List Site)
groups_of n rs = cond (rises rs) (each_below (λ v. changed n (addend v) rs ∷ []) addend_count) []

-- of a word with these readings: behind the first one, the second, and so on, as long as two or more are left
abbrev pub groups_by : ℕ → List Reading → List (List Site)
groups_by n rs = each_below (λ i. groups_of n (drop (i + 1) rs)) (length rs - 2)

-- of the word of operation k, where that is there, in cycle n; none of an OUT's
abbrev pub groups_at : Lists → Bool → ℕ → ℕ → Option Op → List (List Site)
groups_at g more n k None = []
groups_at g more n k (Some op) = cond (is_out op.kind) [] (groups_by n (readings_within g more k))

-- in cycle n, behind which there is another one or none: a reading in the next cycle is left out where there is none
abbrev pub groups_in : Lists → Bool → ℕ → List (List Site)
groups_in g more n = each_below (λ k. groups_at g more n k (slice_get g.operations k)) (length g.operations)

-- in the first cycles
abbrev pub groups : Lists → ℕ → List (List Site)
groups g cycles = each_below (λ n. groups_in g (nat_lt (n + 1) cycles) n) cycles

-- ---- a script of them

-- the text of a group
abbrev pub group_text : List Site → List ℕ
group_text xs = codes "begin\n" ++ (site_lines xs ++ codes "end\n")

abbrev pub groups_text : List (List Site) → List ℕ
groups_text [] = []
groups_text (xs ∷ more) = group_text xs ++ groups_text more

-- behind a remark with the class's name and the image's digest
abbrev pub rest_text : List ℕ → List (List Site) → List ℕ
rest_text digest gs = named_remark (codes "rest") digest ++ groups_text gs

-- what it says, from the line of this number on
abbrev pub faults_from : ℕ → List Site → List Fault
faults_from line [] = []
faults_from line (s ∷ more) = as_fault line s ∷ faults_from (line + 1) more

abbrev pub said_groups : ℕ → List (List Site) → List (List Fault)
said_groups line [] = []
said_groups line (xs ∷ more) = faults_from (line + 1) xs ∷ said_groups (line + 2 + length xs) more

-- how many fault lines they have
abbrev pub lines_of : List (List Site) → ℕ
lines_of [] = 0
lines_of (xs ∷ more) = length xs + lines_of more

-- ---- parts

-- the groups of a part
abbrev pub kept_groups : Part → List (List Site) → List (List Site)
kept_groups p gs = take p.left (drop p.skip gs)

-- the first of these, up to the one with which there would be more fault lines than there is room for
abbrev pub fitting : ℕ → List (List Site) → List (List Site)
fitting room [] = []
fitting room (xs ∷ more) = cond (nat_le (length xs) room) (xs ∷ fitting (room - length xs) more) []

-- the first of these has no more fault lines than there is room for, if there is one
abbrev pub first_fits : ℕ → List (List Site) → Bool
first_fits room [] = true
first_fits room (xs ∷ more) = nat_le (length xs) room
