-- ScriptOf: the script of a text, or the first line that is refused.
use Rattle.std.specs.Prelude.{ℕ, ◌+◌, cond, nat_lt, List, [], ◌∷◌, ◌++◌, Option, Some, None, Result, Ok, Err, slice_get}
use Rattle.std.specs.Str.Lines.{lines}
use Rattle.op_graph.specs.declared.op.Op.{Op}
use Rattle.op_graph.specs.Lists.{Lists}
use Rattle.vcp_base.specs.Lines.{Line, read_lines}
use Rattle.vcp_base.specs.Words.{words}
use Rattle.fault_script.specs.declared.act.Fault.{Fault}
use Rattle.fault_script.specs.declared.script_fault.ScriptFault.{ScriptFault}
use Rattle.fault_script.specs.declared.script_fault.ScriptFault.TheVariants as refusal
use Rattle.fault_script.specs.declared.forms.Change.{Change}
use Rattle.fault_script.specs.declared.forms.Mark.{Mark}
use Rattle.fault_script.specs.declared.forms.Mark.TheVariants as mark
use Rattle.fault_script.specs.declared.reading.Opened.{Opened}
use Rattle.fault_script.specs.Forms.{change_of, mark_of}
use Rattle.fault_script.specs.Groups.{is_taken}
use Rattle.fault_script.specs.Fits.{is_sited, is_timely, is_alike}

-- how many fault lines a script may have
abbrev pub most_faults : ℕ
most_faults = 10000

-- ---- a fault line

-- The fault that a line says at this operation, where there is one. In this order: the places of the act are not there, there is
-- no cycle before, the other kind has another number of operands.
abbrev pub fault_at : ℕ → Change → Option Op → Result Fault ScriptFault
fault_at number c None = Err (refusal.Site number)
fault_at number c (Some op) =
    cond (is_sited op.kind c.op c.act)
    (cond (is_timely c.cycle c.act)
    (cond (is_alike op.kind c.act)
    (Ok (record { line = number; cycle = c.cycle; op = c.op; act = c.act }))
    (Err (refusal.Kind number)))
    (Err (refusal.Early number)))
    (Err (refusal.Site number))

-- the fault that a line says, if it is well formed
abbrev pub fault_if : Lists → ℕ → Option Change → Result Fault ScriptFault
fault_if g number None = Err (refusal.Form number)
fault_if g number (Some c) = fault_at number c (slice_get g.operations c.op)

-- the fault that a line says, or why the line is refused
abbrev pub fault_of : Lists → Line → Result Fault ScriptFault
fault_of g line = fault_if g line.number (change_of (words line.text))

-- what a fault line says, after `before` others: from the 10,001st on that there are too many
abbrev pub said_after : Lists → ℕ → Line → Result Fault ScriptFault
said_after g before line = cond (nat_lt before most_faults) (fault_of g line) (Err (refusal.Faults line.number))

-- ---- what each line says

-- What a line says that isn't skipped: that a group begins or ends, with the line's number, or a fault, unless the line by itself is refused.
pub data Item : Type 0 where
  begins : ℕ → Item
  ends : ℕ → Item
  says : Result Fault ScriptFault → Item

-- what a line of this kind says, after `before` fault lines
abbrev pub item_by : Lists → ℕ → Line → Mark → Item
item_by g before line mark.Begin = begins line.number
item_by g before line mark.End = ends line.number
item_by g before line mark.Fault = says (said_after g before line)

abbrev pub item_of : Lists → ℕ → Line → Item
item_of g before line = item_by g before line (mark_of (words line.text))

-- how many fault lines there are with this one: `begin` and `end` don't count
abbrev pub counted : ℕ → Item → ℕ
counted before (begins number) = before
counted before (ends number) = before
counted before (says told) = before + 1

-- what lines say, after `before` fault lines
abbrev pub items_of : Lists → ℕ → List Line → List Item
items_of g before [] = []
items_of g before (line ∷ more) = item_of g before line ∷ items_of g (counted before (item_of g before line)) more

-- ---- groups

-- a group before those of the later lines, unless one of them is refused
abbrev pub onto : List Fault → Result (List (List Fault)) ScriptFault → Result (List (List Fault)) ScriptFault
onto faults (Ok groups) = Ok (faults ∷ groups)
onto faults (Err why) = Err why

-- a group that ends in the line of this number, before the later ones: it has a fault
abbrev pub ended : ℕ → List Fault → Result (List (List Fault)) ScriptFault → Result (List (List Fault)) ScriptFault
ended number [] later = Err (refusal.Group number)
ended number (f ∷ faults) later = onto (f ∷ faults) later

-- what comes of the later lines, unless an earlier fault of its group stands where this one does
abbrev pub unless_taken : Fault → List Fault → Result (List (List Fault)) ScriptFault → Result (List (List Fault)) ScriptFault
unless_taken f faults later = cond (is_taken f faults) (Err (refusal.Twice f.line)) later

-- the open group with one more fault
abbrev pub with_fault : Opened → Fault → Opened
with_fault o f = record { line = o.line; group = o.group ++ f ∷ [] }

-- The groups of lines, behind those of an open group, where there is one; or the first refusal. A fault outside `begin` and `end` is a group of
-- one. No group begins inside a group, ends outside one, is empty or stays open, and no two of its faults stand at one operation in one cycle.
abbrev pub groups_of : List Item → Option Opened → Result (List (List Fault)) ScriptFault
groups_of [] None = Ok []
groups_of [] (Some o) = Err (refusal.Group o.line)
groups_of (begins number ∷ more) None = groups_of more (Some (record { line = number; group = [] }))
groups_of (begins number ∷ more) (Some o) = Err (refusal.Group number)
groups_of (ends number ∷ more) None = Err (refusal.Group number)
groups_of (ends number ∷ more) (Some o) = ended number o.group (groups_of more None)
groups_of (says (Err why) ∷ more) o = Err why
groups_of (says (Ok f) ∷ more) None = onto (f ∷ []) (groups_of more None)
groups_of (says (Ok f) ∷ more) (Some o) = unless_taken f o.group (groups_of more (Some (with_fault o f)))

-- The script of a text over a graph, or its first refused line. Lines end at LF, and a CR before it is dropped; the last line needs no
-- LF, and keeps a CR at its end.
abbrev pub script_of : Lists → List ℕ → Result (List (List Fault)) ScriptFault
script_of g text = groups_of (items_of g 0 (read_lines 1 (lines text))) None
