-- Reading: what the lines that were read so far give, whatever lines follow.
use Rattle.std.specs.Prelude.{◌≡◌, ℕ, ◌≤◌, ◌+◌, List, ◌∷◌, ◌++◌, length, All, Option, Some, None, Result, Ok, Err}
use Rattle.op_graph.specs.Lists.{Lists}
use Rattle.fault_script.specs.declared.act.Fault.{Fault}
use Rattle.fault_script.specs.declared.reading.Opened.{Opened}
use Rattle.fault_script.specs.declared.reading.Reading.{Reading}
use Rattle.fault_script.specs.declared.script_fault.ScriptFault.{ScriptFault}
use Rattle.fault_script.specs.Fits.{Fits}
use Rattle.fault_script.specs.Groups.{Apart, GroupFits, fault_count}
use Rattle.fault_script.specs.ScriptOf.{Item, counted, groups_of, most_faults}

-- groups before what later lines come to
abbrev pub behind : List (List Fault) → Result (List (List Fault)) ScriptFault → Result (List (List Fault)) ScriptFault
behind groups (Ok more) = Ok (groups ++ more)
behind groups (Err why) = Err why

-- what the lines so far and later ones that say this come to
abbrev pub comes : Reading → List Item → Result (List (List Fault)) ScriptFault
comes r later = behind r.script (groups_of later r.opened)

-- a line is taken: what follows comes to the same
pub record Goes (item : Item) (old new : Reading) : Type 0 where
  pub comes_to : (later : List Item) → comes old (item ∷ later) ≡ comes new later
  pub count : new.count ≡ counted old.count item

-- a line is refused, whatever follows
abbrev pub Refuses : Item → Reading → ScriptFault → Type 0
Refuses item old why = (later : List Item) → comes old (item ∷ later) ≡ Err why

-- the open group, where there is one, may become one that fits the graph
abbrev pub OpenFits : Lists → Option Opened → Type 0
OpenFits g None = Unit {0}
OpenFits g (Some o) = All (Fits g) o.group × Apart o.group

-- how many faults it has
abbrev pub pending : Option Opened → ℕ
pending None = 0
pending (Some o) = length o.group

-- what was read fits the graph
pub record ReadingFits (g : Lists) (r : Reading) : Type 0 where
  pub groups : All (GroupFits g) r.script
  pub opened : OpenFits g r.opened
  pub all : fault_count r.script + pending r.opened ≡ r.count
  pub few : r.count ≤ most_faults
