-- Tables: the variables as a table of names.
use Rattle.std.specs.Prelude.{◌≡◌, ℕ, suc, pos, List, [], ◌∷◌}
use Rattle.vcp_typed.specs.declared.slot.Slot.{Slot}
use Rattle.st_types.specs.declared.names.Entry.{Entry}

-- the entry of a variable, whose slot has this number; its value isn't looked at
abbrev pub entry_of : ℕ → Slot → Entry
entry_of k s = record { name = s.name; section = s.section; ty = s.ty; value = pos 0; slot = k }

-- the entries of variables, of which the first has the slot k
abbrev pub entries_from : ℕ → List Slot → List Entry
entries_from k [] = []
entries_from k (s ∷ slots) = entry_of k s ∷ entries_from (suc k) slots

-- the table has the variables
abbrev pub Tells : List Entry → List Slot → Type 0
Tells names slots = names ≡ entries_from 0 slots
