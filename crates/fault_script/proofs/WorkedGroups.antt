-- WorkedGroups: groups over the graph of a counter, `n := n + 1; y := n;` (LOAD, CONST, ADD, OUT, STORE), worked by hand.
use Rattle.std.specs.Prelude.{◌≡◌, refl, ℕ, List, [], ◌∷◌, Result, Ok, Err, ℤ, pos, negsuc, codes}
use Rattle.vcp_base.specs.declared.code.Profile.TheVariants as profile
use Rattle.vcp_base.specs.declared.ty.Ty.TheVariants as ty
use Rattle.vcp_base.specs.declared.kind.Kind.TheVariants as kind
use Rattle.op_graph.specs.Lists.{Lists}
use Rattle.signature_table.specs.Signatures.{signature}
use Rattle.fault_script.specs.declared.act.Act.TheVariants as act
use Rattle.fault_script.specs.declared.act.Fault.{Fault}
use Rattle.fault_script.specs.declared.script_fault.ScriptFault.{ScriptFault}
use Rattle.fault_script.specs.declared.script_fault.ScriptFault.TheVariants as refusal
use Rattle.fault_script.specs.Changes.{acts_of}
use Rattle.fault_script.specs.Differences.{difference_at}
use Rattle.fault_script.specs.Groups.{line_of}
use Rattle.fault_script.specs.ScriptOf.{script_of}
use Rattle.fault_script.proofs.Worked.{op_on, fault}
use Rattle.fault_script.proofs.WorkedFaults.{numbers}

abbrev pub counts : Lists
counts = record {
  profile = profile.Narrow;
  names = [];
  inputs = [];
  outputs = [];
  loads = record { name = 0; ty = ty.Dint; init = pos 0; load = 0 } ∷ [];
  stores = 4 ∷ [];
  turn_nodes = [];
  operations = op_on kind.Load 0 0 (pos 0) ∷ op_on kind.Const 0 0 (pos 1) ∷ op_on kind.Add 0 1 (pos 0) ∷ op_on kind.Out 2 0 (pos 0)
      ∷ op_on kind.Store 2 0 (pos 0)
      ∷ [];
}

abbrev script : List ℕ → Result (List (List Fault)) ScriptFault
script text = script_of counts text

-- ---- scripts

together : script (codes "begin\nskip 2 4\nresult 3 0 add 1\nend\n")
    ≡ Ok ((fault 2 2 4 act.Skip ∷ fault 3 3 0 (act.ResultAdd (pos 1)) ∷ []) ∷ [])
together = refl

-- a group's line is its first fault's
line_of_group : line_of (fault 2 2 4 act.Skip ∷ fault 3 3 0 (act.ResultAdd (pos 1)) ∷ []) ≡ 2
line_of_group = refl

-- a group of one and a line outside; empty lines and remarks may stand inside
mixed : script (codes "# none\n\nbegin\n# inside\nskip 2 4\n\nend\nresult 3 0 add 1\n")
    ≡ Ok ((fault 5 2 4 act.Skip ∷ []) ∷ (fault 8 3 0 (act.ResultAdd (pos 1)) ∷ []) ∷ [])
mixed = refl

-- blanks at the ends of a line
blanks : script (codes " begin\t\nskip 1 4\n\tend \n") ≡ Ok ((fault 2 1 4 act.Skip ∷ []) ∷ [])
blanks = refl

-- the same place in two groups
two_groups : script (codes "begin\nskip 1 4\nend\nbegin\nskip 1 4\nend\n") ≡ Ok ((fault 2 1 4 act.Skip ∷ []) ∷ (fault 5 1 4 act.Skip ∷ []) ∷ [])
two_groups = refl

empty : script (codes "begin\nend\n") ≡ Err (refusal.Group 2)
empty = refl

inside : script (codes "begin\nskip 1 4\nbegin\nend\n") ≡ Err (refusal.Group 3)
inside = refl

outside : script (codes "skip 1 4\nend\n") ≡ Err (refusal.Group 2)
outside = refl

-- a `begin` that no `end` follows
unclosed : script (codes "skip 1 4\nbegin\nskip 2 4\n") ≡ Err (refusal.Group 2)
unclosed = refl

-- another line is refused: it is told, and not the `begin`
later_line : script (codes "begin\nskip 1 4\nskip 9 99\n") ≡ Err (refusal.Site 3)
later_line = refl

more_words : script (codes "begin x\nskip 1 4\nend\n") ≡ Err (refusal.Form 1)
more_words = refl

two_ends : script (codes "begin\nskip 1 4\nend end\n") ≡ Err (refusal.Form 3)
two_ends = refl

early : script (codes "begin\nskip 0 4\nend\n") ≡ Err (refusal.Early 2)
early = refl

twice : script (codes "begin\nskip 1 4\nskip 1 4\nend\n") ≡ Err (refusal.Twice 3)
twice = refl

-- though the group has no end
twice_open : script (codes "begin\nskip 1 4\nskip 1 4\n") ≡ Err (refusal.Twice 3)
twice_open = refl

-- the kind is looked at first
kind_first : script (codes "begin\nskip 1 4\noperator 1 4 ADD\nend\n") ≡ Err (refusal.Kind 3)
kind_first = refl

-- ---- differences

abbrev at_out : List Fault → ℕ → ℤ
at_out faults n = difference_at numbers counts (acts_of faults) n 3

-- the cell's word is late by a cycle
late : at_out (fault 2 2 4 act.Skip ∷ []) 3 ≡ negsuc 0
unfolding signature
late = refl

-- and what is added where it is read makes up for that
made_up : at_out (fault 2 2 4 act.Skip ∷ fault 3 3 0 (act.ResultAdd (pos 1)) ∷ []) 3 ≡ pos 0
unfolding signature
made_up = refl

-- a word skipped again and again
skipped_on : at_out (fault 2 1 4 act.Skip ∷ fault 3 2 4 act.Skip ∷ fault 4 3 4 act.Skip ∷ []) 3 ≡ negsuc 1
unfolding signature
skipped_on = refl

-- a stale operand that was changed in the cycle before: the difference of what is read now goes
stale_of_changed : at_out (fault 2 1 4 (act.ResultAdd (pos 5)) ∷ fault 3 2 2 (act.OperandStale 0) ∷ []) 2 ≡ negsuc 0
unfolding signature
stale_of_changed = refl

-- what was read before the change is what is stale
stale_before_change : at_out (fault 2 1 2 (act.OperandAdd 0 (pos 5)) ∷ fault 3 2 2 (act.OperandStale 0) ∷ []) 2 ≡ negsuc 0
unfolding signature
stale_before_change = refl

-- the word of a register that another fault changed
from_changed : at_out (fault 2 1 0 (act.ResultAdd (pos 1)) ∷ fault 3 1 2 (act.OperandFrom 1 0) ∷ []) 1 ≡ negsuc 214748362
unfolding signature
from_changed = refl
