-- Worked: scripts over the graph of `y := x + 1;` (INPUT, CONST, ADD, OUT), worked by hand.
use Rattle.std.specs.Prelude.{◌≡◌, refl, ℕ, List, [], ◌∷◌, ◌++◌, Some, None, Result, Ok, Err, ℤ, pos, negsuc, neg_ℤ, codes}
use Rattle.vcp_base.specs.declared.code.Profile.TheVariants as profile
use Rattle.vcp_base.specs.declared.ty.Ty.TheVariants as ty
use Rattle.vcp_base.specs.declared.kind.Kind.{Kind}
use Rattle.vcp_base.specs.declared.kind.Kind.TheVariants as kind
use Rattle.op_graph.specs.declared.op.Op.{Op}
use Rattle.op_graph.specs.Lists.{Lists}
use Rattle.fault_script.specs.declared.act.Act.{Act}
use Rattle.fault_script.specs.declared.act.Act.TheVariants as act
use Rattle.fault_script.specs.declared.act.Fault.{Fault}
use Rattle.fault_script.specs.declared.script_fault.ScriptFault.{ScriptFault}
use Rattle.fault_script.specs.declared.script_fault.ScriptFault.TheVariants as refusal
use Rattle.fault_script.specs.Forms.{index_of, cycle_of, addend_of, kind_of}
use Rattle.fault_script.specs.ScriptOf.{script_of}

abbrev pub op_on : Kind → ℕ → ℕ → ℤ → Op
op_on k a b imm = record { kind = k; from = ty.Dint; ty = ty.Dint; a = a; b = b; c = 0; imm = imm; spot = record { line = 0; col = 0 }; turn = 0 }

-- what a script reads of the graph: its operations
abbrev pub adds_one : Lists
adds_one = record {
  profile = profile.Narrow;
  names = [];
  inputs = [];
  outputs = [];
  loads = [];
  stores = [];
  turn_nodes = [];
  operations = op_on kind.Input 0 0 (pos 0) ∷ op_on kind.Const 0 0 (pos 1) ∷ op_on kind.Add 0 1 (pos 0) ∷ op_on kind.Out 2 0 (pos 0) ∷ [];
}

-- a script of one line
abbrev said : List ℕ → Result (List (List Fault)) ScriptFault
said line = script_of adds_one (line ++ 10 ∷ [])

abbrev pub fault : ℕ → ℕ → ℕ → Act → Fault
fault line n k a = record { line = line; cycle = n; op = k; act = a }

short : said (codes "operand 0 2 0") ≡ Err (refusal.Form 1)
short = refl

no_operation : said (codes "operand 0 9 0 add 1") ≡ Err (refusal.Site 1)
no_operation = refl

no_operand : said (codes "operand 0 2 2 add 1") ≡ Err (refusal.Site 1)
no_operand = refl

later_register : said (codes "operand 0 2 0 from 2") ≡ Err (refusal.Site 1)
later_register = refl

early_operand : said (codes "operand 0 2 0 stale") ≡ Err (refusal.Early 1)
early_operand = refl

early_skip : said (codes "skip 0 0") ≡ Err (refusal.Early 1)
early_skip = refl

fewer_operands : said (codes "operator 0 2 NOT") ≡ Err (refusal.Kind 1)
fewer_operands = refl

-- a kind may take its own place, and INPUT that of CONST
same_kind : said (codes "operator 0 2 ADD") ≡ Ok ((fault 1 0 2 (act.Operator kind.Add) ∷ []) ∷ [])
same_kind = refl

no_operands : said (codes "operator 0 1 INPUT") ≡ Ok ((fault 1 0 1 (act.Operator kind.Input) ∷ []) ∷ [])
no_operands = refl

-- comments, empty lines, CR LF, blanks between words and at a line's ends, a last line without LF
mixed : script_of adds_one (codes "# skip\n\nskip 0000000001 2\r\n\r\n\toperand  0 2 1\tfrom 0 \nresult 7 2 add -5")
    ≡ Ok ((fault 3 1 2 act.Skip ∷ []) ∷ (fault 5 0 2 (act.OperandFrom 1 0) ∷ []) ∷ (fault 6 7 2 (act.ResultAdd (negsuc 4)) ∷ []) ∷ [])
mixed = refl

first_alone : script_of adds_one (codes "skip 1 2\nskip 0 2\nskip\n") ≡ Err (refusal.Early 2)
first_alone = refl

blanks_alone : said (codes " ") ≡ Err (refusal.Form 1)
blanks_alone = refl

-- a CR at the end, without LF
last_return : script_of adds_one (codes "skip 1 2\r") ≡ Err (refusal.Form 1)
last_return = refl

capitals : said (codes "Operand 0 2 0 add 1") ≡ Err (refusal.Form 1)
capitals = refl

-- ---- words

eleven_digits : index_of (codes "00000000001") ≡ None
eleven_digits = refl

greatest_index : index_of (codes "4294967295") ≡ Some 4294967295
greatest_index = refl

past_index : index_of (codes "4294967296") ≡ None
past_index = refl

past_cycle : cycle_of (codes "1000000") ≡ None
past_cycle = refl

with_sign : addend_of (codes "+5") ≡ Some (pos 5)
with_sign = refl

least_addend : addend_of (codes "-4611686018427387904") ≡ Some (neg_ℤ (pos 4611686018427387904))
least_addend = refl

past_addend : addend_of (codes "4611686018427387905") ≡ None
past_addend = refl

zeros_before : addend_of (codes "00000000000000000000000000000000000000005") ≡ Some (pos 5)
zeros_before = refl

sign_alone : addend_of (codes "+") ≡ None
sign_alone = refl

two_signs : addend_of (codes "--1") ≡ None
two_signs = refl

small_letters : kind_of (codes "sub") ≡ None
small_letters = refl
