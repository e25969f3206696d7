-- Worked: the sites of the graph of `n := n + 1; y := n;` (LOAD, CONST, ADD, OUT, STORE), by hand.
use Rattle.std.specs.Prelude.{◌≡◌, refl, ℕ, ◌+◌, [], ◌∷◌, length, slice_get, Some, None, ℤ, pos, neg_ℤ, codes, Ok}
use Rattle.std.specs.Fmt.{digits}
use Rattle.vcp_base.specs.declared.code.Profile.TheVariants as profile
use Rattle.vcp_base.specs.declared.ty.Ty.TheVariants as ty
use Rattle.vcp_base.specs.declared.kind.Kind.{Kind}
use Rattle.vcp_base.specs.declared.kind.Kind.TheVariants as kind
use Rattle.op_graph.specs.declared.op.Op.{Op}
use Rattle.coded_unit.specs.Words.{coded}
use Rattle.op_graph.specs.Lists.{Lists}
use Rattle.signature_table.specs.Signatures.{Numbers, signature}
use Rattle.fault_script.specs.declared.act.Act.TheVariants as act
use Rattle.fault_script.specs.ScriptOf.{script_of}
use Rattle.fault_sites.specs.declared.class.Class.TheVariants as class
use Rattle.fault_sites.specs.declared.class.Classes.TheVariants as classes
use Rattle.fault_sites.specs.Flips.{flips_of}
use Rattle.fault_sites.specs.RunCycle.{expected_word}
use Rattle.fault_sites.specs.RunSites.{run_sites, run_text}
use Rattle.fault_sites.specs.declared.run_class.RunClass.TheVariants as run
use Rattle.fault_sites.specs.Sites.{addend, site, sites_of, sites}
use Rattle.fault_sites.specs.SiteText.{classes_name, classes_of, site_text, sites_text, said_from}

op_on : Kind → ℕ → ℕ → ℤ → Op
op_on k a b imm = record { kind = k; from = ty.Dint; ty = ty.Dint; a = a; b = b; c = 0; imm = imm; spot = record { line = 0; col = 0 }; turn = 0 }

-- what is read of the counter's graph: its operations
counter : Lists
counter = record {
  profile = profile.Narrow;
  names = [];
  inputs = [];
  outputs = [];
  loads = [];
  stores = [];
  turn_nodes = [];
  operations = op_on kind.Load 0 0 (pos 0) ∷ op_on kind.Const 0 0 (pos 1) ∷ op_on kind.Add 0 1 (pos 0) ∷ op_on kind.Out 2 0 (pos 0)
      ∷ op_on kind.Store 2 0 (pos 0) ∷ [];
}

least : addend 0 ≡ neg_ℤ (pos 2305843009213693952)
least = refl

last_minus : addend 61 ≡ neg_ℤ (pos 1)
last_minus = refl

first_plus : addend 62 ≡ pos 1
first_plus = refl

greatest : addend 123 ≡ pos 2305843009213693952
greatest = refl

-- one operand of LOAD, OUT and STORE, two of ADD, and five results: ten words, 124 each
bits_count : length (sites_of class.Bits counter 1) ≡ 1240
unfolding counter op_on
bits_count = refl

-- of the operation without operands its result alone, the least number first
first_of_const : slice_get (sites_of class.Bits counter 2) 248 ≡ Some (site 0 1 (act.ResultAdd (neg_ℤ (pos 2305843009213693952))))
unfolding counter op_on
first_of_const = refl

-- the second operand of ADD, behind its result and its first operand
second_operand : slice_get (sites_of class.Bits counter 1) 743 ≡ Some (site 0 2 (act.OperandAdd 1 (pos 2305843009213693952)))
unfolding counter op_on
second_operand = refl

-- none in the first cycle
stale_ones : sites_of class.Stale counter 2
    ≡ site 1 0 (act.OperandStale 0) ∷ site 1 2 (act.OperandStale 0) ∷ site 1 2 (act.OperandStale 1) ∷ site 1 3 (act.OperandStale 0)
    ∷ site 1 4 (act.OperandStale 0) ∷ []
unfolding counter op_on
stale_ones = refl

skipped_ones : sites_of class.Skip counter 2
    ≡ site 1 0 act.Skip ∷ site 1 1 act.Skip ∷ site 1 2 act.Skip ∷ site 1 3 act.Skip ∷ site 1 4 act.Skip ∷ []
unfolding counter op_on
skipped_ones = refl

none_before : sites_of class.Skip counter 1 ≡ []
unfolding counter op_on
none_before = refl

-- another operation than the one that is read; LOAD, the first, has none before it
from_ones : sites_of class.From counter 1
    ≡ site 0 2 (act.OperandFrom 0 1) ∷ site 0 2 (act.OperandFrom 1 0) ∷ site 0 3 (act.OperandFrom 0 0) ∷ site 0 3 (act.OperandFrom 0 1)
    ∷ site 0 4 (act.OperandFrom 0 0) ∷ site 0 4 (act.OperandFrom 0 1) ∷ site 0 4 (act.OperandFrom 0 3) ∷ []
unfolding counter op_on
from_ones = refl

-- five other kinds of one operand for LOAD, INPUT for CONST, nine others of two for ADD
other_kinds : length (sites_of class.Operator counter 1) ≡ 25
unfolding counter op_on
other_kinds = refl

first_other : slice_get (sites_of class.Operator counter 1) 6 ≡ Some (site 0 2 (act.Operator kind.Sub))
unfolding counter op_on
first_other = refl

-- class by class
all_count : length (sites classes.All counter 2) ≡ 2480 + (5 + (5 + (14 + 50)))
unfolding counter op_on
all_count = refl

-- the lines
add_line : site_text (site 3 2 (act.OperandAdd 1 (neg_ℤ (pos 4)))) ≡ codes "operand 3 2 1 add -4\n"
unfolding digits
add_line = refl

-- a part of three behind two, and what is read of it
part : sites_text (classes.One class.From) (codes "00ff") counter 1 (record { skip = 2; left = 3 })
    ≡ codes "# sites from of 00ff\noperand 0 3 0 from 0\noperand 0 3 0 from 1\noperand 0 4 0 from 0\n"
unfolding digits counter op_on
part = refl

part_read : script_of counter (sites_text (classes.One class.From) (codes "00ff") counter 1 (record { skip = 2; left = 3 }))
    ≡ Ok (said_from 2 (site 0 3 (act.OperandFrom 0 0) ∷ site 0 3 (act.OperandFrom 0 1) ∷ site 0 4 (act.OperandFrom 0 0) ∷ []))
unfolding digits counter op_on
part_read = refl

stale_read : script_of counter (sites_text (classes.One class.Stale) (codes "00ff") counter 2 (record { skip = 0; left = 10 }))
    ≡ Ok (said_from 2 (sites_of class.Stale counter 2))
unfolding digits counter op_on
stale_read = refl

-- ---- flips, in the narrow code with seed 0 and step 1

numbers : Numbers
numbers = record { profile = profile.Narrow; seed = 0; step = 1; corrections = [] }

-- the word of the value -1 at operation 0 in cycle 0 is -A + 1, in two's complement ..10000000000000000000000000000010
minus_one : expected_word numbers 0 0 (neg_ℤ (pos 1)) ≡ neg_ℤ (pos 2147483646)
unfolding numbers coded signature
minus_one = refl

-- of its lowest 32 bits only bits 1 and 31 are 1, where the value has no other than 1
its_bit_0 : slice_get (flips_of (neg_ℤ (pos 2147483646))) 0 ≡ Some (act.ResultAdd (pos 1))
its_bit_0 = refl

its_bit_1 : slice_get (flips_of (neg_ℤ (pos 2147483646))) 1 ≡ Some (act.ResultAdd (neg_ℤ (pos 2)))
its_bit_1 = refl

its_bit_2 : slice_get (flips_of (neg_ℤ (pos 2147483646))) 2 ≡ Some (act.ResultAdd (pos 4))
its_bit_2 = refl

its_bit_31 : slice_get (flips_of (neg_ℤ (pos 2147483646))) 31 ≡ Some (act.ResultAdd (neg_ℤ (pos 2147483648)))
its_bit_31 = refl

-- five results in two cycles
flips_count : length (run_sites run.Flips numbers counter ([] ∷ [] ∷ [])) ≡ 320
unfolding counter op_on numbers coded signature
flips_count = refl

-- CONST is operation 1, of the signature 214748365. The stamp is 1, and so its word is 2147483647 + 214748365 + 1, which ends in 1101.
flips_of_const : run_text run.Flips (codes "00ff") numbers counter ([] ∷ []) (record { skip = 32; left = 3 })
    ≡ codes "# sites flips of 00ff\nresult 0 1 add -1\nresult 0 1 add 2\nresult 0 1 add -4\n"
unfolding digits counter op_on numbers coded signature
flips_of_const = refl

-- in the second cycle the stamp is 2, and the word ends in 1110
flips_later : run_text run.Flips (codes "00ff") numbers counter ([] ∷ [] ∷ []) (record { skip = 192; left = 3 })
    ≡ codes "# sites flips of 00ff\nresult 1 1 add 1\nresult 1 1 add -2\nresult 1 1 add -4\n"
unfolding digits counter op_on numbers coded signature
flips_later = refl

-- 0 / 0 stops, and its cycle has no flips
stopping : Lists
unfolding counter
stopping = record counter { operations = op_on kind.Const 0 0 (pos 0) ∷ op_on kind.Div 0 0 (pos 0) ∷ [] }

none_of_stopped : run_sites run.Flips numbers stopping ([] ∷ []) ≡ []
unfolding counter stopping op_on numbers coded signature
none_of_stopped = refl

-- a word that names classes is read back
named_bits : classes_of (classes_name (classes.One class.Bits)) ≡ Some (classes.One class.Bits)
named_bits = refl

named_operator : classes_of (classes_name (classes.One class.Operator)) ≡ Some (classes.One class.Operator)
named_operator = refl

named_all : classes_of (classes_name classes.All) ≡ Some classes.All
named_all = refl

named_none : classes_of (codes "flip") ≡ None
named_none = refl
