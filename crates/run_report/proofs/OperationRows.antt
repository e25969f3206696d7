-- Worked rows of listings and traces, computed by the definitions alone.
use Rattle.std.proofs.Common.{◌≡◌, ℕ, ℤ, List, [], ◌∷◌, ◌+◌, ◌++◌, refl, pos, negsuc, codes}
use Rattle.std.specs.Fmt.{digits}
use Rattle.vcp_base.specs.declared.code.Profile.{Profile}
use Rattle.vcp_base.specs.declared.code.Profile.TheVariants as profile
use Rattle.vcp_base.specs.declared.ty.Ty.{Ty}
use Rattle.vcp_base.specs.declared.ty.Ty.TheVariants as ty
use Rattle.vcp_base.specs.declared.kind.Kind.{Kind}
use Rattle.vcp_base.specs.declared.kind.Kind.TheVariants as kind
use Rattle.coded_unit.specs.Words.{modulo, value_part}
use Rattle.op_graph.specs.declared.op.Op.{Op}
use Rattle.op_graph.specs.Lists.{Lists, nothing}
use Rattle.signature_table.specs.Signatures.{Numbers, signature, table_of}
use Rattle.run_report.specs.OperationLines.{list_text, trace_text}

-- an operation of this kind, on values of this type, which reads a and b, at this place
abbrev pub on : Kind → Ty → ℕ → ℕ → ℤ → ℕ → ℕ → Op
on k t a b imm line col = record { kind = k; from = t; ty = t; a = a; b = b; c = 0; imm = imm; spot = record { line = line; col = col }; turn = 0 }

-- `y := x + 1;` over values of this type
abbrev pub adding : Profile → Ty → Lists
adding p t = record {
  profile = p;
  names = codes "x" ∷ codes "y" ∷ [];
  inputs = (record { name = 0; ty = t }) ∷ [];
  outputs = (record { name = 1; ty = t; op = 3 }) ∷ [];
  loads = [];
  stores = [];
  turn_nodes = [];
  operations = on kind.Input t 0 0 (pos 0) 2 11 ∷ on kind.Const t 0 0 (pos 1) 4 10 ∷ on kind.Add t 0 1 (pos 0) 4 8 ∷ on kind.Out t 2 0 (pos 0) 3 12 ∷ [];
}

-- the lines of these operations, counted from i
listing : Lists → Numbers → ℕ → List Op → List ℕ
listing g t i [] = []
listing g t i (op ∷ ops) = list_text g t i op ++ listing g t (i + 1) ops

of_a_sum : listing (adding profile.Narrow ty.Dint) (table_of 0 1 (adding profile.Narrow ty.Dint)) 0 (adding profile.Narrow ty.Dint).operations
    ≡ codes "0 INPUT DINT DINT in 0 sig 0 cor 0 at 2:11\n1 CONST DINT DINT val 1 sig 214748365 cor 214748365 at 4:10\n2 ADD DINT DINT 0 1 sig 429496730 cor 214748365 at 4:8\n3 OUT DINT DINT 2 out 0 sig 644245095 cor 214748365 at 3:12\n"
unfolding digits listing signature modulo
of_a_sum = refl

-- a graph of one turn, with i as 4
turning : Lists
turning = record (nothing profile.Narrow) { names = codes "x" ∷ codes "i" ∷ []; turn_nodes = (record { parent = 0; name = 1; value = pos 4 }) ∷ [] }

-- a table with seed 0 and step 1, and these corrections
numbers : List ℕ → Numbers
numbers corrections = record { profile = profile.Narrow; seed = 0; step = 1; corrections = corrections }

in_a_turn : list_text turning (numbers (0 ∷ 0 ∷ 0 ∷ 0 ∷ 0 ∷ 0 ∷ 0 ∷ 0 ∷ 0 ∷ 2147483646 ∷ [])) 9 (record (on kind.Mul ty.Int 7 0 (pos 0) 7 10) { turn = 1 })
    ≡ codes "9 MUL INT INT 7 0 sig 858993461 cor 2147483646 at 7:10 i=4\n"
unfolding digits turning numbers signature
in_a_turn = refl

of_a_load : list_text turning (numbers (1288490188 ∷ [])) 0 (on kind.Load ty.Dint 0 0 (pos 0) 3 5)
    ≡ codes "0 LOAD DINT DINT cell 0 sig 0 cor 1288490188 at 3:5\n"
unfolding digits turning numbers signature
of_a_load = refl

of_a_negative_constant : list_text turning (numbers (429496730 ∷ [])) 0 (on kind.Const ty.Int 0 0 (negsuc 4) 6 3)
    ≡ codes "0 CONST INT INT val -5 sig 0 cor 429496730 at 6:3\n"
unfolding digits turning numbers signature
of_a_negative_constant = refl

-- a table with seed 0 and step 1, whose corrections no trace shows
code : Profile → Numbers
code p = record { profile = p; seed = 0; step = 1; corrections = [] }

sum_traced : trace_text profile.Narrow (code profile.Narrow) 0 0 kind.Input (pos 10737418236)
    ++ (trace_text profile.Narrow (code profile.Narrow) 1 0 kind.Const (pos 2362232013)
    ++ (trace_text profile.Narrow (code profile.Narrow) 2 0 kind.Add (pos 13314398613) ++ trace_text profile.Narrow (code profile.Narrow) 3 0 kind.Out
    (pos 13529146978)))
    ≡ codes "0 INPUT 10737418236 5 1 1\n1 CONST 2362232013 1 214748366 214748366\n2 ADD 13314398613 6 429496731 429496731\n3 OUT 13529146978 6 644245096 644245096\n"
unfolding digits code signature value_part modulo
sum_traced = refl

wide_sum_traced : trace_text profile.Wide (code profile.Wide) 0 0 kind.Input (pos 11529215046068469756)
    ++ (trace_text profile.Wide (code profile.Wide) 1 0 kind.Const (pos 3228180212899171533)
    ++ (trace_text profile.Wide (code profile.Wide) 2 0 kind.Add (pos 14526810958046271893) ++ trace_text profile.Wide (code profile.Wide) 3 0 kind.Out
    (pos 14296226657124902498)))
    ≡ codes "0 INPUT 11529215046068469756 5 1 1\n1 CONST 3228180212899171533 1 922337203685477582 922337203685477582\n2 ADD 14526810958046271893 6 691752902764108187 691752902764108187\n3 OUT 14296226657124902498 6 461168601842738792 461168601842738792\n"
unfolding digits code signature value_part modulo
wide_sum_traced = refl

later_cycle_traced : trace_text profile.Narrow (code profile.Narrow) 0 1 kind.Load (pos 2147483649)
    ++ trace_text profile.Narrow (code profile.Narrow) 4 1 kind.Store (pos 5153960756)
    ≡ codes "0 LOAD 2147483649 1 2 2\n4 STORE 5153960756 2 858993462 858993462\n"
unfolding digits code signature value_part modulo
later_cycle_traced = refl

wrong_word_traced : trace_text profile.Narrow (code profile.Narrow) 2 1 kind.Add (pos 4294967299) ≡ codes "2 ADD 4294967299 2 5 429496732\n"
unfolding digits code signature value_part modulo
wrong_word_traced = refl

negative_word_traced : trace_text profile.Narrow (code profile.Narrow) 0 0 kind.Const (negsuc 2147483645) ≡ codes "0 CONST -2147483646 -1 1 1\n"
unfolding digits code signature value_part modulo
negative_word_traced = refl
