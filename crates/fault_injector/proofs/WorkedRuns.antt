-- Worked: values and residues of the addition of `y := x + 1;` under acts, with the seed 0, worked by hand.
use Rattle.std.specs.Prelude.{◌≡◌, refl, ℕ, [], ◌∷◌, Option, Some, None, Ok, Err, ℤ, pos, negsuc}
use Rattle.vcp_base.specs.declared.code.Profile.TheVariants as profile
use Rattle.vcp_base.specs.declared.kind.Kind.{Kind}
use Rattle.vcp_base.specs.declared.kind.Kind.TheVariants as kind
use Rattle.vcp_base.specs.declared.kind.StopKind.TheVariants as stop
use Rattle.vcp_base.specs.declared.ty.Ty.TheVariants as ty
use Rattle.vcp_base.specs.Kinds.{Outcome}
use Rattle.coded_unit.specs.Words.{modulo, value_part}
use Rattle.op_graph.specs.declared.op.Op.{Op}
use Rattle.op_graph.specs.Lists.{Lists}
use Rattle.signature_table.specs.Signatures.{Numbers, signature}
use Rattle.fault_script.specs.declared.act.Act.{Act}
use Rattle.fault_script.specs.declared.act.Act.TheVariants as act
use Rattle.fault_script.specs.Differences.{Frame}
use Rattle.fault_injector.specs.Stepping.{Course, operand_under, outcome_under}

abbrev on_dint : Kind → ℕ → ℕ → ℤ → Op
on_dint k a b imm = record { kind = k; from = ty.Dint; ty = ty.Dint; a = a; b = b; c = 0; imm = imm; spot = record { line = 0; col = 0 }; turn = 0 }

abbrev sum : Op
sum = on_dint kind.Add 0 1 (pos 0)

abbrev adds_one : Lists
adds_one = record {
  profile = profile.Narrow;
  names = [];
  inputs = [];
  outputs = [];
  loads = [];
  stores = [];
  turn_nodes = [];
  operations = on_dint kind.Input 0 0 (pos 0) ∷ on_dint kind.Const 0 0 (pos 1) ∷ sum ∷ on_dint kind.Out 2 0 (pos 0) ∷ [];
}

abbrev numbers : Numbers
numbers = record { profile = profile.Narrow; seed = 0; step = 1; corrections = [] }

-- values, without words of cells
abbrev of_values : ℤ → ℤ → ℤ → Frame
of_values x one y = record { held = []; given = x ∷ one ∷ y ∷ [] }

-- cycle 1 on 7, after cycle 0 on 5, without a difference before the addition
abbrev course : Course
course = record {
  past = of_values (pos 5) (pos 1) (pos 6);
  now = of_values (pos 7) (pos 1) (pos 0);
  past_differences = of_values (pos 0) (pos 0) (pos 0);
  differences = of_values (pos 0) (pos 0) (pos 0);
}

-- in cycle 0 on 5
abbrev first : Course
first = record course { past = record { held = []; given = [] }; now = of_values (pos 5) (pos 1) (pos 0) }

abbrev gives : ℕ → Course → Option Act → Outcome
gives n c a = outcome_under numbers adds_one n [] c 2 sum a

less_value : operand_under numbers adds_one 0 first sum (Some (act.OperandAdd 0 (negsuc 1))) 0 ≡ pos 4
unfolding signature modulo value_part
less_value = refl

most_value : operand_under numbers adds_one 0 first sum (Some (act.OperandAdd 0 (pos 4611686018427387904))) 0 ≡ pos 2147483654
unfolding signature modulo value_part
most_value = refl

most_stops : gives 0 first (Some (act.OperandAdd 0 (pos 4611686018427387904))) ≡ Err stop.Operand
unfolding signature modulo value_part
most_stops = refl

as_it_is : gives 0 first None ≡ Ok (pos 6)
as_it_is = refl

from_first : gives 0 first (Some (act.OperandFrom 1 0)) ≡ Ok (pos 10)
from_first = refl

subtracted : gives 0 first (Some (act.Operator kind.Sub)) ≡ Ok (pos 4)
subtracted = refl

added : gives 0 first (Some (act.ResultAdd (pos 7))) ≡ Ok (pos 6)
unfolding signature modulo value_part
added = refl

stale : gives 1 course (Some (act.OperandStale 0)) ≡ Ok (pos 6)
stale = refl

skipped : gives 1 course (Some act.Skip) ≡ Ok (pos 6)
skipped = refl
