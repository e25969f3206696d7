-- Worked: cycles of pairs that run `y := x + 1;`, `n := n + 1; y := n;` and `y := a / b; z := a + b;`.
use Rattle.std.proofs.Common.{refl, ◌≡◌, ℕ, List, [], ◌∷◌, ℤ, pos}
use Rattle.vcp_base.specs.declared.ty.Ty.TheVariants as ty
use Rattle.vcp_base.specs.declared.kind.StopKind.TheVariants as stop
use Rattle.vcp_base.specs.declared.kind.Kind.{Kind}
use Rattle.vcp_base.specs.declared.kind.Kind.TheVariants as kind
use Rattle.vcp_base.specs.declared.code.Profile.TheVariants as profile
use Rattle.coded_unit.specs.declared.call.Answer.{Answer}
use Rattle.coded_unit.specs.declared.call.Answer.TheVariants as answer
use Rattle.coded_unit.specs.Words.{modulo, value_part, coded}
use Rattle.op_graph.specs.declared.op.Op.{Op}
use Rattle.op_graph.specs.declared.op.Outlet.{Outlet}
use Rattle.op_graph.specs.Lists.{Lists}
use Rattle.op_graph.specs.GraphRun.{cycle}
use Rattle.signature_table.specs.Signatures.{Numbers, signature}
use Rattle.coded_machine.specs.declared.cycle_end.CycleEnd.TheVariants as end
use Rattle.coded_machine.specs.Honest.{answers_for}
use Rattle.pair_channel.specs.declared.pair_end.PairEnd.TheVariants as pair
use Rattle.pair_channel.specs.Beside.{beside, beside_end}
use Rattle.pair_channel.specs.PairEnds.{both}
use Rattle.pair_channel.specs.PairRuns.{pair_over}

-- an operation on DINT values
on_dint : Kind → ℕ → ℕ → ℤ → Op
on_dint k a b imm = record { kind = k; from = ty.Dint; ty = ty.Dint; a = a; b = b; c = 0; imm = imm; spot = record { line = 0; col = 0 }; turn = 0 }

outlet : ℕ → ℕ → Outlet
outlet name op = record { name = name; ty = ty.Dint; op = op }

plus_one : Lists
plus_one = record {
  profile = profile.Narrow;
  names = [];
  inputs = (record { name = 0; ty = ty.Dint }) ∷ [];
  outputs = outlet 1 3 ∷ [];
  loads = [];
  stores = [];
  turn_nodes = [];
  operations = on_dint kind.Input 0 0 (pos 0) ∷ on_dint kind.Const 0 0 (pos 1) ∷ on_dint kind.Add 0 1 (pos 0) ∷ on_dint kind.Out 2 0 (pos 0) ∷ [];
}

counter : Lists
counter = record {
  profile = profile.Narrow;
  names = [];
  inputs = [];
  outputs = outlet 0 3 ∷ [];
  loads = (record { name = 1; ty = ty.Dint; init = pos 0; load = 0 }) ∷ [];
  stores = 4 ∷ [];
  turn_nodes = [];
  operations = on_dint kind.Load 0 0 (pos 0) ∷ on_dint kind.Const 0 0 (pos 1) ∷ on_dint kind.Add 0 1 (pos 0) ∷ on_dint kind.Out 2 0
      (pos 0) ∷ on_dint kind.Store 2 0 (pos 0) ∷ [];
}

quotient : Lists
quotient = record {
  profile = profile.Narrow;
  names = [];
  inputs = (record { name = 0; ty = ty.Dint }) ∷ (record { name = 1; ty = ty.Dint }) ∷ [];
  outputs = outlet 2 4 ∷ outlet 3 5 ∷ [];
  loads = [];
  stores = [];
  turn_nodes = [];
  operations = on_dint kind.Input 0 0 (pos 0) ∷ on_dint kind.Input 0 0 (pos 1) ∷ on_dint kind.Div 0 1 (pos 0) ∷ on_dint kind.Add 0 1
      (pos 0) ∷ on_dint kind.Out 2 0 (pos 0) ∷ on_dint kind.Out 3 0 (pos 0) ∷ [];
}

numbers : ℕ → ℕ → Numbers
numbers seed step = record { profile = profile.Narrow; seed = seed; step = step; corrections = [] }

words : List ℕ → List Answer
words [] = []
words (w ∷ ws) = answer.Word (pos w) ∷ words ws

-- ---- y := x + 1 on 5, seeds 0 and 7: the OUT of the first channel is answered so

first_with : ℕ → List Answer
first_with w = words (10737418236 ∷ 2362232013 ∷ 13314398613 ∷ w ∷ [])

second : List Answer
second = words (10737418243 ∷ 2362232020 ∷ 13314398620 ∷ 13529146985 ∷ [])

-- the second channel's answers are the right ones
second_right : answers_for profile.Narrow 7 1 0 (cycle plus_one [] (pos 5 ∷ [])) ≡ second
unfolding plus_one on_dint outlet words second signature coded
second_right = refl

released : pair_over plus_one (numbers 0 1) (numbers 7 1) 0 (first_with 13529146978 ∷ []) (second ∷ [])
    ≡ record { rows = (pos 6 ∷ []) ∷ []; end = pair.Released }
unfolding plus_one on_dint outlet numbers words first_with second signature modulo value_part
released = refl

-- a word of the value 7 with the residue that is expected
differs : pair_over plus_one (numbers 0 1) (numbers 7 1) 0 (first_with 15676630625 ∷ []) (second ∷ [])
    ≡ record { rows = []; end = pair.Differ 0 (pos 7) (pos 6) }
unfolding plus_one on_dint outlet numbers words first_with second signature modulo value_part
differs = refl

differs_beside : beside plus_one (numbers 0 1) 0 [] ((pos 5 ∷ []) ∷ []) (first_with 15676630625 ∷ [])
    ≡ record { rows = []; end = pair.Differ 0 (pos 7) (pos 6) }
unfolding plus_one on_dint outlet numbers words first_with signature modulo value_part
differs_beside = refl

-- another residue than the expected one, and a value that is no DINT
refused : pair_over plus_one (numbers 0 1) (numbers 7 1) 0 (first_with 13529146979 ∷ []) (second ∷ [])
    ≡ record { rows = []; end = pair.Parted (end.Refused 0 644245097 644245096) end.Released }
unfolding plus_one on_dint outlet numbers words first_with second signature modulo value_part
refused = refl

outside : pair_over plus_one (numbers 0 1) (numbers 7 1) 0 (first_with 4611686031956534882 ∷ []) (second ∷ [])
    ≡ record { rows = []; end = pair.Parted (end.Stopped 3 stop.Operand) end.Released }
unfolding plus_one on_dint outlet numbers words first_with second signature modulo value_part
outside = refl

-- the first channel stops where the second doesn't
stops : beside plus_one (numbers 0 1) 0 [] ((pos 5 ∷ []) ∷ []) ((answer.Word (pos 10737418236) ∷ answer.Word (pos 2362232013) ∷ answer.Range ∷ []) ∷ [])
    ≡ record { rows = []; end = pair.Parted (end.Stopped 2 stop.Range) end.Released }
unfolding plus_one on_dint outlet numbers signature modulo value_part
stops = refl

-- both stop at one operation for one cause, for another one, and elsewhere
alike_stop : both (end.Stopped 2 stop.Range) (end.Stopped 2 stop.Range) [] [] ≡ pair.Stopped 2 stop.Range
alike_stop = refl

other_cause : both (end.Stopped 2 stop.Range) (end.Stopped 2 stop.DivZero) [] [] ≡ pair.Parted (end.Stopped 2 stop.Range) (end.Stopped 2 stop.DivZero)
other_cause = refl

elsewhere : both (end.Stopped 2 stop.Range) (end.Stopped 3 stop.Range) [] [] ≡ pair.Parted (end.Stopped 2 stop.Range) (end.Stopped 3 stop.Range)
elsewhere = refl

-- two refusals alike
both_refuse : both (end.Refused 0 1 2) (end.Refused 0 1 2) [] [] ≡ pair.Parted (end.Refused 0 1 2) (end.Refused 0 1 2)
both_refuse = refl

-- the second of two outputs differs
second_output : both end.Released end.Released (pos 3 ∷ pos 9 ∷ []) (pos 3 ∷ pos 8 ∷ []) ≡ pair.Differ 1 (pos 9) (pos 8)
second_output = refl

-- ---- n := n + 1; y := n: in cycle 1 the sum of the first channel is answered by the word of the value 2 and the residue 5

refused_later : beside counter (numbers 0 1) 0 (pos 0 ∷ []) ([] ∷ [] ∷ [] ∷ [])
    (words (1 ∷ 2362232013 ∷ 2576980378 ∷ 2791728743 ∷ 3006477108 ∷ []) ∷ words (2147483649 ∷ 2362232014 ∷ 4294967299 ∷ 4509715664 ∷ 4724464029 ∷ []) ∷ [])
    ≡ record { rows = (pos 1 ∷ []) ∷ []; end = pair.Parted (end.Refused 0 214748370 644245097) end.Released }
unfolding counter on_dint outlet numbers words signature modulo value_part
refused_later = refl

-- ---- y := a / b; z := a + b on 9 and 0, in cycle 1, seed 3 and step 5: the quotient is answered by the word 0

refused_beside_stop : beside_end quotient (numbers 3 5) 1 (words (19327352836 ∷ 214748378 ∷ 0 ∷ 19971597931 ∷ 429496730 ∷ 19327352837 ∷ []))
    (cycle quotient [] (pos 9 ∷ pos 0 ∷ [])) ≡ pair.Parted (end.Refused 0 429496730 858993473) (end.Stopped 2 stop.DivZero)
unfolding quotient on_dint outlet numbers words signature modulo value_part
refused_beside_stop = refl
