-- WorkedFaults: each act over the graph of `y := x + 1;` with the seed 0, worked by hand.
use Rattle.std.specs.Prelude.{◌≡◌, refl, ℕ, ◌+◌, [], ◌∷◌, Some, None, ℤ, pos, negsuc}
use Rattle.vcp_base.specs.declared.code.Profile.TheVariants as profile
use Rattle.vcp_base.specs.declared.ty.Ty.TheVariants as ty
use Rattle.vcp_base.specs.declared.kind.Kind.TheVariants as kind
use Rattle.coded_unit.specs.Words.{modulo, value_part, coded}
use Rattle.coded_unit.specs.Right.{Right}
use Rattle.coded_unit.specs.declared.call.Call.{Call}
use Rattle.coded_unit.specs.declared.call.Answer.TheVariants as answer
use Rattle.signature_table.specs.Signatures.{Numbers, signature}
use Rattle.fault_script.specs.declared.act.Act.TheVariants as act
use Rattle.fault_script.specs.Changes.{operand_word, changed, answered, acts_of, act_at_call, kept_at_call, kept_after}
use Rattle.fault_script.specs.Differences.{difference_at}
use Rattle.fault_script.proofs.Worked.{adds_one, fault}

-- The addition in a cycle with this stamp: its operands are the word of x, and that of 1, whose signatures are 0 and 214748365; its own is
-- 429496730.
abbrev addition : ℕ → ℤ → ℤ → Call
addition n x one = record {
  profile = profile.Narrow;
  op = 2;
  cycle = n;
  kind = kind.Add;
  from = ty.Dint;
  ty = ty.Dint;
  a = x;
  b = one;
  c = pos 0;
  imm = pos 0;
  corr = 214748365;
  stamp = n + 1;
}

-- in cycle 0, on 5: A*5 + 1 and A + 214748366
abbrev first : Call
first = addition 0 (pos 10737418236) (pos 2362232013)

-- in cycle 1, on 7: A*7 + 2 and A + 214748367
abbrev second : Call
second = addition 1 (pos 15032385531) (pos 2362232014)

right_first : Right first ≡ answer.Word (pos 13314398613)
unfolding modulo value_part coded
right_first = refl

-- 2 less: the value 4 and the residue 2147483646
less : operand_word (changed (act.OperandAdd 0 (negsuc 1)) (pos 0) first) 0 ≡ pos 10737418234
less = refl

less_value : value_part profile.Narrow (pos 10737418234) ≡ pos 4
unfolding value_part
less_value = refl

less_residue : modulo profile.Narrow (pos 10737418234) ≡ 2147483646
unfolding modulo
less_residue = refl

-- the most that is added
most_value : value_part profile.Narrow (operand_word (changed (act.OperandAdd 0 (pos 4611686018427387904)) (pos 0) first) 0) ≡ pos 2147483654
unfolding value_part
most_value = refl

from_first : Right (changed (act.OperandFrom 1 0) (pos 10737418236) first) ≡ answer.Word (pos 21689584836)
unfolding modulo value_part coded
from_first = refl

subtracted : Right (changed (act.Operator kind.Sub) (pos 0) first) ≡ answer.Word (pos 8589934589)
unfolding modulo value_part coded
subtracted = refl

added : answered (act.ResultAdd (pos 7)) (pos 0) (answer.Word (pos 13314398613)) ≡ answer.Word (pos 13314398620)
added = refl

-- the operand of cycle 0 in cycle 1
stale : Right (changed (act.OperandStale 0) (pos 10737418236) second) ≡ answer.Word (pos 13314398613)
unfolding modulo value_part coded
stale = refl

skipped : answered act.Skip (pos 13314398613) (Right second) ≡ answer.Word (pos 13314398613)
skipped = refl

-- what the acts keep
keeps_operand : kept_after (fault 1 1 2 (act.OperandStale 0) ∷ []) (None ∷ []) first (answer.Word (pos 13314398613)) ≡ Some (pos 10737418236) ∷ []
keeps_operand = refl

keeps_answer : kept_after (fault 1 1 2 act.Skip ∷ []) (None ∷ []) first (answer.Word (pos 13314398613)) ≡ Some (pos 13314398613) ∷ []
keeps_answer = refl

keeps_none : kept_after (fault 1 2 2 act.Skip ∷ []) (None ∷ []) first (answer.Word (pos 13314398613)) ≡ None ∷ []
keeps_none = refl

-- each of a group keeps its own
keeps_apart : kept_after (fault 1 1 2 act.Skip ∷ fault 2 0 3 (act.OperandFrom 0 2) ∷ []) (None ∷ None ∷ []) first (answer.Word (pos 13314398613))
    ≡ Some (pos 13314398613) ∷ Some (pos 13314398613) ∷ []
keeps_apart = refl

-- and acts at its own call with its own word
acts_apart : act_at_call (fault 1 0 3 (act.OperandStale 0) ∷ fault 2 0 2 (act.OperandFrom 1 0) ∷ []) (Some (pos 1) ∷ Some (pos 2) ∷ []) first
    ≡ Some (act.OperandFrom 1 0)
acts_apart = refl

word_apart : kept_at_call (fault 1 0 3 (act.OperandStale 0) ∷ fault 2 0 2 (act.OperandFrom 1 0) ∷ []) (Some (pos 1) ∷ Some (pos 2) ∷ []) first
    ≡ Some (pos 2)
word_apart = refl

-- where none was kept the call is passed on unchanged
no_act : act_at_call (fault 1 0 2 (act.OperandFrom 1 0) ∷ []) (None ∷ []) first ≡ None
no_act = refl

-- ---- differences

abbrev pub numbers : Numbers
numbers = record { profile = profile.Narrow; seed = 0; step = 1; corrections = [] }

-- 7 at an operand of the addition, and the difference at its OUT
add_seven : difference_at numbers adds_one (acts_of (fault 1 0 2 (act.OperandAdd 0 (pos 7)) ∷ [])) 0 3 ≡ pos 7
unfolding signature
add_seven = refl

-- taken back at the OUT by a second fault of the same run
cancelled : difference_at numbers adds_one (acts_of (fault 1 0 2 (act.OperandAdd 0 (pos 7)) ∷ fault 2 0 3 (act.OperandAdd 0 (negsuc 6)) ∷ [])) 0 3 ≡ pos 0
unfolding signature
cancelled = refl

exchanged_operand : difference_at numbers adds_one (acts_of (fault 1 0 2 (act.OperandFrom 1 0) ∷ [])) 0 2 ≡ negsuc 214748364
unfolding signature
exchanged_operand = refl

late_operand : difference_at numbers adds_one (acts_of (fault 1 1 2 (act.OperandStale 0) ∷ [])) 1 3 ≡ negsuc 0
unfolding signature
late_operand = refl

late_answer : difference_at numbers adds_one (acts_of (fault 1 1 2 act.Skip ∷ [])) 1 3 ≡ negsuc 0
unfolding signature
late_answer = refl

-- SUB for ADD: -2 times the signature of operand 1
other_kind : difference_at numbers adds_one (acts_of (fault 1 0 2 (act.Operator kind.Sub) ∷ [])) 0 2 ≡ negsuc 429496729
unfolding signature
other_kind = refl
