-- Right: the right answer to a call. No other definition computes the word of an answer.
use Rattle.std.specs.Prelude.{ℕ, ◌<◌, ◌^◌, ℤ, pos, ◌+ℤ◌, ◌-ℤ◌, ◌*ℤ◌, unsigned_abs, Ok, Err}
use Rattle.vcp_base.specs.declared.code.Profile.{Profile}
use Rattle.vcp_base.specs.declared.kind.Kind.{Kind}
use Rattle.vcp_base.specs.declared.kind.StopKind.TheVariants as stop
use Rattle.vcp_base.specs.Kinds.{multiplier, Outcome, outcome}
use Rattle.coded_unit.specs.declared.call.Call.{Call}
use Rattle.coded_unit.specs.declared.call.Answer.{Answer}
use Rattle.coded_unit.specs.declared.call.Answer.TheVariants as answer
use Rattle.coded_unit.specs.Words.{modulo, value_part, coded}

-- how often the stamp is added, so that the answer's residue has it once beside what the operands bring
abbrev pub stamp_share : Kind → ℤ
stamp_share k = pos 1 -ℤ multiplier k 0 -ℤ multiplier k 1 -ℤ multiplier k 2

-- the residue of an answer, from the residues r, s, t of the operands, the correction and the stamp
abbrev pub residue : Profile → Kind → ℕ → ℕ → ℕ → ℕ → ℕ → ℕ
residue p k r s t corr stamp =
    modulo p
    (multiplier k 0 *ℤ pos r +ℤ multiplier k 1 *ℤ pos s +ℤ multiplier k 2 *ℤ pos t +ℤ pos corr +ℤ stamp_share k *ℤ pos stamp)

-- the residue of the answer to a call
abbrev pub residue_of : Call → ℕ
residue_of call =
    residue call.profile call.kind (modulo call.profile call.a) (modulo call.profile call.b) (modulo call.profile call.c)
    call.corr call.stamp

-- the answer that tells an outcome: the word of the value and this residue, or why there is none
abbrev pub answer_of : Profile → Outcome → ℕ → Answer
answer_of p (Ok v) r = answer.Word (coded p v r)
answer_of p (Err stop.Range) r = answer.Range
answer_of p (Err stop.DivZero) r = answer.DivZero
answer_of p (Err stop.Operand) r = answer.Operand

-- the right answer to a call: the outcome of its kind at the value parts of its operands, with the residue of the call
abbrev pub Right : Call → Answer
Right call =
    answer_of call.profile
    (outcome call.kind call.from call.ty call.imm (value_part call.profile call.a) (value_part call.profile call.b)
    (value_part call.profile call.c))
    (residue_of call)

-- a word that is answered lies below 2^125 in size: the rest of the words is room for what a fault adds to it
abbrev pub LeavesRoom : Answer → Type 0
LeavesRoom (answer.Word w) = unsigned_abs w < 2 ^ 125
LeavesRoom answer.Range = Unit {0}
LeavesRoom answer.DivZero = Unit {0}
LeavesRoom answer.Operand = Unit {0}
