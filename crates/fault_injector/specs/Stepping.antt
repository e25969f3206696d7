-- Stepping: what an operation gives under an act, on plain integers, and the words of which its call is made.
use Rattle.std.specs.Prelude.{◌≡◌, ℕ, ◌^◌, ◌==◌, cond, nat_lt, List, Option, Some, None, Ok, Err, IfOk, ℤ, pos, ◌+ℤ◌, ◌-ℤ◌, ◌≤ℤ◌, neg_ℤ, unsigned_abs}
use Rattle.vcp_base.specs.declared.code.Profile.{Profile}
use Rattle.vcp_base.specs.declared.kind.Kind.{Kind}
use Rattle.vcp_base.specs.Kinds.{operands, Outcome, outcome}
use Rattle.vcp_base.specs.Values.{at}
use Rattle.coded_unit.specs.Words.{modulo, value_part, coded}
use Rattle.coded_unit.specs.Right.{answer_of}
use Rattle.op_graph.specs.declared.op.Op.{Op}
use Rattle.op_graph.specs.GraphRun.{own}
use Rattle.op_graph.specs.Lists.{Lists}
use Rattle.signature_table.specs.Signatures.{Numbers, signature, stamp}
use Rattle.coded_machine.specs.declared.calling.Operands.{Operands}
use Rattle.coded_machine.specs.Calls.{operation_call}
use Rattle.fault_script.specs.declared.act.Act.{Act}
use Rattle.fault_script.specs.declared.act.Act.TheVariants as act
use Rattle.fault_script.specs.Differences.{Frame, read, brought, difference, origin}
use Rattle.fault_script.specs.Fits.{ActFits}
use Rattle.fault_injector.specs.Scripts.{right_by}

-- What stands when an operation is done: of the cycle before and of this cycle so far the values, and the differences of their words.
pub record Course : Type 0 where
  pub past : Frame
  pub now : Frame
  pub past_differences : Frame
  pub differences : Frame

-- ---- values

-- the value of operand j before any change; 0 where there is no such operand
abbrev pub plain_operand : Frame → Op → ℕ → ℤ
plain_operand f op j = cond (nat_lt j (operands op.kind)) (read f op j) (pos 0)

-- the residue that operand j has before any change
abbrev pub operand_residue : Numbers → Lists → ℕ → Frame → Op → ℕ → ℕ
operand_residue t g n differences op j = modulo t.profile (origin t g op j +ℤ pos (stamp t.step n) +ℤ read differences op j)

-- by how much a value part grows where e is added to a word with this residue
abbrev pub carry : Profile → ℕ → ℤ → ℤ
carry p residue e = value_part p (pos residue +ℤ e)

-- the value of operand j under an act
abbrev pub operand_under : Numbers → Lists → ℕ → Course → Op → Option Act → ℕ → ℤ
operand_under t g n c op (Some (act.OperandAdd i e)) j =
    cond (i == j) (plain_operand c.now op j +ℤ carry t.profile (operand_residue t g n c.differences op j) e) (plain_operand c.now op j)
operand_under t g n c op (Some (act.OperandFrom i r)) j = cond (i == j) (at c.now.given r) (plain_operand c.now op j)
operand_under t g n c op (Some (act.OperandStale i)) j = cond (i == j) (plain_operand c.past op j) (plain_operand c.now op j)
operand_under t g n c op (Some (act.ResultAdd e)) j = plain_operand c.now op j
operand_under t g n c op (Some (act.Operator other)) j = plain_operand c.now op j
operand_under t g n c op (Some act.Skip) j = plain_operand c.now op j
operand_under t g n c op None j = plain_operand c.now op j

-- the kind that is done
abbrev pub kind_under : Option Act → Kind → Kind
kind_under (Some (act.OperandAdd j e)) k = k
kind_under (Some (act.OperandFrom j r)) k = k
kind_under (Some (act.OperandStale j)) k = k
kind_under (Some (act.ResultAdd e)) k = k
kind_under (Some (act.Operator other)) k = other
kind_under (Some act.Skip) k = k
kind_under None k = k

-- what the operation gives on the values that it reads
abbrev pub done_under : Numbers → Lists → ℕ → List ℤ → Course → Op → Option Act → Outcome
done_under t g n row c op a =
    outcome (kind_under a op.kind) op.from op.ty (own row op.kind op.imm)
    (operand_under t g n c op a 0) (operand_under t g n c op a 1) (operand_under t g n c op a 2)

-- an outcome to whose word e is added, where it has this residue
abbrev pub raised : Profile → ℕ → ℤ → Outcome → Outcome
raised p residue e (Ok v) = Ok (v +ℤ carry p residue e)
raised p residue e (Err why) = Err why

-- The outcome of operation k under an act. A skipped operation has its value of the cycle before, and doesn't stop; an e that is added to
-- the answer changes no stop.
abbrev pub outcome_under : Numbers → Lists → ℕ → List ℤ → Course → ℕ → Op → Option Act → Outcome
outcome_under t g n row c k op (Some (act.ResultAdd e)) =
    raised t.profile (modulo t.profile (pos (signature t.profile t.seed k) +ℤ pos (stamp t.step n) +ℤ brought c.differences op op.kind)) e
    (done_under t g n row c op (Some (act.ResultAdd e)))
outcome_under t g n row c k op (Some act.Skip) = Ok (at c.past.given k)
outcome_under t g n row c k op (Some (act.OperandAdd j e)) = done_under t g n row c op (Some (act.OperandAdd j e))
outcome_under t g n row c k op (Some (act.OperandFrom j r)) = done_under t g n row c op (Some (act.OperandFrom j r))
outcome_under t g n row c k op (Some (act.OperandStale j)) = done_under t g n row c op (Some (act.OperandStale j))
outcome_under t g n row c k op (Some (act.Operator other)) = done_under t g n row c op (Some (act.Operator other))
outcome_under t g n row c k op None = done_under t g n row c op None

-- ---- words

-- the word of a value whose residue is an integer's
abbrev pub word_of : Numbers → ℤ → ℤ → ℤ
word_of t v z = coded t.profile v (modulo t.profile z)

-- the stamp of the cycle before, by which the residues of its words are made
abbrev pub stamp_past : Numbers → ℕ → ℤ
stamp_past t n = pos (stamp t.step n) -ℤ pos t.step

-- the word that an operation reads as operand j has the value, and the residue of the signature, the stamp and the difference; the zero word
-- stands where there is no such operand
abbrev pub OperandStands : Numbers → Lists → ℕ → Course → Op → ℕ → ℤ → Type 0
OperandStands t g n c op j w =
    w ≡ cond (nat_lt j (operands op.kind)) (word_of t (read c.now op j) (origin t g op j +ℤ pos (stamp t.step n) +ℤ read c.differences op j)) (pos 0)

-- what an operation reads
pub record ReadsStand (t : Numbers) (g : Lists) (n : ℕ) (row : List ℤ) (c : Course) (op : Op) (reads : Operands) : Type 0 where
  pub first : OperandStands t g n c op 0 reads.a
  pub second : OperandStands t g n c op 1 reads.b
  pub third : OperandStands t g n c op 2 reads.c
  pub input : reads.input ≡ at row (unsigned_abs op.imm)

-- the word that the act takes is the one that was answered or read, with its own value, signature, stamp and difference
abbrev pub TakenStands : Numbers → Lists → ℕ → Course → ℕ → Op → Option Act → ℤ → Type 0
TakenStands t g n c k op (Some (act.OperandFrom j r)) w =
    w ≡ word_of t (at c.now.given r) (pos (signature t.profile t.seed r) +ℤ pos (stamp t.step n) +ℤ at c.differences.given r)
TakenStands t g n c k op (Some (act.OperandStale j)) w = w ≡ word_of t (read c.past op j) (origin t g op j +ℤ stamp_past t n +ℤ read c.past_differences op j)
TakenStands t g n c k op (Some act.Skip) w =
    w ≡ word_of t (at c.past.given k) (pos (signature t.profile t.seed k) +ℤ stamp_past t n +ℤ at c.past_differences.given k)
TakenStands t g n c k op (Some (act.OperandAdd j e)) w = Unit {0}
TakenStands t g n c k op (Some (act.ResultAdd e)) w = Unit {0}
TakenStands t g n c k op (Some (act.Operator other)) w = Unit {0}
TakenStands t g n c k op None w = Unit {0}

-- A value that a run under acts can have: an operation answers one of its type, and an e adds less than 2^32 to it.
pub record Near (v : ℤ) : Type 0 where
  pub low : neg_ℤ (pos (2 ^ 64)) ≤ℤ v
  pub high : v ≤ℤ pos (2 ^ 64)

-- the act, where there is one, may stand at operation k in cycle n
abbrev pub MayStand : Kind → ℕ → ℕ → Option Act → Type 0
MayStand kind k n None = Unit {0}
MayStand kind k n (Some a) = ActFits kind k n a

-- The step with an act. The operands of operation k in cycle n have values, and the residues of their signatures, the stamp and their
-- differences, and so has the word that the act takes. Then what is handed back over an honest unit is the outcome of the replaced values, and a
-- word of it has the residue S(k, n) + d_n[k], with the difference of the act.
abbrev pub StepUnder : Type 0
StepUnder =
    (t : Numbers) (g : Lists) (n k : ℕ) (row : List ℤ) (c : Course) (op : Op) (reads : Operands) (a : Option Act) (w : ℤ) →
    t.profile ≡ g.profile → MayStand op.kind k n a → ((j : ℕ) → Near (read c.now op j)) →
    ReadsStand t g n row c op reads → TakenStands t g n c k op a w →
    right_by a w (operation_call g t n k op reads)
    ≡ answer_of t.profile (outcome_under t g n row c k op a)
    (modulo t.profile (pos (signature t.profile t.seed k) +ℤ pos (stamp t.step n) +ℤ difference t g c.past_differences c.differences k op a))

-- a value that an operation gives under an act is near, where that of the cycle before is
abbrev pub OutcomesAreNear : Type 0
OutcomesAreNear =
    (t : Numbers) (g : Lists) (n k : ℕ) (row : List ℤ) (c : Course) (op : Op) (a : Option Act) →
    MayStand op.kind k n a → Near (at c.past.given k) → IfOk (outcome_under t g n row c k op a) Near
