-- AloneRun: the run with one fault, before which no difference stands.
use Rattle.std.proofs.Common.{◌≡◌, ℕ, zero, suc, ◌<◌, ◌==◌, ◌&&◌, Bool, true, false, cond, nat_lt, List, [], ◌∷◌, length, map, Option, Some, None}
use Rattle.std.proofs.Common.{slice_get, ℤ, pos, ◌+ℤ◌, ◌*ℤ◌, unsigned_abs, refl, sym, ap, ◌∙◌, arith}
use Rattle.std.specs.Option.{is_some}
use Rattle.std.proofs.lemmas.Bool.{eq-eqb, eqb-true}
use Rattle.std.proofs.lemmas.Int.{ints}
use Rattle.std.proofs.lemmas.List.{get_or_past}
use Rattle.std.proofs.Math.IntN.{*ℤ-zero, zero-*ℤ}
use Rattle.vcp_base.specs.declared.kind.Kind.{Kind}
use Rattle.vcp_base.specs.declared.kind.Kind.TheVariants as kind
use Rattle.vcp_base.specs.Kinds.{multiplier, multipliers, operands, operand_type, outcome}
use Rattle.vcp_base.specs.Values.{at}
use Rattle.coded_unit.specs.Words.{modulo}
use Rattle.op_graph.specs.declared.op.Op.{Op}
use Rattle.op_graph.specs.GraphRun.{own, operand, outcome_of}
use Rattle.op_graph.specs.GraphRun.{read as read_value}
use Rattle.op_graph.specs.Laws.{ReadLaws}
use Rattle.op_graph.specs.Lists.{Lists}
use Rattle.op_graph.specs.Reads.{named}
use Rattle.op_graph.specs.Rules.{IsGraph, reads_as}
use Rattle.signature_table.specs.Signatures.{Numbers, signature, stamp}
use Rattle.fault_script.specs.declared.act.Act.{Act}
use Rattle.fault_script.specs.declared.act.Act.TheVariants as act
use Rattle.fault_script.specs.declared.act.Fault.{Fault}
use Rattle.fault_script.specs.Changes.{Acts, acts_of}
use Rattle.fault_script.specs.Differences.{Frame, origin, read, read_as, brought, held_after, frame, no_frame, OneFault}
use Rattle.fault_script.specs.Fits.{is_sited}
use Rattle.fault_injector.specs.Stepping.{Course, carry, raised, plain_operand, operand_under, done_under, outcome_under}
use Rattle.fault_injector.specs.FaultRun.{frame_before, begun, course, undisturbed, OneFaultRuns}

-- what the crates below promise
pub record Laws : Type 0 where
  pub reads : ReadLaws
  pub one : (t : Numbers) (g : Lists) (f : Fault) (op : Op) → slice_get g.operations f.op ≡ Some op → OneFault t g f op

-- ---- no difference is read

held_zero : (given : List ℤ) (stores : List ℕ) (i : ℕ) → ((m : ℕ) → at given m ≡ pos 0) → at (map (λ n. at given n) stores) i ≡ pos 0
held_zero given [] i h = refl
held_zero given (n ∷ stores) zero h = h n
held_zero given (n ∷ stores) (suc i) h = held_zero given stores i h

before_zero : (t : Numbers) (g : Lists) (f : Fault) (op : Op) → OneFault t g f op → (n : ℕ) → n ≡ f.cycle → (m : ℕ)
    → at (frame_before t g (acts_of (f ∷ [])) n).given m ≡ pos 0
before_zero t g f op one zero e m = refl
before_zero t g f op one (suc n) e m = one.before n m (omega (arith, e))

frame_held : (t : Numbers) (g : Lists) (acts : Acts) (n : ℕ) → (frame t g acts n).held ≡ held_after g (frame_before t g acts n).given
frame_held t g acts zero = refl
frame_held t g acts (suc n) = refl

-- an operand of this kind is an earlier operation, or a cell
abbrev pub Behind : Kind → ℕ → ℕ → Type 0
Behind kind.Load n q = Unit {0}
Behind _ n q = n < q

behind_as : (reads : ReadLaws) (g : Lists) (q : ℕ) (op : Op) (j : ℕ) → IsGraph g → slice_get g.operations q ≡ Some op → (k : Kind) → op.kind ≡ k
    → nat_lt j (operands k) ≡ true → Behind k (named op j) q
behind_as reads g q op j graph there kind.Load e h = tt
behind_as reads g q op j graph there k e h =
    reads.earlier g q (named op j) j graph.part
    (record {
      op = op;
      there = there;
      operand = ap (λ k. is_some (reads_as k op.from j)) e ∙ ap (λ (b : Bool). is_some (cond b (Some (operand_type k j op.from)) None)) h;
      names = refl;
    })

pub behind : (reads : ReadLaws) (g : Lists) (q : ℕ) (op : Op) (j : ℕ) → IsGraph g → slice_get g.operations q ≡ Some op → nat_lt j (operands op.kind) ≡ true
    → Behind op.kind (named op j) q
behind reads g q op j graph there h = behind_as reads g q op j graph there op.kind refl h

read_zero_as : (t : Numbers) (g : Lists) (f : Fault) (op : Op) (j : ℕ) → OneFault t g f op → (k : Kind) → Behind k (named op j) f.op
    → read_as (frame t g (acts_of (f ∷ [])) f.cycle) op j k ≡ pos 0
read_zero_as t g f op j one kind.Load b =
    ap (λ (held : List ℤ). at held (unsigned_abs op.imm)) (frame_held t g (acts_of (f ∷ [])) f.cycle)
    ∙ held_zero (frame_before t g (acts_of (f ∷ [])) f.cycle).given g.stores (unsigned_abs op.imm) (before_zero t g f op one f.cycle refl)
read_zero_as t g f op j one _ b = one.earlier (named op j) b

-- what an operand that is there brings to the fault's operation
abbrev NothingRead : Frame → Op → Type 0
NothingRead d op = (j : ℕ) → nat_lt j (operands op.kind) ≡ true → read d op j ≡ pos 0

nothing_read : (laws : Laws) (t : Numbers) (g : Lists) (f : Fault) (op : Op) → IsGraph g → slice_get g.operations f.op ≡ Some op
    → NothingRead (frame t g (acts_of (f ∷ [])) f.cycle) op
nothing_read laws t g f op graph there j h =
    read_zero_as t g f op j (laws.one t g f op there) op.kind (behind laws.reads g f.op op j graph there h)

term_zero : (k : Kind) (j : ℕ) (x : ℤ) (b : Bool) → nat_lt j (operands k) ≡ b → (b ≡ true → x ≡ pos 0) → multiplier k j *ℤ x ≡ pos 0
term_zero k j x true e h = ap (λ (z : ℤ). multiplier k j *ℤ z) (h refl) ∙ *ℤ-zero (multiplier k j)
term_zero k j x false e h = ap (λ (z : ℤ). z *ℤ x) (get_or_past (multipliers k) j (pos 0) (grind arith)) ∙ zero-*ℤ x

sum_zero : (a b c : ℤ) → a ≡ pos 0 → b ≡ pos 0 → c ≡ pos 0 → a +ℤ b +ℤ c ≡ pos 0
sum_zero a b c e f g = omega (arith, ints, e, f, g)

nothing_brought : (d : Frame) (op : Op) → NothingRead d op → brought d op op.kind ≡ pos 0
nothing_brought d op none =
    let term : (j : ℕ) → multiplier op.kind j *ℤ read d op j ≡ pos 0 = λ j. term_zero op.kind j (read d op j) (nat_lt j (operands op.kind)) refl (none j) in
    sum_zero _ _ _ (term 0) (term 1) (term 2)

-- in no frame nothing is read
none_read_as : (op : Op) (j : ℕ) (k : Kind) → read_as no_frame op j k ≡ pos 0
none_read_as op j kind.Load = refl
none_read_as op j _ = refl

none_read : (op : Op) → NothingRead no_frame op
none_read op j h = none_read_as op j op.kind

-- ---- the fault's operation

choice : {X : Type 0} (b : Bool) (x y z : X) → (b ≡ true → x ≡ y) → cond b x z ≡ cond b y z
choice true x y z h = h refl
choice false x y z h = refl

added_alone : (t : Numbers) (g : Lists) (n : ℕ) (c : Course) (op : Op) (i : ℕ) (e : ℤ) (j : ℕ) → NothingRead c.differences op
    → nat_lt i (operands op.kind) ≡ true
    → operand_under t g n c op (Some (act.OperandAdd i e)) j ≡ operand_under t g n (undisturbed c) op (Some (act.OperandAdd i e)) j
added_alone t g n c op i e j none sited =
    choice (i == j) _ _ _
    (λ same.
    let there = ap (λ m. nat_lt m (operands op.kind)) (sym (eqb-true i j same)) ∙ sited in
    ap (λ (z : ℤ). plain_operand c.now op j +ℤ carry t.profile (modulo t.profile (origin t g op j +ℤ pos (stamp t.step n) +ℤ z)) e)
    (none j there ∙ sym (none_read op j there)))

three : (t : Numbers) (row : List ℤ) (op : Op) (x y z u v w : ℤ) → x ≡ u → y ≡ v → z ≡ w
    → outcome op.kind op.from op.ty (own row op.kind op.imm) x y z ≡ outcome op.kind op.from op.ty (own row op.kind op.imm) u v w
three t row op x y z u v w e f g =
    let o = own row op.kind op.imm in
    ap (λ (a : ℤ). outcome op.kind op.from op.ty o a y z) e ∙
    (ap (λ (a : ℤ). outcome op.kind op.from op.ty o u a z) f ∙ ap (λ (a : ℤ). outcome op.kind op.from op.ty o u v a) g)

act_alone : (t : Numbers) (g : Lists) (n : ℕ) (row : List ℤ) (c : Course) (k : ℕ) (op : Op) (a : Act) → NothingRead c.differences op
    → is_sited op.kind k a ≡ true → outcome_under t g n row c k op (Some a) ≡ outcome_under t g n row (undisturbed c) k op (Some a)
act_alone t g n row c k op (act.OperandAdd i e) none sited =
    three t row op _ _ _ _ _ _ (added_alone t g n c op i e 0 none sited) (added_alone t g n c op i e 1 none sited) (added_alone t g n c op i e 2 none sited)
act_alone t g n row c k op (act.ResultAdd e) none sited =
    ap (λ (z : ℤ). raised t.profile (modulo t.profile (pos (signature t.profile t.seed k) +ℤ pos (stamp t.step n) +ℤ z)) e
    (done_under t g n row c op (Some (act.ResultAdd e))))
    (nothing_brought c.differences op none ∙ sym (nothing_brought no_frame op (none_read op)))
act_alone t g n row c k op (act.OperandFrom i r) none sited = refl
act_alone t g n row c k op (act.OperandStale i) none sited = refl
act_alone t g n row c k op (act.Operator other) none sited = refl
act_alone t g n row c k op act.Skip none sited = refl

this_op : (f : Fault) → acts_of (f ∷ []) f.cycle f.op ≡ Some f.act
this_op f =
    let cycle : (f.cycle == f.cycle) ≡ true = eq-eqb f.cycle f.cycle refl in
    let op : (f.op == f.op) ≡ true = eq-eqb f.op f.op refl in
    ap (λ (b : Bool). cond (b && f.op == f.op) (Some f.act) None) cycle ∙ ap (λ (b : Bool). cond b (Some f.act) None) op

-- ---- every other operation

value_read : (held values : List ℤ) (op : Op) (j : ℕ) (k : Kind)
    → read_as (record { held = held; given = values }) op j k ≡ read_value held values k op.imm (named op j)
value_read held values op j kind.Load = refl
value_read held values op j _ = refl

value_of_operand : (held values : List ℤ) (op : Op) (j : ℕ) → plain_operand (record { held = held; given = values }) op j ≡ operand held values op j
    (named op j)
value_of_operand held values op j = ap (λ (v : ℤ). cond (nat_lt j (operands op.kind)) v (pos 0)) (value_read held values op j op.kind)

without_act : (t : Numbers) (g : Lists) (n : ℕ) (row : List ℤ) (c : Course) (k : ℕ) (op : Op)
    → outcome_under t g n row c k op None ≡ outcome_of c.now.held row c.now.given op
without_act t g n row c k op =
    three t row op _ _ _ _ _ _ (value_of_operand c.now.held c.now.given op 0) (value_of_operand c.now.held c.now.given op 1)
    (value_of_operand c.now.held c.now.given op 2)

same_op : (a b : Option Op) (x y : Op) → a ≡ Some x → a ≡ Some y → x ≡ y
same_op a b x y e f = cc

pub one_fault_run : Laws → OneFaultRuns
one_fault_run laws t g f graph fits = record {
  there = λ op past held row values there many.
      let c = course (begun t g (acts_of (f ∷ [])) f.cycle past held row) values in
      let is : fits.op ≡ op = same_op (slice_get g.operations f.op) None fits.op op fits.there there in
      let sited : is_sited op.kind f.op f.act ≡ true = ap (λ (o : Op). is_sited o.kind f.op f.act) (sym is) ∙ fits.act.sited in
      ap (λ k. outcome_under t g f.cycle row c k op (acts_of (f ∷ []) f.cycle k)) many
      ∙ ap (outcome_under t g f.cycle row c f.op op) (this_op f)
      ∙ act_alone t g f.cycle row c f.op op f.act (nothing_read laws t g f op graph there) sited;
  elsewhere = λ n op past held row values none.
      let c = course (begun t g (acts_of (f ∷ [])) n past held row) values in
      ap (outcome_under t g n row c (length values) op) none ∙ without_act t g n row c (length values) op;
}
