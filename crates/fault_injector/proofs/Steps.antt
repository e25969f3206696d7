-- Steps: the right answer to a call under an act.
use Rattle.std.proofs.Common.{◌≡◌, ℕ, zero, suc, ◌<◌, ◌==◌, Bool, true, false, cond, ◌&&◌, nat_lt, nat_le, List, Option, Some, None, Ok, Err, IfOk, ℤ, pos}
use Rattle.std.proofs.Common.{neg_ℤ, ◌+ℤ◌, ◌-ℤ◌, ◌*ℤ◌, ◌^◌, refl, sym, ap, subst, ◌∙◌, arith, eqb-true}
use Rattle.std.specs.Prelude.{unsigned_abs}
use Rattle.std.proofs.lemmas.Bool.{false≢true}
use Rattle.std.proofs.lemmas.Bool.Decides.{nat_tests}
use Rattle.std.proofs.lemmas.Int.{ints}
use Rattle.std.proofs.lemmas.List.{get_or_past}
use Rattle.std.proofs.Math.IntN.{zero-*ℤ}
use Rattle.vcp_base.specs.declared.code.Profile.{Profile}
use Rattle.vcp_base.specs.declared.kind.Kind.{Kind}
use Rattle.vcp_base.specs.declared.kind.Kind.TheVariants as kind
use Rattle.vcp_base.specs.declared.kind.StopKind.TheVariants as stop
use Rattle.vcp_base.specs.declared.ty.Ty.{Ty}
use Rattle.vcp_base.specs.Code.{modulus}
use Rattle.vcp_base.specs.Kinds.{multiplier, multipliers, operands, operands_fit, divides_by_zero, value, Outcome, outcome}
use Rattle.vcp_base.specs.Types.{fits}
use Rattle.vcp_base.specs.Values.{at}
use Rattle.coded_unit.specs.declared.call.Call.{Call}
use Rattle.coded_unit.specs.declared.call.Answer.{Answer}
use Rattle.coded_unit.specs.declared.call.Answer.TheVariants as answer
use Rattle.coded_unit.specs.Words.{modulo, coded, nearest_word}
use Rattle.coded_unit.specs.WordLaws.{WordLaws}
use Rattle.coded_unit.specs.Right.{Right, answer_of}
use Rattle.coded_unit.specs.Step.{weighed, Carries, ExchangedLaw}
use Rattle.op_graph.specs.declared.op.Op.{Op}
use Rattle.op_graph.specs.GraphRun.{own}
use Rattle.op_graph.specs.Lists.{Lists}
use Rattle.signature_table.specs.Signatures.{Numbers, signature, stamp}
use Rattle.coded_machine.specs.declared.calling.Operands.{Operands}
use Rattle.coded_machine.specs.Calls.{operation_call, own_number}
use Rattle.fault_script.specs.declared.act.Act.{Act}
use Rattle.fault_script.specs.declared.act.Act.TheVariants as act
use Rattle.fault_script.specs.Changes.{operand_word, with_operand, shifted}
use Rattle.fault_script.specs.Differences.{origin, read, brought, exchanged, difference}
use Rattle.fault_script.specs.Forms.{is_addend}
use Rattle.fault_injector.specs.Scripts.{right_by}
use Rattle.fault_injector.specs.Stepping.{Course, Near, carry, plain_operand, operand_residue, operand_under, kind_under, done_under, raised, outcome_under}
use Rattle.fault_injector.specs.Stepping.{stamp_past, OperandStands, ReadsStand, TakenStands, MayStand, StepUnder, OutcomesAreNear}
use Rattle.fault_injector.proofs.Products.{times_minus, minus_times}
use Rattle.fault_injector.proofs.Shifts.{Between, fits_between, near_of, shifted_word, carry_near}

-- what the crates below promise
pub record Laws : Type 0 where
  pub words : (p : Profile) → WordLaws p
  pub steps : (call : Call) → ExchangedLaw call (Right call)

-- ---- one operand of a call

-- The word w of operand j has the value v, and stands for the signature o and the difference d: where a kind hasn't the operand, any signature
-- and any difference will do.
record IsRead (q : Profile) (stamp : ℤ) (done meant : Kind) (j : ℕ) (w v o d : ℤ) : Type 0 where
  signature_of : ℤ
  difference_of : ℤ
  word : w ≡ coded q v (modulo q (signature_of +ℤ stamp +ℤ difference_of))
  done_signature : multiplier done j *ℤ signature_of ≡ multiplier done j *ℤ o
  meant_signature : multiplier meant j *ℤ signature_of ≡ multiplier meant j *ℤ o
  done_difference : multiplier done j *ℤ difference_of ≡ multiplier done j *ℤ d

there_read : (q : Profile) (stamp : ℤ) (done meant : Kind) (j : ℕ) (w v o d : ℤ) → w ≡ coded q v (modulo q (o +ℤ stamp +ℤ d)) →
    IsRead q stamp done meant j w v o d
there_read q stamp done meant j w v o d is =
    record { signature_of = o; difference_of = d; word = is; done_signature = refl; meant_signature = refl; done_difference = refl }

-- an absent operand has the multiplier 0
absent : (k : Kind) (j : ℕ) → nat_lt j (operands k) ≡ false → multiplier k j ≡ pos 0
absent k j h = get_or_past (multipliers k) j (pos 0) (grind arith)

no_product : (m x y : ℤ) → m ≡ pos 0 → m *ℤ x ≡ m *ℤ y
no_product m x y h = ap (λ (z : ℤ). z *ℤ x) h ∙ (zero-*ℤ x ∙ sym (ap (λ (z : ℤ). z *ℤ y) h ∙ zero-*ℤ y))

constant_positive : (q : Profile) → WordLaws q → 0 < modulus q
constant_positive q laws = let below = laws.below (pos 0) in omega (arith, below)

zero_word : (q : Profile) → WordLaws q → (stamp : ℤ) → pos 0 ≡ coded q (pos 0) (modulo q (neg_ℤ stamp +ℤ stamp +ℤ pos 0))
zero_word q laws stamp =
    let z : neg_ℤ stamp +ℤ stamp +ℤ pos 0 ≡ pos 0 = omega (arith, ints) in
    sym (ap (λ (y : ℤ). coded q (pos 0) (modulo q y)) z ∙ (ap (coded q (pos 0)) (laws.small 0 (constant_positive q laws)) ∙ laws.zero))

plain_read : (q : Profile) → WordLaws q → (stamp : ℤ) (done meant : Kind) (j : ℕ) (b : Bool) (w v o d : ℤ) → nat_lt j (operands meant) ≡ b →
    operands done ≡ operands meant →
    w ≡ cond b (coded q v (modulo q (o +ℤ stamp +ℤ d))) (pos 0) → IsRead q stamp done meant j w (cond b v (pos 0)) o d
plain_read q laws stamp done meant j true w v o d has same is = there_read q stamp done meant j w v o d is
plain_read q laws stamp done meant j false w v o d has same is =
    let none : multiplier done j ≡ pos 0 = absent done j (ap (nat_lt j) same ∙ has) in
    record {
      signature_of = neg_ℤ stamp;
      difference_of = pos 0;
      word = is ∙ zero_word q laws stamp;
      done_signature = no_product (multiplier done j) (neg_ℤ stamp) o none;
      meant_signature = no_product (multiplier meant j) (neg_ℤ stamp) o (absent meant j has);
      done_difference = no_product (multiplier done j) (pos 0) d none;
    }

-- ---- a call with three operands

-- the residue of an answer to a call of operands with these signatures and differences, where the kind `meant` has the signature s
abbrev Residue : Profile → ℤ → ℤ → Kind → Kind → (o0 o1 o2 d0 d1 d2 : ℤ) → ℕ
Residue q s stamp done meant o0 o1 o2 d0 d1 d2 =
    modulo q (s +ℤ stamp +ℤ (weighed done d0 d1 d2 +ℤ (weighed done o0 o1 o2 -ℤ weighed meant o0 o1 o2)))

one_made : (laws : Laws) (call : Call) (meant : Kind) (s v0 v1 v2 o0 o1 o2 d0 d1 d2 : ℤ) →
    IsRead call.profile (pos call.stamp) call.kind meant 0 call.a v0 o0 d0 → IsRead call.profile (pos call.stamp) call.kind meant 1 call.b v1 o1 d1 →
    IsRead call.profile (pos call.stamp) call.kind meant 2 call.c v2 o2 d2 →
    call.corr ≡ modulo call.profile (s -ℤ multiplier meant 0 *ℤ o0 -ℤ multiplier meant 1 *ℤ o1 -ℤ multiplier meant 2 *ℤ o2) →
    Right call ≡ answer_of call.profile (outcome call.kind call.from call.ty call.imm v0 v1 v2)
    (Residue call.profile s (pos call.stamp) call.kind meant o0 o1 o2 d0 d1 d2)
one_made laws call meant s v0 v1 v2 o0 o1 o2 d0 d1 d2 a b c corr =
    let q = call.profile in
    let ma = a.meant_signature in
    let mb = b.meant_signature in
    let mc = c.meant_signature in
    let da = a.done_signature in
    let db = b.done_signature in
    let dc = c.done_signature in
    let xa = a.done_difference in
    let xb = b.done_difference in
    let xc = c.done_difference in
    let carries : Carries call meant s a.signature_of b.signature_of c.signature_of a.difference_of b.difference_of c.difference_of v0 v1 v2 = record {
      first = a.word;
      second = b.word;
      third = c.word;
      correction = corr ∙ ap (modulo q) (omega (arith, ints, ma, mb, mc));
    } in
    laws.steps call meant s a.signature_of b.signature_of c.signature_of a.difference_of b.difference_of c.difference_of v0 v1 v2 carries
    ∙ ap (λ (z : ℤ). answer_of q (outcome call.kind call.from call.ty call.imm v0 v1 v2) (modulo q z)) (omega (arith, ints, ma, mb, mc, da, db, dc, xa, xb, xc))

-- ---- the call of an operation

-- the numbers of a code for the graph's profile
abbrev pub numbers_for : Lists → ℕ → ℕ → List ℕ → Numbers
numbers_for g seed step corrections = record { profile = g.profile; seed = seed; step = step; corrections = corrections }

own_is : (row : List ℤ) (k : Kind) (imm input : ℤ) → input ≡ at row (unsigned_abs imm) → own_number k imm input ≡ own row k imm
own_is row kind.Input imm input e = e
own_is row k imm input e = refl

-- An operation of a graph and what stands of it.
record Scene : Type 0 where
  laws : Laws
  graph : Lists
  seed : ℕ
  step : ℕ
  corrections : List ℕ
  cycle : ℕ
  number : ℕ
  row : List ℤ
  course : Course
  op : Op
  reads : Operands
  stand : ReadsStand (numbers_for graph seed step corrections) graph cycle row course op reads

abbrev table : Scene → Numbers
table s = numbers_for s.graph s.seed s.step s.corrections

abbrev call_in : Scene → Call
call_in s = operation_call s.graph (table s) s.cycle s.number s.op s.reads

abbrev stamp_in : Scene → ℤ
stamp_in s = pos (stamp s.step s.cycle)

abbrev signature_in : Scene → ℤ
signature_in s = pos (signature s.graph.profile s.seed s.number)

abbrev origin_in : Scene → ℕ → ℤ
origin_in s j = origin (table s) s.graph s.op j

abbrev off : Scene → ℕ → ℤ
off s j = read s.course.differences s.op j

abbrev plain : Scene → ℕ → ℤ
plain s j = plain_operand s.course.now s.op j

abbrev Reading : Scene → Kind → ℕ → (w v d : ℤ) → Type 0
Reading s done j w v d = IsRead s.graph.profile (stamp_in s) done s.op.kind j w v (origin_in s j) d

-- an operand that no act changes
plain_at : (s : Scene) (done : Kind) (j : ℕ) (w : ℤ) → operands done ≡ operands s.op.kind → OperandStands (table s) s.graph s.cycle s.course s.op j w →
    Reading s done j w (plain s j) (off s j)
plain_at s done j w same is =
    plain_read s.graph.profile (s.laws.words s.graph.profile) (stamp_in s) done s.op.kind j (nat_lt j (operands s.op.kind)) w
    (read s.course.now s.op j) (origin_in s j) (off s j) refl same is

-- the word of an operand that is there
present : {X : Type 0} (b : Bool) (u v : X) → b ≡ true → cond b u v ≡ u
present b u v e = ap (λ (b : Bool). cond b u v) e

-- the answer to a call of the operation with these operands
with_three : (s : Scene) (done : Kind) (a b c v0 v1 v2 d0 d1 d2 : ℤ) → Reading s done 0 a v0 d0 → Reading s done 1 b v1 d1 → Reading s done 2 c v2 d2 →
    Right (record (call_in s) { kind = done; a = a; b = b; c = c })
    ≡ answer_of s.graph.profile (outcome done s.op.from s.op.ty (own s.row s.op.kind s.op.imm) v0 v1 v2)
    (Residue s.graph.profile (signature_in s) (stamp_in s) done s.op.kind (origin_in s 0) (origin_in s 1) (origin_in s 2) d0 d1 d2)
with_three s done a b c v0 v1 v2 d0 d1 d2 x y z =
    one_made s.laws (record (call_in s) { kind = done; a = a; b = b; c = c }) s.op.kind (signature_in s) v0 v1 v2 (origin_in s 0) (origin_in s 1)
    (origin_in s 2) d0 d1 d2 x y z refl
    ∙ ap
    (λ (i : ℤ). answer_of s.graph.profile (outcome done s.op.from s.op.ty i v0 v1 v2)
    (Residue s.graph.profile (signature_in s) (stamp_in s) done s.op.kind (origin_in s 0) (origin_in s 1) (origin_in s 2) d0 d1 d2))
    (own_is s.row s.op.kind s.op.imm s.reads.input s.stand.input)

-- what the operation answers, where it gives this outcome and its answer has this difference
abbrev Stands : Scene → Outcome → ℤ → Answer → Type 0
Stands s o d given = given ≡ answer_of s.graph.profile o (modulo s.graph.profile (signature_in s +ℤ stamp_in s +ℤ d))

abbrev done_as : Scene → Kind → (v0 v1 v2 : ℤ) → Outcome
done_as s done v0 v1 v2 = outcome done s.op.from s.op.ty (own s.row s.op.kind s.op.imm) v0 v1 v2

-- a residue that is the same integer's
residue_is : (s : Scene) (o : Outcome) (given : Answer) (z d : ℤ) → given ≡ answer_of s.graph.profile o (modulo s.graph.profile z) →
    z ≡ signature_in s +ℤ stamp_in s +ℤ d → Stands s o d given
residue_is s o given z d is same = is ∙ ap (λ (y : ℤ). answer_of s.graph.profile o (modulo s.graph.profile y)) same

-- ---- the call as it is

unchanged : (s : Scene) → Stands s (done_as s s.op.kind (plain s 0) (plain s 1) (plain s 2)) (brought s.course.differences s.op s.op.kind) (Right (call_in s))
unchanged s =
    let k = s.op.kind in
    let e = weighed k (origin_in s 0) (origin_in s 1) (origin_in s 2) in
    residue_is s (done_as s k (plain s 0) (plain s 1) (plain s 2)) (Right (call_in s)) _ (brought s.course.differences s.op k)
    (with_three s k s.reads.a s.reads.b s.reads.c (plain s 0) (plain s 1) (plain s 2) (off s 0) (off s 1) (off s 2)
    (plain_at s k 0 s.reads.a refl s.stand.first) (plain_at s k 1 s.reads.b refl s.stand.second) (plain_at s k 2 s.reads.c refl s.stand.third))
    (as_it_is (signature_in s) (stamp_in s) (weighed k (off s 0) (off s 1) (off s 2)) e)
  where
    as_it_is : (s t d e : ℤ) → s +ℤ t +ℤ (d +ℤ (e -ℤ e)) ≡ s +ℤ t +ℤ d
    as_it_is s t d e = omega (arith, ints)

-- ---- another kind

exchange : (m0 m1 m2 k0 k1 k2 o0 o1 o2 : ℤ) →
    (m0 *ℤ o0 +ℤ m1 *ℤ o1 +ℤ m2 *ℤ o2) -ℤ (k0 *ℤ o0 +ℤ k1 *ℤ o1 +ℤ k2 *ℤ o2) ≡ (m0 -ℤ k0) *ℤ o0 +ℤ (m1 -ℤ k1) *ℤ o1 +ℤ (m2 -ℤ k2) *ℤ o2
exchange m0 m1 m2 k0 k1 k2 o0 o1 o2 =
    let first = minus_times m0 k0 o0 in
    let second = minus_times m1 k1 o1 in
    let third = minus_times m2 k2 o2 in
    omega (arith, ints, first, second, third)

plus_same : (s t d x y : ℤ) → x ≡ y → s +ℤ t +ℤ (d +ℤ x) ≡ s +ℤ t +ℤ (d +ℤ y)
plus_same s t d x y e = ap (λ (z : ℤ). s +ℤ t +ℤ (d +ℤ z)) e

as_other : (s : Scene) (other : Kind) → operands other ≡ operands s.op.kind →
    Stands s (done_as s other (plain s 0) (plain s 1) (plain s 2))
    (brought s.course.differences s.op other
    +ℤ (exchanged (table s) s.graph s.op other 0 +ℤ exchanged (table s) s.graph s.op other 1 +ℤ exchanged (table s) s.graph s.op other 2))
    (Right (record (call_in s) { kind = other }))
as_other s other same =
    let k = s.op.kind in
    residue_is s (done_as s other (plain s 0) (plain s 1) (plain s 2)) (Right (record (call_in s) { kind = other })) _ _
    (with_three s other s.reads.a s.reads.b s.reads.c (plain s 0) (plain s 1) (plain s 2) (off s 0) (off s 1) (off s 2)
    (plain_at s other 0 s.reads.a same s.stand.first) (plain_at s other 1 s.reads.b same s.stand.second) (plain_at s other 2 s.reads.c same s.stand.third))
    (plus_same (signature_in s) (stamp_in s) (weighed other (off s 0) (off s 1) (off s 2)) _ _
    (exchange (multiplier other 0) (multiplier other 1) (multiplier other 2) (multiplier k 0) (multiplier k 1) (multiplier k 2) (origin_in s 0)
    (origin_in s 1) (origin_in s 2)))

-- ---- sums in another order

later : (o t d e : ℤ) → o +ℤ t +ℤ d +ℤ e ≡ o +ℤ t +ℤ (d +ℤ e)
later o t d e = omega (arith, ints)

earlier : (o t s d : ℤ) → o +ℤ (t -ℤ s) +ℤ d ≡ o +ℤ t +ℤ (d -ℤ s)
earlier o t s d = omega (arith, ints)

first_of : (a b : Bool) → (a && b) ≡ true → a ≡ true
first_of true b h = refl
first_of false b h = absurd (false≢true h)

-- ---- another operand

most_operands : (k : Kind) → nat_le (operands k) 3 ≡ true
most_operands kind.Input = refl
most_operands kind.Const = refl
most_operands kind.Load = refl
most_operands kind.Store = refl
most_operands kind.Out = refl
most_operands kind.Conv = refl
most_operands kind.Neg = refl
most_operands kind.Not = refl
most_operands kind.Add = refl
most_operands kind.Sub = refl
most_operands kind.Mul = refl
most_operands kind.Div = refl
most_operands kind.Mod = refl
most_operands kind.Eq = refl
most_operands kind.Lt = refl
most_operands kind.And = refl
most_operands kind.Or = refl
most_operands kind.Xor = refl
most_operands kind.Sel = refl

no_fourth : (k : Kind) (j : ℕ) → nat_lt (suc (suc (suc j))) (operands k) ≡ true → ⊥
no_fourth k j h = let most = most_operands k in grind (arith, nat_tests)

first_replaced : (s t m0 m1 m2 d0 d1 d2 y e : ℤ) →
    s +ℤ t +ℤ ((m0 *ℤ y +ℤ m1 *ℤ d1 +ℤ m2 *ℤ d2) +ℤ (e -ℤ e)) ≡ s +ℤ t +ℤ ((m0 *ℤ d0 +ℤ m1 *ℤ d1 +ℤ m2 *ℤ d2) +ℤ m0 *ℤ (y -ℤ d0))
first_replaced s t m0 m1 m2 d0 d1 d2 y e = let h = times_minus m0 y d0 in omega (arith, ints, h)

second_replaced : (s t m0 m1 m2 d0 d1 d2 y e : ℤ) →
    s +ℤ t +ℤ ((m0 *ℤ d0 +ℤ m1 *ℤ y +ℤ m2 *ℤ d2) +ℤ (e -ℤ e)) ≡ s +ℤ t +ℤ ((m0 *ℤ d0 +ℤ m1 *ℤ d1 +ℤ m2 *ℤ d2) +ℤ m1 *ℤ (y -ℤ d1))
second_replaced s t m0 m1 m2 d0 d1 d2 y e = let h = times_minus m1 y d1 in omega (arith, ints, h)

third_replaced : (s t m0 m1 m2 d0 d1 d2 y e : ℤ) →
    s +ℤ t +ℤ ((m0 *ℤ d0 +ℤ m1 *ℤ d1 +ℤ m2 *ℤ y) +ℤ (e -ℤ e)) ≡ s +ℤ t +ℤ ((m0 *ℤ d0 +ℤ m1 *ℤ d1 +ℤ m2 *ℤ d2) +ℤ m2 *ℤ (y -ℤ d2))
third_replaced s t m0 m1 m2 d0 d1 d2 y e = let h = times_minus m2 y d2 in omega (arith, ints, h)

-- operand i is a word of the value V i and the difference y
replaced : (s : Scene) (i : ℕ) (w y : ℤ) (V : ℕ → ℤ) → nat_lt i (operands s.op.kind) ≡ true →
    w ≡ coded s.graph.profile (V i) (modulo s.graph.profile (origin_in s i +ℤ stamp_in s +ℤ y)) →
    Stands s (done_as s s.op.kind (cond (i == 0) (V 0) (plain s 0)) (cond (i == 1) (V 1) (plain s 1)) (cond (i == 2) (V 2) (plain s 2)))
    (brought s.course.differences s.op s.op.kind +ℤ multiplier s.op.kind i *ℤ (y -ℤ off s i))
    (Right (with_operand (call_in s) i w))
replaced s zero w y V within is =
    let k = s.op.kind in
    residue_is s (done_as s k (V 0) (plain s 1) (plain s 2)) (Right (with_operand (call_in s) 0 w)) _
    (brought s.course.differences s.op k +ℤ multiplier k 0 *ℤ (y -ℤ off s 0))
    (with_three s k w s.reads.b s.reads.c (V 0) (plain s 1) (plain s 2) y (off s 1) (off s 2)
    (there_read s.graph.profile (stamp_in s) k k 0 w (V 0) (origin_in s 0) y is) (plain_at s k 1 s.reads.b refl s.stand.second)
    (plain_at s k 2 s.reads.c refl s.stand.third))
    (first_replaced (signature_in s) (stamp_in s) (multiplier k 0) (multiplier k 1) (multiplier k 2) (off s 0) (off s 1) (off s 2) y
    (weighed k (origin_in s 0) (origin_in s 1) (origin_in s 2)))
replaced s (suc zero) w y V within is =
    let k = s.op.kind in
    residue_is s (done_as s k (plain s 0) (V 1) (plain s 2)) (Right (with_operand (call_in s) 1 w)) _
    (brought s.course.differences s.op k +ℤ multiplier k 1 *ℤ (y -ℤ off s 1))
    (with_three s k s.reads.a w s.reads.c (plain s 0) (V 1) (plain s 2) (off s 0) y (off s 2)
    (plain_at s k 0 s.reads.a refl s.stand.first) (there_read s.graph.profile (stamp_in s) k k 1 w (V 1) (origin_in s 1) y is)
    (plain_at s k 2 s.reads.c refl s.stand.third))
    (second_replaced (signature_in s) (stamp_in s) (multiplier k 0) (multiplier k 1) (multiplier k 2) (off s 0) (off s 1) (off s 2) y
    (weighed k (origin_in s 0) (origin_in s 1) (origin_in s 2)))
replaced s (suc (suc zero)) w y V within is =
    let k = s.op.kind in
    residue_is s (done_as s k (plain s 0) (plain s 1) (V 2)) (Right (with_operand (call_in s) 2 w)) _
    (brought s.course.differences s.op k +ℤ multiplier k 2 *ℤ (y -ℤ off s 2))
    (with_three s k s.reads.a s.reads.b w (plain s 0) (plain s 1) (V 2) (off s 0) (off s 1) y
    (plain_at s k 0 s.reads.a refl s.stand.first) (plain_at s k 1 s.reads.b refl s.stand.second)
    (there_read s.graph.profile (stamp_in s) k k 2 w (V 2) (origin_in s 2) y is))
    (third_replaced (signature_in s) (stamp_in s) (multiplier k 0) (multiplier k 1) (multiplier k 2) (off s 0) (off s 1) (off s 2) y
    (weighed k (origin_in s 0) (origin_in s 1) (origin_in s 2)))
replaced s (suc (suc (suc i))) w y V within is = absurd (no_fourth s.op.kind i within)

-- the word of operand i, which is there
operand_is : (s : Scene) (i : ℕ) (w : ℤ) → nat_lt i (operands s.op.kind) ≡ true → OperandStands (table s) s.graph s.cycle s.course s.op i w →
    w ≡ coded s.graph.profile (read s.course.now s.op i) (modulo s.graph.profile (origin_in s i +ℤ stamp_in s +ℤ off s i))
operand_is s i w within is = is ∙ present (nat_lt i (operands s.op.kind)) _ _ within

-- the word of operand i of the call
abbrev word_in : Scene → ℕ → ℤ
word_in s zero = s.reads.a
word_in s (suc zero) = s.reads.b
word_in s (suc (suc j)) = s.reads.c

word_stands : (s : Scene) (i : ℕ) → nat_lt i (operands s.op.kind) ≡ true → OperandStands (table s) s.graph s.cycle s.course s.op i (word_in s i)
word_stands s zero within = s.stand.first
word_stands s (suc zero) within = s.stand.second
word_stands s (suc (suc zero)) within = s.stand.third
word_stands s (suc (suc (suc j))) within = absurd (no_fourth s.op.kind j within)

-- an operand with e added
added_word : (s : Scene) (i : ℕ) (w e : ℤ) → nat_lt i (operands s.op.kind) ≡ true → is_addend e ≡ true → Near (read s.course.now s.op i) →
    OperandStands (table s) s.graph s.cycle s.course s.op i w →
    nearest_word (w +ℤ e)
    ≡ coded s.graph.profile (plain s i +ℤ carry s.graph.profile (operand_residue (table s) s.graph s.cycle s.course.differences s.op i) e)
    (modulo s.graph.profile (origin_in s i +ℤ stamp_in s +ℤ (off s i +ℤ e)))
added_word s i w e within addend near stands =
    let p = s.graph.profile in
    let v = read s.course.now s.op i in
    let z = origin_in s i +ℤ stamp_in s +ℤ off s i in
    let more = carry p (modulo p z) e in
    ap (λ (x : ℤ). nearest_word (x +ℤ e)) (operand_is s i w within stands)
    ∙ (shifted_word p (s.laws.words p) v z e near addend
    ∙ (ap (λ (x : ℤ). coded p (x +ℤ more) (modulo p (z +ℤ e))) (sym (present (nat_lt i (operands s.op.kind)) v (pos 0) within))
    ∙ ap (λ (y : ℤ). coded p (plain s i +ℤ more) (modulo p y)) (later (origin_in s i) (stamp_in s) (off s i) e)))

-- the operand of a call, by the place of its word
word_of_call : (s : Scene) (i : ℕ) → operand_word (call_in s) i ≡ word_in s i
word_of_call s zero = refl
word_of_call s (suc zero) = refl
word_of_call s (suc (suc i)) = refl

added_difference : (s : Scene) (i : ℕ) (e : ℤ) → brought s.course.differences s.op s.op.kind +ℤ multiplier s.op.kind i *ℤ (off s i +ℤ e -ℤ off s i)
    ≡ brought s.course.differences s.op s.op.kind +ℤ multiplier s.op.kind i *ℤ e
added_difference s i e = ap (λ (y : ℤ). brought s.course.differences s.op s.op.kind +ℤ multiplier s.op.kind i *ℤ y) (back (off s i) e)
  where
    back : (d e : ℤ) → d +ℤ e -ℤ d ≡ e
    back d e = omega (arith, ints)

with_added : (s : Scene) (i : ℕ) (e : ℤ) → nat_lt i (operands s.op.kind) ≡ true → is_addend e ≡ true → ((j : ℕ) → Near (read s.course.now s.op j)) →
    Stands s (done_under (table s) s.graph s.cycle s.row s.course s.op (Some (act.OperandAdd i e)))
    (brought s.course.differences s.op s.op.kind +ℤ multiplier s.op.kind i *ℤ e)
    (Right (with_operand (call_in s) i (nearest_word (operand_word (call_in s) i +ℤ e))))
with_added s i e within addend near =
    let V = λ (j : ℕ). plain s j +ℤ carry s.graph.profile (operand_residue (table s) s.graph s.cycle s.course.differences s.op j) e in
    let word : nearest_word (operand_word (call_in s) i +ℤ e) ≡ coded s.graph.profile (V i)
    (modulo s.graph.profile (origin_in s i +ℤ stamp_in s +ℤ (off s i +ℤ e))) =
    ap (λ (x : ℤ). nearest_word (x +ℤ e)) (word_of_call s i) ∙ added_word s i (word_in s i) e within addend (near i) (word_stands s i within) in
    subst
    (λ (d : ℤ). Stands s (done_under (table s) s.graph s.cycle s.row s.course s.op (Some (act.OperandAdd i e))) d
    (Right (with_operand (call_in s) i (nearest_word (operand_word (call_in s) i +ℤ e)))))
    (added_difference s i e) (replaced s i _ (off s i +ℤ e) V within word)

-- an operand that is a register
with_register : (s : Scene) (i r : ℕ) (w : ℤ) → nat_lt i (operands s.op.kind) ≡ true →
    TakenStands (table s) s.graph s.cycle s.course s.number s.op (Some (act.OperandFrom i r)) w →
    Stands s (done_under (table s) s.graph s.cycle s.row s.course s.op (Some (act.OperandFrom i r)))
    (difference (table s) s.graph s.course.past_differences s.course.differences s.number s.op (Some (act.OperandFrom i r)))
    (Right (with_operand (call_in s) i w))
with_register s i r w within stands =
    let p = s.graph.profile in
    let sig = pos (signature p s.seed r) in
    let d = at s.course.differences.given r in
    replaced s i w (d +ℤ sig -ℤ origin_in s i) (λ (j : ℕ). at s.course.now.given r) within
    (stands ∙ ap (λ (y : ℤ). coded p (at s.course.now.given r) (modulo p y)) (moved sig (stamp_in s) d (origin_in s i)))
  where
    moved : (s t d o : ℤ) → s +ℤ t +ℤ d ≡ o +ℤ t +ℤ (d +ℤ s -ℤ o)
    moved s t d o = omega (arith, ints)

-- an operand of the cycle before
with_stale : (s : Scene) (i : ℕ) (w : ℤ) → nat_lt i (operands s.op.kind) ≡ true →
    TakenStands (table s) s.graph s.cycle s.course s.number s.op (Some (act.OperandStale i)) w →
    Stands s (done_under (table s) s.graph s.cycle s.row s.course s.op (Some (act.OperandStale i)))
    (difference (table s) s.graph s.course.past_differences s.course.differences s.number s.op (Some (act.OperandStale i)))
    (Right (with_operand (call_in s) i w))
with_stale s i w within stands =
    let p = s.graph.profile in
    let v = read s.course.past s.op i in
    let d = read s.course.past_differences s.op i in
    let z = origin_in s i +ℤ stamp_past (table s) s.cycle +ℤ d in
    replaced s i w (d -ℤ pos s.step) (λ (j : ℕ). plain_operand s.course.past s.op j) within
    (stands
    ∙ (ap (λ (x : ℤ). coded p x (modulo p z)) (sym (present (nat_lt i (operands s.op.kind)) v (pos 0) within))
    ∙ ap (λ (y : ℤ). coded p (plain_operand s.course.past s.op i) (modulo p y)) (earlier (origin_in s i) (stamp_in s) (pos s.step) d)))

-- ---- an answer with e added

value_between : (k : Kind) (from to : Ty) (imm x y z v : ℤ) → outcome k from to imm x y z ≡ Ok v → Between (neg_ℤ (pos (2 ^ 63))) (pos (2 ^ 63)) v
value_between k from to imm x y z v =
    by_tests (operands_fit k from x y z) (divides_by_zero k y) (fits to (value k imm x y z)) (value k imm x y z) (λ h. fits_between to (value k imm x y z) h)
  where
    by_tests : (fit by in_type : Bool) (u : ℤ) → (in_type ≡ true → Between (neg_ℤ (pos (2 ^ 63))) (pos (2 ^ 63)) u) →
        cond fit (cond by (Err stop.DivZero) (cond in_type (Ok u) (Err stop.Range))) (Err stop.Operand) ≡ Ok v → Between (neg_ℤ (pos (2 ^ 63))) (pos (2 ^ 63)) v
    by_tests false by in_type u h e = absurd cc
    by_tests true true in_type u h e = absurd cc
    by_tests true false false u h e = absurd cc
    by_tests true false true u h e = let same : u ≡ v = cc in subst (Between (neg_ℤ (pos (2 ^ 63))) (pos (2 ^ 63))) same (h refl)

shifted_answer : (p : Profile) → WordLaws p → (o : Outcome) (z e : ℤ) → is_addend e ≡ true → ((v : ℤ) → o ≡ Ok v → Near v) →
    shifted e (answer_of p o (modulo p z)) ≡ answer_of p (raised p (modulo p z) e o) (modulo p (z +ℤ e))
shifted_answer p laws (Ok v) z e addend near = ap (λ (w : ℤ). answer.Word w) (shifted_word p laws v z e (near v refl) addend)
shifted_answer p laws (Err stop.Range) z e addend near = refl
shifted_answer p laws (Err stop.DivZero) z e addend near = refl
shifted_answer p laws (Err stop.Operand) z e addend near = refl

with_sum : (s : Scene) (e : ℤ) → is_addend e ≡ true →
    Stands s (outcome_under (table s) s.graph s.cycle s.row s.course s.number s.op (Some (act.ResultAdd e)))
    (brought s.course.differences s.op s.op.kind +ℤ e) (shifted e (Right (call_in s)))
with_sum s e addend =
    let p = s.graph.profile in
    let o = done_as s s.op.kind (plain s 0) (plain s 1) (plain s 2) in
    let z = signature_in s +ℤ stamp_in s +ℤ brought s.course.differences s.op s.op.kind in
    residue_is s (raised p (modulo p z) e o) (shifted e (Right (call_in s))) (z +ℤ e) (brought s.course.differences s.op s.op.kind +ℤ e)
    (ap (shifted e) (unchanged s)
    ∙ shifted_answer p (s.laws.words p) o z e addend
    (λ v is. near_of v (value_between s.op.kind s.op.from s.op.ty (own s.row s.op.kind s.op.imm) (plain s 0) (plain s 1) (plain s 2) v is)))
    (later (signature_in s) (stamp_in s) (brought s.course.differences s.op s.op.kind) e)

-- ---- the step

step_in : (s : Scene) (a : Option Act) (w : ℤ) → MayStand s.op.kind s.number s.cycle a → ((j : ℕ) → Near (read s.course.now s.op j)) →
    TakenStands (table s) s.graph s.cycle s.course s.number s.op a w →
    Stands s (outcome_under (table s) s.graph s.cycle s.row s.course s.number s.op a)
    (difference (table s) s.graph s.course.past_differences s.course.differences s.number s.op a) (right_by a w (call_in s))
step_in s None w fit near taken = unchanged s
step_in s (Some (act.OperandAdd i e)) w fit near taken = with_added s i e fit.sited fit.moderate near
step_in s (Some (act.OperandFrom i r)) w fit near taken = with_register s i r w (first_of (nat_lt i (operands s.op.kind)) (nat_lt r s.number) fit.sited) taken
step_in s (Some (act.OperandStale i)) w fit near taken = with_stale s i w fit.sited taken
step_in s (Some (act.ResultAdd e)) w fit near taken = with_sum s e fit.moderate
step_in s (Some (act.Operator other)) w fit near taken = as_other s other (eqb-true (operands other) (operands s.op.kind) fit.alike)
step_in s (Some act.Skip) w fit near taken =
    let p = s.graph.profile in
    ap (λ (v : ℤ). answer.Word v)
    (taken ∙ ap (λ (y : ℤ). coded p (at s.course.past.given s.number) (modulo p y))
    (earlier (signature_in s) (stamp_in s) (pos s.step) (at s.course.past_differences.given s.number)))

-- the step where the table is of the graph's code
pub step_under : (laws : Laws) → StepUnder
step_under laws t g n k row c op reads a w same fit near stand taken =
    subst
    (λ (p : Profile). Under (record t { profile = p })) (sym same)
    (λ near stand taken. step_in
    (record {
      laws = laws;
      graph = g;
      seed = t.seed;
      step = t.step;
      corrections = t.corrections;
      cycle = n;
      number = k;
      row = row;
      course = c;
      op = op;
      reads = reads;
      stand = stand;
    }) a w fit near taken)
    near stand taken
  where
    Under : Numbers → Type 0
    Under u = ((j : ℕ) → Near (read c.now op j)) → ReadsStand u g n row c op reads → TakenStands u g n c k op a w →
        right_by a w (operation_call g u n k op reads)
        ≡ answer_of u.profile (outcome_under u g n row c k op a)
        (modulo u.profile (pos (signature u.profile u.seed k) +ℤ pos (stamp u.step n) +ℤ difference u g c.past_differences c.differences k op a))

-- ---- values stay near

near_done : (t : Numbers) (g : Lists) (n : ℕ) (row : List ℤ) (c : Course) (op : Op) (a : Option Act) →
    IfOk (done_under t g n row c op a) (λ v. Between (neg_ℤ (pos (2 ^ 63))) (pos (2 ^ 63)) v)
near_done t g n row c op a = if_ok (done_under t g n row c op a)
    (λ v is. value_between (kind_under a op.kind) op.from op.ty (own row op.kind op.imm) (operand_under t g n c op a 0) (operand_under t g n c op a 1)
    (operand_under t g n c op a 2) v is)
  where
    if_ok : (o : Outcome) → ((v : ℤ) → o ≡ Ok v → Between (neg_ℤ (pos (2 ^ 63))) (pos (2 ^ 63)) v) →
        IfOk o (λ v. Between (neg_ℤ (pos (2 ^ 63))) (pos (2 ^ 63)) v)
    if_ok (Ok v) h = h v refl
    if_ok (Err why) h = tt

near_as_it_is : (o : Outcome) → IfOk o (λ v. Between (neg_ℤ (pos (2 ^ 63))) (pos (2 ^ 63)) v) → IfOk o Near
near_as_it_is (Ok v) h = near_of v h
near_as_it_is (Err why) h = tt

near_raised : (p : Profile) → WordLaws p → (z e : ℤ) (o : Outcome) → is_addend e ≡ true → IfOk o (λ v. Between (neg_ℤ (pos (2 ^ 63))) (pos (2 ^ 63)) v) →
    IfOk (raised p (modulo p z) e o) Near
near_raised p laws z e (Ok v) addend h = carry_near p laws v z e h addend
near_raised p laws z e (Err why) addend h = tt

pub outcomes_are_near : (laws : Laws) → OutcomesAreNear
outcomes_are_near laws t g n k row c op None fit near = near_as_it_is (done_under t g n row c op None) (near_done t g n row c op None)
outcomes_are_near laws t g n k row c op (Some (act.OperandAdd i e)) fit near =
    near_as_it_is (done_under t g n row c op (Some (act.OperandAdd i e))) (near_done t g n row c op (Some (act.OperandAdd i e)))
outcomes_are_near laws t g n k row c op (Some (act.OperandFrom i r)) fit near =
    near_as_it_is (done_under t g n row c op (Some (act.OperandFrom i r))) (near_done t g n row c op (Some (act.OperandFrom i r)))
outcomes_are_near laws t g n k row c op (Some (act.OperandStale i)) fit near =
    near_as_it_is (done_under t g n row c op (Some (act.OperandStale i))) (near_done t g n row c op (Some (act.OperandStale i)))
outcomes_are_near laws t g n k row c op (Some (act.ResultAdd e)) fit near =
    near_raised t.profile (laws.words t.profile) (pos (signature t.profile t.seed k) +ℤ pos (stamp t.step n) +ℤ brought c.differences op op.kind) e
    (done_under t g n row c op (Some (act.ResultAdd e))) fit.moderate (near_done t g n row c op (Some (act.ResultAdd e)))
outcomes_are_near laws t g n k row c op (Some (act.Operator other)) fit near =
    near_as_it_is (done_under t g n row c op (Some (act.Operator other))) (near_done t g n row c op (Some (act.Operator other)))
outcomes_are_near laws t g n k row c op (Some act.Skip) fit near = near
