-- Alone: one fault alone makes the difference of its act, and none stands before it.
use Rattle.std.proofs.Common.{◌≡◌, ℕ, zero, suc, ◌+◌, ◌<◌, ◌==◌, ◌&&◌, Bool, true, false, cond, List, [], ◌∷◌, ◌++◌, length, map, Option, Some, None, slice_get}
use Rattle.std.proofs.Common.{ℤ, pos, neg_ℤ, ◌+ℤ◌, ◌-ℤ◌, ◌*ℤ◌, unsigned_abs, refl, sym, ap, subst, ◌∙◌, arith}
use Rattle.std.proofs.Math.IntN.{*ℤ-zero}
use Rattle.std.proofs.lemmas.Bool.{eq-eqb}
use Rattle.std.proofs.lemmas.Bool.Decides.{nat_tests}
use Rattle.std.proofs.lemmas.Int.{ints}
use Rattle.std.proofs.lemmas.List.{get_or_append_left, length-append}
use Rattle.vcp_base.specs.declared.kind.Kind.{Kind}
use Rattle.vcp_base.specs.declared.kind.Kind.TheVariants as kind
use Rattle.vcp_base.specs.Kinds.{multiplier}
use Rattle.vcp_base.specs.Values.{at}
use Rattle.coded_unit.specs.Step.{weighed}
use Rattle.op_graph.specs.declared.op.Op.{Op}
use Rattle.op_graph.specs.Lists.{Lists}
use Rattle.op_graph.specs.Reads.{named}
use Rattle.signature_table.specs.Signatures.{Numbers, signature}
use Rattle.fault_script.specs.declared.act.Act.{Act}
use Rattle.fault_script.specs.declared.act.Act.TheVariants as act
use Rattle.fault_script.specs.declared.act.Fault.{Fault}
use Rattle.fault_script.specs.Changes.{acts_of}
use Rattle.fault_script.specs.Differences.{Frame, origin, read, read_as, brought, difference, given_from, held_after, cycle_after, no_frame, frame}
use Rattle.fault_script.specs.Differences.{made, OneFault}

-- ---- no differences

abbrev Zeros : List ℤ → Type 0
Zeros [] = Unit {0}
Zeros (d ∷ ds) = (d ≡ pos 0) × Zeros ds

at_zeros : (ds : List ℤ) (i : ℕ) → Zeros ds → at ds i ≡ pos 0
at_zeros [] i h = refl
at_zeros (d ∷ ds) zero h = h.0
at_zeros (d ∷ ds) (suc i) h = at_zeros ds i h.1

zeros_more : (ds : List ℤ) (d : ℤ) → Zeros ds → d ≡ pos 0 → Zeros (ds ++ d ∷ [])
zeros_more [] d h e = (e, tt)
zeros_more (c ∷ ds) d h e = (h.0, zeros_more ds d h.1 e)

record Quiet (f : Frame) : Type 0 where
  held : Zeros f.held
  given : Zeros f.given

read_zero : (f : Frame) (op : Op) (j : ℕ) → Quiet f → (k : Kind) → read_as f op j k ≡ pos 0
read_zero f op j h kind.Load = at_zeros f.held (unsigned_abs op.imm) h.held
read_zero f op j h _ = at_zeros f.given (named op j) h.given

weighed_zeros : (k : Kind) (a b c : ℤ) → a ≡ pos 0 → b ≡ pos 0 → c ≡ pos 0 → weighed k a b c ≡ pos 0
weighed_zeros k a b c e f g =
    let first : multiplier k 0 *ℤ a ≡ pos 0 = ap (λ (z : ℤ). multiplier k 0 *ℤ z) e ∙ *ℤ-zero (multiplier k 0) in
    let second : multiplier k 1 *ℤ b ≡ pos 0 = ap (λ (z : ℤ). multiplier k 1 *ℤ z) f ∙ *ℤ-zero (multiplier k 1) in
    let third : multiplier k 2 *ℤ c ≡ pos 0 = ap (λ (z : ℤ). multiplier k 2 *ℤ z) g ∙ *ℤ-zero (multiplier k 2) in
    omega (arith, ints, first, second, third)

brought_zero : (f : Frame) (op : Op) (k : Kind) → Quiet f → brought f op k ≡ pos 0
brought_zero f op k h =
    weighed_zeros k (read f op 0) (read f op 1) (read f op 2) (read_zero f op 0 h op.kind) (read_zero f op 1 h op.kind) (read_zero f op 2 h op.kind)

-- ---- the simple table

zero_and : (x y : ℤ) → x ≡ pos 0 → x +ℤ y ≡ y
zero_and x y e = omega (arith, ints, e)

zero_less : (x y : ℤ) → x ≡ pos 0 → x -ℤ y ≡ neg_ℤ y
zero_less x y e = omega (arith, ints, e)

from_alone : (d b e x : ℤ) → d ≡ pos 0 → x ≡ pos 0 → d +ℤ b -ℤ e -ℤ x ≡ b -ℤ e
from_alone d b e x h k = omega (arith, ints, h, k)

stale_alone : (d s x : ℤ) → d ≡ pos 0 → x ≡ pos 0 → d -ℤ s -ℤ x ≡ neg_ℤ s
stale_alone d s x h k = omega (arith, ints, h, k)

made_alone : (t : Numbers) (g : Lists) (past now : Frame) (k : ℕ) (op : Op) (a : Act) → Quiet past → Quiet now
    → difference t g past now k op (Some a) ≡ made t g op a
made_alone t g past now k op (act.OperandAdd j e) h q = zero_and (brought now op op.kind) (multiplier op.kind j *ℤ e) (brought_zero now op op.kind q)
made_alone t g past now k op (act.OperandFrom j r) h q =
    zero_and (brought now op op.kind) _ (brought_zero now op op.kind q)
    ∙ ap (λ (z : ℤ). multiplier op.kind j *ℤ z)
    (from_alone (at now.given r) (pos (signature t.profile t.seed r)) (origin t g op j) (read now op j) (at_zeros now.given r q.given)
    (read_zero now op j q op.kind))
made_alone t g past now k op (act.OperandStale j) h q =
    zero_and (brought now op op.kind) _ (brought_zero now op op.kind q)
    ∙ ap (λ (z : ℤ). multiplier op.kind j *ℤ z)
    (stale_alone (read past op j) (pos t.step) (read now op j) (read_zero past op j h op.kind) (read_zero now op j q op.kind))
made_alone t g past now k op (act.ResultAdd e) h q = zero_and (brought now op op.kind) e (brought_zero now op op.kind q)
made_alone t g past now k op (act.Operator other) h q = zero_and (brought now op other) _ (brought_zero now op other q)
made_alone t g past now k op act.Skip h q = zero_less (at past.given k) (pos t.step) (at_zeros past.given k h.given)

-- ---- a cycle without acts

none_zero : (t : Numbers) (g : Lists) (past now : Frame) (k : ℕ) (op : Op) (a : Option Act) → a ≡ None → Quiet now → difference t g past now k op a ≡ pos 0
none_zero t g past now k op a e q = ap (difference t g past now k op) e ∙ brought_zero now op op.kind q

quiet_from : (t : Numbers) (g : Lists) (acts : ℕ → Option Act) (past : Frame) (held before : List ℤ) (k : ℕ) (ops : List Op) → ((i : ℕ) → acts i ≡ None)
    → Zeros held → Zeros before
    → Zeros (given_from t g acts past held before k ops)
quiet_from t g acts past held before k [] none h b = b
quiet_from t g acts past held before k (op ∷ ops) none h b =
    quiet_from t g acts past held (before ++ difference t g past (record { held = held; given = before }) k op (acts k) ∷ []) (k + 1) ops none h
    (zeros_more before _ b (none_zero t g past (record { held = held; given = before }) k op (acts k) (none k) (record { held = h; given = b })))

held_zeros : (given : List ℤ) (stores : List ℕ) → Zeros given → Zeros (map (λ n. at given n) stores)
held_zeros given [] h = tt
held_zeros given (n ∷ stores) h = (at_zeros given n h, held_zeros given stores h)

quiet_after : (t : Numbers) (g : Lists) (acts : ℕ → Option Act) (past : Frame) → ((i : ℕ) → acts i ≡ None) → Quiet past → Quiet (cycle_after t g acts past)
quiet_after t g acts past none h =
    let held = held_zeros past.given g.stores h.given in
    record { held = held; given = quiet_from t g acts past (held_after g past.given) [] 0 g.operations none held tt }

-- ---- the cycles before the fault's

other_cycle : (f : Fault) (n k : ℕ) → n < f.cycle → acts_of (f ∷ []) n k ≡ None
other_cycle f n k below =
    let other : (f.cycle == n) ≡ false = grind (arith, nat_tests) in
    ap (λ (b : Bool). cond (b && f.op == k) (Some f.act) None) other

quiet_before : (t : Numbers) (g : Lists) (f : Fault) (n : ℕ) → n < f.cycle → Quiet (frame t g (acts_of (f ∷ [])) n)
quiet_before t g f zero below = quiet_after t g (acts_of (f ∷ []) 0) no_frame (λ i. other_cycle f 0 i below) (record { held = tt; given = tt })
quiet_before t g f (suc n) below =
    quiet_after t g (acts_of (f ∷ []) (suc n)) (frame t g (acts_of (f ∷ [])) n) (λ i. other_cycle f (suc n) i below)
    (quiet_before t g f n (omega (arith, below)))

-- ---- the fault's cycle

-- the differences that are there stay
stay_from : (t : Numbers) (g : Lists) (acts : ℕ → Option Act) (past : Frame) (held before : List ℤ) (k : ℕ) (ops : List Op) (i : ℕ) → i < length before
    → at (given_from t g acts past held before k ops) i ≡ at before i
stay_from t g acts past held before k [] i below = refl
stay_from t g acts past held before k (op ∷ ops) i below =
    let d = difference t g past (record { held = held; given = before }) k op (acts k) in
    stay_from t g acts past held (before ++ d ∷ []) (k + 1) ops i (omega (arith, below, length-append before (d ∷ [])))
    ∙ get_or_append_left before (d ∷ []) (pos 0) i below

last_of : (before : List ℤ) (d : ℤ) → at (before ++ d ∷ []) (length before) ≡ d
last_of [] d = refl
last_of (c ∷ before) d = last_of before d

some_same : (o op : Op) (ops : List Op) → slice_get (o ∷ ops) 0 ≡ Some op → o ≡ op
some_same o op ops e = cc

nothing_there : (more : ℕ) (op : Op) → slice_get {X = Op} [] more ≡ Some op → ⊥
nothing_there more op e = absurd cc

plus_zero : (k : ℕ) → k + 0 ≡ k
plus_zero k = omega arith

zero_plus : (k : ℕ) → 0 + k ≡ k
zero_plus k = omega arith

record Stands (ds : List ℤ) (k : ℕ) (d : ℤ) : Type 0 where
  earlier : (i : ℕ) → i < k → at ds i ≡ pos 0
  there : at ds k ≡ d

-- the operations from k on, of which the one after `more` others has the act
fault_from : (t : Numbers) (g : Lists) (acts : ℕ → Option Act) (past : Frame) (held before : List ℤ) (k : ℕ) (ops : List Op) (more : ℕ) (op : Op) (a : Act)
    → Quiet past → Zeros held → Zeros before
    → length before ≡ k → ((i : ℕ) → i < k + more → acts i ≡ None) → acts (k + more) ≡ Some a → slice_get ops more ≡ Some op
    → Stands (given_from t g acts past held before k ops) (k + more) (made t g op a)
fault_from t g acts past held before k [] more op a q h b many none some there = absurd (nothing_there more op there)
fault_from t g acts past held before k (o ∷ ops) zero op a q h b many none some there =
    let now : Frame = record { held = held; given = before } in
    let d = difference t g past now k o (acts k) in
    let same : o ≡ op = some_same o op ops there in
    let is : acts k ≡ Some a = ap acts (sym (plus_zero k)) ∙ some in
    let value : d ≡ made t g op a = ap (difference t g past now k o) is
    ∙ (made_alone t g past now k o a q (record { held = h; given = b }) ∙ ap (λ (x : Op). made t g x a) same) in
    let whole = given_from t g acts past held (before ++ d ∷ []) (k + 1) ops in
    let room : length (before ++ d ∷ []) ≡ k + 1 = length-append before (d ∷ []) ∙ ap (λ (n : ℕ). n + 1) many in
    record {
      earlier = λ i below.
          stay_from t g acts past held (before ++ d ∷ []) (k + 1) ops i (omega (arith, below, room))
          ∙ (get_or_append_left before (d ∷ []) (pos 0) i (omega (arith, below, many)) ∙ at_zeros before i b);
      there =
          ap (at whole) (plus_zero k)
          ∙ (stay_from t g acts past held (before ++ d ∷ []) (k + 1) ops k (omega (arith, room))
          ∙ (ap (at (before ++ d ∷ [])) (sym many) ∙ (last_of before d ∙ value)));
    }
fault_from t g acts past held before k (o ∷ ops) (suc more) op a q h b many none some there =
    let now : Frame = record { held = held; given = before } in
    let d = difference t g past now k o (acts k) in
    let zero_d : d ≡ pos 0 = none_zero t g past now k o (acts k) (none k (omega arith)) (record { held = h; given = b }) in
    let room : length (before ++ d ∷ []) ≡ k + 1 = length-append before (d ∷ []) ∙ ap (λ (n : ℕ). n + 1) many in
    let place : k + 1 + more ≡ k + suc more = omega arith in
    subst (λ (n : ℕ). Stands (given_from t g acts past held (before ++ d ∷ []) (k + 1) ops) n (made t g op a)) place
    (fault_from t g acts past held (before ++ d ∷ []) (k + 1) ops more op a q h (zeros_more before d b zero_d) room
    (λ i below. none i (omega (arith, below))) (ap acts place ∙ some) there)

and_false : (b : Bool) (a : Act) → cond (b && false) (Some a) None ≡ None
and_false true a = refl
and_false false a = refl

earlier_op : (f : Fault) (i : ℕ) → i < f.op → acts_of (f ∷ []) f.cycle i ≡ None
earlier_op f i below =
    let other : (f.op == i) ≡ false = grind (arith, nat_tests) in
    ap (λ (b : Bool). cond (f.cycle == f.cycle && b) (Some f.act) None) other ∙ and_false (f.cycle == f.cycle) f.act

this_op : (f : Fault) → acts_of (f ∷ []) f.cycle f.op ≡ Some f.act
this_op f =
    let cycle : (f.cycle == f.cycle) ≡ true = eq-eqb f.cycle f.cycle refl in
    let op : (f.op == f.op) ≡ true = eq-eqb f.op f.op refl in
    ap (λ (b : Bool). cond (b && f.op == f.op) (Some f.act) None) cycle ∙ ap (λ (b : Bool). cond b (Some f.act) None) op

in_cycle : (t : Numbers) (g : Lists) (f : Fault) (op : Op) (past : Frame) → Quiet past → slice_get g.operations f.op ≡ Some op
    → Stands (cycle_after t g (acts_of (f ∷ []) f.cycle) past).given f.op (made t g op f.act)
in_cycle t g f op past q there =
    subst (λ (n : ℕ). Stands (cycle_after t g (acts_of (f ∷ []) f.cycle) past).given n (made t g op f.act)) (zero_plus f.op)
    (fault_from t g (acts_of (f ∷ []) f.cycle) past (held_after g past.given) [] 0 g.operations f.op op f.act q (held_zeros past.given g.stores q.given) tt refl
    (λ i below. earlier_op f i (omega (arith, below))) (ap (acts_of (f ∷ []) f.cycle) (zero_plus f.op) ∙ this_op f) there)

in_frame : (t : Numbers) (g : Lists) (f : Fault) (op : Op) (n : ℕ) → f.cycle ≡ n → slice_get g.operations f.op ≡ Some op
    → Stands (frame t g (acts_of (f ∷ [])) n).given f.op (made t g op f.act)
in_frame t g f op zero e there =
    subst (λ (n : ℕ). Stands (cycle_after t g (acts_of (f ∷ []) n) no_frame).given f.op (made t g op f.act)) e
    (in_cycle t g f op no_frame (record { held = tt; given = tt }) there)
in_frame t g f op (suc n) e there =
    subst (λ (m : ℕ). Stands (cycle_after t g (acts_of (f ∷ []) m) (frame t g (acts_of (f ∷ [])) n)).given f.op (made t g op f.act)) e
    (in_cycle t g f op (frame t g (acts_of (f ∷ [])) n) (quiet_before t g f n (omega (arith, e))) there)

pub one_fault : (t : Numbers) (g : Lists) (f : Fault) (op : Op) → slice_get g.operations f.op ≡ Some op → OneFault t g f op
one_fault t g f op there =
    let stands = in_frame t g f op f.cycle refl there in
    record {
      before = λ n k below. at_zeros (frame t g (acts_of (f ∷ [])) n).given k (quiet_before t g f n below).given;
      earlier = stands.earlier;
      there = stands.there;
    }
