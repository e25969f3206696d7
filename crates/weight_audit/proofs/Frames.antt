-- Frames: the differences of a run with one fault alone solve the equations in which the fault's operation has its own difference.
use Rattle.std.proofs.Common.{◌≡◌, ◌≢◌, ◌↔◌, ⊎_elim, ℕ, zero, suc, ◌+◌, ◌<◌, ◌≤◌, ◌==◌, ◌&&◌, cond, Bool, true, false, ℤ, pos, unsigned_abs, ◌+ℤ◌, ◌*ℤ◌, List, [], ◌∷◌, ◌++◌, length, take, slice_get, Option, Some, None, ap, ap₂, sym, subst, ◌∙◌, refl, arith}
use Rattle.std.specs.Option.{is_some}
use Rattle.std.proofs.Math.IntN.{zero-*ℤ}
use Rattle.std.proofs.lemmas.Int.{ints}
use Rattle.std.proofs.lemmas.Bool.{eq-eqb}
use Rattle.std.proofs.lemmas.Bool.Decides.{eqb_tells}
use Rattle.std.proofs.lemmas.List.{get_or_append_left, length-append}
use Rattle.vcp_base.specs.declared.ty.Ty.{Ty}
use Rattle.vcp_base.specs.declared.kind.Kind.{Kind}
use Rattle.vcp_base.specs.declared.kind.Kind.TheVariants as kind
use Rattle.vcp_base.specs.Kinds.{multiplier}
use Rattle.vcp_base.specs.Values.{at}
use Rattle.coded_unit.specs.Step.{weighed}
use Rattle.coded_unit.specs.Words.{modulo}
use Rattle.coded_unit.specs.WordLaws.{WordLaws}
use Rattle.op_graph.specs.declared.op.Loaded.{Loaded}
use Rattle.op_graph.specs.declared.op.Op.{Op}
use Rattle.op_graph.specs.Lists.{Lists}
use Rattle.op_graph.specs.Reads.{named}
use Rattle.op_graph.specs.Rules.{IsGraph, LoadFits, reads_as}
use Rattle.signature_table.specs.Signatures.{Numbers}
use Rattle.fault_script.specs.declared.act.Act.{Act}
use Rattle.fault_script.specs.declared.act.Act.TheVariants as act
use Rattle.fault_script.specs.declared.act.Fault.{Fault}
use Rattle.fault_script.specs.Changes.{acts_of}
use Rattle.fault_script.specs.Differences.{Frame, brought, difference, given_from, held_after, no_frame, frame, made, OneFault, read_as as read_by}
use Rattle.weight_audit.specs.Weights.{sums, weight}
use Rattle.weight_audit.specs.ClosedForm.{differs, Comes}
use Rattle.weight_audit.proofs.Closing.{OpsFit, by_kind, at_zeros, at_nothing, alone_other, closed_form, stale_is}
use Rattle.weight_audit.proofs.Cycles.{read_as, AreOfCycle, AreDifferences, alone, Closes}
use Rattle.weight_audit.proofs.Loads.{loaded_as, loaded_zero}
use Rattle.weight_audit.proofs.Places.{Earlier}

-- ---- what an operation reads

-- a cycle's differences so far
abbrev pub frame_of : List ℤ → List ℤ → Frame
frame_of held given = record { held = held; given = given }

read_is : (held given : List ℤ) (op : Op) (j : ℕ) (k : Kind)
    → read_by (frame_of held given) op j k ≡ read_as k (at held (unsigned_abs op.imm)) (at given (named op j))
read_is held given op j kind.Load = refl
read_is held given op j _ = refl

-- what the operands bring, where each is read as h from a cell, and as x, y and z from operations
abbrev pub brings : Kind → ℤ → ℤ → ℤ → ℤ → ℤ
brings k h x y z = weighed k (read_as k h x) (read_as k h y) (read_as k h z)

pub brought_is : (held given : List ℤ) (op : Op)
    → brought (frame_of held given) op op.kind
    ≡ brings op.kind (at held (unsigned_abs op.imm)) (at given (named op 0)) (at given (named op 1)) (at given (named op 2))
brought_is held given op =
    ap (λ x. weighed op.kind x (read_by f op 1 op.kind) (read_by f op 2 op.kind)) (read_is held given op 0 op.kind)
    ∙ ap₂ (λ y z. weighed op.kind (read_as op.kind (at held (unsigned_abs op.imm)) (at given (named op 0))) y z) (read_is held given op 1 op.kind)
    (read_is held given op 2 op.kind)
  where
    f : Frame
    f = frame_of held given

part_same : (b : Bool) (m x y : ℤ) → (b ≡ true → x ≡ y) → cond b (x *ℤ m) (pos 0) ≡ cond b (y *ℤ m) (pos 0)
part_same true m x y same = ap (λ z. z *ℤ m) (same refl)
part_same false m x y same = refl

-- operands alone that the kind has are brought
same_brought : (k : Kind) (from : Ty) (h x y z d e f : ℤ) → (is_some (reads_as k from 0) ≡ true → x ≡ d) → (is_some (reads_as k from 1) ≡ true → y ≡ e)
    → (is_some (reads_as k from 2) ≡ true → z ≡ f)
    → brings k h x y z ≡ brings k h d e f
same_brought k from h x y z d e f first second third =
    by_kind k from h x y z
    ∙ ap₂ (λ a b. loaded_as k h +ℤ (a +ℤ b))
    (ap₂ (λ a b. a +ℤ b) (part_same (is_some (reads_as k from 0)) (multiplier k 0) x d first)
    (part_same (is_some (reads_as k from 1)) (multiplier k 1) y e second))
    (part_same (is_some (reads_as k from 2)) (multiplier k 2) z f third)
    ∙ sym (by_kind k from h d e f)

part_none : (b : Bool) (m x : ℤ) → (b ≡ true → x ≡ pos 0) → cond b (x *ℤ m) (pos 0) ≡ pos 0
part_none true m x none = ap (λ z. z *ℤ m) (none refl) ∙ zero-*ℤ m
part_none false m x none = refl

all_none : (l a b c : ℤ) → l ≡ pos 0 → a ≡ pos 0 → b ≡ pos 0 → c ≡ pos 0 → l +ℤ (a +ℤ b +ℤ c) ≡ pos 0
all_none l a b c p q r s = omega (arith, ints)

none_brought : (k : Kind) (from : Ty) (h x y z : ℤ) → h ≡ pos 0 → (is_some (reads_as k from 0) ≡ true → x ≡ pos 0)
    → (is_some (reads_as k from 1) ≡ true → y ≡ pos 0) → (is_some (reads_as k from 2) ≡ true → z ≡ pos 0)
    → brings k h x y z ≡ pos 0
none_brought k from h x y z held first second third =
    by_kind k from h x y z
    ∙ all_none (loaded_as k h) _ _ _ (ap (loaded_as k) held ∙ loaded_zero k)
    (part_none (is_some (reads_as k from 0)) (multiplier k 0) x first) (part_none (is_some (reads_as k from 1)) (multiplier k 1) y second)
    (part_none (is_some (reads_as k from 2)) (multiplier k 2) z third)

-- ---- the differences of a cycle

-- the differences that are there stay
stays : (t : Numbers) (g : Lists) (acts : ℕ → Option Act) (past : Frame) (held before : List ℤ) (k : ℕ) (ops : List Op) (i : ℕ) → i < length before
    → at (given_from t g acts past held before k ops) i ≡ at before i
stays t g acts past held before k [] i below = refl
stays t g acts past held before k (op ∷ ops) i below =
    let d = difference t g past (frame_of held before) k op (acts k) in
    stays t g acts past held (before ++ d ∷ []) (k + 1) ops i (omega (arith, below, length-append before (d ∷ [])))
    ∙ get_or_append_left before (d ∷ []) (pos 0) i below

last_of : (before : List ℤ) (d : ℤ) → at (before ++ d ∷ []) (length before) ≡ d
last_of [] d = refl
last_of (c ∷ before) d = last_of before d

pub many_from : (t : Numbers) (g : Lists) (acts : ℕ → Option Act) (past : Frame) (held before : List ℤ) (k : ℕ) (ops : List Op)
    → length (given_from t g acts past held before k ops) ≡ length before + length ops
many_from t g acts past held before k [] = omega arith
many_from t g acts past held before k (op ∷ ops) =
    let d = difference t g past (frame_of held before) k op (acts k) in
    let rest = many_from t g acts past held (before ++ d ∷ []) (k + 1) ops in
    omega (arith, rest, length-append before (d ∷ []))

-- an operation's difference is made of those before it
record Made (t : Numbers) (g : Lists) (acts : ℕ → Option Act) (past : Frame) (held whole : List ℤ) (k : ℕ) (op : Op) : Type 0 where
  front : List ℤ
  agrees : (i : ℕ) → i < k → at front i ≡ at whole i
  value : at whole k ≡ difference t g past (frame_of held front) k op (acts k)

made_from : (t : Numbers) (g : Lists) (acts : ℕ → Option Act) (past : Frame) (held before : List ℤ) (k : ℕ) (ops : List Op) (more n : ℕ) (op : Op)
    → length before ≡ k → n ≡ k + more → slice_get ops more ≡ Some op
    → Made t g acts past held (given_from t g acts past held before k ops) n op
made_from t g acts past held before k [] more n op many is there = absurd cc
made_from t g acts past held before k (o ∷ ops) zero n op many is there =
    let d = difference t g past (frame_of held before) k o (acts k) in
    let same : o ≡ op = cc in
    let room : length (before ++ d ∷ []) ≡ k + 1 = length-append before (d ∷ []) ∙ ap (λ (x : ℕ). x + 1) many in
    let here : k ≡ n = omega (arith, is) in
    subst (λ (m : ℕ). Made t g acts past held (given_from t g acts past held (before ++ d ∷ []) (k + 1) ops) m op) here (record {
      front = before;
      agrees = λ i below. sym
          (stays t g acts past held (before ++ d ∷ []) (k + 1) ops i (omega (arith, below, room))
          ∙ get_or_append_left before (d ∷ []) (pos 0) i (omega (arith, below, many)));
      value =
          stays t g acts past held (before ++ d ∷ []) (k + 1) ops k (omega (arith, room)) ∙ ap (at (before ++ d ∷ [])) (sym many) ∙ last_of before d
          ∙ ap (λ (x : Op). difference t g past (frame_of held before) k x (acts k)) same;
    })
made_from t g acts past held before k (o ∷ ops) (suc more) n op many is there =
    let d = difference t g past (frame_of held before) k o (acts k) in
    made_from t g acts past held (before ++ d ∷ []) (k + 1) ops more n op (length-append before (d ∷ []) ∙ ap (λ (x : ℕ). x + 1) many) (omega (arith, is)) there

-- where no act stands, it is what the operands bring
pub undisturbed : (t : Numbers) (g : Lists) (acts : ℕ → Option Act) (past : Frame) (held : List ℤ) (k : ℕ) (op : Op) → Earlier g
    → slice_get g.operations k ≡ Some op → acts k ≡ None
    → at (given_from t g acts past held [] 0 g.operations) k
    ≡ brings op.kind (at held (unsigned_abs op.imm)) (at (given_from t g acts past held [] 0 g.operations) (named op 0))
    (at (given_from t g acts past held [] 0 g.operations) (named op 1)) (at (given_from t g acts past held [] 0 g.operations) (named op 2))
undisturbed t g acts past held k op earlier there none =
    let whole = given_from t g acts past held [] 0 g.operations in
    let m = made_from t g acts past held [] 0 g.operations k k op refl (omega arith) there in
    let before_k : (j : ℕ) → is_some (reads_as op.kind op.from j) ≡ true → named op j < k =
    λ j reads. earlier k (named op j) j (record { op = op; there = there; operand = reads; names = refl }) in
    m.value ∙ ap (difference t g past (frame_of held m.front) k op) none ∙ brought_is held m.front op
    ∙ same_brought op.kind op.from (at held (unsigned_abs op.imm)) (at m.front (named op 0)) (at m.front (named op 1)) (at m.front (named op 2))
    (at whole (named op 0)) (at whole (named op 1)) (at whole (named op 2))
    (λ reads. m.agrees (named op 0) (before_k 0 reads)) (λ reads. m.agrees (named op 1) (before_k 1 reads)) (λ reads. m.agrees (named op 2) (before_k 2 reads))

-- ---- the cycles of a run with one fault

without_own : (a w o : ℤ) → a ≡ w → o ≡ pos 0 → a ≡ w +ℤ o
without_own a w o e f = omega (arith, ints)

own_alone : (a w o m : ℤ) → a ≡ m → w ≡ pos 0 → o ≡ m → a ≡ w +ℤ o
own_alone a w o m e f h = omega (arith, ints)

none_if : {X : Type 0} (b : Bool) (x : X) → cond (b && false) (Some x) None ≡ None
none_if true x = refl
none_if false x = refl

nothing_if : (b : Bool) (d : ℤ) → cond (b && false) d (pos 0) ≡ pos 0
nothing_if true d = refl
nothing_if false d = refl

not_same : (a b : ℕ) → a ≢ b → (a == b) ≡ false
not_same a b ne = ⊎_elim
    (λ (h : ((a == b) ≡ true) × (a ≡ b)). absurd (ne h.1))
    (λ (h : ((a == b) ≡ false) × (a ≢ b)). h.0)
    (eqb_tells a b)

module _ (t : Numbers) (g : Lists) (f : Fault) (o : Op) (earlier : Earlier g) (there : slice_get g.operations f.op ≡ Some o) (one : OneFault t g f o) where
  -- the differences of cycle n
  abbrev given : ℕ → List ℤ
  given n = (frame t g (acts_of (f ∷ [])) n).given

  -- those of a cycle after the cycle `past`
  abbrev whole_after : ℕ → Frame → List ℤ
  whole_after n past = given_from t g (acts_of (f ∷ []) n) past (held_after g past.given) [] 0 g.operations

  abbrev own_at : ℕ → ℕ → ℤ
  own_at n k = alone f.cycle f.op (made t g o f.act) n k

  module _ (n : ℕ) (past : Frame) (none_before : n ≤ f.cycle → (x : ℕ) → at past.given x ≡ pos 0)
      (none_yet : n ≡ f.cycle → (k : ℕ) → k < f.op → at (whole_after n past) k ≡ pos 0)
      (here : n ≡ f.cycle → at (whole_after n past) f.op ≡ made t g o f.act) where
    module _ (k : ℕ) (op : Op) (there_k : slice_get g.operations k ≡ Some op) where
      abbrev brings_here : List ℤ → ℤ
      brings_here ds = brings op.kind (at (held_after g past.given) (unsigned_abs op.imm)) (at ds (named op 0)) (at ds (named op 1)) (at ds (named op 2))

      before_k : (j : ℕ) → is_some (reads_as op.kind op.from j) ≡ true → named op j < k
      before_k j reads = earlier k (named op j) j (record { op = op; there = there_k; operand = reads; names = refl })

      without_act : acts_of (f ∷ []) n k ≡ None → own_at n k ≡ pos 0 → at (whole_after n past) k ≡ brings_here (whole_after n past) +ℤ own_at n k
      without_act none no_own =
          without_own (at (whole_after n past) k) (brings_here (whole_after n past)) (own_at n k)
          (undisturbed t g (acts_of (f ∷ []) n) past (held_after g past.given) k op earlier there_k none) no_own

      at_fault : f.cycle ≡ n → f.op ≡ k → at (whole_after n past) k ≡ brings_here (whole_after n past) +ℤ own_at n k
      at_fault cycle place =
          let read_none : (j : ℕ) → is_some (reads_as op.kind op.from j) ≡ true → at (whole_after n past) (named op j) ≡ pos 0 =
          λ j reads. none_yet (sym cycle) (named op j) (let below = before_k j reads in omega (arith, below, place)) in
          own_alone (at (whole_after n past) k) (brings_here (whole_after n past)) (own_at n k) (made t g o f.act)
          (ap (at (whole_after n past)) (sym place) ∙ here (sym cycle))
          (none_brought op.kind op.from (at (held_after g past.given) (unsigned_abs op.imm)) (at (whole_after n past) (named op 0))
          (at (whole_after n past) (named op 1)) (at (whole_after n past) (named op 2))
          (at_zeros g.stores past.given (unsigned_abs op.imm) (none_before (omega (arith, cycle)))) (read_none 0) (read_none 1) (read_none 2))
          (ap₂ (λ b c. cond (b && c) (made t g o f.act) (pos 0)) (eq-eqb n f.cycle (sym cycle)) (eq-eqb k f.op (sym place)))

      each_is : at (whole_after n past) k ≡ brings_here (whole_after n past) +ℤ own_at n k
      each_is = ⊎_elim
          (λ (c : ((f.cycle == n) ≡ true) × (f.cycle ≡ n)). ⊎_elim
          (λ (p : ((f.op == k) ≡ true) × (f.op ≡ k)). at_fault c.1 p.1)
          (λ (p : ((f.op == k) ≡ false) × (f.op ≢ k)). without_act
          (ap (λ b. cond (f.cycle == n && b) (Some f.act) None) p.0 ∙ none_if (f.cycle == n) f.act)
          (ap (λ b. cond ((n == f.cycle) && b) (made t g o f.act) (pos 0)) (not_same k f.op (λ e. p.1 (sym e))) ∙ nothing_if (n == f.cycle) (made t g o f.act)))
          (eqb_tells f.op k))
          (λ (c : ((f.cycle == n) ≡ false) × (f.cycle ≢ n)). without_act
          (ap (λ b. cond (b && f.op == k) (Some f.act) None) c.0)
          (alone_other f.cycle f.op (made t g o f.act) n k (λ e. c.1 (sym e))))
          (eqb_tells f.cycle n)

    solves : AreOfCycle g (held_after g past.given) (own_at n) (whole_after n past)
    solves = record {
      many = let rest = many_from t g (acts_of (f ∷ []) n) past (held_after g past.given) [] 0 g.operations in omega (arith, rest);
      each = λ k op there_k. each_is k op there_k;
    }

  none_in_past : (n m : ℕ) → n ≡ suc m → n ≤ f.cycle → (x : ℕ) → at (given m) x ≡ pos 0
  none_in_past n m is le x = one.before m x (omega (arith, le, is))

  yet : (n : ℕ) → n ≡ f.cycle → (k : ℕ) → k < f.op → at (given n) k ≡ pos 0
  yet n is k below = subst (λ c. at (given c) k ≡ pos 0) (sym is) (one.earlier k below)

  at_its_place : (n : ℕ) → n ≡ f.cycle → at (given n) f.op ≡ made t g o f.act
  at_its_place n is = subst (λ c. at (given c) f.op ≡ made t g o f.act) (sym is) one.there

  pub frames_are : AreDifferences g own_at given
  frames_are = record {
    first = solves 0 no_frame (λ le x. at_nothing x) (yet 0) (at_its_place 0);
    later = λ m. solves (suc m) (frame t g (acts_of (f ∷ [])) m) (none_in_past (suc m) m refl) (yet (suc m)) (at_its_place (suc m));
  }

-- ---- the closed form

-- the laws of words, graphs and readings on which it rests
pub record Rests (g : Lists) : Type 0 where
  pub words : WordLaws g.profile
  pub earlier : Earlier g
  pub loads : (b : ℕ) (l : Loaded) → slice_get g.loads b ≡ Some l → LoadFits (length g.names) (length g.operations) (take b g.loads) l
  pub operations : OpsFit g
  pub graph : IsGraph g

module _ (t : Numbers) (g : Lists) (f : Fault) (op : Op) (rests : Rests g) (there : slice_get g.operations f.op ≡ Some op) (one : OneFault t g f op)
    (out : ℕ) where
  closes : Closes g f.cycle f.op (made t g op f.act) (given t g f op rests.earlier there one) out
  closes = closed_form g rests.words rests.earlier rests.loads rests.operations rests.graph f.cycle f.op (made t g op f.act)
      (given t g f op rests.earlier there one) (frames_are t g f op rests.earlier there one) out

  pub fault_comes : Comes t g f out
  fault_comes = record {
    before = closes.before;
    after = λ borders. closes.after borders ∙ ap (λ d. at (sums g out borders) f.op *ℤ d) (sym one.there);
    residue = λ borders. closes.residue borders ∙ ap (λ d. modulo g.profile (pos (weight g out borders f.op) *ℤ d)) (sym one.there);
  }

  pub stale_comes : (j : ℕ) → f.act ≡ act.OperandStale j → (borders : ℕ)
      → (modulo g.profile (differs t g f (f.cycle + borders) out) ≡ 0)
      ↔ (modulo g.profile (pos t.step *ℤ multiplier op.kind j *ℤ pos (weight g out borders f.op)) ≡ 0)
  stale_comes j is borders = stale_is g.profile rests.words (differs t g f (f.cycle + borders) out) (weight g out borders f.op) t.step (multiplier op.kind j)
      (closes.residue borders ∙ ap (λ a. modulo g.profile (pos (weight g out borders f.op) *ℤ made t g op a)) is)
