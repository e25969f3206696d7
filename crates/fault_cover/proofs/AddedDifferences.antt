-- AddedDifferences: the differences of runs in which numbers are added: they are those of acts that do the same, and sums where what is added is a sum.
use Rattle.std.proofs.Common.{◌≡◌, ◌≢◌, ⊎_elim, inl, inr, ℕ, zero, suc, ◌+◌, ◌≤◌, ◌==◌, cond, Bool, true, false, ◌&&◌, List, [], ◌∷◌, ◌++◌, length, map}
use Rattle.std.proofs.Common.{slice_get, unsigned_abs, ℤ, pos, ◌+ℤ◌, ◌*ℤ◌, Option, Some, None, ap, sym, subst, ◌∙◌, refl, arith}
use Rattle.std.specs.Ordering.{int_eq}
use Rattle.std.proofs.Math.IntN.{*ℤ_comm, *ℤ-zero}
use Rattle.std.proofs.lemmas.Bool.{cases_lt}
use Rattle.std.proofs.lemmas.Bool.Decides.{eqb_tells, Decides-int_eq}
use Rattle.std.proofs.lemmas.Int.{ints}
use Rattle.std.proofs.lemmas.List.{get_or_append_left, get_or_past, get_or_push, length_push}
use Rattle.vcp_base.specs.Differences.{first_difference}
use Rattle.vcp_base.specs.declared.kind.Kind.{Kind}
use Rattle.vcp_base.specs.declared.kind.Kind.TheVariants as kind
use Rattle.vcp_base.specs.Kinds.{multiplier}
use Rattle.vcp_base.specs.Values.{at}
use Rattle.coded_unit.specs.Step.{weighed}
use Rattle.coded_unit.specs.Words.{modulo}
use Rattle.op_graph.specs.declared.op.Op.{Op}
use Rattle.op_graph.specs.declared.op.Outlet.{Outlet}
use Rattle.op_graph.specs.GraphRun.{Cycle, outputs}
use Rattle.op_graph.specs.Lists.{Lists}
use Rattle.op_graph.specs.Reads.{named}
use Rattle.signature_table.specs.Signatures.{Numbers, expected}
use Rattle.fault_script.specs.declared.act.Act.{Act}
use Rattle.fault_script.specs.declared.act.Act.TheVariants as act
use Rattle.fault_script.specs.Changes.{Acts}
use Rattle.fault_script.specs.Differences.{Frame, brought, cycle_after, difference, frame, given_from, held_after, no_frame, read, read_as}
use Rattle.fault_injector.specs.Accepted.{RefusedAt, first_unaccepted}
use Rattle.fault_injector.specs.FaultRun.{operation_stop, stop_under}
use Rattle.fault_injector.specs.Verdicts.{compared, judged, judged_cycle, verdict_or}
use Rattle.fault_cover.specs.Additions.{Addends, AreAdded, compared_with, difference_with, frame_after, frame_with, given_with, unaccepted_with}
use Rattle.fault_cover.proofs.Dividing.{times_plus}
use Rattle.fault_cover.proofs.Loads.{both_true}

-- ---- where acts make the same differences

-- an operation's difference under the act that stands there is that of what is added there
pub record MakeTheSame (t : Numbers) (g : Lists) (acts : Acts) (adds : Addends) : Type 0 where
  pub same : (n k : ℕ) (op : Op) (past now : Frame) → slice_get g.operations k ≡ Some op
      → difference_with now op (adds n k) ≡ difference t g past now k op (acts n k)

module _ (t : Numbers) (g : Lists) (acts : Acts) (adds : Addends) (make : MakeTheSame t g acts adds) where
  given_same : (n : ℕ) (past : Frame) (held before : List ℤ) (k : ℕ) (ops : List Op)
      → ((j : ℕ) (op : Op) → slice_get ops j ≡ Some op → slice_get g.operations (k + j) ≡ Some op)
      → given_with (adds n) held before k ops ≡ given_from t g (acts n) past held before k ops
  given_same n past held before k [] there = refl
  given_same n past held before k (op ∷ ops) there =
      let now : Frame = record { held = held; given = before } in
      let here = subst (λ m. slice_get g.operations m ≡ Some op) (let none : k + 0 ≡ k = omega arith in none) (there 0 op refl) in
      ap (λ d. given_with (adds n) held (before ++ d ∷ []) (k + 1) ops) (make.same n k op past now here)
      ∙ given_same n past held (before ++ difference t g past now k op (acts n k) ∷ []) (k + 1) ops
      (λ j o e. subst (λ m. slice_get g.operations m ≡ Some o) (let more : k + suc j ≡ (k + 1) + j = omega arith in more) (there (suc j) o e))

  after_same : (n : ℕ) (past : Frame) → frame_after g (adds n) past ≡ cycle_after t g (acts n) past
  after_same n past =
      let whole : List ℤ → Frame = λ given. record { held = held_after g past.given; given = given } in
      ap whole (given_same n past (held_after g past.given) [] 0 g.operations
      (λ j op e. subst (λ m. slice_get g.operations m ≡ Some op) (let same : j ≡ 0 + j = omega arith in same) e))

  pub frame_same : (n : ℕ) → frame_with g adds n ≡ frame t g acts n
  frame_same zero = after_same 0 no_frame
  frame_same (suc n) = ap (frame_after g (adds (suc n))) (frame_same n) ∙ after_same (suc n) (frame t g acts n)

  unaccepted_same : (n number : ℕ) (outs : List Outlet) → unaccepted_with t g adds n number outs ≡ first_unaccepted t g acts n number outs
  unaccepted_same n number [] = refl
  unaccepted_same n number (o ∷ outs) =
      let kept : Frame → Option RefusedAt → Option RefusedAt =
      λ f rest. cond (modulo t.profile (at f.given o.op) == 0) rest (Some (record {
        output = number;
        found = modulo t.profile (pos (expected t.profile t.seed t.step o.op n) +ℤ at f.given o.op);
        expected = expected t.profile t.seed t.step o.op n;
      })) in
      ap (λ f. kept f (unaccepted_with t g adds n (suc number) outs)) (frame_same n) ∙ ap (kept (frame t g acts n)) (unaccepted_same n (suc number) outs)

  pub compared_same : (n : ℕ) (cycles others : List Cycle) → compared_with t g adds n cycles others ≡ compared t g acts n cycles others
  compared_same n [] others = refl
  compared_same n (c ∷ cycles) [] = refl
  compared_same n (c ∷ cycles) (other ∷ others) =
      ap (λ r. verdict_or
      (judged n (stop_under g c) r (operation_stop other) (first_difference (outputs g c.values) (outputs g other.values) 0))
      (compared_with t g adds (suc n) cycles others)) (unaccepted_same n 0 g.outputs)
      ∙ ap (verdict_or (judged_cycle t g acts n c other)) (compared_same (suc n) cycles others)

-- ---- what is added to one operand

pub times_zero : (m x : ℤ) → x ≡ pos 0 → m *ℤ x ≡ pos 0
times_zero m x e = ap (λ z. m *ℤ z) e ∙ *ℤ-zero m

first_alone : (x y z : ℤ) → y ≡ pos 0 → z ≡ pos 0 → x +ℤ y +ℤ z ≡ x
first_alone x y z e f = omega (arith, ints)

second_alone : (x y z : ℤ) → x ≡ pos 0 → z ≡ pos 0 → x +ℤ y +ℤ z ≡ y
second_alone x y z e f = omega (arith, ints)

third_alone : (x y z : ℤ) → x ≡ pos 0 → y ≡ pos 0 → x +ℤ y +ℤ z ≡ z
third_alone x y z e f = omega (arith, ints)

past_multiplier : (k : Kind) (i : ℕ) → multiplier k (suc (suc (suc i))) ≡ pos 0
past_multiplier kind.Load i = refl
past_multiplier _ i = refl

weighed_none : (k : Kind) (x y z : ℤ) → x ≡ pos 0 → y ≡ pos 0 → z ≡ pos 0 → weighed k x y z ≡ pos 0
weighed_none k x y z e f h =
    first_alone (multiplier k 0 *ℤ x) (multiplier k 1 *ℤ y) (multiplier k 2 *ℤ z) (times_zero (multiplier k 1) y f) (times_zero (multiplier k 2) z h)
    ∙ times_zero (multiplier k 0) x e

-- one operand is added to, and no other
weighed_one : (k : Kind) (e : ℕ → ℤ) (i : ℕ) (z : ℤ) → e i ≡ z → ((j : ℕ) → j ≢ i → e j ≡ pos 0) → weighed k (e 0) (e 1) (e 2) ≡ multiplier k i *ℤ z
weighed_one k e zero z is others =
    first_alone (multiplier k 0 *ℤ e 0) (multiplier k 1 *ℤ e 1) (multiplier k 2 *ℤ e 2)
    (times_zero (multiplier k 1) (e 1) (others 1 (λ h. omega (arith, h)))) (times_zero (multiplier k 2) (e 2) (others 2 (λ h. omega (arith, h))))
    ∙ ap (λ x. multiplier k 0 *ℤ x) is
weighed_one k e (suc zero) z is others =
    second_alone (multiplier k 0 *ℤ e 0) (multiplier k 1 *ℤ e 1) (multiplier k 2 *ℤ e 2)
    (times_zero (multiplier k 0) (e 0) (others 0 (λ h. omega (arith, h)))) (times_zero (multiplier k 2) (e 2) (others 2 (λ h. omega (arith, h))))
    ∙ ap (λ x. multiplier k 1 *ℤ x) is
weighed_one k e (suc (suc zero)) z is others =
    third_alone (multiplier k 0 *ℤ e 0) (multiplier k 1 *ℤ e 1) (multiplier k 2 *ℤ e 2)
    (times_zero (multiplier k 0) (e 0) (others 0 (λ h. omega (arith, h)))) (times_zero (multiplier k 1) (e 1) (others 1 (λ h. omega (arith, h))))
    ∙ ap (λ x. multiplier k 2 *ℤ x) is
weighed_one k e (suc (suc (suc i))) z is others =
    weighed_none k (e 0) (e 1) (e 2) (others 0 (λ h. omega (arith, h))) (others 1 (λ h. omega (arith, h))) (others 2 (λ h. omega (arith, h)))
    ∙ sym (ap (λ m. m *ℤ z) (past_multiplier k i) ∙ *ℤ_comm (pos 0) z ∙ *ℤ-zero z)

plus_none : (x y : ℤ) → y ≡ pos 0 → x +ℤ y ≡ x
plus_none x y e = omega (arith, ints)

-- additions to one operand an operation and cycle are acts
pub one_each : (t : Numbers) (g : Lists) (acts : Acts) (adds : Addends) → AreAdded acts adds → MakeTheSame t g acts adds
one_each t g acts adds are = record { same = λ n k op past now there. by_act n k op past now (acts n k) refl }
  where
    by_act : (n k : ℕ) (op : Op) (past now : Frame) (x : Option Act) → acts n k ≡ x
        → difference_with now op (adds n k) ≡ difference t g past now k op (acts n k)
    by_act n k op past now None e =
        plus_none (brought now op op.kind) (weighed op.kind (adds n k 0) (adds n k 1) (adds n k 2))
        (weighed_none op.kind (adds n k 0) (adds n k 1) (adds n k 2) (are.none n k e 0) (are.none n k e 1) (are.none n k e 2))
        ∙ ap (difference t g past now k op) (sym e)
    by_act n k op past now (Some a) e =
        let i = are.no_other n k (λ none. let no : Some a ≡ None = sym e ∙ none in cc) in
        let one = are.one n k i.0 i.1 i.2 in
        ap (λ z. brought now op op.kind +ℤ z) (weighed_one op.kind (adds n k) i.0 i.1 one.0 one.1) ∙ ap (difference t g past now k op) (sym i.2)

-- ---- acts that make the differences of any additions

-- nothing is added to an operation's operands
abbrev pub none_added : (ℕ → ℤ) → Bool
none_added e = int_eq (e 0) (pos 0) && int_eq (e 1) (pos 0) && int_eq (e 2) (pos 0)

abbrev pub act_at : (ℕ → ℤ) → Option Op → Option Act
act_at e None = None
act_at e (Some op) = cond (none_added e) None (Some (act.ResultAdd (weighed op.kind (e 0) (e 1) (e 2))))

-- what is added to operands comes to the result of the operation, each times its multiplier
abbrev pub as_acts : Lists → Addends → Acts
as_acts g adds n k = act_at (adds n k) (slice_get g.operations k)

-- nothing is added to these three
pub record NoneAdded (e : ℕ → ℤ) : Type 0 where
  pub first : e 0 ≡ pos 0
  pub second : e 1 ≡ pos 0
  pub third : e 2 ≡ pos 0

none_is : (e : ℕ → ℤ) → none_added e ≡ true → NoneAdded e
none_is e none =
    let outer = both_true (int_eq (e 0) (pos 0) && int_eq (e 1) (pos 0)) (int_eq (e 2) (pos 0)) none in
    let inner = both_true (int_eq (e 0) (pos 0)) (int_eq (e 1) (pos 0)) outer.0 in
    record {
      first = (Decides-int_eq (e 0) (pos 0)).0 inner.0;
      second = (Decides-int_eq (e 1) (pos 0)).0 inner.1;
      third = (Decides-int_eq (e 2) (pos 0)).0 outer.1;
    }

three_true : (a b c : Bool) → a ≡ true → b ≡ true → c ≡ true → (a && b && c) ≡ true
three_true a b c e f h = ap (λ x. x && b && c) e ∙ ap (λ x. x && c) f ∙ h

pub no_act_at : (e : ℕ → ℤ) (o : Option Op) → NoneAdded e → act_at e o ≡ None
no_act_at e None none = refl
no_act_at e (Some op) none =
    ap (λ b. cond b None (Some (act.ResultAdd (weighed op.kind (e 0) (e 1) (e 2)))))
    (three_true (int_eq (e 0) (pos 0)) (int_eq (e 1) (pos 0)) (int_eq (e 2) (pos 0)) ((Decides-int_eq (e 0) (pos 0)).1 none.first)
    ((Decides-int_eq (e 1) (pos 0)).1 none.second) ((Decides-int_eq (e 2) (pos 0)).1 none.third))

pub added_none : (e : ℕ → ℤ) (op : Op) → act_at e (Some op) ≡ None → NoneAdded e
added_none e op none = none_is e (by_test (none_added e) none)
  where
    by_test : (b : Bool) → cond b None (Some (act.ResultAdd (weighed op.kind (e 0) (e 1) (e 2)))) ≡ None → b ≡ true
    by_test true h = refl
    by_test false h = absurd cc

pub any_make : (t : Numbers) (g : Lists) (adds : Addends) → MakeTheSame t g (as_acts g adds) adds
any_make t g adds = record {
  same = λ n k op past now there.
      by_test past now k op (adds n k) (none_added (adds n k)) refl
      ∙ ap (λ o. difference t g past now k op (act_at (adds n k) o)) (sym there);
}
  where
    by_test : (past now : Frame) (k : ℕ) (op : Op) (e : ℕ → ℤ) (b : Bool) → none_added e ≡ b
        → difference_with now op e ≡ difference t g past now k op (cond b None (Some (act.ResultAdd (weighed op.kind (e 0) (e 1) (e 2)))))
    by_test past now k op e true none =
        let zero = none_is e none in
        plus_none (brought now op op.kind) (weighed op.kind (e 0) (e 1) (e 2)) (weighed_none op.kind (e 0) (e 1) (e 2) zero.first zero.second zero.third)
    by_test past now k op e false some = refl

-- ---- sums

-- each of these is the sum of the two others
abbrev pub Sums : List ℤ → List ℤ → List ℤ → Type 0
Sums all one other = (i : ℕ) → at all i ≡ at one i +ℤ at other i

pub record FrameSums (all one other : Frame) : Type 0 where
  pub held : Sums all.held one.held other.held
  pub given : Sums all.given one.given other.given

read_sum : (all one other : Frame) (op : Op) (j : ℕ) (k : Kind) → FrameSums all one other → read_as all op j k ≡ read_as one op j k +ℤ read_as other op j k
read_sum all one other op j kind.Load sums = sums.held (unsigned_abs op.imm)
read_sum all one other op j _ sums = sums.given (named op j)

weighed_same : (k : Kind) (x y z u v w : ℤ) → x ≡ u → y ≡ v → z ≡ w → weighed k x y z ≡ weighed k u v w
weighed_same k x y z u v w e f h = ap (λ a. weighed k a y z) e ∙ ap (λ a. weighed k u a z) f ∙ ap (λ a. weighed k u v a) h

weighed_sum : (k : Kind) (x y z u v w : ℤ) → weighed k (x +ℤ u) (y +ℤ v) (z +ℤ w) ≡ weighed k x y z +ℤ weighed k u v w
weighed_sum k x y z u v w =
    let first : multiplier k 0 *ℤ (x +ℤ u) ≡ multiplier k 0 *ℤ x +ℤ multiplier k 0 *ℤ u = times_plus (multiplier k 0) x u in
    let second : multiplier k 1 *ℤ (y +ℤ v) ≡ multiplier k 1 *ℤ y +ℤ multiplier k 1 *ℤ v = times_plus (multiplier k 1) y v in
    let third : multiplier k 2 *ℤ (z +ℤ w) ≡ multiplier k 2 *ℤ z +ℤ multiplier k 2 *ℤ w = times_plus (multiplier k 2) z w in
    six (multiplier k 0 *ℤ (x +ℤ u)) (multiplier k 1 *ℤ (y +ℤ v)) (multiplier k 2 *ℤ (z +ℤ w)) (multiplier k 0 *ℤ x) (multiplier k 0 *ℤ u)
    (multiplier k 1 *ℤ y) (multiplier k 1 *ℤ v) (multiplier k 2 *ℤ z) (multiplier k 2 *ℤ w) first second third
  where
    six : (a b c d e f h i j : ℤ) → a ≡ d +ℤ e → b ≡ f +ℤ h → c ≡ i +ℤ j → a +ℤ b +ℤ c ≡ (d +ℤ f +ℤ i) +ℤ (e +ℤ h +ℤ j)
    six a b c d e f h i j x y z = omega (arith, ints)

two_sums : (a b x y u v : ℤ) → a ≡ x +ℤ u → b ≡ y +ℤ v → a +ℤ b ≡ (x +ℤ y) +ℤ (u +ℤ v)
two_sums a b x y u v e f = omega (arith, ints)

difference_sum : (all one other : Frame) (op : Op) (e f h : ℕ → ℤ) → FrameSums all one other → ((j : ℕ) → e j ≡ f j +ℤ h j)
    → difference_with all op e ≡ difference_with one op f +ℤ difference_with other op h
difference_sum all one other op e f h sums parts =
    let k = op.kind in
    two_sums (brought all op k) (weighed k (e 0) (e 1) (e 2)) (brought one op k) (weighed k (f 0) (f 1) (f 2)) (brought other op k)
    (weighed k (h 0) (h 1) (h 2))
    (weighed_same k (read all op 0) (read all op 1) (read all op 2) (read one op 0 +ℤ read other op 0) (read one op 1 +ℤ read other op 1)
    (read one op 2 +ℤ read other op 2) (read_sum all one other op 0 k sums) (read_sum all one other op 1 k sums) (read_sum all one other op 2 k sums)
    ∙ weighed_sum k (read one op 0) (read one op 1) (read one op 2) (read other op 0) (read other op 1) (read other op 2))
    (weighed_same k (e 0) (e 1) (e 2) (f 0 +ℤ h 0) (f 1 +ℤ h 1) (f 2 +ℤ h 2) (parts 0) (parts 1) (parts 2)
    ∙ weighed_sum k (f 0) (f 1) (f 2) (h 0) (h 1) (h 2))

no_sum : pos 0 ≡ pos 0 +ℤ pos 0
no_sum = omega (arith, ints)

three_same : (a b c x y z : ℤ) → a ≡ x → b ≡ y → c ≡ z → x ≡ y +ℤ z → a ≡ b +ℤ c
three_same a b c x y z e f h sum = omega (arith, ints)

push_sums : (all one other : List ℤ) (k : ℕ) (d e f : ℤ) → length all ≡ k → length one ≡ k → length other ≡ k → Sums all one other → d ≡ e +ℤ f
    → Sums (all ++ d ∷ []) (one ++ e ∷ []) (other ++ f ∷ [])
push_sums all one other k d e f many many_one many_other sums sum i = elim (cases_lt i k) [
  | inl lt ↦ three_same (at (all ++ d ∷ []) i) (at (one ++ e ∷ []) i) (at (other ++ f ∷ []) i) (at all i) (at one i) (at other i)
      (get_or_append_left all (d ∷ []) (pos 0) i (omega (arith, lt, many))) (get_or_append_left one (e ∷ []) (pos 0) i (omega (arith, lt, many_one)))
      (get_or_append_left other (f ∷ []) (pos 0) i (omega (arith, lt, many_other))) (sums i)
  | inr past ↦ ⊎_elim
      (λ (h : ((i == k) ≡ true) × (i ≡ k)).
      three_same (at (all ++ d ∷ []) i) (at (one ++ e ∷ []) i) (at (other ++ f ∷ []) i) d e f
      (ap (at (all ++ d ∷ [])) h.1 ∙ get_or_push all d (pos 0) k many) (ap (at (one ++ e ∷ [])) h.1 ∙ get_or_push one e (pos 0) k many_one)
      (ap (at (other ++ f ∷ [])) h.1 ∙ get_or_push other f (pos 0) k many_other) sum)
      (λ (h : ((i == k) ≡ false) × (i ≢ k)).
      let beyond : k + 1 ≤ i = let ne = h.1 in omega (arith, past, ne) in
      let count = length_push all d in
      let count_one = length_push one e in
      let count_other = length_push other f in
      three_same (at (all ++ d ∷ []) i) (at (one ++ e ∷ []) i) (at (other ++ f ∷ []) i) (pos 0) (pos 0) (pos 0)
      (get_or_past (all ++ d ∷ []) i (pos 0) (omega (arith, beyond, count, many)))
      (get_or_past (one ++ e ∷ []) i (pos 0) (omega (arith, beyond, count_one, many_one)))
      (get_or_past (other ++ f ∷ []) i (pos 0) (omega (arith, beyond, count_other, many_other))) no_sum)
      (eqb_tells i k)
]

given_sums : (e f h : ℕ → ℕ → ℤ) → ((k j : ℕ) → e k j ≡ f k j +ℤ h k j) → (held one_held other_held : List ℤ) → Sums held one_held other_held
    → (all one other : List ℤ) (k : ℕ) (ops : List Op) → length all ≡ k → length one ≡ k → length other ≡ k → Sums all one other
    → Sums (given_with e held all k ops) (given_with f one_held one k ops) (given_with h other_held other k ops)
given_sums e f h parts held one_held other_held held_are all one other k [] many many_one many_other sums = sums
given_sums e f h parts held one_held other_held held_are all one other k (op ∷ ops) many many_one many_other sums =
    let whole : Frame = record { held = held; given = all } in
    let first : Frame = record { held = one_held; given = one } in
    let second : Frame = record { held = other_held; given = other } in
    let x = difference_with whole op (e k) in
    let y = difference_with first op (f k) in
    let z = difference_with second op (h k) in
    let sum = difference_sum whole first second op (e k) (f k) (h k) (record { held = held_are; given = sums }) (parts k) in
    let count = length_push all x in
    let count_one = length_push one y in
    let count_other = length_push other z in
    given_sums e f h parts held one_held other_held held_are (all ++ x ∷ []) (one ++ y ∷ []) (other ++ z ∷ []) (k + 1) ops
    (omega (arith, count, many)) (omega (arith, count_one, many_one)) (omega (arith, count_other, many_other))
    (push_sums all one other k x y z many many_one many_other sums sum)

stored_sums : (all one other : List ℤ) (stores : List ℕ) → Sums all one other
    → Sums (map (λ n. at all n) stores) (map (λ n. at one n) stores) (map (λ n. at other n) stores)
stored_sums all one other [] sums i = no_sum
stored_sums all one other (n ∷ stores) sums zero = sums n
stored_sums all one other (n ∷ stores) sums (suc i) = stored_sums all one other stores sums i

-- where what is added is a sum, differences are
after_sums : (g : Lists) (e f h : ℕ → ℕ → ℤ) → ((k j : ℕ) → e k j ≡ f k j +ℤ h k j) → (all one other : Frame) → Sums all.given one.given other.given
    → FrameSums (frame_after g e all) (frame_after g f one) (frame_after g h other)
after_sums g e f h parts all one other sums =
    let held = stored_sums all.given one.given other.given g.stores sums in
    record {
      held = held;
      given = given_sums e f h parts (held_after g all.given) (held_after g one.given) (held_after g other.given) held [] [] [] 0 g.operations refl refl refl
          (λ i. no_sum);
    }

pub frame_sums : (g : Lists) (adds one other : Addends) → ((n k j : ℕ) → adds n k j ≡ one n k j +ℤ other n k j) → (n : ℕ)
    → FrameSums (frame_with g adds n) (frame_with g one n) (frame_with g other n)
frame_sums g adds one other parts zero = after_sums g (adds 0) (one 0) (other 0) (parts 0) no_frame no_frame no_frame (λ i. no_sum)
frame_sums g adds one other parts (suc n) =
    after_sums g (adds (suc n)) (one (suc n)) (other (suc n)) (parts (suc n)) (frame_with g adds n) (frame_with g one n) (frame_with g other n)
    (frame_sums g adds one other parts n).given
