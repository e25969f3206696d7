-- Owning: what the first act at an operation adds there is what it makes alone.
use Rattle.std.proofs.Common.{◌≡◌, ◌≢◌, ⊎_elim, inl, inr, ℕ, zero, suc, ◌+◌, ◌<◌, ◌≤◌, ◌==◌, nat_lt, cond, true, false, List, [], ◌∷◌, ◌++◌, length, map}
use Rattle.std.proofs.Common.{slice_get, unsigned_abs, ℤ, pos, neg_ℤ, ◌+ℤ◌, ◌-ℤ◌, ◌*ℤ◌, Option, Some, None, ap, sym, subst, ◌∙◌, refl, arith}
use Rattle.std.specs.Option.{is_some}
use Rattle.std.proofs.Math.IntN.{*ℤ_comm, *ℤ-zero}
use Rattle.std.proofs.lemmas.Bool.{cases_lt, lt-ltb}
use Rattle.std.proofs.lemmas.Bool.Decides.{eqb_tells}
use Rattle.std.proofs.lemmas.Int.{ints}
use Rattle.std.proofs.lemmas.List.{get_or_append_left, get_or_past, get_or_push, length_push}
use Rattle.vcp_base.specs.declared.kind.Kind.{Kind}
use Rattle.vcp_base.specs.declared.kind.Kind.TheVariants as kind
use Rattle.vcp_base.specs.Kinds.{multiplier, multipliers, operand_type, operands}
use Rattle.vcp_base.specs.Values.{at}
use Rattle.op_graph.specs.declared.op.Op.{Op}
use Rattle.op_graph.specs.Lists.{Lists}
use Rattle.op_graph.specs.Reads.{Reads, named}
use Rattle.op_graph.specs.Rules.{reads_as}
use Rattle.signature_table.specs.Signatures.{Numbers, signature}
use Rattle.fault_script.specs.declared.act.Act.{Act}
use Rattle.fault_script.specs.declared.act.Act.TheVariants as act
use Rattle.fault_script.specs.Changes.{Acts}
use Rattle.fault_script.specs.Differences.{Frame, brought, cycle_after, difference, difference_at, exchanged, frame, given_from, held_after, made, no_frame}
use Rattle.fault_script.specs.Differences.{origin, read, read_as}
use Rattle.weight_audit.specs.Paths.{Leads, Step}
use Rattle.weight_audit.specs.Superposition.{added, added_at}
use Rattle.fault_cover.specs.Touched.{IsTouched}

-- ---- what operations have, one after another

-- the difference of operation k, by those before it
record Solved (t : Numbers) (g : Lists) (acts : ℕ → Option Act) (past : Frame) (held : List ℤ) (all : List ℤ) (k : ℕ) (op : Op) : Type 0 where
  pub before : List ℤ
  pub many : length before ≡ k
  pub same : (q : ℕ) → q < k → at all q ≡ at before q
  pub is : at all k ≡ difference t g past (record { held = held; given = before }) k op (acts k)

record GivenBegins (before : List ℤ) (all : List ℤ) : Type 0 where
  pub same : (q : ℕ) → q < length before → at all q ≡ at before q

given_begins : (t : Numbers) (g : Lists) (acts : ℕ → Option Act) (past : Frame) (held before : List ℤ) (k : ℕ) (ops : List Op)
    → GivenBegins before (given_from t g acts past held before k ops)
given_begins t g acts past held before k [] = record { same = λ q lt. refl }
given_begins t g acts past held before k (op ∷ ops) =
    let d = difference t g past (record { held = held; given = before }) k op (acts k) in
    let more = given_begins t g acts past held (before ++ d ∷ []) (k + 1) ops in
    let count = length_push before d in
    record { same = λ q lt. more.same q (omega (arith, lt, count)) ∙ get_or_append_left before (d ∷ []) (pos 0) q lt }

solved : (t : Numbers) (g : Lists) (acts : ℕ → Option Act) (past : Frame) (held before : List ℤ) (k : ℕ) (ops : List Op) (i : ℕ) (op : Op) → length before ≡ k
    → slice_get ops i ≡ Some op → Solved t g acts past held (given_from t g acts past held before k ops) (k + i) op
solved t g acts past held before k [] i op many there = absurd cc
solved t g acts past held before k (first ∷ ops) zero op many there =
    let d = difference t g past (record { held = held; given = before }) k first (acts k) in
    let begins = given_begins t g acts past held (before ++ d ∷ []) (k + 1) ops in
    let count = length_push before d in
    let is_first : first ≡ op = cc in
    let none : k ≡ k + 0 = omega arith in
    subst (λ n. Solved t g acts past held (given_from t g acts past held (before ++ d ∷ []) (k + 1) ops) n op) none (record {
      before = before;
      many = many;
      same = λ q lt. begins.same q (omega (arith, lt, count, many)) ∙ get_or_append_left before (d ∷ []) (pos 0) q (omega (arith, lt, many));
      is = begins.same k (omega (arith, count, many)) ∙ get_or_push before d (pos 0) k many
          ∙ ap (λ o. difference t g past (record { held = held; given = before }) k o (acts k)) is_first;
    })
solved t g acts past held before k (first ∷ ops) (suc i) op many there =
    let d = difference t g past (record { held = held; given = before }) k first (acts k) in
    let count = length_push before d in
    let more : (k + 1) + i ≡ k + suc i = omega arith in
    subst (λ n. Solved t g acts past held (given_from t g acts past held (before ++ d ∷ []) (k + 1) ops) n op) more
    (solved t g acts past held (before ++ d ∷ []) (k + 1) ops i op (omega (arith, count, many)) there)

-- ---- where nothing is amiss before

zero_times : (m x : ℤ) → x ≡ pos 0 → m *ℤ x ≡ pos 0
zero_times m x e = ap (λ z. m *ℤ z) e ∙ *ℤ-zero m

three_zeros : (x y z : ℤ) → x ≡ pos 0 → y ≡ pos 0 → z ≡ pos 0 → x +ℤ y +ℤ z ≡ pos 0
three_zeros x y z e f h = omega (arith, ints)

read_none : (f : Frame) (op : Op) (j : ℕ) (k : Kind) → ((i : ℕ) → at f.held i ≡ pos 0) → at f.given (named op j) ≡ pos 0 → read_as f op j k ≡ pos 0
read_none f op j kind.Load held given = held (unsigned_abs op.imm)
read_none f op j _ held given = given

-- nothing differs in what stands before an operation
record IsClean (f : Frame) : Type 0 where
  pub held : (i : ℕ) → at f.held i ≡ pos 0
  pub given : (i : ℕ) → at f.given i ≡ pos 0

none_brought : (f : Frame) (op : Op) (k : Kind) → IsClean f → brought f op k ≡ pos 0
none_brought f op k clean = three_zeros (multiplier k 0 *ℤ read f op 0) (multiplier k 1 *ℤ read f op 1) (multiplier k 2 *ℤ read f op 2)
    (zero_times (multiplier k 0) (read f op 0) (read_none f op 0 op.kind clean.held (clean.given (named op 0))))
    (zero_times (multiplier k 1) (read f op 1) (read_none f op 1 op.kind clean.held (clean.given (named op 1))))
    (zero_times (multiplier k 2) (read f op 2) (read_none f op 2 op.kind clean.held (clean.given (named op 2))))

plus_none : (x y : ℤ) → x ≡ pos 0 → x +ℤ y ≡ y
plus_none x y e = omega (arith, ints)

from_none : (x s o r : ℤ) → x ≡ pos 0 → r ≡ pos 0 → x +ℤ s -ℤ o -ℤ r ≡ s -ℤ o
from_none x s o r e h = omega (arith, ints)

stale_none : (x s r : ℤ) → x ≡ pos 0 → r ≡ pos 0 → x -ℤ s -ℤ r ≡ neg_ℤ s
stale_none x s r e h = omega (arith, ints)

skip_none : (x s : ℤ) → x ≡ pos 0 → x -ℤ s ≡ neg_ℤ s
skip_none x s e = omega (arith, ints)

-- an act then makes its own difference
makes : (t : Numbers) (g : Lists) (past now : Frame) (k : ℕ) (op : Op) (a : Act) → IsClean past → IsClean now → difference t g past now k op
    (Some a) ≡ made t g op a
makes t g past now k op (act.OperandAdd j e) clean_past clean =
    plus_none (brought now op op.kind) (multiplier op.kind j *ℤ e) (none_brought now op op.kind clean)
makes t g past now k op (act.OperandFrom j r) clean_past clean =
    plus_none (brought now op op.kind) (multiplier op.kind j *ℤ (at now.given r +ℤ pos (signature t.profile t.seed r) -ℤ origin t g op j -ℤ read now op j))
    (none_brought now op op.kind clean)
    ∙ ap (λ z. multiplier op.kind j *ℤ z) (from_none (at now.given r) (pos (signature t.profile t.seed r)) (origin t g op j) (read now op j) (clean.given r)
    (read_none now op j op.kind clean.held (clean.given (named op j))))
makes t g past now k op (act.OperandStale j) clean_past clean =
    plus_none (brought now op op.kind) (multiplier op.kind j *ℤ (read past op j -ℤ pos t.step -ℤ read now op j)) (none_brought now op op.kind clean)
    ∙ ap (λ z. multiplier op.kind j *ℤ z) (stale_none (read past op j) (pos t.step) (read now op j)
    (read_none past op j op.kind clean_past.held (clean_past.given (named op j))) (read_none now op j op.kind clean.held (clean.given (named op j))))
makes t g past now k op (act.ResultAdd e) clean_past clean = plus_none (brought now op op.kind) e (none_brought now op op.kind clean)
makes t g past now k op (act.Operator other) clean_past clean =
    plus_none (brought now op other) (exchanged t g op other 0 +ℤ exchanged t g op other 1 +ℤ exchanged t g op other 2) (none_brought now op other clean)
makes t g past now k op act.Skip clean_past clean = skip_none (at past.given k) (pos t.step) (clean_past.given k)

-- ---- what the operands of an operation bring

no_multiplier : (k : Kind) (j : ℕ) (x : ℤ) → (nat_lt j (operands k) ≡ true → x ≡ pos 0) → multiplier k j *ℤ x ≡ pos 0
no_multiplier k j x none = elim (cases_lt j (operands k)) [
  | inl lt ↦ zero_times (multiplier k j) x (none (lt-ltb j (operands k) lt))
  | inr past ↦ ap (λ m. m *ℤ x) (get_or_past (multipliers k) j (pos 0) past) ∙ *ℤ_comm (pos 0) x ∙ *ℤ-zero x
]

operand_none : (f : Frame) (op : Op) (j : ℕ) (k : Kind) → ((i : ℕ) → at f.held i ≡ pos 0)
    → (is_some (reads_as k op.from j) ≡ true → at f.given (named op j) ≡ pos 0) → multiplier k j *ℤ read_as f op j k ≡ pos 0
operand_none f op j kind.Load held given = zero_times (multiplier kind.Load j) (at f.held (unsigned_abs op.imm)) (held (unsigned_abs op.imm))
operand_none f op j k held given =
    no_multiplier k j (at f.given (named op j)) (λ lt. given (ap (λ b. is_some (cond b (Some (operand_type k j op.from)) None)) lt))

brings_none : (f : Frame) (op : Op) → ((i : ℕ) → at f.held i ≡ pos 0)
    → ((j : ℕ) → is_some (reads_as op.kind op.from j) ≡ true → at f.given (named op j) ≡ pos 0) → brought f op op.kind ≡ pos 0
brings_none f op held given = three_zeros (multiplier op.kind 0 *ℤ read f op 0) (multiplier op.kind 1 *ℤ read f op 1) (multiplier op.kind 2 *ℤ read f op 2)
    (operand_none f op 0 op.kind held (given 0)) (operand_none f op 1 op.kind held (given 1)) (operand_none f op 2 op.kind held (given 2))

-- ---- the first act at an operation

reached_later : (g : Lists) (earlier : (q k j : ℕ) → Reads g.operations q k j → k < q) (q : ℕ) (steps : List Step) (k : ℕ) → Leads g q 0 k steps → k ≤ q
reached_later g earlier q [] k leads = let same = leads.0 in omega (arith, same)
reached_later g earlier q (Step.Read r j ∷ steps) k leads =
    let before = earlier r k j leads.0 in
    let more = reached_later g earlier q steps r leads.1 in
    omega (arith, before, more)
reached_later g earlier q (Step.Cross l ∷ steps) k leads = absurd leads

no_values : (f : ℕ → ℤ) (xs : List ℕ) → ((n : ℕ) → f n ≡ pos 0) → (i : ℕ) → at (map f xs) i ≡ pos 0
no_values f [] none i = refl
no_values f (x ∷ xs) none zero = none x
no_values f (x ∷ xs) none (suc i) = no_values f xs none i

module _ (t : Numbers) (g : Lists) (acts : Acts) (n k : ℕ) (earlier : (q r j : ℕ) → Reads g.operations q r j → r < q)
    (before : (m : ℕ) → m < n → acts m k ≡ None) (alone : (m q : ℕ) → q ≢ k → acts m q ≡ None)
    (untouched : (m q : ℕ) → (IsTouched g acts m q → ⊥) → difference_at t g acts m q ≡ pos 0) where
  stands_at : (m q : ℕ) → (acts m q ≡ None → ⊥) → (q ≡ k) × (n ≤ m)
  stands_at m q stands = (
    ⊎_elim (λ (e : ((q == k) ≡ true) × (q ≡ k)). e.1) (λ (e : ((q == k) ≡ false) × (q ≢ k)). absurd (stands (alone m q e.1))) (eqb_tells q k),
    elim (cases_lt m n) [
      | inl lt ↦ absurd (stands (⊎_elim
          (λ (e : ((q == k) ≡ true) × (q ≡ k)). subst (λ x. acts m x ≡ None) (sym e.1) (before m lt))
          (λ (e : ((q == k) ≡ false) × (q ≢ k)). alone m q e.1)
          (eqb_tells q k)))
      | inr le ↦ le
    ],
  )

  none_before : (m q : ℕ) → m < n → difference_at t g acts m q ≡ pos 0
  none_before m q lt = untouched m q (λ touched.
      let at_it = stands_at touched.cycle touched.op touched.stands in
      let late = at_it.1 in
      let borders = touched.borders in
      omega (arith, lt, late, borders))

  none_earlier : (q : ℕ) → q < k → difference_at t g acts n q ≡ pos 0
  none_earlier q lt = untouched n q (λ touched.
      let at_it = stands_at touched.cycle touched.op touched.stands in
      let late = at_it.1 in
      let borders = touched.borders in
      let none : touched.more ≡ 0 = omega (arith, late, borders) in
      let low = reached_later g earlier q touched.path.0 touched.op (subst (λ b. Leads g q b touched.op touched.path.0) none touched.path.1) in
      let same = at_it.0 in
      omega (arith, lt, low, same))

  -- what stands before cycle n
  frame_past : ℕ → Frame
  frame_past zero = no_frame
  frame_past (suc m) = frame t g acts m

  clean_given : (m : ℕ) → m ≤ n → (i : ℕ) → at (frame_past m).given i ≡ pos 0
  unfolding frame_past
  clean_given zero le i = refl
  clean_given (suc m) le i = none_before m i (omega (arith, le))

  clean_held : (m : ℕ) → m ≤ n → (i : ℕ) → at (held_after g (frame_past m).given) i ≡ pos 0
  clean_held m le i = no_values (λ x. at (frame_past m).given x) g.stores (λ x. clean_given m le x) i

  past_held : (m : ℕ) → m ≤ n → (i : ℕ) → at (frame_past m).held i ≡ pos 0
  unfolding frame_past
  past_held zero le i = refl
  past_held (suc zero) le i = no_values (λ x. at (frame_past 0).given x) g.stores (λ x. refl) i
  past_held (suc (suc m)) le i = no_values (λ x. at (frame t g acts m).given x) g.stores (λ x. none_before m x (omega (arith, le))) i

  frame_is : (m : ℕ) → frame t g acts m ≡ cycle_after t g (acts m) (frame_past m)
  unfolding frame_past
  frame_is zero = refl
  frame_is (suc m) = refl

  module _ (op : Op) (a : Act) (there : slice_get g.operations k ≡ Some op) (first : acts n k ≡ Some a) where
    at_operation : Solved t g (acts n) (frame_past n) (held_after g (frame_past n).given) (frame t g acts n).given k op
    at_operation =
        let none : 0 + k ≡ k = omega arith in
        let s = solved t g (acts n) (frame_past n) (held_after g (frame_past n).given) [] 0 g.operations k op refl there in
        subst (λ f. Solved t g (acts n) (frame_past n) (held_after g (frame_past n).given) f.given k op) (sym (frame_is n))
        (subst (λ x. Solved t g (acts n) (frame_past n) (held_after g (frame_past n).given)
        (given_from t g (acts n) (frame_past n) (held_after g (frame_past n).given) [] 0 g.operations) x op) none s)

    before_given : (i : ℕ) → at at_operation.before i ≡ pos 0
    before_given i = elim (cases_lt i k) [
      | inl lt ↦ sym (at_operation.same i lt) ∙ none_earlier i lt
      | inr past ↦ get_or_past at_operation.before i (pos 0) (let many = at_operation.many in omega (arith, many, past))
    ]

    le_itself : n ≤ n
    le_itself = omega arith

    pub makes_alone : difference_at t g acts n k ≡ made t g op a
    makes_alone =
        let now : Frame = record { held = held_after g (frame_past n).given; given = at_operation.before } in
        at_operation.is ∙ ap (difference t g (frame_past n) now k op) first
        ∙ makes t g (frame_past n) now k op a (record { held = past_held n le_itself; given = clean_given n le_itself })
        (record { held = clean_held n le_itself; given = before_given })

    pub adds_alone : added t g acts n k ≡ made t g op a
    adds_alone =
        let held : (i : ℕ) → at (frame t g acts n).held i ≡ pos 0 = λ i. ap (λ (f : Frame). at f.held i) (frame_is n) ∙ clean_held n le_itself i in
        let brings = brings_none (frame t g acts n) op held (λ j reads.
        none_earlier (named op j) (earlier k (named op j) j (record { op = op; there = there; operand = reads; names = refl }))) in
        ap (added_at t g acts n k) there ∙ less_none (difference_at t g acts n k) (brought (frame t g acts n) op op.kind) brings ∙ makes_alone
      where
        less_none : (x y : ℤ) → y ≡ pos 0 → x -ℤ y ≡ x
        less_none x y e = omega (arith, ints)
