-- Closing: the closed form, by exchange of the sums over operations and over their readers.
use Rattle.std.proofs.Common.{◌≡◌, ◌≢◌, ◌↔◌, ⊎_elim, ℕ, zero, suc, ◌+◌, ◌<◌, ◌≤◌, ◌==◌, ◌&&◌, cond, Bool, true, false, ℤ, pos, neg_ℤ, unsigned_abs, ◌+ℤ◌, ◌-ℤ◌, ◌*ℤ◌, List, [], ◌∷◌, length, map, take, slice_get, Option, Some, None, ap, ap₂, sym, ◌∙◌, refl, arith}
use Rattle.std.specs.Option.{is_some}
use Rattle.std.proofs.Math.IntN.{*ℤ_comm}
use Rattle.std.proofs.lemmas.Int.{ints}
use Rattle.std.proofs.lemmas.Bool.{eq-eqb}
use Rattle.std.proofs.lemmas.Bool.Decides.{eqb_tells}
use Rattle.vcp_base.specs.declared.ty.Ty.{Ty}
use Rattle.vcp_base.specs.declared.kind.Kind.{Kind}
use Rattle.vcp_base.specs.declared.kind.Kind.TheVariants as kind
use Rattle.vcp_base.specs.Code.{modulus}
use Rattle.vcp_base.specs.Kinds.{multiplier}
use Rattle.vcp_base.specs.Values.{at}
use Rattle.coded_unit.specs.Step.{weighed}
use Rattle.coded_unit.specs.Words.{modulo, value_part, coded}
use Rattle.coded_unit.specs.WordLaws.{WordLaws}
use Rattle.vcp_base.specs.declared.code.Profile.{Profile}
use Rattle.op_graph.specs.declared.op.Loaded.{Loaded}
use Rattle.op_graph.specs.declared.op.Op.{Op}
use Rattle.op_graph.specs.Lists.{Lists, cells}
use Rattle.op_graph.specs.Reads.{named}
use Rattle.op_graph.specs.Rules.{IsGraph, LoadFits, OpFits, place_of, scope, reads_as}
use Rattle.fault_script.specs.Differences.{held_after}
use Rattle.weight_audit.specs.Weights.{share, factor, by_readers, weights_from, at_out, across, sums}
use Rattle.weight_audit.proofs.Cycles.{read_as, AreOfCycle, AreDifferences, alone, Closes}
use Rattle.weight_audit.proofs.Along.{along, along_plus, along_times, along_same, along_zero, along_pick, along_exchange}
use Rattle.weight_audit.proofs.FirstSteps.{ReadsBefore, first_steps, length-weights_from}
use Rattle.weight_audit.proofs.Auditing.{there_is}
use Rattle.weight_audit.proofs.Loads.{Rising, rising_by, leaving_is, entering_is, back, loaded_as, loads_by, loaded_zero, comes_back, comes_none}
use Rattle.weight_audit.proofs.Places.{Earlier, reads_before}
use Rattle.weight_audit.proofs.Residues.{times_plus, residue_times, residue_zero}

-- ---- what an operation takes of the others

-- operand j's part
abbrev part : Op → List ℤ → ℕ → ℤ
part op d j = cond (is_some (reads_as op.kind op.from j)) (at d (named op j) *ℤ multiplier op.kind j) (pos 0)

along_share : (op : Op) (j : ℕ) (d : List ℤ) → along (λ i. share op i j) 0 d ≡ part op d j
along_share op j d = by_test (is_some (reads_as op.kind op.from j))
  where
    by_test : (b : Bool)
        → along (λ i. cond (b && (i == named op j)) (multiplier op.kind j) (pos 0)) 0 d ≡ cond b (at d (named op j) *ℤ multiplier op.kind j) (pos 0)
    by_test true = along_pick (named op j) (multiplier op.kind j) 0 (named op j) d (omega arith)
    by_test false = along_zero (λ i. pos 0) 0 d (λ j le. refl)

taken_is : (op : Op) (d : List ℤ) → along (factor op) 0 d ≡ part op d 0 +ℤ part op d 1 +ℤ part op d 2
taken_is op d =
    along_plus (λ i. share op i 0 +ℤ share op i 1) (λ i. share op i 2) 0 d
    ∙ ap₂ (λ a b. a +ℤ b) (along_plus (λ i. share op i 0) (λ i. share op i 1) 0 d ∙ ap₂ (λ a b. a +ℤ b) (along_share op 0 d) (along_share op 1 d))
    (along_share op 2 d)

pub by_kind : (k : Kind) (from : Ty) (h x y z : ℤ) → weighed k (read_as k h x) (read_as k h y) (read_as k h z)
    ≡ loaded_as k h +ℤ
    (cond (is_some (reads_as k from 0)) (x *ℤ multiplier k 0) (pos 0) +ℤ cond (is_some (reads_as k from 1)) (y *ℤ multiplier k 1) (pos 0) +ℤ cond
    (is_some (reads_as k from 2)) (z *ℤ multiplier k 2) (pos 0))
by_kind kind.Input from h x y z = omega (arith, ints)
by_kind kind.Const from h x y z = omega (arith, ints)
by_kind kind.Load from h x y z = omega (arith, ints)
by_kind kind.Store from h x y z = omega (arith, ints)
by_kind kind.Out from h x y z = omega (arith, ints)
by_kind kind.Conv from h x y z = omega (arith, ints)
by_kind kind.Neg from h x y z = omega (arith, ints)
by_kind kind.Not from h x y z = omega (arith, ints)
by_kind kind.Add from h x y z = omega (arith, ints)
by_kind kind.Sub from h x y z = omega (arith, ints)
by_kind kind.Mul from h x y z = omega (arith, ints)
by_kind kind.Div from h x y z = omega (arith, ints)
by_kind kind.Mod from h x y z = omega (arith, ints)
by_kind kind.Eq from h x y z = omega (arith, ints)
by_kind kind.Lt from h x y z = omega (arith, ints)
by_kind kind.And from h x y z = omega (arith, ints)
by_kind kind.Or from h x y z = omega (arith, ints)
by_kind kind.Xor from h x y z = omega (arith, ints)
by_kind kind.Sel from h x y z = omega (arith, ints)

-- what comes into operation i from outside the cycle: from its cell, and its own
abbrev pub loaded : List ℤ → Option Op → ℤ
loaded held None = pos 0
loaded held (Some op) = loaded_as op.kind (at held (unsigned_abs op.imm))

abbrev pub entering : Lists → List ℤ → (ℕ → ℤ) → ℕ → ℤ
entering g held own i = loaded held (slice_get g.operations i) +ℤ own i

rest_is : (d w o l t : ℤ) → d ≡ w +ℤ o → w ≡ l +ℤ t → t ≡ d -ℤ (l +ℤ o)
rest_is d w o l t e h = omega (arith, ints)

taken_rest : (g : Lists) (held : List ℤ) (own : ℕ → ℤ) (d : List ℤ) (k : ℕ) (op : Op) → AreOfCycle g held own d → slice_get g.operations k ≡ Some op
    → along (factor op) 0 d ≡ at d k -ℤ entering g held own k
taken_rest g held own d k op are there =
    let h = at held (unsigned_abs op.imm) in
    let w = weighed op.kind (read_as op.kind h (at d (named op 0))) (read_as op.kind h (at d (named op 1))) (read_as op.kind h (at d (named op 2))) in
    let t = part op d 0 +ℤ part op d 1 +ℤ part op d 2 in
    taken_is op d
    ∙ rest_is (at d k) w (own k) (loaded_as op.kind h) t (are.each k op there)
    (by_kind op.kind op.from h (at d (named op 0)) (at d (named op 1)) (at d (named op 2)))
    ∙ ap (λ x. at d k -ℤ (loaded held x +ℤ own k)) (sym there)

-- ---- the two sums

-- the weights of the operations, each times what the operation takes
abbrev paid : List Op → List ℤ → List ℤ → ℤ
paid [] ws d = pos 0
paid (op ∷ ops) [] d = pos 0
paid (op ∷ ops) (w ∷ ws) d = along (factor op) 0 d *ℤ w +ℤ paid ops ws d

exchanged : (ops : List Op) (ws d : List ℤ) → along (λ i. by_readers i ops ws) 0 d ≡ paid ops ws d
exchanged [] ws d = along_zero (λ i. pos 0) 0 d (λ j le. refl)
exchanged (op ∷ ops) [] d = along_zero (λ i. pos 0) 0 d (λ j le. refl)
exchanged (op ∷ ops) (w ∷ ws) d = along_plus (λ i. factor op i *ℤ w) (λ i. by_readers i ops ws) 0 d
    ∙ ap₂ (λ a b. a +ℤ b) (along_times (factor op) w 0 d) (exchanged ops ws d)

paid_is : (f : ℕ → ℤ) (k : ℕ) (ops : List Op) (ws d : List ℤ) → ((q j : ℕ) (op : Op) → slice_get ops q ≡ Some op → j ≡ k + q → along (factor op) 0 d ≡ f j)
    → length ws ≡ length ops → paid ops ws d ≡ along f k ws
paid_is f k [] [] d is many = refl
paid_is f k [] (w ∷ ws) d is many = absurd (omega (arith, many))
paid_is f k (op ∷ ops) [] d is many = absurd (omega (arith, many))
paid_is f k (op ∷ ops) (w ∷ ws) d is many =
    ap₂ (λ a b. a +ℤ b) (ap (λ z. z *ℤ w) (is 0 k op refl (omega arith)) ∙ *ℤ_comm (f k) w)
    (paid_is f (suc k) ops ws d (λ q j o there e. is (suc q) j o there (omega (arith, e))) (omega (arith, many)))

conclusion : (a b c d e f : ℤ) → a ≡ b +ℤ c → c ≡ d → e ≡ d +ℤ f → a ≡ e → b ≡ f
conclusion a b c d e f h i j k = omega (arith, ints)

split : (x e : ℤ) → x ≡ (x -ℤ e) +ℤ e
split x e = omega (arith, ints)

-- what leaves a cycle, times the differences, is what enters it, times the weights
pub duality : (g : Lists) (leaving : ℕ → ℤ) (held : List ℤ) (own : ℕ → ℤ) (d : List ℤ) → ReadsBefore 0 g.operations → AreOfCycle g held own d
    → along leaving 0 d ≡ along (entering g held own) 0 (weights_from leaving 0 g.operations)
duality g leaving held own d before are =
    let ws = weights_from leaving 0 g.operations in
    let count : length ws ≡ length g.operations = length-weights_from leaving 0 g.operations in
    let f : ℕ → ℤ = λ j. at d j -ℤ entering g held own j in
    let first : along (at ws) 0 d ≡ along leaving 0 d +ℤ along (λ i. by_readers i g.operations ws) 0 d =
    along_same (at ws) (λ i. leaving i +ℤ by_readers i g.operations ws) 0 d
    (λ j le lt. first_steps leaving 0 g.operations j j before (let many = are.many in omega (arith, lt, many)) (omega arith))
    ∙ along_plus leaving (λ i. by_readers i g.operations ws) 0 d in
    let second : along (λ i. by_readers i g.operations ws) 0 d ≡ along f 0 ws =
    exchanged g.operations ws d
    ∙ paid_is f 0 g.operations ws d (λ q j op there e. taken_rest g held own d q op are there ∙ ap f (let h : q ≡ j = omega (arith, e) in h)) count in
    let third : along (at d) 0 ws ≡ along f 0 ws +ℤ along (entering g held own) 0 ws =
    along_same (at d) (λ j. f j +ℤ entering g held own j) 0 ws (λ j le lt. split (at d j) (entering g held own j)) ∙ along_plus f (entering g held own) 0 ws in
    conclusion (along (at ws) 0 d) (along leaving 0 d) (along (λ i. by_readers i g.operations ws) 0 d) (along f 0 ws) (along (at d) 0 ws)
    (along (entering g held own) 0 ws) first second third (along_exchange d ws (are.many ∙ sym count))

-- ---- cycle after cycle

abbrev pub OpsFit : Lists → Type 0
OpsFit g = (i : ℕ) (op : Op) → slice_get g.operations i ≡ Some op → OpFits (place_of (scope g) i) (length g.turn_nodes) (take i g.operations) op

loaded_back : (g : Lists) (d : List ℤ) (i : ℕ) (op : Op) → Rising g.loads → IsGraph g
    → OpFits (place_of (scope g) i) (length g.turn_nodes) (take i g.operations) op → loaded (held_after g d) (Some op) ≡ back (cells g) d i
loaded_back g d i op rising is fits =
    loads_by op.kind (place_of (scope g) i) op.ty op.imm (back (cells g) d i) (held_after g d) fits.kind fits.imm
    (λ none. comes_none g.loads g.stores d i none) (λ e some. comes_back g.loads g.stores d i e rising is.all_stored some)

-- what the cells bring into the next cycle, times its weights, is what leaves this one
pub border : (g : Lists) (d ws : List ℤ) → Rising g.loads → IsGraph g → OpsFit g → length ws ≡ length g.operations
    → along (λ i. loaded (held_after g d) (slice_get g.operations i)) 0 ws ≡ along (across (cells g) ws) 0 d
border g d ws rising is fit many =
    along_same (λ i. loaded (held_after g d) (slice_get g.operations i)) (back (cells g) d) 0 ws (λ j le lt.
    let op = there_is g.operations j (omega (arith, lt, many)) in
    ap (loaded (held_after g d)) op.1 ∙ loaded_back g d j op.0 rising is (fit j op.0 op.1))
    ∙ entering_is (cells g) ws d ∙ sym (leaving_is (cells g) ws d)

-- the differences of the words that the cells have when cycle m begins
abbrev pub held_at : Lists → (ℕ → List ℤ) → ℕ → List ℤ
held_at g given zero = held_after g []
held_at g given (suc m) = held_after g (given m)

pub cycle_at : (g : Lists) (own : ℕ → ℕ → ℤ) (given : ℕ → List ℤ) → AreDifferences g own given → (m : ℕ) → AreOfCycle g (held_at g given m) (own m) (given m)
cycle_at g own given are zero = are.first
cycle_at g own given are (suc m) = are.later m

ends : (z : ℤ) → z ≡ z +ℤ pos 0
ends z = omega (arith, ints)

pub once : (z : ℤ) → z ≡ z *ℤ pos 1
once z = omega (arith, ints)

pub length-sums : (g : Lists) (out borders : ℕ) → length (sums g out borders) ≡ length g.operations
length-sums g out zero = length-weights_from (at_out out) 0 g.operations
length-sums g out (suc borders) = length-weights_from (across (cells g) (sums g out borders)) 0 g.operations

-- where nothing has a difference of its own after cycle m, what comes to an OUT is what enters that cycle, times the weights
general : (g : Lists) (own : ℕ → ℕ → ℤ) (given : ℕ → List ℤ) (out : ℕ) → ReadsBefore 0 g.operations → Rising g.loads → IsGraph g → OpsFit g
    → AreDifferences g own given → (h m : ℕ) → ((q i : ℕ) → m < q → own q i ≡ pos 0)
    → at (given (m + h)) out ≡ along (entering g (held_at g given m) (own m)) 0 (sums g out h)
general g own given out before rising is fit are zero m quiet =
    ap (λ n. at (given n) out) (let e : m + 0 ≡ m = omega arith in e) ∙ once (at (given m) out) ∙ sym (along_pick out (pos 1) 0 out (given m) (omega arith))
    ∙ duality g (at_out out) (held_at g given m) (own m) (given m) before (cycle_at g own given are m)
general g own given out before rising is fit are (suc h) m quiet =
    let ws = sums g out h in
    let held = held_after g (given m) in
    ap (λ n. at (given n) out) (let e : m + suc h ≡ suc m + h = omega arith in e)
    ∙ general g own given out before rising is fit are h (suc m) (λ q i lt. quiet q i (omega (arith, lt)))
    ∙ along_same (entering g held (own (suc m))) (λ i. loaded held (slice_get g.operations i)) 0 ws
    (λ j le lt. ap (λ z. loaded held (slice_get g.operations j) +ℤ z) (quiet (suc m) j (omega arith)) ∙ sym (ends (loaded held (slice_get g.operations j))))
    ∙ border g (given m) ws rising is fit (length-sums g out h)
    ∙ duality g (across (cells g) ws) (held_at g given m) (own m) (given m) before (cycle_at g own given are m)

-- ---- one difference alone

pub alone_other : (n k : ℕ) (delta : ℤ) (m i : ℕ) → m ≢ n → alone n k delta m i ≡ pos 0
alone_other n k delta m i ne = ⊎_elim
    (λ (h : ((m == n) ≡ true) × (m ≡ n)). absurd (ne h.1))
    (λ (h : ((m == n) ≡ false) × (m ≢ n)). ap (λ b. cond (b && (i == k)) delta (pos 0)) h.0)
    (eqb_tells m n)

alone_here : (n k : ℕ) (delta : ℤ) (i : ℕ) → alone n k delta n i ≡ cond (i == k) delta (pos 0)
alone_here n k delta i = ap (λ b. cond (b && (i == k)) delta (pos 0)) (eq-eqb n n refl)

pub at_zeros : (ns : List ℕ) (d : List ℤ) (j : ℕ) → ((x : ℕ) → at d x ≡ pos 0) → at (map (λ n. at d n) ns) j ≡ pos 0
at_zeros [] d zero none = refl
at_zeros [] d (suc j) none = refl
at_zeros (n ∷ ns) d zero none = none n
at_zeros (n ∷ ns) d (suc j) none = at_zeros ns d j none

pub at_nothing : (j : ℕ) → at [] j ≡ pos 0
at_nothing zero = refl
at_nothing (suc j) = refl

pub loaded_none : (held : List ℤ) (x : Option Op) → ((j : ℕ) → at held j ≡ pos 0) → loaded held x ≡ pos 0
loaded_none held None none = refl
loaded_none held (Some op) none = ap (loaded_as op.kind) (none (unsigned_abs op.imm)) ∙ loaded_zero op.kind

pub no_more : (a b : ℤ) → a ≡ pos 0 → a +ℤ b ≡ b
no_more a b e = omega (arith, ints)

-- the exact weight may be taken for its residue
residue_is : (p : Profile) → WordLaws p → (d s delta : ℤ) → d ≡ s *ℤ delta → modulo p d ≡ modulo p (pos (modulo p s) *ℤ delta)
residue_is p laws d s delta e =
    let added : (z : ℤ) → z ≡ pos 0 +ℤ z = λ z. omega (arith, ints) in
    ap (modulo p) (e ∙ *ℤ_comm s delta ∙ added (delta *ℤ s)) ∙ sym (residue_times p laws (pos 0) delta s)
    ∙ ap (modulo p) (sym (added (delta *ℤ pos (modulo p s))) ∙ *ℤ_comm delta (pos (modulo p s)))

module _ (g : Lists) (n k : ℕ) (delta : ℤ) (given : ℕ → List ℤ) (before : ReadsBefore 0 g.operations) (rising : Rising g.loads) (is : IsGraph g)
    (fit : OpsFit g) (laws : WordLaws g.profile) (are : AreDifferences g (alone n k delta) given) where
  given_by : (m : ℕ) → m < n → ((j : ℕ) → at (held_at g given m) j ≡ pos 0) → (x : ℕ) → at (given m) x ≡ pos 0
  given_by m lt held x =
      once (at (given m) x) ∙ sym (along_pick x (pos 1) 0 x (given m) (omega arith))
      ∙ duality g (at_out x) (held_at g given m) (alone n k delta m) (given m) before (cycle_at g (alone n k delta) given are m)
      ∙ along_zero (entering g (held_at g given m) (alone n k delta m)) 0 (weights_from (at_out x) 0 g.operations) (λ j le.
      no_more (loaded (held_at g given m) (slice_get g.operations j)) (alone n k delta m j) (loaded_none (held_at g given m) (slice_get g.operations j) held)
      ∙ alone_other n k delta m j (λ e. omega (arith, e, lt)))

  held_none : (m : ℕ) → m ≤ n → (j : ℕ) → at (held_at g given m) j ≡ pos 0
  held_none zero le j = at_zeros g.stores [] j at_nothing
  held_none (suc m) le j = at_zeros g.stores (given m) j (given_by m (omega (arith, le)) (held_none m (omega (arith, le))))

  given_none : (m : ℕ) → m < n → (x : ℕ) → at (given m) x ≡ pos 0
  given_none m lt x = given_by m lt (held_none m (omega (arith, lt))) x

  after_is : (out h : ℕ) → at (given (n + h)) out ≡ at (sums g out h) k *ℤ delta
  after_is out h =
      general g (alone n k delta) given out before rising is fit are h n (λ q i lt. alone_other n k delta q i (λ e. omega (arith, e, lt)))
      ∙ along_same (entering g (held_at g given n) (alone n k delta n)) (λ i. cond (i == k) delta (pos 0)) 0 (sums g out h) (λ j le lt.
      no_more (loaded (held_at g given n) (slice_get g.operations j)) (alone n k delta n j)
      (loaded_none (held_at g given n) (slice_get g.operations j) (held_none n (omega arith)))
      ∙ alone_here n k delta j)
      ∙ along_pick k delta 0 k (sums g out h) (omega arith)

  comes : (out : ℕ) → Closes g n k delta given out
  comes out = record {
    before = λ m lt. given_none m lt out;
    after = λ h. after_is out h;
    residue = λ h. residue_is g.profile laws (at (given (n + h)) out) (at (sums g out h) k) delta (after_is out h);
  }

pub closed_form : (g : Lists) → WordLaws g.profile → Earlier g
    → ((b : ℕ) (m : Loaded) → slice_get g.loads b ≡ Some m → LoadFits (length g.names) (length g.operations) (take b g.loads) m) → OpsFit g → IsGraph g
    → (n k : ℕ) (delta : ℤ) (given : ℕ → List ℤ) → AreDifferences g (alone n k delta) given → (out : ℕ) → Closes g n k delta given out
closed_form g laws earlier loads fit is n k delta given are out = comes g n k delta given (reads_before g earlier) (rising_by g loads) is fit laws are out

-- ---- a stale operand

times_negated : (a x : ℤ) → a *ℤ neg_ℤ x ≡ neg_ℤ (a *ℤ x)
times_negated a x =
    let h : a *ℤ (x +ℤ neg_ℤ x) ≡ a *ℤ x +ℤ a *ℤ neg_ℤ x = times_plus a x (neg_ℤ x) in
    let e : a *ℤ (x +ℤ neg_ℤ x) ≡ a *ℤ pos 0 = ap (λ z. a *ℤ z) (let none : x +ℤ neg_ℤ x ≡ pos 0 = omega (arith, ints) in none) in
    omega (arith, ints)

negated_none : (p : Profile) → WordLaws p → (z : ℤ) → modulo p z ≡ 0 → modulo p (neg_ℤ z) ≡ 0
unfolding coded
negated_none p laws z none =
    let w : z ≡ pos (modulus p) *ℤ value_part p z +ℤ pos (modulo p z) = laws.whole z in
    let n : pos (modulus p) *ℤ neg_ℤ (value_part p z) ≡ neg_ℤ (pos (modulus p) *ℤ value_part p z) = times_negated (pos (modulus p)) (value_part p z) in
    let e : neg_ℤ z ≡ pos 0 +ℤ pos (modulus p) *ℤ neg_ℤ (value_part p z) = omega (arith, ints) in
    laws.multiple (neg_ℤ z) (pos 0) (neg_ℤ (value_part p z)) e ∙ residue_zero p laws

stale_negated : (w step : ℕ) (m : ℤ) → pos w *ℤ (m *ℤ neg_ℤ (pos step)) ≡ neg_ℤ (pos step *ℤ m *ℤ pos w)
stale_negated w step m =
    ap (λ z. pos w *ℤ z) (times_negated m (pos step)) ∙ times_negated (pos w) (m *ℤ pos step)
    ∙ ap neg_ℤ (*ℤ_comm (pos w) (m *ℤ pos step) ∙ ap (λ z. z *ℤ pos w) (*ℤ_comm m (pos step)))

twice : (z : ℤ) → neg_ℤ (neg_ℤ z) ≡ z
twice z = omega (arith, ints)

pub stale_is : (p : Profile) → WordLaws p → (d : ℤ) (w step : ℕ) (m : ℤ) → modulo p d ≡ modulo p (pos w *ℤ (m *ℤ neg_ℤ (pos step)))
    → (modulo p d ≡ 0) ↔ (modulo p (pos step *ℤ m *ℤ pos w) ≡ 0)
stale_is p laws d w step m is =
    let z = pos step *ℤ m *ℤ pos w in
    let as_negated : modulo p d ≡ modulo p (neg_ℤ z) = is ∙ ap (modulo p) (stale_negated w step m) in
    ((λ none. ap (modulo p) (sym (twice z)) ∙ negated_none p laws (neg_ℤ z) (sym as_negated ∙ none)), (λ none. as_negated ∙ negated_none p laws z none))
