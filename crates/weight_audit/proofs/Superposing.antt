-- Superposing: the differences of a run under any acts are what comes over all paths from what each operation has as its own.
use Rattle.std.proofs.Common.{◌≡◌, ℕ, zero, suc, ◌+◌, ◌-◌, ◌<◌, ℤ, pos, unsigned_abs, ◌+ℤ◌, ◌-ℤ◌, ◌*ℤ◌, List, [], ◌∷◌, length, slice_get, Option, Some, None, ap, ap₂, sym, ◌∙◌, refl, arith}
use Rattle.std.proofs.Math.IntN.{*ℤ_comm}
use Rattle.std.proofs.lemmas.Int.{ints}
use Rattle.vcp_base.specs.declared.code.Profile.{Profile}
use Rattle.vcp_base.specs.Values.{at}
use Rattle.coded_unit.specs.Words.{modulo}
use Rattle.coded_unit.specs.WordLaws.{WordLaws}
use Rattle.op_graph.specs.declared.op.Op.{Op}
use Rattle.op_graph.specs.Lists.{Lists, cells}
use Rattle.op_graph.specs.Reads.{named}
use Rattle.op_graph.specs.Rules.{IsGraph}
use Rattle.signature_table.specs.Signatures.{Numbers}
use Rattle.fault_script.specs.Changes.{Acts}
use Rattle.fault_script.specs.Differences.{Frame, brought, difference_at, given_from, held_after, no_frame, frame}
use Rattle.weight_audit.specs.Weights.{at_out, across, sums, weight}
use Rattle.weight_audit.specs.Superposition.{sum_below, added, added_at, come, Superposes}
use Rattle.weight_audit.proofs.Along.{along, along_plus, along_same, along_pick}
use Rattle.weight_audit.proofs.Closing.{OpsFit, at_nothing, at_zeros, border, cycle_at, duality, entering, held_at, length-sums, loaded, loaded_none, no_more, once}
use Rattle.weight_audit.proofs.Cycles.{AreOfCycle, AreDifferences}
use Rattle.weight_audit.proofs.FirstSteps.{ReadsBefore}
use Rattle.weight_audit.proofs.Frames.{Rests, brings, brought_is, frame_of, many_from, undisturbed}
use Rattle.weight_audit.proofs.Loads.{Rising, rising_by}
use Rattle.weight_audit.proofs.Places.{Earlier, reads_before}
use Rattle.weight_audit.proofs.Residues.{residue_times}

-- ---- sums

sum_same : (f h : ℕ → ℤ) (n : ℕ) → ((k : ℕ) → k < n → f k ≡ h k) → sum_below f n ≡ sum_below h n
sum_same f h zero same = refl
sum_same f h (suc n) same =
    ap₂ (λ a b. a +ℤ b) (same 0 (omega arith)) (sum_same (λ k. f (suc k)) (λ k. h (suc k)) n (λ k lt. same (suc k) (omega (arith, lt))))

-- a sum along a list, by the places of the list
along_is : (f : ℕ → ℤ) (k : ℕ) (xs : List ℤ) → along f k xs ≡ sum_below (λ j. at xs j *ℤ f (k + j)) (length xs)
along_is f k [] = refl
along_is f k (x ∷ xs) =
    ap₂ (λ a b. x *ℤ f a +ℤ b) (let e : k ≡ k + 0 = omega arith in e)
    (along_is f (suc k) xs
    ∙ sum_same (λ j. at xs j *ℤ f (suc k + j)) (λ j. at xs j *ℤ f (k + suc j)) (length xs)
    (λ j lt. ap (λ n. at xs j *ℤ f n) (let e : suc k + j ≡ k + suc j = omega arith in e)))

-- ---- what enters a cycle

swapped : (a b : ℤ) → a +ℤ b ≡ b +ℤ a
swapped a b = omega (arith, ints)

module _ (g : Lists) (own : ℕ → ℕ → ℤ) (given : ℕ → List ℤ) (out : ℕ) (before : ReadsBefore 0 g.operations) (rising : Rising g.loads) (is : IsGraph g)
    (fit : OpsFit g) (are : AreDifferences g own given) where
  -- what is their own in cycle n, times the weights over so many borders
  part : ℕ → ℕ → ℤ
  part borders n = along (own n) 0 (sums g out borders)

  -- from cycle m back to the first
  comes_from : ℕ → ℕ → ℤ
  comes_from borders zero = part borders 0
  comes_from borders (suc m) = part borders (suc m) +ℤ comes_from (suc borders) m

  enters : (borders m : ℕ) → along (entering g (held_at g given m) (own m)) 0 (sums g out borders) ≡ comes_from borders m
  unfolding part comes_from
  enters borders zero =
      let held = held_after g [] in
      along_same (entering g held (own 0)) (own 0) 0 (sums g out borders)
      (λ j le lt. no_more (loaded held (slice_get g.operations j)) (own 0 j)
      (loaded_none held (slice_get g.operations j) (λ x. at_zeros g.stores [] x at_nothing)))
  enters borders (suc m) =
      let held = held_after g (given m) in
      let ws = sums g out borders in
      along_same (entering g held (own (suc m))) (λ i. own (suc m) i +ℤ loaded held (slice_get g.operations i)) 0 ws
      (λ j le lt. swapped (loaded held (slice_get g.operations j)) (own (suc m) j))
      ∙ along_plus (own (suc m)) (λ i. loaded held (slice_get g.operations i)) 0 ws
      ∙ ap (λ z. along (own (suc m)) 0 ws +ℤ z)
      (border g (given m) ws rising is fit (length-sums g out borders)
      ∙ duality g (across (cells g) ws) (held_at g given m) (own m) (given m) before (cycle_at g own given are m)
      ∙ enters (suc borders) m)

  by_cycles : (borders m : ℕ) → comes_from borders m ≡ sum_below (λ i. part (borders + i) (m - i)) (suc m)
  unfolding comes_from
  by_cycles borders zero = ends (part borders 0) ∙ ap (λ n. part n 0 +ℤ pos 0) (let e : borders ≡ borders + 0 = omega arith in e)
    where
      ends : (z : ℤ) → z ≡ z +ℤ pos 0
      ends z = omega (arith, ints)
  by_cycles borders (suc m) =
      ap₂ (λ a b. a +ℤ b) (ap₂ part (let e : borders ≡ borders + 0 = omega arith in e) (let e : suc m ≡ suc m - 0 = omega arith in e))
      (by_cycles (suc borders) m
      ∙ sum_same (λ i. part (suc borders + i) (m - i)) (λ i. part (borders + suc i) (suc m - suc i)) (suc m)
      (λ i lt. ap₂ part (let e : suc borders + i ≡ borders + suc i = omega arith in e) (let e : m - i ≡ suc m - suc i = omega arith in e)))

  part_is : (borders n : ℕ) → part borders n ≡ sum_below (λ k. at (sums g out borders) k *ℤ own n k) (length g.operations)
  unfolding part
  part_is borders n =
      along_is (own n) 0 (sums g out borders)
      ∙ ap (sum_below (λ k. at (sums g out borders) k *ℤ own n (0 + k))) (length-sums g out borders)
      ∙ sum_same (λ k. at (sums g out borders) k *ℤ own n (0 + k)) (λ k. at (sums g out borders) k *ℤ own n k) (length g.operations)
      (λ k lt. ap (λ j. at (sums g out borders) k *ℤ own n j) (let e : 0 + k ≡ k = omega arith in e))

  pub superposed : (m : ℕ) → at (given m) out ≡ come (length g.operations) (λ borders k. at (sums g out borders) k) own m
  superposed m =
      once (at (given m) out) ∙ sym (along_pick out (pos 1) 0 out (given m) (omega arith))
      ∙ duality g (at_out out) (held_at g given m) (own m) (given m) before (cycle_at g own given are m)
      ∙ enters 0 m ∙ by_cycles 0 m
      ∙ ap (sum_below (λ i. part (0 + i) (m - i))) (let e : suc m ≡ m + 1 = omega arith in e)
      ∙ sum_same (λ i. part (0 + i) (m - i)) (λ i. sum_below (λ k. at (sums g out i) k *ℤ own (m - i) k) (length g.operations)) (m + 1)
      (λ i lt. ap (λ n. part n (m - i)) (let e : 0 + i ≡ i = omega arith in e) ∙ part_is i (m - i))

-- ---- residues

-- two integers have one residue, whatever is added to both
abbrev Alike : Profile → ℤ → ℤ → Type 0
Alike p a b = (x : ℤ) → modulo p (x +ℤ a) ≡ modulo p (x +ℤ b)

together : (x a s : ℤ) → x +ℤ (a +ℤ s) ≡ (x +ℤ a) +ℤ s
together x a s = omega (arith, ints)

apart : (x a r : ℤ) → (x +ℤ a) +ℤ r ≡ (x +ℤ r) +ℤ a
apart x a r = omega (arith, ints)

back_again : (x b r : ℤ) → (x +ℤ r) +ℤ b ≡ x +ℤ (b +ℤ r)
back_again x b r = omega (arith, ints)

-- the weights may be taken for the sums over paths
weights_alike : (p : Profile) → WordLaws p → (w own : ℕ → ℤ) (n : ℕ) → Alike p (sum_below (λ k. pos (modulo p (w k)) *ℤ own k) n) (sum_below (λ k. w k *ℤ own k) n)
weights_alike p laws w own zero = λ x. refl
weights_alike p laws w own (suc n) = λ x.
    let rest = weights_alike p laws (λ k. w (suc k)) (λ k. own (suc k)) n in
    let a = pos (modulo p (w 0)) *ℤ own 0 in
    let b = w 0 *ℤ own 0 in
    let s = sum_below (λ k. pos (modulo p (w (suc k))) *ℤ own (suc k)) n in
    let r = sum_below (λ k. w (suc k) *ℤ own (suc k)) n in
    ap (modulo p) (together x a s) ∙ rest (x +ℤ a) ∙ ap (modulo p) (apart x a r)
    ∙ ap (λ z. modulo p ((x +ℤ r) +ℤ z)) (*ℤ_comm (pos (modulo p (w 0))) (own 0)) ∙ residue_times p laws (x +ℤ r) (own 0) (w 0)
    ∙ ap (λ z. modulo p ((x +ℤ r) +ℤ z)) (*ℤ_comm (own 0) (w 0)) ∙ ap (modulo p) (back_again x b r)

-- sums of such numbers are alike too
sums_alike : (p : Profile) (f h : ℕ → ℤ) (n : ℕ) → ((i : ℕ) → Alike p (f i) (h i)) → Alike p (sum_below f n) (sum_below h n)
sums_alike p f h zero each = λ x. refl
sums_alike p f h (suc n) each = λ x.
    let rest = sums_alike p (λ i. f (suc i)) (λ i. h (suc i)) n (λ i. each (suc i)) in
    let s = sum_below (λ i. f (suc i)) n in
    let r = sum_below (λ i. h (suc i)) n in
    ap (modulo p) (together x (f 0) s) ∙ rest (x +ℤ f 0) ∙ ap (modulo p) (apart x (f 0) r) ∙ each 0 (x +ℤ r) ∙ ap (modulo p) (back_again x (h 0) r)

come_alike : (g : Lists) → WordLaws g.profile → (own : ℕ → ℕ → ℤ) (out m : ℕ)
    → modulo g.profile (come (length g.operations) (λ borders k. at (sums g out borders) k) own m)
    ≡ modulo g.profile (come (length g.operations) (λ borders k. pos (weight g out borders k)) own m)
come_alike g laws own out m =
    let p = g.profile in
    let n = length g.operations in
    let by_weights = come n (λ borders k. pos (weight g out borders k)) own m in
    let by_sums = come n (λ borders k. at (sums g out borders) k) own m in
    ap (modulo p) (first by_sums)
    ∙ sym (sums_alike p (λ i. sum_below (λ k. pos (weight g out i k) *ℤ own (m - i) k) n) (λ i. sum_below (λ k. at (sums g out i) k *ℤ own (m - i) k) n) (m + 1)
    (λ i. weights_alike p laws (λ k. at (sums g out i) k) (own (m - i)) n) (pos 0))
    ∙ sym (ap (modulo p) (first by_weights))
  where
    first : (z : ℤ) → z ≡ pos 0 +ℤ z
    first z = omega (arith, ints)

-- ---- the differences of a run

split : (d w : ℤ) → d ≡ w +ℤ (d -ℤ w)
split d w = omega (arith, ints)

module _ (t : Numbers) (g : Lists) (acts : Acts) where
  abbrev pub given : ℕ → List ℤ
  given n = (frame t g acts n).given

  -- in the cycle after the cycle `past`
  solves : (n : ℕ) (past : Frame) → frame t g acts n ≡ frame_of (held_after g past.given) (given_from t g (acts n) past (held_after g past.given) [] 0 g.operations)
      → AreOfCycle g (held_after g past.given) (added t g acts n) (given_from t g (acts n) past (held_after g past.given) [] 0 g.operations)
  solves n past is = record {
    many = let rest = many_from t g (acts n) past (held_after g past.given) [] 0 g.operations in omega (arith, rest);
    each = λ k op there.
        let held = held_after g past.given in
        let whole = given_from t g (acts n) past held [] 0 g.operations in
        let bring = brings op.kind (at held (unsigned_abs op.imm)) (at whole (named op 0)) (at whole (named op 1)) (at whole (named op 2)) in
        split (at whole k) bring
        ∙ ap (λ z. bring +ℤ (at whole k -ℤ z)) (sym (brought_is held whole op))
        ∙ ap (λ (f : Frame). bring +ℤ (at f.given k -ℤ brought f op op.kind)) (sym is)
        ∙ ap (λ o. bring +ℤ added_at t g acts n k o) (sym there);
  }

  pub differences_are : AreDifferences g (added t g acts) given
  differences_are = record { first = solves 0 no_frame refl; later = λ m. solves (suc m) (frame t g acts m) refl }

pub superposes : (t : Numbers) (g : Lists) (acts : Acts) → Rests g → (m out : ℕ) → Superposes t g acts m out
superposes t g acts rests m out =
    let is = superposed g (added t g acts) (given t g acts) out (reads_before g rests.earlier) (rising_by g rests.loads) rests.graph rests.operations
    (differences_are t g acts) m in
    record { sum = is; residue = ap (modulo g.profile) is ∙ come_alike g rests.words (added t g acts) out m }

-- ---- where no act stands

nothing_left : (d w : ℤ) → d ≡ w → d -ℤ w ≡ pos 0
nothing_left d w e = omega (arith, ints)

module _ (t : Numbers) (g : Lists) (acts : Acts) (earlier : Earlier g) where
  quiet_after : (n : ℕ) (past : Frame) (k : ℕ)
      → frame t g acts n ≡ frame_of (held_after g past.given) (given_from t g (acts n) past (held_after g past.given) [] 0 g.operations)
      → acts n k ≡ None → (o : Option Op) → slice_get g.operations k ≡ o → added_at t g acts n k o ≡ pos 0
  quiet_after n past k is none None there = refl
  quiet_after n past k is none (Some op) there =
      let held = held_after g past.given in
      let whole = given_from t g (acts n) past held [] 0 g.operations in
      nothing_left (difference_at t g acts n k) (brought (frame t g acts n) op op.kind)
      (ap (λ (f : Frame). at f.given k) is ∙ undisturbed t g (acts n) past held k op earlier there none ∙ sym (brought_is held whole op)
      ∙ ap (λ (f : Frame). brought f op op.kind) (sym is))

  pub quiet : (n k : ℕ) → acts n k ≡ None → added t g acts n k ≡ pos 0
  quiet zero k none = quiet_after 0 no_frame k refl none (slice_get g.operations k) refl
  quiet (suc n) k none = quiet_after (suc n) (frame t g acts n) k refl none (slice_get g.operations k) refl
