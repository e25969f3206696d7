-- RestMeaning: what it says of every run that a number which is added to the later readings of a word is told to be refused, or to come to nothing.
use Rattle.std.proofs.Common.{◌≡◌, ◌≢◌, ◌⊎◌, ⊎_elim, inl, inr, ℕ, zero, suc, ◌+◌, ◌-◌, ◌*◌, ◌<◌, ◌≤◌, ◌==◌, ◌&&◌, nat_le, cond, Bool, true, false, List, []}
use Rattle.std.proofs.Common.{◌∷◌, length, map}
use Rattle.std.proofs.Common.{drop, slice_get, ℤ, pos, ◌+ℤ◌, ◌*ℤ◌, Some, None, ap, sym, subst, ◌∙◌, refl, arith}
use Rattle.std.specs.List.{Contains}
use Rattle.std.proofs.Math.IntN.{*ℤ_comm, *ℤ-zero}
use Rattle.std.proofs.lemmas.Bool.Decides.{eqb_tells, leb_tells}
use Rattle.std.proofs.lemmas.Int.{ints}
use Rattle.std.proofs.lemmas.Option.{get_or_from_slice_get, slice_get-get_or, slice_get_within}
use Rattle.vcp_base.specs.Values.{at}
use Rattle.coded_unit.specs.Words.{modulo}
use Rattle.coded_unit.specs.WordLaws.{WordLaws}
use Rattle.vcp_base.specs.declared.code.Profile.{Profile}
use Rattle.op_graph.specs.declared.op.Outlet.{Outlet}
use Rattle.op_graph.specs.GraphRun.{initial}
use Rattle.range_audit.specs.Audit.{RowsFit}
use Rattle.fault_script.specs.declared.act.Act.{Act}
use Rattle.fault_script.specs.declared.act.Act.TheVariants as act
use Rattle.fault_script.specs.Changes.{Acts}
use Rattle.fault_script.specs.Differences.{difference_at}
use Rattle.fault_injector.specs.Verdicts.{plain_cycles}
use Rattle.weight_audit.specs.Paths.{Reached}
use Rattle.weight_audit.specs.Weights.{weight}
use Rattle.fault_cover.specs.declared.disturbance.Disturbance.TheVariants as disturbance
use Rattle.fault_cover.specs.Additions.{Addends, AreAdded, frame_with, run_with, verdict_with}
use Rattle.fault_cover.specs.Certain.{IsSubject, Means, StandsAt, StandsAtRest}
use Rattle.fault_cover.specs.Sources.{Reading, Source, as_source, comes, part, readings, source_at}
use Rattle.fault_cover.specs.Telling.{NoOutputBefore, Subject}
use Rattle.fault_cover.specs.Touched.{IsTouched}
use Rattle.fault_cover.proofs.AddedDifferences.{any_make, as_acts, compared_same, frame_same, frame_sums, no_act_at, one_each}
use Rattle.fault_cover.proofs.AddedRuns.{with_run}
use Rattle.fault_cover.proofs.Certainty.{Laws, TouchesFrom, comes_is, difference_is}
use Rattle.fault_cover.proofs.Choosing.{contained, contained_first, mapped_there}
use Rattle.fault_cover.proofs.Dividing.{plus_residue, times_plus}
use Rattle.fault_cover.proofs.Meaning.{any_counts, means_there, run_means}
use Rattle.fault_cover.proofs.ReadOnce.{AreReadBy, IsReadBy, Rising, left_read, left_rise, no_lower, rank, readings_read, readings_rise}

-- ---- one reading

-- this is operation q in cycle m
is_there : ℕ → Reading → ℕ → ℕ → Bool
is_there n r m q = (n + r.borders == m) && (r.op == q)

-- the reading is of operand j of operation q in cycle m, where the word is of cycle n
record Hits (n : ℕ) (r : Reading) (m q j : ℕ) : Type 0 where
  pub cycle : n + r.borders ≡ m
  pub op : r.op ≡ q
  pub operand : r.operand ≡ j

-- what is added where the number is added to one reading alone
single : ℕ → ℤ → Reading → Addends
single n e r m q j = cond (is_there n r m q) (cond (r.operand == j) e (pos 0)) (pos 0)

single_acts : ℕ → ℤ → Reading → Acts
single_acts n e r m q = cond (is_there n r m q) (Some (act.OperandAdd r.operand e)) None

two_true : (a b : Bool) → a ≡ true → b ≡ true → (a && b) ≡ true
two_true a b e f = ap (λ x. x && b) e ∙ f

second_false : (a b : Bool) → b ≡ false → (a && b) ≡ false
second_false true b e = e
second_false false b e = refl

there_is_it : (n : ℕ) (r : Reading) (m q : ℕ) → ((is_there n r m q ≡ true) × (n + r.borders ≡ m) × (r.op ≡ q))
    ⊎ ((is_there n r m q ≡ false) × (n + r.borders ≡ m → r.op ≡ q → ⊥))
unfolding is_there
there_is_it n r m q = ⊎_elim
    (λ (h : ((n + r.borders == m) ≡ true) × (n + r.borders ≡ m)). ⊎_elim
    (λ (o : ((r.op == q) ≡ true) × (r.op ≡ q)). inl (two_true (n + r.borders == m) (r.op == q) h.0 o.0, h.1, o.1))
    (λ (o : ((r.op == q) ≡ false) × (r.op ≢ q)). inr (second_false (n + r.borders == m) (r.op == q) o.0, λ cycle op. o.1 op))
    (eqb_tells r.op q))
    (λ (h : ((n + r.borders == m) ≡ false) × (n + r.borders ≢ m)). inr (ap (λ b. b && (r.op == q)) h.0, λ cycle op. h.1 cycle))
    (eqb_tells (n + r.borders) m)

single_there : (n : ℕ) (e : ℤ) (r : Reading) (m q j : ℕ) → ((single n e r m q j ≡ e) × Hits n r m q j) ⊎ ((single n e r m q j ≡ pos 0) × (Hits n r m q j → ⊥))
unfolding single
single_there n e r m q j = ⊎_elim
    (λ (h : (is_there n r m q ≡ true) × (n + r.borders ≡ m) × (r.op ≡ q)). ⊎_elim
    (λ (o : ((r.operand == j) ≡ true) × (r.operand ≡ j)).
    inl (
      ap (λ b. cond b (cond (r.operand == j) e (pos 0)) (pos 0)) h.0 ∙ ap (λ b. cond b e (pos 0)) o.0,
      record { cycle = h.1; op = h.2; operand = o.1 },
    ))
    (λ (o : ((r.operand == j) ≡ false) × (r.operand ≢ j)).
    inr (ap (λ b. cond b (cond (r.operand == j) e (pos 0)) (pos 0)) h.0 ∙ ap (λ b. cond b e (pos 0)) o.0, λ hits. o.1 hits.operand))
    (eqb_tells r.operand j))
    (λ (h : (is_there n r m q ≡ false) × (n + r.borders ≡ m → r.op ≡ q → ⊥)).
    inr (ap (λ b. cond b (cond (r.operand == j) e (pos 0)) (pos 0)) h.0, λ hits. h.1 hits.cycle hits.op))
    (there_is_it n r m q)

single_added : (n : ℕ) (e : ℤ) (r : Reading) → AreAdded (single_acts n e r) (single n e r)
unfolding single single_acts
single_added n e r = record {
  none = λ m q none j. no_number (is_there n r m q) j none;
  one = λ m q i z some. one_number (is_there n r m q) i z some;
  no_other = λ m q some. (r.operand, e, an_act (is_there n r m q) some);
}
  where
    no_number : (b : Bool) (j : ℕ) → cond b (Some (act.OperandAdd r.operand e)) None ≡ None → cond b (cond (r.operand == j) e (pos 0)) (pos 0) ≡ pos 0
    no_number true j none = absurd cc
    no_number false j none = refl

    act_is : (i j : ℕ) (y z : ℤ) → Some (act.OperandAdd i y) ≡ Some (act.OperandAdd j z) → (i ≡ j) × (y ≡ z)
    act_is i j y z h = (cc, cc)

    one_number : (b : Bool) (i : ℕ) (z : ℤ) → cond b (Some (act.OperandAdd r.operand e)) None ≡ Some (act.OperandAdd i z)
        → (cond b (cond (r.operand == i) e (pos 0)) (pos 0) ≡ z) × ((j : ℕ) → j ≢ i → cond b (cond (r.operand == j) e (pos 0)) (pos 0) ≡ pos 0)
    one_number true i z some =
        let is = act_is r.operand i e z some in (
          ⊎_elim
              (λ (h : ((r.operand == i) ≡ true) × (r.operand ≡ i)). ap (λ b. cond b e (pos 0)) h.0 ∙ is.1)
              (λ (h : ((r.operand == i) ≡ false) × (r.operand ≢ i)). absurd (h.1 is.0))
              (eqb_tells r.operand i),
          λ j other. ⊎_elim
              (λ (h : ((r.operand == j) ≡ true) × (r.operand ≡ j)). absurd (other (sym h.1 ∙ is.0)))
              (λ (h : ((r.operand == j) ≡ false) × (r.operand ≢ j)). ap (λ b. cond b e (pos 0)) h.0)
              (eqb_tells r.operand j),
        )
    one_number false i z some = absurd cc

    an_act : (b : Bool) → (cond b (Some (act.OperandAdd r.operand e)) None ≡ None → ⊥)
        → cond b (Some (act.OperandAdd r.operand e)) None ≡ Some (act.OperandAdd r.operand e)
    an_act true some = refl
    an_act false some = absurd (some refl)

single_stands : (n : ℕ) (e : ℤ) (r : Reading) → StandsAt (single_acts n e r) (n + r.borders) r.op (act.OperandAdd r.operand e)
unfolding single_acts
single_stands n e r = record {
  first = ⊎_elim
      (λ (h : (is_there n r (n + r.borders) r.op ≡ true) × (n + r.borders ≡ n + r.borders) × (r.op ≡ r.op)).
      ap (λ b. cond b (Some (act.OperandAdd r.operand e)) None) h.0)
      (λ (h : (is_there n r (n + r.borders) r.op ≡ false) × (n + r.borders ≡ n + r.borders → r.op ≡ r.op → ⊥)). absurd (h.1 refl refl))
      (there_is_it n r (n + r.borders) r.op);
  before = λ m lt. elsewhere m r.op (λ cycle op. omega (arith, lt, cycle));
  alone = λ m q other. elsewhere m q (λ cycle op. other (sym op));
}
  where
    elsewhere : (m q : ℕ) → (n + r.borders ≡ m → r.op ≡ q → ⊥) → cond (is_there n r m q) (Some (act.OperandAdd r.operand e)) None ≡ None
    elsewhere m q isnt = ⊎_elim
        (λ (h : (is_there n r m q ≡ true) × (n + r.borders ≡ m) × (r.op ≡ q)). absurd (isnt h.1 h.2))
        (λ (h : (is_there n r m q ≡ false) × (n + r.borders ≡ m → r.op ≡ q → ⊥)).
        ap (λ b. cond b (Some (act.OperandAdd r.operand e)) None) h.0)
        (there_is_it n r m q)

-- ---- several readings

-- what is added where the number is added to these readings
added_to : ℕ → ℤ → List Reading → Addends
added_to n e [] m q j = pos 0
added_to n e (r ∷ rs) m q j = single n e r m q j +ℤ added_to n e rs m q j

alone_left : (x y : ℤ) → y ≡ pos 0 → x +ℤ y ≡ x
alone_left x y e = omega (arith, ints)

alone_right : (x y : ℤ) → x ≡ pos 0 → x +ℤ y ≡ y
alone_right x y e = omega (arith, ints)

contained_at : {X : Type 0} (xs : List X) (x : X) (c : Contains xs x) → slice_get xs c.0 ≡ Some x
contained_at xs x c = slice_get-get_or xs c.0 x c.1 ∙ ap Some c.2

module _ (n : ℕ) (e : ℤ) (m q j : ℕ) where
  -- where none of these readings is meant
  none_hit : (rs : List Reading) → ((r : Reading) → Contains rs r → Hits n r m q j → ⊥) → added_to n e rs m q j ≡ pos 0
  unfolding added_to
  none_hit [] none = refl
  none_hit (r ∷ rs) none = ⊎_elim
      (λ (h : (single n e r m q j ≡ e) × Hits n r m q j). absurd (none r (contained_first r rs) h.1))
      (λ (h : (single n e r m q j ≡ pos 0) × (Hits n r m q j → ⊥)).
      alone_right (single n e r m q j) (added_to n e rs m q j) h.0 ∙ none_hit rs (λ s c. none s (contained s r rs c)))
      (single_there n e r m q j)

  -- a number that is added to each of these readings, and to nothing else
  added_once : (operations low high : ℕ) (x : ℤ) (rs : List Reading) → Rising operations low high rs
      → ((r : Reading) → Contains rs r → Hits n r m q j → x ≡ e) → (((r : Reading) → Contains rs r → Hits n r m q j → ⊥) → x ≡ pos 0)
      → x ≡ added_to n e rs m q j
  unfolding added_to
  added_once operations low high x [] rising each alone = alone (λ r c. absurd (let lt = c.1 in omega (arith, lt)))
  added_once operations low high x (r ∷ rs) rising each alone = ⊎_elim
      (λ (h : (single n e r m q j ≡ e) × Hits n r m q j).
      each r (contained_first r rs) h.1 ∙ sym h.0
      ∙ sym (alone_left (single n e r m q j) (added_to n e rs m q j) (none_hit rs (λ s c hits.
      let above = no_lower operations (rank operations r + 1) high rs c.0 s rising.1 (contained_at rs s c) in
      let same = same_rank h.1 hits in
      omega (arith, above, same)))))
      (λ (h : (single n e r m q j ≡ pos 0) × (Hits n r m q j → ⊥)).
      added_once operations (rank operations r + 1) high x rs rising.1 (λ s c. each s (contained s r rs c)) (λ none. alone (not_there h.1 none))
      ∙ sym (alone_right (single n e r m q j) (added_to n e rs m q j) h.0))
      (single_there n e r m q j)
    where
      same_rank : {r s : Reading} → Hits n r m q j → Hits n s m q j → rank operations s ≡ rank operations r
      same_rank {r} {s} one other =
          let first = one.cycle in
          let second = other.cycle in
          let borders : s.borders ≡ r.borders = omega (arith, first, second) in
          let op : s.op ≡ r.op = other.op ∙ sym one.op in
          let operand : s.operand ≡ r.operand = other.operand ∙ sym one.operand in
          ap (λ b. 3 * (b * operations + s.op) + s.operand) borders ∙ ap (λ o. 3 * (r.borders * operations + o) + s.operand) op
          ∙ ap (λ i. 3 * (r.borders * operations + r.op) + i) operand

      not_there : (Hits n r m q j → ⊥) → ((s : Reading) → Contains rs s → Hits n s m q j → ⊥) → (s : Reading) → Contains (r ∷ rs) s → Hits n s m q j → ⊥
      not_there first rest s c hits = by_place c.0 (contained_at (r ∷ rs) s c)
        where
          by_place : (i : ℕ) → slice_get (r ∷ rs) i ≡ Some s → ⊥
          by_place zero e =
              let same : r ≡ s = cc in
              first (subst (λ x. Hits n x m q j) (sym same) hits)
          by_place (suc i) e = rest s (i, slice_get_within rs i s e, get_or_from_slice_get rs i s s e) hits

contains_at : {X : Type 0} (xs : List X) (i : ℕ) (x : X) → slice_get xs i ≡ Some x → Contains xs x
contains_at xs i x there = (i, slice_get_within xs i x there, get_or_from_slice_get xs i x x there)

contains_one : {X : Type 0} (x y : X) → Contains (x ∷ []) y → x ≡ y
contains_one x y c = by_place c.0 (contained_at (x ∷ []) y c)
  where
    by_place : (i : ℕ) → slice_get (x ∷ []) i ≡ Some y → x ≡ y
    by_place zero e = cc
    by_place (suc i) e = absurd cc

-- ---- what is reached

-- what isn't reached from some sources isn't from fewer of them
fewer_sources : (s : Subject) (from all : List Source) (h : ℕ) → ((x : Source) → Contains from x → Contains all x) → NoOutputBefore s all h
    → NoOutputBefore s from h
fewer_sources s from all h within outs m i lt reaches = outs m i lt (record {
  output = reaches.output;
  there = reaches.there;
  reaches = record {
    source = reaches.reaches.source;
    among = within reaches.reaches.source reaches.reaches.among;
    more = reaches.reaches.more;
    borders_are = reaches.reaches.borders_are;
    path = reaches.reaches.path;
  };
})

-- nor is what isn't reached from the readings reached from one of them as a fault of its own cycle
fewer_borders : (s : Subject) (r : Reading) (h : ℕ) → NoOutputBefore s (as_source r ∷ []) h
    → NoOutputBefore s (source_at r.op 0 r.multiplier ∷ []) (h - r.borders)
fewer_borders s r h outs m i lt reaches =
    let at_it = reaches.reaches in
    let only : source_at r.op 0 r.multiplier ≡ at_it.source = contains_one (source_at r.op 0 r.multiplier) at_it.source at_it.among in
    let op : at_it.source.op ≡ r.op = sym (ap (λ (x : Source). x.op) only) in
    let none : at_it.source.borders ≡ 0 = sym (ap (λ (x : Source). x.borders) only) in
    let borders = at_it.borders_are in
    outs (r.borders + at_it.more) i (omega (arith, lt, none, borders)) (record {
      output = reaches.output;
      there = reaches.there;
      reaches = record {
        source = as_source r;
        among = contained_first (as_source r) [];
        more = at_it.more;
        borders_are = refl;
        path = subst (λ k. Reached s.graph reaches.output.op at_it.more k) op at_it.path;
      };
    })

-- ---- what comes to outputs

plus_both : (p : Profile) → WordLaws p → (x y u v : ℤ) → modulo p x ≡ modulo p u → modulo p y ≡ modulo p v → modulo p (x +ℤ y) ≡ modulo p (u +ℤ v)
plus_both p laws x y u v first second =
    let turned : u +ℤ y ≡ y +ℤ u = omega (arith, ints) in
    let back : v +ℤ u ≡ u +ℤ v = omega (arith, ints) in
    sym (plus_residue p laws x y) ∙ ap (λ r. modulo p (pos r +ℤ y)) first ∙ plus_residue p laws u y ∙ ap (modulo p) turned
    ∙ sym (plus_residue p laws y u) ∙ ap (λ r. modulo p (pos r +ℤ u)) second ∙ plus_residue p laws v u ∙ ap (modulo p) back

zero_times : (e : ℤ) → pos 0 *ℤ e ≡ pos 0
zero_times e = *ℤ_comm (pos 0) e ∙ *ℤ-zero e

times_sum : (x y e : ℤ) → x *ℤ e +ℤ y *ℤ e ≡ (x +ℤ y) *ℤ e
times_sum x y e = sum (x *ℤ e) (y *ℤ e) (e *ℤ x) (e *ℤ y) (e *ℤ (x +ℤ y)) (*ℤ_comm x e) (*ℤ_comm y e) (times_plus e x y) ∙ *ℤ_comm e (x +ℤ y)
  where
    sum : (a b c d f : ℤ) → a ≡ c → b ≡ d → f ≡ c +ℤ d → a +ℤ b ≡ f
    sum a b c d f h i j = omega (arith, ints)

module _ (s : Subject) (is : IsSubject s) (laws : Laws s.graph) (n : ℕ) (e : ℤ) (h : ℕ) where
  no_difference_left : (acts : Acts) (q : ℕ) → (IsTouched s.graph acts (n + h) q → ⊥)
      → modulo s.table.profile (difference_at s.table s.graph acts (n + h) q) ≡ modulo s.graph.profile (pos 0)
  no_difference_left acts q untouched =
      ap (modulo s.table.profile) (laws.none s.table s.graph acts (n + h) q is.graph untouched) ∙ ap (λ p. modulo p (pos 0)) is.table_is.0

  -- where nothing is added
  none_come : (q : ℕ) → at (frame_with s.graph (added_to n e []) (n + h)).given q ≡ pos 0
  unfolding added_to
  none_come q =
      let acts : Acts = λ m k. None in
      ap (λ f. at f.given q) (frame_same s.table s.graph acts (added_to n e []) (one_each s.table s.graph acts (added_to n e []) (record {
        none = λ m k none j. refl;
        one = λ m k i z some. absurd (no_act some);
        no_other = λ m k some. absurd (some refl);
      })) (n + h)) ∙ laws.none s.table s.graph acts (n + h) q is.graph (λ touched. touched.stands refl)
    where
      no_act : {a : Act} → None ≡ Some a → ⊥
      no_act none = absurd cc

  module _ (i : ℕ) (o : Outlet) (here : slice_get s.graph.outputs i ≡ Some o) where
    -- of one reading
    module _ (r : Reading) (by : IsReadBy s.graph r) (outs : NoOutputBefore s (as_source r ∷ []) h) where
      single_reached : r.borders ≤ h → nat_le r.borders h ≡ true
          → modulo s.table.profile (difference_at s.table s.graph (single_acts n e r) (n + h) o.op)
          ≡ modulo s.graph.profile (part s.graph o.op h (as_source r) *ℤ e)
      single_reached le test =
          let left = h - r.borders in
          let cycle : (n + r.borders) + left ≡ n + h = omega (arith, le) in
          let fewer = fewer_borders s r h outs in
          let makes = ap (λ m. modulo s.graph.profile (m *ℤ e)) (sym by.multiplier_is) in
          ap (λ m. modulo s.table.profile (difference_at s.table s.graph (single_acts n e r) m o.op)) (sym cycle)
          ∙ difference_is s is laws (single_acts n e r) (n + r.borders) r.op by.op (act.OperandAdd r.operand e) by.there (single_stands n e r)
          r.multiplier e left makes fewer i o here
          ∙ ap (λ z. modulo s.graph.profile (z *ℤ e))
          (comes_is s is laws (single_acts n e r) (n + r.borders) r.op by.op (act.OperandAdd r.operand e) by.there (single_stands n e r)
          r.multiplier e left makes fewer o.op
          ∙ sym (ap (λ b. cond b (r.multiplier *ℤ pos (weight s.graph o.op left r.op)) (pos 0)) test))

      single_beyond : h < r.borders → nat_le r.borders h ≡ false
          → modulo s.table.profile (difference_at s.table s.graph (single_acts n e r) (n + h) o.op)
          ≡ modulo s.graph.profile (part s.graph o.op h (as_source r) *ℤ e)
      unfolding single_acts
      single_beyond lt test =
          no_difference_left (single_acts n e r) o.op (λ touched. ⊎_elim
          (λ (t : (is_there n r touched.cycle touched.op ≡ true) × (n + r.borders ≡ touched.cycle) × (r.op ≡ touched.op)).
          let cycle = t.1 in let borders = touched.borders in omega (arith, lt, cycle, borders))
          (λ (t : (is_there n r touched.cycle touched.op ≡ false) × (n + r.borders ≡ touched.cycle → r.op ≡ touched.op → ⊥)).
          touched.stands (ap (λ b. cond b (Some (act.OperandAdd r.operand e)) None) t.0))
          (there_is_it n r touched.cycle touched.op))
          ∙ sym (ap (λ b. modulo s.graph.profile (cond b (r.multiplier *ℤ pos (weight s.graph o.op (h - r.borders) r.op)) (pos 0) *ℤ e)) test
          ∙ ap (modulo s.graph.profile) (zero_times e))

      single_comes : modulo s.table.profile (at (frame_with s.graph (single n e r) (n + h)).given o.op)
          ≡ modulo s.graph.profile (part s.graph o.op h (as_source r) *ℤ e)
      single_comes =
          let make = one_each s.table s.graph (single_acts n e r) (single n e r) (single_added n e r) in
          ap (λ f. modulo s.table.profile (at f.given o.op)) (frame_same s.table s.graph (single_acts n e r) (single n e r) make (n + h))
          ∙ ⊎_elim
          (λ (le : (nat_le r.borders h ≡ true) × (r.borders ≤ h)). single_reached le.1 le.0)
          (λ (lt : (nat_le r.borders h ≡ false) × (h < r.borders)). single_beyond lt.1 lt.0)
          (leb_tells r.borders h)

    -- of several
    all_come : (rs : List Reading) → AreReadBy s.graph rs → NoOutputBefore s (map as_source rs) h
        → modulo s.table.profile (at (frame_with s.graph (added_to n e rs) (n + h)).given o.op)
        ≡ modulo s.graph.profile (comes s.graph o.op h (map as_source rs) *ℤ e)
    unfolding added_to
    all_come [] read outs =
        ap (modulo s.table.profile) (none_come o.op) ∙ ap (λ p. modulo p (pos 0)) is.table_is.0 ∙ ap (modulo s.graph.profile) (sym (zero_times e))
    all_come (r ∷ rs) read outs =
        let p = s.graph.profile in
        let x = at (frame_with s.graph (single n e r) (n + h)).given o.op in
        let y = at (frame_with s.graph (added_to n e rs) (n + h)).given o.op in
        let u = part s.graph o.op h (as_source r) in
        let v = comes s.graph o.op h (map as_source rs) in
        let sum = (frame_sums s.graph (added_to n e (r ∷ rs)) (single n e r) (added_to n e rs) (λ m k j. refl) (n + h)).given o.op in
        let first = single_comes r read.0 (fewer_sources s (as_source r ∷ []) (as_source r ∷ map as_source rs) h (λ t c. first_within r rs t c) outs) in
        let second = all_come rs read.1 (fewer_sources s (map as_source rs) (as_source r ∷ map as_source rs) h
        (λ t c. contained t (as_source r) (map as_source rs) c) outs) in
        ap (modulo s.table.profile) sum ∙ ap (λ q. modulo q (x +ℤ y)) is.table_is.0
        ∙ plus_both p laws.words x y (u *ℤ e) (v *ℤ e) (sym (ap (λ q. modulo q x) is.table_is.0) ∙ first) (sym (ap (λ q. modulo q y) is.table_is.0) ∙ second)
        ∙ ap (modulo p) (times_sum u v e)
      where
        first_within : (r : Reading) (rs : List Reading) (t : Source) → Contains (as_source r ∷ []) t → Contains (as_source r ∷ map as_source rs) t
        first_within r rs t c =
            subst (Contains (as_source r ∷ map as_source rs)) (contains_one (as_source r) t c) (contained_first (as_source r) (map as_source rs))

-- ---- the theorem

-- a reading of this operation in this cycle, if there is one
find : (n : ℕ) (rs : List Reading) (m q : ℕ) → ((r : Reading) × Contains rs r × (n + r.borders ≡ m) × (r.op ≡ q))
    ⊎ ((r : Reading) → Contains rs r → n + r.borders ≡ m → r.op ≡ q → ⊥)
find n [] m q = inr (λ r c cycle op. let lt = c.1 in omega (arith, lt))
find n (r ∷ rs) m q = ⊎_elim
    (λ (h : (is_there n r m q ≡ true) × (n + r.borders ≡ m) × (r.op ≡ q)). inl (r, contained_first r rs, h.1, h.2))
    (λ (h : (is_there n r m q ≡ false) × (n + r.borders ≡ m → r.op ≡ q → ⊥)). ⊎_elim
    (λ (f : (x : Reading) × Contains rs x × (n + x.borders ≡ m) × (x.op ≡ q)). inl (f.0, contained f.0 r rs f.1, f.2, f.3))
    (λ (none : (x : Reading) → Contains rs x → n + x.borders ≡ m → x.op ≡ q → ⊥).
    inr (λ x c cycle op. by_place x none h.1 cycle op c.0 (contained_at (r ∷ rs) x c)))
    (find n rs m q))
    (there_is_it n r m q)
  where
    by_place : (x : Reading) → ((y : Reading) → Contains rs y → n + y.borders ≡ m → y.op ≡ q → ⊥) → (n + r.borders ≡ m → r.op ≡ q → ⊥) → n + x.borders ≡ m
        → x.op ≡ q → (i : ℕ) → slice_get (r ∷ rs) i ≡ Some x → ⊥
    by_place x none first cycle op zero e =
        let same : x ≡ r = cc in
        first (sym (ap (λ (y : Reading). n + y.borders) same) ∙ cycle) (sym (ap (λ (y : Reading). y.op) same) ∙ op)
    by_place x none first cycle op (suc i) e = none x (contains_at rs i x e) cycle op

module _ (s : Subject) (is : IsSubject s) (laws : Laws s.graph) (adds : Addends) (n k right : ℕ) (e : ℤ)
    (stands : StandsAtRest s.graph adds n k right e) where
  rest_touches : TouchesFrom s.graph (as_acts s.graph adds) n (map as_source (drop right (readings s.graph k)))
  rest_touches m q t = ⊎_elim
      (λ (f : (r : Reading) × Contains (drop right (readings s.graph k)) r × (n + r.borders ≡ t.cycle) × (r.op ≡ t.op)).
      let cycle = f.2 in
      let borders = t.borders in
      record {
        more = f.0.borders + t.more;
        borders = omega (arith, cycle, borders);
        reaches = record {
          source = as_source f.0;
          among = contains_at (map as_source (drop right (readings s.graph k))) f.1.0 (as_source f.0)
              (mapped_there as_source (drop right (readings s.graph k)) f.1.0 f.0 (contained_at (drop right (readings s.graph k)) f.0 f.1));
          more = t.more;
          borders_are = refl;
          path = subst (λ o. Reached s.graph q t.more o) (sym f.3) t.path;
        };
      })
      (λ (none : (r : Reading) → Contains (drop right (readings s.graph k)) r → n + r.borders ≡ t.cycle → r.op ≡ t.op → ⊥).
      let zero : (j : ℕ) → adds t.cycle t.op j ≡ pos 0 = λ j. stands.alone t.cycle t.op j (λ r c op operand cycle. none r c cycle op) in
      absurd (t.stands (no_act_at (adds t.cycle t.op) (slice_get s.graph.operations t.op) (record { first = zero 0; second = zero 1; third = zero 2 }))))
      (find n (drop right (readings s.graph k)) t.cycle t.op)

  -- what is added is the number at each of the later readings, once
  rest_added : (m q j : ℕ) → adds m q j ≡ added_to n e (drop right (readings s.graph k)) m q j +ℤ added_to n e [] m q j
  unfolding added_to
  rest_added m q j =
      let g = s.graph in
      let count = length g.operations in
      let rs = drop right (readings g k) in
      added_once n e m q j count 0 (3 * (count + count)) (adds m q j) rs
      (left_rise count 0 (3 * (count + count)) right (readings g k) (readings_rise g k laws.entries is.graph.part))
      (λ r c hits. sym (ap (λ x. adds x r.op r.operand) hits.cycle ∙ ap (λ x. adds m x r.operand) hits.op ∙ ap (adds m q) hits.operand) ∙ stands.each r c)
      (λ none. stands.alone m q j (λ r c op operand cycle. none r c (record { cycle = cycle; op = op; operand = operand })))
      ∙ sym (alone_left (added_to n e rs m q j) (pos 0) refl)

  rest_differences : (h : ℕ) → NoOutputBefore s (map as_source (drop right (readings s.graph k))) h → (i : ℕ) (o : Outlet)
      → slice_get s.graph.outputs i ≡ Some o
      → modulo s.table.profile (difference_at s.table s.graph (as_acts s.graph adds) (n + h) o.op)
      ≡ modulo s.graph.profile (comes s.graph o.op h (map as_source (drop right (readings s.graph k))) *ℤ e)
  rest_differences h outs i o here =
      let rs = drop right (readings s.graph k) in
      let same = frame_same s.table s.graph (as_acts s.graph adds) adds (any_make s.table s.graph adds) (n + h) in
      let x = at (frame_with s.graph (added_to n e rs) (n + h)).given o.op in
      let sum = (frame_sums s.graph adds (added_to n e rs) (added_to n e []) rest_added (n + h)).given o.op in
      let none = alone_left x (at (frame_with s.graph (added_to n e []) (n + h)).given o.op) (none_come s is laws n e h o.op) in
      ap (λ f. modulo s.table.profile (at f.given o.op)) (sym same) ∙ ap (modulo s.table.profile) (sum ∙ none)
      ∙ all_come s is laws n e h i o here rs (left_read s.graph right (readings s.graph k) (readings_read s.graph k laws.entries is.graph.part)) outs

  pub rest_means : (rows : List (List ℤ)) → RowsFit s.graph rows → WordLaws s.table.profile
      → Means s (run_with s.table s.graph adds rows) (verdict_with s.table s.graph adds rows) rows n k (disturbance.AddToRest right) e
  rest_means rows fit table_words =
      let run = run_with s.table s.graph adds rows in
      let acts = as_acts s.graph adds in
      means_there s run (verdict_with s.table s.graph adds rows) rows n k (disturbance.AddToRest right) e (λ op there.
      subst (λ v. Means s run v rows n k (disturbance.AddToRest right) e)
      (sym (compared_same s.table s.graph acts adds (any_make s.table s.graph adds) 0 run (plain_cycles s.graph (initial s.graph) rows)))
      (run_means s is laws acts rows fit run (with_run s.table s.graph table_words adds is.graph laws.earlier laws.entries laws.cells rows) n k op
      (disturbance.AddToRest right) e there (record {
        touches = rest_touches;
        differences = rest_differences;
        counts = λ z refuses. any_counts s.graph.profile laws.words z e refuses stands.unknown;
      })))
