-- Resting: what the later readings of a word come to, with one more before them.
use Rattle.std.proofs.Common.{◌≡◌, ◌⊎◌, ⊎_elim, inl, inr, ℕ, zero, suc, ◌+◌, ◌-◌, ◌<◌, ◌≤◌, ◌==◌, Bool, true, false, List, [], ◌∷◌, ◌++◌, length, drop}
use Rattle.std.proofs.Common.{nat_lt, cond, ◌&&◌, ◌||◌, slice_get, slice_index_or, pos, ◌+ℤ◌, Option, Some, None, ap, sym, subst, ◌∙◌, refl, arith}
use Rattle.std.proofs.lemmas.Bool.Decides.{leb_tells}
use Rattle.std.proofs.lemmas.Int.{ints}
use Rattle.std.proofs.lemmas.List.{drop_all, length_push}
use Rattle.vcp_base.specs.Code.{modulus}
use Rattle.coded_unit.specs.Words.{modulo}
use Rattle.coded_unit.specs.WordLaws.{WordLaws}
use Rattle.op_graph.specs.declared.op.Outlet.{Outlet}
use Rattle.op_graph.specs.Lists.{Lists}
use Rattle.weight_audit.specs.Superposition.{WeightsAreOfPaths}
use Rattle.fault_cover.specs.declared.nearest.Nearest.{Nearest}
use Rattle.fault_cover.specs.declared.rests.Rest.{Rest}
use Rattle.fault_cover.specs.declared.starts.Start.{Start}
use Rattle.fault_cover.specs.Beginnings.{start_at, starts_at}
use Rattle.fault_cover.specs.Firsts.{IsFirstOf}
use Rattle.fault_cover.specs.Sources.{Source, comes, part}
use Rattle.fault_cover.specs.Surveys.{AreMaps, AreRests, AreWordRests, IsOutputOf, IsRest, SumsTo, Surveyed, before_of}
use Rattle.fault_cover.specs.Telling.{Reaches}
use Rattle.fault_cover.specs.Walks.{NotFurther, further, is_nearer, is_wanted, kept, nearer}
use Rattle.fault_cover.proofs.Choosing.{IsNearestFrom, nearest_from, reached_or_none}
use Rattle.fault_cover.proofs.Dividing.{plus_residue}
use Rattle.fault_cover.proofs.Nearing.{nearer_either, nearer_first, nearer_second, no_further_through, one_nearest}

-- ---- what is reached first

-- with one more start, from which x is
pub first_more : (found : List (Option Nearest)) (starts : List Start) (start : Start) (old x new : Option Nearest)
    → x ≡ further (kept found start.op) start.borders → new ≡ nearer old x → IsFirstOf found starts old → IsFirstOf found (start ∷ starts) new
first_more found starts start old x new x_is new_is first = record {
  reached = λ n e. ⊎_elim
      (λ (h : nearer old x ≡ old). let r = first.reached n (sym h ∙ sym new_is ∙ e) in (suc r.0, r.1, r.2, r.3))
      (λ (h : nearer old x ≡ x). (0, start, refl, sym x_is ∙ sym h ∙ sym new_is ∙ e))
      (nearer_either old x);
  least = λ i s there. subst (λ y. NotFurther y (further (kept found s.op) s.borders)) (sym new_is) (by_place i s there);
}
  where
    by_place : (i : ℕ) (s : Start) → slice_get (start ∷ starts) i ≡ Some s → NotFurther (nearer old x) (further (kept found s.op) s.borders)
    by_place zero s there =
        let same : start ≡ s = cc in
        subst (λ (y : Start). NotFurther (nearer old x) (further (kept found y.op) y.borders)) same (subst (NotFurther (nearer old x)) x_is (nearer_second old x))
    by_place (suc i) s there = no_further_through (nearer old x) old (further (kept found s.op) s.borders) (nearer_first old x) (first.least i s there)

pub none_first : (found : List (Option Nearest)) → IsFirstOf found [] None
none_first found = record { reached = λ n e. absurd cc; least = λ i s there. absurd cc }

-- ---- what comes to the output that is reached first

not_nearer : (n : Nearest) → is_nearer n n ≡ false
not_nearer n = ⊎_elim
    (λ (h : (nat_lt n.borders n.borders ≡ true) × (suc n.borders ≤ n.borders)). absurd (let lt = h.1 in omega (arith, lt)))
    (λ (h : (nat_lt n.borders n.borders ≡ false) × (n.borders < suc n.borders)). ⊎_elim
    (λ (l : (nat_lt n.op n.op ≡ true) × (suc n.op ≤ n.op)). absurd (let lt = l.1 in omega (arith, lt)))
    (λ (l : (nat_lt n.op n.op ≡ false) × (n.op < suc n.op)).
    ap (λ b. b || n.borders == n.borders && nat_lt n.op n.op) h.0 ∙ second_false (n.borders == n.borders) (nat_lt n.op n.op) l.0)
    (leb_tells (suc n.op) n.op))
    (leb_tells (suc n.borders) n.borders)
  where
    second_false : (a b : Bool) → b ≡ false → (a && b) ≡ false
    second_false true b e = e
    second_false false b e = refl

-- what came before is kept where the output that is reached first stays
kept_or_not : (old : Option Nearest) (sum : ℕ) (x : Option Nearest) (n : Nearest) → nearer old x ≡ Some n
    → ((old ≡ Some n) × (before_of old sum x ≡ sum)) ⊎ ((old ≡ Some n → ⊥) × (before_of old sum x ≡ 0))
kept_or_not None sum x n e = inr (λ h. absurd cc, refl)
kept_or_not (Some f) sum None n e = inl (e, refl)
kept_or_not (Some f) sum (Some w) n e = by_test (is_nearer w f) refl
  where
    one_is : {a b : Nearest} → Some a ≡ Some b → a ≡ b
    one_is h = cc

    by_test : (b : Bool) → is_nearer w f ≡ b
        → ((Some f ≡ Some n) × (before_of (Some f) sum (Some w) ≡ sum)) ⊎ ((Some f ≡ Some n → ⊥) × (before_of (Some f) sum (Some w) ≡ 0))
    by_test true h =
        let now : Some w ≡ Some n = sym (ap (λ b. cond b (Some w) (Some f)) h) ∙ e in
        inr (
          λ was. let same : w ≡ f = one_is (now ∙ sym was) in
              let no : true ≡ false = sym (ap (is_nearer w) same ∙ h) ∙ not_nearer w in
              cc,
          ap (λ b. cond b 0 sum) h,
        )
    by_test false h = inl (sym (ap (λ b. cond b (Some w) (Some f)) h) ∙ e, ap (λ b. cond b 0 sum) h)

module _ (g : Lists) (v : Surveyed) (maps : AreMaps g v) (unreached : WeightsAreOfPaths g) (laws : WordLaws g.profile) where
  -- the output of what is reached first is its OUT's
  output_is : (n : Nearest) (o : Outlet) → IsOutputOf g v n o → is_wanted maps.outs n.op ≡ true → o.op ≡ n.op
  output_is n o there looked_for =
      let out = maps.outs_are.sound n.op looked_for in
      let number : slice_index_or v.numbers n.op 0 ≡ out.0 = ap (λ q. slice_index_or v.numbers q 0) (sym out.3) ∙ maps.numbers.each out.0 out.1 out.2 in
      let same : out.1 ≡ o = one_outlet (sym out.2 ∙ ap (slice_get g.outputs) (sym number) ∙ there) in
      ap (λ (x : Outlet). x.op) (sym same) ∙ out.3
    where
      one_outlet : {a b : Outlet} → Some a ≡ Some b → a ≡ b
      one_outlet h = cc

  -- nothing comes there from starts of which another is reached first
  none_before : (more : List Source) (old x : Option Nearest) (n : Nearest) (o : Outlet) → IsNearestFrom g maps.outs more old → nearer old x ≡ Some n
      → (old ≡ Some n → ⊥) → is_wanted maps.outs n.op ≡ true → IsOutputOf g v n o → n.borders ≤ v.horizon → comes g o.op n.borders more ≡ pos 0
  none_before more old x n o is e other looked_for there within = ⊎_elim
      (λ (r : Reaches g more n.borders o.op).
      absurd (by_first old is e other (subst (Reaches g more n.borders) (output_is n o there looked_for) r)))
      (λ (none : comes g o.op n.borders more ≡ pos 0). none)
      (reached_or_none g v.weights v.horizon maps.weights unreached laws (slice_index_or v.numbers n.op 0) o there n.borders within more)
    where
      by_first : (first : Option Nearest) → IsNearestFrom g maps.outs more first → nearer first x ≡ Some n → (first ≡ Some n → ⊥)
          → Reaches g more n.borders n.op → ⊥
      by_first None is e other r = is n.borders n.op looked_for r
      by_first (Some f) is e other r =
          let back : NotFurther (Some n) (Some f) = subst (λ y. NotFurther y (Some f)) e (nearer_first (Some f) x) in
          other (ap Some (one_nearest f n (is.least n.borders n.op looked_for r) back))

  -- with one more start
  pub rest_more : (more : List Start) (start : Start) (old : Rest) (near able output stop : Option Nearest) (sum : ℕ) → IsRest g v more old
      → near ≡ further (kept v.outputs start.op) start.borders → able ≡ further (kept v.stops start.op) start.borders
      → output ≡ nearer old.output near → stop ≡ nearer old.stop able → sum < modulus g.profile
      → SumsTo g v (before_of old.output old.sum near) output start sum
      → IsRest g v (start ∷ more) (record { output = output; stop = stop; sum = sum })
  rest_more more start old near able output stop sum is near_is able_is output_is stop_is below sums = record {
    output = first_more v.outputs more start old.output near output near_is output_is is.output;
    stop = first_more v.stops more start old.stop able stop able_is stop_is is.stop;
    below = below;
    sum = λ n o e there within from from_is. summed n o e there within from from_is;
  }
    where
      cons_back : {a b : Start} {xs ys : List Start} → a ∷ xs ≡ b ∷ ys → (a ≡ b) × (xs ≡ ys)
      cons_back h = (cc, cc)

      summed : (n : Nearest) (o : Outlet) → output ≡ Some n → IsOutputOf g v n o → n.borders ≤ v.horizon → (from : List Source)
          → start ∷ more ≡ starts_at g.profile from → sum ≡ modulo g.profile (comes g o.op n.borders from)
      summed n o e there within [] from_is = absurd cc
      summed n o e there within (s ∷ rest) from_is =
          let p = g.profile in
          let parts = cons_back {a = start} {b = start_at p s} {xs = more} {ys = starts_at p rest} from_is in
          let first = nearest_from g maps.outs v.outputs maps.outputs p (s ∷ rest) (start ∷ more) from_is output
          (first_more v.outputs more start old.output near output near_is output_is is.output) in
          let before = nearest_from g maps.outs v.outputs maps.outputs p rest more parts.1 old.output is.output in
          let one = subst (IsNearestFrom g maps.outs (s ∷ rest)) e first in
          let here = part g o.op n.borders s in
          let came = comes g o.op n.borders rest in
          sums n o s e there within parts.0 ∙ ⊎_elim
          (λ (h : (old.output ≡ Some n) × (before_of old.output old.sum near ≡ old.sum)).
          let turned : came +ℤ here ≡ here +ℤ came = omega (arith, ints) in
          ap (λ r. modulo p (pos r +ℤ here)) (h.1 ∙ is.sum n o h.0 there within rest parts.1) ∙ plus_residue p laws came here ∙ ap (modulo p) turned)
          (λ (h : (old.output ≡ Some n → ⊥) × (before_of old.output old.sum near ≡ 0)).
          let none = none_before rest old.output near n o before (sym output_is ∙ e) h.0 one.looked_for there within in
          let same : pos 0 +ℤ here ≡ here +ℤ came = omega (arith, ints, none) in
          ap (λ r. modulo p (pos r +ℤ here)) h.1 ∙ ap (modulo p) same)
          (kept_or_not old.output old.sum near n (sym output_is ∙ e))

-- ---- of a word

module _ (g : Lists) (v : Surveyed) where
  -- behind all readings
  pub none_rest : (starts : List Start) (n : ℕ) → n ≡ length starts → 0 < modulus g.profile
      → IsRest g v (drop n starts) (record { output = None; stop = None; sum = 0 })
  none_rest starts n all above =
      subst (λ xs. IsRest g v xs (record { output = None; stop = None; sum = 0 })) (sym (drop_all n starts (omega (arith, all)))) (record {
        output = none_first v.outputs;
        stop = none_first v.stops;
        below = above;
        sum = λ n o e there within from from_is. absurd cc;
      })

  pushed : {X : Type 0} (xs : List X) (x y : X) (j : ℕ) → slice_get (xs ++ x ∷ []) j ≡ Some y → (slice_get xs j ≡ Some y) ⊎ ((j ≡ length xs) × (x ≡ y))
  pushed [] x y zero there = inr (refl, cc)
  pushed [] x y (suc j) there = absurd cc
  pushed (z ∷ xs) x y zero there = inl there
  pushed (z ∷ xs) x y (suc j) there = ⊎_elim
      (λ (h : slice_get xs j ≡ Some y). inl h)
      (λ (h : (j ≡ length xs) × (x ≡ y)). inr (ap suc h.0, h.1))
      (pushed xs x y j there)

  -- so far those of the last readings
  pub record RestsSoFar (starts : List Start) (rests : List Rest) (i : ℕ) : Type 0 where
    pub many : length rests ≡ i
    pub each : (j : ℕ) (x : Rest) → slice_get rests j ≡ Some x → IsRest g v (drop (length starts - suc j) starts) x

  pub none_so_far : (starts : List Start) (rests : List Rest) → rests ≡ [] → RestsSoFar starts rests 0
  none_so_far starts rests none = record {
    many = ap length none;
    each = λ j x there. absurd (let no : slice_get [] j ≡ Some x = sym (ap (λ xs. slice_get xs j) none) ∙ there in cc);
  }

  pub rests_more : (starts : List Start) (old new : List Rest) (i : ℕ) (x : Rest) → RestsSoFar starts old i → new ≡ old ++ x ∷ []
      → IsRest g v (drop (length starts - suc i) starts) x → RestsSoFar starts new (i + 1)
  rests_more starts old new i x so_far push is = record {
    many = ap length push ∙ (let count = length_push old x in let many = so_far.many in omega (arith, count, many));
    each = λ j y there. ⊎_elim
        (λ (h : slice_get old j ≡ Some y). so_far.each j y h)
        (λ (h : (j ≡ length old) × (x ≡ y)).
        let place : i ≡ j = sym (h.0 ∙ so_far.many) in
        subst (λ n. IsRest g v (drop (length starts - suc n) starts) y) place (subst (IsRest g v (drop (length starts - suc i) starts)) h.1 is))
        (pushed old x y j (sym (ap (λ xs. slice_get xs j) push) ∙ there));
  }

  -- so far those of the first words
  pub record WordsSoFar (rests : List (List Rest)) (i : ℕ) : Type 0 where
    pub many : length rests ≡ i
    pub each : (k : ℕ) (starts : List Start) (of : List Rest) → slice_get v.readings k ≡ Some starts → slice_get rests k ≡ Some of → AreRests g v starts of

  pub words_more : (old new : List (List Rest)) (i : ℕ) (starts : List Start) (of : List Rest) → WordsSoFar old i
      → new ≡ old ++ of ∷ [] → slice_get v.readings i ≡ Some starts → AreRests g v starts of → WordsSoFar new (i + 1)
  words_more old new i starts of so_far push here are = record {
    many = ap length push ∙ (let count = length_push old of in let many = so_far.many in omega (arith, count, many));
    each = λ k word rests there that. ⊎_elim
        (λ (h : slice_get old k ≡ Some rests). so_far.each k word rests there h)
        (λ (h : (k ≡ length old) × (of ≡ rests)).
        let same : starts ≡ word = one_list (sym here ∙ ap (slice_get v.readings) (sym (h.0 ∙ so_far.many)) ∙ there) in
        subst (λ s. AreRests g v s rests) same (subst (AreRests g v starts) h.1 are))
        (pushed old of rests k (sym (ap (λ xs. slice_get xs k) push) ∙ that));
  }
    where
      one_list : {a b : List Start} → Some a ≡ Some b → a ≡ b
      one_list h = cc

  -- what is kept of the readings behind so many
  pub rest_behind : (starts : List Start) (rests : List Rest) (right : ℕ) (x : Rest) → AreRests g v starts rests → right < length starts
      → slice_get rests (length rests - suc right) ≡ Some x → IsRest g v (drop right starts) x
  rest_behind starts rests right x are inside there =
      let many = are.many in
      let place : length starts - suc (length rests - suc right) ≡ right = omega (arith, inside, many) in
      subst (λ n. IsRest g v (drop n starts) x) place (are.each (length rests - suc right) x there)

-- what is kept of words beside them, it stays so
pub rests_stay : (g : Lists) (v w : Surveyed) (rests : List (List Rest)) → w ≡ record {
  horizon = v.horizon;
  weights = v.weights;
  outputs = v.outputs;
  stops = v.stops;
  numbers = v.numbers;
  readings = v.readings;
  rests = w.rests;
} → AreWordRests g v rests → AreWordRests g w rests
rests_stay g v w rests same are = subst (λ (x : Surveyed). AreWordRests g x rests) (sym same) (record {
  many = are.many;
  each = λ k starts of there that.
      let of_word = are.each k starts of there that in
      record {
        many = of_word.many;
        each = λ j x at_it.
            let rest = of_word.each j x at_it in
            record { output = rest.output; stop = rest.stop; below = rest.below; sum = rest.sum };
      };
})
