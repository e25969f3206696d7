-- Surveying: the OUTs of outputs, their numbers, and the operations that may stop.
use Rattle.std.proofs.Common.{◌≡◌, ◌≢◌, ⊎_elim, ℕ, suc, ◌+◌, ◌<◌, ◌≤◌, ◌==◌, nat_lt, Bool, true, false, List, [], ◌∷◌, ◌++◌, length, set, replicate}
use Rattle.std.proofs.Common.{slice_get, slice_index_or, Some, ap, sym, subst, ◌∙◌, arith}
use Rattle.std.proofs.lemmas.Bool.Decides.{eqb_tells, leb_tells}
use Rattle.std.proofs.lemmas.List.{get_or-replicate, get_or-set_other, get_or-set_same, get_or_append_left, get_or_past, get_or_push, length-replicate}
use Rattle.std.proofs.lemmas.List.{length-set, length_push}
use Rattle.std.proofs.lemmas.Option.{slice_get_past, slice_get_within}
use Rattle.op_graph.specs.declared.op.Outlet.{Outlet}
use Rattle.op_graph.specs.Lists.{Lists}
use Rattle.op_graph.specs.Laws.{EntryLaws}
use Rattle.op_graph.specs.Rules.{IsPart}
use Rattle.range_walk.specs.declared.range.Stops.{Stops}
use Rattle.range_walk.specs.Known.{is_any_named}
use Rattle.fault_cover.specs.Surveys.{AreAble, AreNumbers, AreOuts}
use Rattle.fault_cover.specs.Walks.{is_wanted}
use Rattle.fault_cover.proofs.Choosing.{outs_rise}

one_outlet : {a b : Outlet} → Some a ≡ Some b → a ≡ b
one_outlet e = cc

-- ---- the OUTs

-- so far those of the first outputs
pub record OutsSoFar (g : Lists) (wanted : List Bool) (i : ℕ) : Type 0 where
  pub many : length wanted ≡ length g.operations
  pub sound : (q : ℕ) → is_wanted wanted q ≡ true → (j : ℕ) × (o : Outlet) × (slice_get g.outputs j ≡ Some o) × (o.op ≡ q)
  pub complete : (j : ℕ) (o : Outlet) → j < i → slice_get g.outputs j ≡ Some o → is_wanted wanted o.op ≡ true

none_wanted : (n q : ℕ) → is_wanted (replicate n false) q ≡ false
none_wanted n q = ⊎_elim
    (λ (h : (nat_lt q n ≡ true) × (suc q ≤ n)). get_or-replicate n q false false (let lt = h.1 in omega (arith, lt)))
    (λ (h : (nat_lt q n ≡ false) × (n < suc q)).
    get_or_past (replicate n false) q false (let le = h.1 in let many : length (replicate n false) ≡ n = length-replicate n false in omega (arith, le, many)))
    (leb_tells (suc q) n)

pub no_outs : (g : Lists) (n : ℕ) (wanted : List Bool) → n ≡ length g.operations → wanted ≡ replicate n false → OutsSoFar g wanted 0
no_outs g n wanted count is = record {
  many = ap length is ∙ length-replicate n false ∙ count;
  sound = λ q yes. absurd (let no : is_wanted wanted q ≡ false = ap (λ xs. is_wanted xs q) is ∙ none_wanted n q in cc);
  complete = λ j o lt there. absurd (omega (arith, lt));
}

pub one_out : (g : Lists) (old new : List Bool) (i : ℕ) (p : Outlet) → slice_get g.outputs i ≡ Some p → p.op < length g.operations → OutsSoFar g old i
    → new ≡ set old p.op true → OutsSoFar g new (i + 1)
one_out g old new i p there inside so_far is = record {
  many = ap length is ∙ length-set old p.op true ∙ so_far.many;
  sound = λ q yes. ⊎_elim
      (λ (h : ((q == p.op) ≡ true) × (q ≡ p.op)). (i, p, there, sym h.1))
      (λ (h : ((q == p.op) ≡ false) × (q ≢ p.op)).
      so_far.sound q (sym (ap (λ xs. is_wanted xs q) is ∙ get_or-set_other old p.op q true false h.1) ∙ yes))
      (eqb_tells q p.op);
  complete = λ j o lt that. ap (λ xs. is_wanted xs o.op) is ∙ ⊎_elim
      (λ (h : ((o.op == p.op) ≡ true) × (o.op ≡ p.op)).
      subst (λ n. is_wanted (set old p.op true) n ≡ true) (sym h.1)
      (get_or-set_same old p.op true false (let many = so_far.many in omega (arith, inside, many))))
      (λ (h : ((o.op == p.op) ≡ false) × (o.op ≢ p.op)).
      get_or-set_other old p.op o.op true false h.1 ∙ so_far.complete j o (earlier j o lt that h.1) that)
      (eqb_tells o.op p.op);
}
  where
    earlier : (j : ℕ) (o : Outlet) → j < i + 1 → slice_get g.outputs j ≡ Some o → o.op ≢ p.op → j < i
    earlier j o lt that differs = ⊎_elim
        (λ (h : ((j == i) ≡ true) × (j ≡ i)).
        absurd (differs (ap (λ (x : Outlet). x.op) (one_outlet (sym that ∙ subst (λ m. slice_get g.outputs m ≡ Some p) (sym h.1) there)))))
        (λ (h : ((j == i) ≡ false) × (j ≢ i)). let ne = h.1 in omega (arith, lt, ne))
        (eqb_tells j i)

pub all_outs : (g : Lists) (wanted : List Bool) (i : ℕ) → OutsSoFar g wanted i → length g.outputs ≤ i → AreOuts g wanted
all_outs g wanted i so_far past = record {
  sound = so_far.sound;
  complete = λ j o there. so_far.complete j o (let inside = slice_get_within g.outputs j o there in omega (arith, inside, past)) there;
}

-- ---- their numbers

pub record NumbersSoFar (g : Lists) (numbers : List ℕ) (i : ℕ) : Type 0 where
  pub many : length numbers ≡ length g.operations
  pub each : (j : ℕ) (o : Outlet) → j < i → slice_get g.outputs j ≡ Some o → slice_index_or numbers o.op 0 ≡ j

pub no_numbers : (g : Lists) (n : ℕ) (numbers : List ℕ) → n ≡ length g.operations → numbers ≡ replicate n 0 → NumbersSoFar g numbers 0
no_numbers g n numbers count is = record {
  many = ap length is ∙ length-replicate n 0 ∙ count;
  each = λ j o lt there. absurd (omega (arith, lt));
}

pub one_number : (g : Lists) → EntryLaws → IsPart g → (old new : List ℕ) (i : ℕ) (p : Outlet) → slice_get g.outputs i ≡ Some p → p.op < length g.operations
    → NumbersSoFar g old i → new ≡ set old p.op i → NumbersSoFar g new (i + 1)
one_number g laws part old new i p there inside so_far is = record {
  many = ap length is ∙ length-set old p.op i ∙ so_far.many;
  each = λ j o lt that. ap (λ xs. slice_index_or xs o.op 0) is ∙ ⊎_elim
      (λ (h : ((j == i) ≡ true) × (j ≡ i)).
      let same : o ≡ p = one_outlet (sym that ∙ subst (λ m. slice_get g.outputs m ≡ Some p) (sym h.1) there) in
      ap (λ (x : Outlet). slice_index_or (set old p.op i) x.op 0) same
      ∙ get_or-set_same old p.op i 0 (let many = so_far.many in omega (arith, inside, many)) ∙ sym h.1)
      (λ (h : ((j == i) ≡ false) × (j ≢ i)).
      let before : j < i = let ne = h.1 in omega (arith, lt, ne) in
      let rise = outs_rise g laws part j i o p before that there in
      get_or-set_other old p.op o.op i 0 (λ e. omega (arith, rise, e)) ∙ so_far.each j o before that)
      (eqb_tells j i);
}

pub all_numbers : (g : Lists) (numbers : List ℕ) (i : ℕ) → NumbersSoFar g numbers i → length g.outputs ≤ i → AreNumbers g numbers
all_numbers g numbers i so_far past = record {
  many = so_far.many;
  each = λ j o there. so_far.each j o (let inside = slice_get_within g.outputs j o there in omega (arith, inside, past)) there;
}

-- ---- the operations that may stop

pub one_able : (stops : List Stops) (old new : List Bool) (i : ℕ) (why : Stops) (able : Bool) → slice_get stops i ≡ Some why → able ≡ is_any_named (Some why)
    → length old ≡ i → ((n : ℕ) → n < i → is_wanted old n ≡ is_any_named (slice_get stops n)) → new ≡ old ++ able ∷ []
    → (length new ≡ i + 1) × ((n : ℕ) → n < i + 1 → is_wanted new n ≡ is_any_named (slice_get stops n))
one_able stops old new i why able there able_is many each push = (
  ap length push ∙ length_push old able ∙ ap (λ m. m + 1) many,
  λ n lt. ap (λ xs. is_wanted xs n) push ∙ ⊎_elim
      (λ (h : ((n == i) ≡ true) × (n ≡ i)).
      subst (λ m. is_wanted (old ++ able ∷ []) m ≡ is_any_named (slice_get stops m)) (sym h.1)
      (get_or_push old able false i many ∙ able_is ∙ sym (ap is_any_named there)))
      (λ (h : ((n == i) ≡ false) × (n ≢ i)).
      let less : n < i = let ne = h.1 in omega (arith, lt, ne) in
      get_or_append_left old (able ∷ []) false n (omega (arith, less, many)) ∙ each n less)
      (eqb_tells n i),
)

pub all_able : (stops : List Stops) (wanted : List Bool) (i : ℕ) → length wanted ≡ i
    → ((n : ℕ) → n < i → is_wanted wanted n ≡ is_any_named (slice_get stops n)) → length stops ≡ i → AreAble stops wanted
all_able stops wanted i many each all n = ⊎_elim
    (λ (h : (nat_lt n i ≡ true) × (suc n ≤ i)). each n (let lt = h.1 in omega (arith, lt)))
    (λ (h : (nat_lt n i ≡ false) × (i < suc n)).
    let past : i ≤ n = let le = h.1 in omega (arith, le) in
    get_or_past wanted n false (omega (arith, past, many)) ∙ sym (ap is_any_named (slice_get_past stops n (omega (arith, past, all)))))
    (leb_tells (suc n) i)
