-- Gathering: the readings of each word, one after another.
use Rattle.std.proofs.Common.{◌≡◌, ◌≢◌, ⊎_elim, ℕ, zero, suc, ◌+◌, ◌<◌, ◌≤◌, ◌==◌, ◌&&◌, cond, Bool, true, false, List, [], ◌∷◌, ◌++◌, length, set, drop}
use Rattle.std.proofs.Common.{slice_get, Some, pos, ap, sym, subst, ◌∙◌, refl, append_assoc, arith}
use Rattle.std.specs.Option.{is_some}
use Rattle.std.proofs.lemmas.Bool.Decides.{eqb_tells}
use Rattle.std.proofs.lemmas.List.{append-nil, get_or-set_same, get_or-set_other, length-set}
use Rattle.std.proofs.lemmas.Option.{get_or_from_slice_get, slice_get_within}
use Rattle.vcp_base.specs.Kinds.{multiplier}
use Rattle.op_graph.specs.declared.op.Cell.{Cell}
use Rattle.op_graph.specs.declared.op.Op.{Op}
use Rattle.op_graph.specs.Lists.{Lists, cells}
use Rattle.op_graph.specs.Reads.{named}
use Rattle.op_graph.specs.Rules.{reads_as}
use Rattle.fault_sites.specs.declared.reading.Reading.{Reading}
use Rattle.fault_sites.specs.Readings.{Adds, AreReadings, reading_as, readings_by, readings_from, reading_across, readings_across, readings_within, word}
use Rattle.fault_sites.proofs.Lists.{drop_there, drop_behind}

-- ---- what is kept behind what was

pub adds_none : (more : ℕ → List Reading) (by_word : List (List Reading)) → ((k : ℕ) → more k ≡ []) → Adds more by_word by_word
adds_none more by_word none = record {
  many = refl;
  each = λ k lt. sym (ap (λ (rs : List Reading). word by_word k ++ rs) (none k) ∙ append-nil (word by_word k));
}

pub adds_one : (more : ℕ → List Reading) (old new : List (List Reading)) (n : ℕ) (r : Reading) → n < length old
    → new ≡ set old n (word old n ++ r ∷ []) → more n ≡ r ∷ [] → ((k : ℕ) → k ≢ n → more k ≡ []) → Adds more old new
adds_one more old new n r inside is here none = record {
  many = ap length is ∙ length-set old n (word old n ++ r ∷ []);
  each = λ k lt. ⊎_elim
      (λ (h : ((k == n) ≡ true) × (k ≡ n)).
      subst (λ m. word new m ≡ word old m ++ more m) (sym h.1)
      (ap (λ xs. word xs n) is ∙ get_or-set_same old n (word old n ++ r ∷ []) [] inside ∙ sym (ap (λ rs. word old n ++ rs) here)))
      (λ (h : ((k == n) ≡ false) × (k ≢ n)).
      ap (λ xs. word xs k) is ∙ get_or-set_other old n k (word old n ++ r ∷ []) [] h.1
      ∙ sym (ap (λ rs. word old k ++ rs) (none k h.1) ∙ append-nil (word old k)))
      (eqb_tells k n);
}

pub adds_both : (first second : ℕ → List Reading) (old mid new : List (List Reading)) → Adds first old mid → Adds second mid new
    → Adds (λ k. first k ++ second k) old new
adds_both first second old mid new one other = record {
  many = other.many ∙ one.many;
  each = λ k lt.
      other.each k (let same = one.many in omega (arith, lt, same)) ∙ ap (λ xs. xs ++ second k) (one.each k lt)
      ∙ append_assoc (word old k) (first k) (second k);
}

-- ---- no readings

-- one more word without any
pub none_more : (old new : List (List Reading)) (r : List Reading) → new ≡ old ++ r ∷ [] → r ≡ [] → ((k : ℕ) → word old k ≡ []) → (k : ℕ) → word new k ≡ []
none_more old new r is none empty k = ap (λ xs. word xs k) is ∙ (ap (λ (rs : List Reading). word (old ++ rs ∷ []) k) none ∙ last old empty k)
  where
    last : (xs : List (List Reading)) → ((k : ℕ) → word xs k ≡ []) → (k : ℕ) → word (xs ++ [] ∷ []) k ≡ []
    last [] empty zero = refl
    last [] empty (suc k) = refl
    last (x ∷ xs) empty zero = empty 0
    last (x ∷ xs) empty (suc k) = last xs (λ j. empty (suc j)) k

-- ---- one operand, and one cell

pub no_operand : (q : ℕ) (op : Op) (j : ℕ) → is_some (reads_as op.kind op.from j) ≡ false → (k : ℕ) → reading_as k q op j ≡ []
no_operand q op j none k =
    ap (λ b. cond (b && (k == named op j)) (record { op = q; operand = j; borders = 0; multiplier = multiplier op.kind j } ∷ []) []) none

other_operand : (b : Bool) (k n : ℕ) (r : Reading) → k ≢ n → cond (b && (k == n)) (r ∷ []) [] ≡ []
other_operand true k n r differs = ⊎_elim
    (λ (h : ((k == n) ≡ true) × (k ≡ n)). absurd (differs h.1))
    (λ (h : ((k == n) ≡ false) × (k ≢ n)). ap (λ b. cond b (r ∷ []) []) h.0)
    (eqb_tells k n)
other_operand false k n r differs = refl

same_place : (n : ℕ) → (n == n) ≡ true
same_place n = ⊎_elim (λ (h : ((n == n) ≡ true) × (n ≡ n)). h.0) (λ (h : ((n == n) ≡ false) × (n ≢ n)). absurd (h.1 refl)) (eqb_tells n n)

pub adds_operand : (q : ℕ) (op : Op) (j n : ℕ) (old new : List (List Reading)) (r : Reading) → is_some (reads_as op.kind op.from j) ≡ true
    → named op j ≡ n → n < length old → new ≡ set old n (word old n ++ r ∷ [])
    → r ≡ record { op = q; operand = j; borders = 0; multiplier = multiplier op.kind j } → Adds (λ k. reading_as k q op j) old new
adds_operand q op j n old new r reads names inside is r_is =
    adds_one (λ k. reading_as k q op j) old new n r inside is
    (ap (λ b. cond (b && (n == named op j)) (record { op = q; operand = j; borders = 0; multiplier = multiplier op.kind j } ∷ []) []) reads
    ∙ (ap (λ m. cond (n == m) (record { op = q; operand = j; borders = 0; multiplier = multiplier op.kind j } ∷ []) []) names
    ∙ (ap (λ b. cond b (record { op = q; operand = j; borders = 0; multiplier = multiplier op.kind j } ∷ []) []) (same_place n)
    ∙ ap (λ (x : Reading). x ∷ []) (sym r_is))))
    (λ k differs. other_operand (is_some (reads_as op.kind op.from j)) k (named op j) (record {
      op = q;
      operand = j;
      borders = 0;
      multiplier = multiplier op.kind j;
    }) (λ e. differs (e ∙ names)))

pub adds_cell : (c : Cell) (old new : List (List Reading)) (r : Reading) → c.store < length old → new ≡ set old c.store (word old c.store ++ r ∷ [])
    → r ≡ record { op = c.load; operand = 0; borders = 1; multiplier = pos 1 } → Adds (λ k. reading_across k c) old new
adds_cell c old new r inside is r_is =
    adds_one (λ k. reading_across k c) old new c.store r inside is
    (ap (λ b. cond b (record { op = c.load; operand = 0; borders = 1; multiplier = pos 1 } ∷ []) []) (same_place c.store) ∙ ap (λ (x : Reading). x ∷ []) (sym r_is))
    (λ k differs. other_operand true k c.store (record { op = c.load; operand = 0; borders = 1; multiplier = pos 1 }) differs)

-- ---- what is kept, and what is to come

pub one_step : (here next all old new total : List Reading) → new ≡ old ++ here → all ≡ here ++ next → old ++ all ≡ total → new ++ next ≡ total
one_step here next all old new total is front was =
    ap (λ xs. xs ++ next) is ∙ append_assoc old here next ∙ sym (ap (λ rs. old ++ rs) front) ∙ was

pub last_step : (next new total : List Reading) → next ≡ [] → new ++ next ≡ total → new ≡ total
last_step next new total none was = sym (ap (λ rs. new ++ rs) none ∙ append-nil new) ∙ was

pub next_operation : (k q : ℕ) (op : Op) (ops : List Op) → slice_get ops q ≡ Some op
    → readings_from k q (drop q ops) ≡ readings_by k q op ++ readings_from k (q + 1) (drop (q + 1) ops)
next_operation k q op ops there =
    let more : suc q ≡ q + 1 = omega arith in
    ap (readings_from k q) (drop_there ops q op there) ∙ ap (λ m. readings_by k q op ++ readings_from k m (drop (q + 1) ops)) more

pub last_operation : (k q : ℕ) (ops : List Op) → length ops ≤ q → readings_from k q (drop q ops) ≡ []
last_operation k q ops past = ap (readings_from k q) (drop_behind ops q past)

pub next_cell : (k i : ℕ) (c : Cell) (held : List Cell) → slice_get held i ≡ Some c
    → readings_across k (drop i held) ≡ reading_across k c ++ readings_across k (drop (i + 1) held)
next_cell k i c held there = ap (readings_across k) (drop_there held i c there)

pub last_cell : (k i : ℕ) (held : List Cell) → length held ≤ i → readings_across k (drop i held) ≡ []
last_cell k i held past = ap (readings_across k) (drop_behind held i past)

-- ---- all

pub are_readings : (g : Lists) (more : Bool) (none mid all : List (List Reading)) → length none ≡ length g.operations → ((k : ℕ) → word none k ≡ [])
    → Adds (λ k. readings_from k 0 g.operations) none mid → Adds (λ k. cond more (readings_across k (cells g)) []) mid all → AreReadings g more all
are_readings g more none mid all many empty in_cycle across =
    let both = adds_both (λ k. readings_from k 0 g.operations) (λ k. cond more (readings_across k (cells g)) []) none mid all in_cycle across in
    record {
      many = both.many ∙ many;
      each = λ k rs there.
          let inside = slice_get_within all k rs there in
          let same = both.many in
          sym (get_or_from_slice_get all k rs [] there) ∙ both.each k (omega (arith, inside, same)) ∙ ap (λ xs. xs ++ readings_within g more k) (empty k);
    }
