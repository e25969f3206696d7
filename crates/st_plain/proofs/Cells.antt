-- The values of inputs and outputs, slot by slot.
use Rattle.std.proofs.Common.{◌≡◌, ℕ, zero, suc, ◌+◌, ◌-◌, ◌≤◌, ◌<◌, add-one, drop-cons, length-drop, ℤ, Bool, true, false, cond, List, [], ◌∷◌, ◌++◌, length}
use Rattle.std.proofs.Common.{take, drop, get_or, slice_get, slice_set, Option, Some, None, ◌⊎◌, inl, inr, length-set, refl, sym, ap, ◌∙◌, subst, arith}
use Rattle.vcp_base.specs.declared.turns.Turn.{Turn}
use Rattle.vcp_base.specs.declared.ty.Ty.{Ty}
use Rattle.vcp_base.specs.Types.{AreIn}
use Rattle.vcp_typed.specs.declared.slot.Slot.{Slot}
use Rattle.vcp_typed.specs.Fitting.{AreFit, input_types, output_types}
use Rattle.vcp_typed.specs.SourceRun.{Program, is_input, is_output, with_inputs, outputs}
use Rattle.st_plain.specs.declared.stop.Stop.{Stop as Cause}
use Rattle.vcp_typed.specs.Size.{size, stmts_size}
use Rattle.st_plain.specs.Standing.{Standing}

pub fit-length : (slots : List Slot) (m : List ℤ) → AreFit slots m → length m ≡ length slots
fit-length [] [] h = refl
fit-length [] (v ∷ m) h = absurd h
fit-length (s ∷ slots) [] h = absurd h
fit-length (s ∷ slots) (v ∷ m) h = ap suc (fit-length slots m h.1)

-- a list is its part up to a place, the item there, and the rest
drop-item : {X : Type 0} (xs : List X) (i : ℕ) (x : X) → slice_get xs i ≡ Some x → drop i xs ≡ x ∷ drop (i + 1) xs
drop-item [] i x e = absurd cc
drop-item (y ∷ xs) zero x e = let is : y ≡ x = cc in ap (λ z. z ∷ xs) is
drop-item (y ∷ xs) (suc i) x e = rw add-one (rw add-one at (drop-item xs i x e))

drop-at : {X : Type 0} (xs : List X) (i : ℕ) (x : X) → i < length xs → x ≡ get_or xs i x → drop i xs ≡ x ∷ drop (i + 1) xs
drop-at xs i x lt is = rw (add-one, drop-cons xs i x) (ap (λ y. y ∷ drop (suc i) xs) (sym is))

one-more : (xs : List ℤ) (i : ℕ) (v : ℤ) (rest : List ℤ) → i < length xs → take (suc i) (slice_set xs i v) ++ rest ≡ take i xs ++ v ∷ rest
one-more [] i v rest lt = absurd (omega (arith, lt))
one-more (x ∷ xs) zero v rest lt = refl
one-more (x ∷ xs) (suc i) v rest lt = let k : i < length xs = omega (arith, lt) in ap (λ t. x ∷ t) (one-more xs i v rest k)

set-one : (xs : List ℤ) (i : ℕ) (v : ℤ) (rest w : List ℤ) → i < length xs → take i xs ++ v ∷ rest ≡ w → take (i + 1) (slice_set xs i v) ++ rest ≡ w
set-one xs i v rest w lt h = rw add-one (one-more xs i v rest lt ∙ h)

-- ---- inputs

no-inputs-left : (slots : List Slot) (m : List ℤ) → length slots ≡ length m → with_inputs slots [] m ≡ m
no-inputs-left [] [] e = refl
no-inputs-left [] (v ∷ m) e = absurd (omega (arith, e))
no-inputs-left (s ∷ slots) [] e = absurd (omega (arith, e))
no-inputs-left (s ∷ slots) (v ∷ m) e = refl

input-first : (s : Slot) (slots : List Slot) (x v : ℤ) (row m : List ℤ) → is_input s.section ≡ true
    → with_inputs (s ∷ slots) (x ∷ row) (v ∷ m) ≡ x ∷ with_inputs slots row m
input-first s slots x v row m e = ap (λ b. cond b (x ∷ with_inputs slots row m) (v ∷ with_inputs slots (x ∷ row) m)) e

kept-first : (s : Slot) (slots : List Slot) (v : ℤ) (row m : List ℤ) → is_input s.section ≡ false → length slots ≡ length m
    → with_inputs (s ∷ slots) row (v ∷ m) ≡ v ∷ with_inputs slots row m
kept-first s slots v [] m e same = ap (λ t. v ∷ t) (sym (no-inputs-left slots m same))
kept-first s slots v (x ∷ row) m e same = ap (λ b. cond b (x ∷ with_inputs slots row m) (v ∷ with_inputs slots (x ∷ row) m)) e

some-in : (t : Ty) (ts : List Ty) (row : List ℤ) → AreIn (t ∷ ts) row → 0 < length row
some-in t ts [] h = absurd h
some-in t ts (v ∷ row) h = omega arith

pub input-there : (all : List Slot) (s : Slot) (slots : List Slot) (row : List ℤ) (n : ℕ) → all ≡ s ∷ slots → is_input s.section ≡ true
    → AreIn (input_types all) (drop n row) → n < length row
input-there all s slots row n is e h =
    let first : AreIn (input_types (s ∷ slots)) (drop n row) = subst (λ x. AreIn (input_types x) (drop n row)) is h in
    let one : AreIn (s.ty ∷ input_types slots) (drop n row) = subst (λ b. AreIn (cond b (s.ty ∷ input_types slots) (input_types slots)) (drop n row)) e first in
    let some : 0 < length (drop n row) = some-in s.ty (input_types slots) (drop n row) one in
    omega (arith, some, length-drop n row)

pub inputs-taken : (all : List Slot) (s : Slot) (slots : List Slot) (row : List ℤ) (n next : ℕ) (x : ℤ) → all ≡ s ∷ slots → is_input s.section ≡ true
    → slice_get row n ≡ Some x → next ≡ n + 1
    → AreIn (input_types all) (drop n row) → AreIn (input_types slots) (drop next row)
inputs-taken all s slots row n next x is e there more h =
    let first : AreIn (input_types (s ∷ slots)) (drop n row) = subst (λ y. AreIn (input_types y) (drop n row)) is h in
    let one : AreIn (s.ty ∷ input_types slots) (drop n row) = subst (λ b. AreIn (cond b (s.ty ∷ input_types slots) (input_types slots)) (drop n row)) e first in
    let cut : AreIn (s.ty ∷ input_types slots) (x ∷ drop (n + 1) row) = subst (λ r. AreIn (s.ty ∷ input_types slots) r) (drop-item row n x there) one in
    subst (λ k. AreIn (input_types slots) (drop k row)) (sym more) cut.1

pub inputs-kept : (all : List Slot) (s : Slot) (slots : List Slot) (row : List ℤ) (n next : ℕ) → all ≡ s ∷ slots → is_input s.section ≡ false → next ≡ n
    → AreIn (input_types all) (drop n row) → AreIn (input_types slots) (drop next row)
inputs-kept all s slots row n next is e same h =
    let first : AreIn (input_types (s ∷ slots)) (drop n row) = subst (λ y. AreIn (input_types y) (drop n row)) is h in
    let one : AreIn (input_types slots) (drop n row) = subst (λ b. AreIn (cond b (s.ty ∷ input_types slots) (input_types slots)) (drop n row)) e first in
    subst (λ k. AreIn (input_types slots) (drop k row)) (sym same) one

pub values-taken : (slots : List Slot) (i : ℕ) (s : Slot) (row before values : List ℤ) (n next : ℕ) (x b : ℤ) (w : List ℤ) → i < length slots
    → s ≡ get_or slots i s → is_input s.section ≡ true
    → slice_get row n ≡ Some x → next ≡ n + 1 → slice_get before i ≡ Some b → i < length values
    → take i values ++ with_inputs (drop i slots) (drop n row) (drop i before) ≡ w
    → take (i + 1) (slice_set values i x) ++ with_inputs (drop (i + 1) slots) (drop next row) (drop (i + 1) before) ≡ w
values-taken slots i s row before values n next x b w lt is e there more kept inside h =
    let all : with_inputs (drop i slots) (drop n row) (drop i before) ≡ x ∷ with_inputs (drop (i + 1) slots) (drop (n + 1) row) (drop (i + 1) before) =
    (λ j. with_inputs (drop-at slots i s lt is j) (drop-item row n x there j) (drop-item before i b kept j))
    ∙ input-first s (drop (i + 1) slots) x b (drop (n + 1) row) (drop (i + 1) before) e in
    let first : with_inputs (drop i slots) (drop n row) (drop i before) ≡ x ∷ with_inputs (drop (i + 1) slots) (drop next row) (drop (i + 1) before) =
    all ∙ ap (λ k. x ∷ with_inputs (drop (i + 1) slots) (drop k row) (drop (i + 1) before)) (sym more) in
    set-one values i x _ w inside (ap (λ t. take i values ++ t) (sym first) ∙ h)

pub values-kept : (slots : List Slot) (i : ℕ) (s : Slot) (row before values : List ℤ) (n next : ℕ) (x b : ℤ) (w : List ℤ) → i < length slots
    → s ≡ get_or slots i s → is_input s.section ≡ false
    → x ≡ b → next ≡ n → slice_get before i ≡ Some b → length before ≡ length slots → i < length values
    → take i values ++ with_inputs (drop i slots) (drop n row) (drop i before) ≡ w
    → take (i + 1) (slice_set values i x) ++ with_inputs (drop (i + 1) slots) (drop next row) (drop (i + 1) before) ≡ w
values-kept slots i s row before values n next x b w lt is e stays same kept lengths inside h =
    let long : length (drop (i + 1) slots) ≡ length (drop (i + 1) before) = length-drop (i + 1) slots ∙ ap (λ k. k - (i + 1)) (sym lengths)
    ∙ sym (length-drop (i + 1) before) in
    let all : with_inputs (drop i slots) (drop n row) (drop i before) ≡ b ∷ with_inputs (drop (i + 1) slots) (drop n row) (drop (i + 1) before) =
    (λ j. with_inputs (drop-at slots i s lt is j) (drop n row) (drop-item before i b kept j))
    ∙ kept-first s (drop (i + 1) slots) b (drop n row) (drop (i + 1) before) e long in
    let first : with_inputs (drop i slots) (drop n row) (drop i before) ≡ x ∷ with_inputs (drop (i + 1) slots) (drop next row) (drop (i + 1) before) =
    all ∙ λ j. sym stays j ∷ with_inputs (drop (i + 1) slots) (drop (sym same j) row) (drop (i + 1) before) in
    set-one values i x _ w inside (ap (λ t. take i values ++ t) (sym first) ∙ h)

pub slots-at : (slots : List Slot) (i : ℕ) (s : Slot) → i < length slots → s ≡ get_or slots i s → drop i slots ≡ s ∷ drop (i + 1) slots
slots-at slots i s lt is = drop-at slots i s lt is

-- ---- outputs

output-first : (s : Slot) (slots : List Slot) (v : ℤ) (m : List ℤ) → is_output s.section ≡ true → outputs (s ∷ slots) (v ∷ m) ≡ v ∷ outputs slots m
output-first s slots v m e = ap (λ b. cond b (v ∷ outputs slots m) (outputs slots m)) e

other-first : (s : Slot) (slots : List Slot) (v : ℤ) (m : List ℤ) → is_output s.section ≡ false → outputs (s ∷ slots) (v ∷ m) ≡ outputs slots m
other-first s slots v m e = ap (λ b. cond b (v ∷ outputs slots m) (outputs slots m)) e

pub cells-of-output : (all : List Slot) (s : Slot) (slots : List Slot) → all ≡ s ∷ slots → is_output s.section ≡ true
    → length (output_types all) ≡ suc (length (output_types slots))
cells-of-output all s slots is e = ap (λ x. length (output_types x)) is ∙ ap (λ b. length (cond b (s.ty ∷ output_types slots) (output_types slots))) e

pub cells-of-other : (all : List Slot) (s : Slot) (slots : List Slot) → all ≡ s ∷ slots → is_output s.section ≡ false
    → length (output_types all) ≡ length (output_types slots)
cells-of-other all s slots is e = ap (λ x. length (output_types x)) is ∙ ap (λ b. length (cond b (s.ty ∷ output_types slots) (output_types slots))) e

pub outputs-put : (slots : List Slot) (i : ℕ) (s : Slot) (values out next_out : List ℤ) (n next : ℕ) (v : ℤ) (w : List ℤ) → i < length slots
    → s ≡ get_or slots i s → is_output s.section ≡ true
    → slice_get values i ≡ Some v → n < length out → next_out ≡ slice_set out n v → next ≡ n + 1
    → take n out ++ outputs (drop i slots) (drop i values) ≡ w → take next next_out ++ outputs (drop (i + 1) slots) (drop (i + 1) values) ≡ w
outputs-put slots i s values out next_out n next v w lt is e there inside put more h =
    let first : outputs (drop i slots) (drop i values) ≡ v ∷ outputs (drop (i + 1) slots) (drop (i + 1) values) =
    (λ j. outputs (drop-at slots i s lt is j) (drop-item values i v there j)) ∙ output-first s (drop (i + 1) slots) v (drop (i + 1) values) e in
    (λ j. take (more j) (put j) ++ outputs (drop (i + 1) slots) (drop (i + 1) values))
    ∙ set-one out n v _ w inside (ap (λ t. take n out ++ t) (sym first) ∙ h)

pub outputs-left : (slots : List Slot) (i : ℕ) (s : Slot) (values out next_out : List ℤ) (n next : ℕ) (v : ℤ) (w : List ℤ) → i < length slots
    → s ≡ get_or slots i s → is_output s.section ≡ false
    → slice_get values i ≡ Some v → next_out ≡ out → next ≡ n
    → take n out ++ outputs (drop i slots) (drop i values) ≡ w → take next next_out ++ outputs (drop (i + 1) slots) (drop (i + 1) values) ≡ w
outputs-left slots i s values out next_out n next v w lt is e there put more h =
    let first : outputs (drop i slots) (drop i values) ≡ outputs (drop (i + 1) slots) (drop (i + 1) values) =
    (λ j. outputs (drop-at slots i s lt is j) (drop-item values i v there j)) ∙ other-first s (drop (i + 1) slots) v (drop (i + 1) values) e in
    (λ j. take (more j) (put j) ++ outputs (drop (i + 1) slots) (drop (i + 1) values)) ∙ ap (λ t. take n out ++ t) (sym first) ∙ h

-- ---- between two cycles

pub stands : (p : Program) (values after next : List ℤ) (stop : Option Cause) (turns rest left : List Turn) (room capacity : ℕ)
    → ((s : Cause) → stop ≡ Some s → ⊥)
    → Standing p values next stop turns rest room → AreFit p.slots after → left ≡ [] → capacity ≡ room → Standing p after values stop turns left capacity
stands p values after next None turns rest left room capacity none h fit empty same = record {
  fit = fit;
  told = h.told;
  cause = tt;
  room = (empty, omega (arith, h.room.1, same), fit-length p.slots values h.fit ∙ sym (fit-length p.slots after fit));
}
stands p values after next (Some s) turns rest left room capacity none h fit empty same = absurd (none s refl)

-- ---- either way

which : (b : Bool) → (b ≡ true) ⊎ (b ≡ false)
which true = inl refl
which false = inr refl

pub values-next : (slots : List Slot) (i : ℕ) (s : Slot) (row before values : List ℤ) (n next : ℕ) (x b : ℤ) (w : List ℤ) → i < length slots
    → s ≡ get_or slots i s
    → (is_input s.section ≡ true → slice_get row n ≡ Some x) → (is_input s.section ≡ true → next ≡ n + 1) → (is_input s.section ≡ false → x ≡ b)
    → (is_input s.section ≡ false → next ≡ n)
    → slice_get before i ≡ Some b → length before ≡ length slots → i < length values
    → take i values ++ with_inputs (drop i slots) (drop n row) (drop i before) ≡ w
    → take (i + 1) (slice_set values i x) ++ with_inputs (drop (i + 1) slots) (drop next row) (drop (i + 1) before) ≡ w
values-next slots i s row before values n next x b w lt is there more stays same kept lengths inside h = elim (which (is_input s.section)) [
  | inl e ↦ values-taken slots i s row before values n next x b w lt is e (there e) (more e) kept inside h
  | inr e ↦ values-kept slots i s row before values n next x b w lt is e (stays e) (same e) kept lengths inside h
]

pub inputs-next : (slots : List Slot) (i : ℕ) (s : Slot) (row : List ℤ) (n next : ℕ) (x : ℤ) → i < length slots → s ≡ get_or slots i s
    → (is_input s.section ≡ true → slice_get row n ≡ Some x) → (is_input s.section ≡ true → next ≡ n + 1) → (is_input s.section ≡ false → next ≡ n)
    → AreIn (input_types (drop i slots)) (drop n row) → AreIn (input_types (drop (i + 1) slots)) (drop next row)
inputs-next slots i s row n next x lt is there more same h = elim (which (is_input s.section)) [
  | inl e ↦ inputs-taken (drop i slots) s (drop (i + 1) slots) row n next x (drop-at slots i s lt is) e (there e) (more e) h
  | inr e ↦ inputs-kept (drop i slots) s (drop (i + 1) slots) row n next (drop-at slots i s lt is) e (same e) h
]

pub at-most-one : (b : Bool) (n next i : ℕ) → (b ≡ true → next ≡ n + 1) → (b ≡ false → next ≡ n) → n ≤ i → next ≤ i + 1
at-most-one b n next i more same le = elim (which b) [
  | inl e ↦ (let h : next ≡ n + 1 = more e in omega (arith, h, le))
  | inr e ↦ (let h : next ≡ n = same e in omega (arith, h, le))
]

pub outputs-next : (slots : List Slot) (i : ℕ) (s : Slot) (values out next_out : List ℤ) (n next : ℕ) (v : ℤ) (w : List ℤ) → i < length slots
    → s ≡ get_or slots i s
    → (is_output s.section ≡ true → next_out ≡ slice_set out n v) → (is_output s.section ≡ true → next ≡ n + 1) → (is_output s.section ≡ false → next_out ≡ out)
    → (is_output s.section ≡ false → next ≡ n)
    → slice_get values i ≡ Some v → n + length (output_types (drop i slots)) ≡ length out
    → take n out ++ outputs (drop i slots) (drop i values) ≡ w → take next next_out ++ outputs (drop (i + 1) slots) (drop (i + 1) values) ≡ w
outputs-next slots i s values out next_out n next v w lt is put more left same there cells h = elim (which (is_output s.section)) [
  | inl e ↦
      (let more_cells : length (output_types (drop i slots)) ≡ suc (length (output_types (drop (i + 1) slots))) =
      cells-of-output (drop i slots) s (drop (i + 1) slots) (drop-at slots i s lt is) e in
      let inside : n < length out = omega (arith, more_cells, cells) in
      outputs-put slots i s values out next_out n next v w lt is e there inside (put e) (more e) h)
  | inr e ↦ outputs-left slots i s values out next_out n next v w lt is e there (left e) (same e) h
]

pub cells-next : (slots : List Slot) (i : ℕ) (s : Slot) (out next_out : List ℤ) (n next : ℕ) (v : ℤ) → i < length slots → s ≡ get_or slots i s
    → (is_output s.section ≡ true → next_out ≡ slice_set out n v) → (is_output s.section ≡ true → next ≡ n + 1) → (is_output s.section ≡ false → next_out ≡ out)
    → (is_output s.section ≡ false → next ≡ n)
    → n + length (output_types (drop i slots)) ≡ length out → next + length (output_types (drop (i + 1) slots)) ≡ length next_out
cells-next slots i s out next_out n next v lt is put more left same cells = elim (which (is_output s.section)) [
  | inl e ↦
      (let more_cells : length (output_types (drop i slots)) ≡ suc (length (output_types (drop (i + 1) slots))) =
      cells-of-output (drop i slots) s (drop (i + 1) slots) (drop-at slots i s lt is) e in
      let long : length next_out ≡ length out = ap length (put e) ∙ length-set out n v in
      let h : next ≡ n + 1 = more e in
      omega (arith, more_cells, long, h, cells))
  | inr e ↦
      (let cells_left : length (output_types (drop i slots)) ≡ length (output_types (drop (i + 1) slots)) =
      cells-of-other (drop i slots) s (drop (i + 1) slots) (drop-at slots i s lt is) e in
      let long : length next_out ≡ length out = ap length (left e) in
      let h : next ≡ n = same e in
      omega (arith, cells_left, long, h, cells))
]

pub starts : (p : Program) (values zeros : List ℤ) (turns rest : List Turn) (cap : ℕ) → AreFit p.slots values → length zeros ≡ length p.slots → turns ≡ []
    → rest ≡ [] → size p ≤ cap → Standing p values zeros None turns rest cap
starts p values zeros turns rest cap fit long none empty room =
    let low : stmts_size p.body ≤ cap = omega (arith, room) in
    record { fit = fit; told = none; cause = tt; room = (empty, low, long ∙ sym (fit-length p.slots values fit)) }
