-- TableLaws: the table of variables, and what is found in it.
use Rattle.std.proofs.Common.{◌≡◌, ℕ, zero, suc, ◌+◌, pos, Bool, true, false, cond, List, [], ◌∷◌, ◌++◌, length, take, slice_get, All, Option, Some, None}
use Rattle.std.proofs.Common.{refl, sym, ap, subst, ◌∙◌, arith, append_assoc, append-nil}
use Rattle.std.specs.Prelude.{option_map, is_none}
use Rattle.std.specs.Char.{to_ascii_lowercase}
use Rattle.std.proofs.Common.{map}
use Rattle.std.proofs.lemmas.List.Elements.{All-get_or}
use Rattle.std.proofs.lemmas.Option.{get_or_from_slice_get, slice_get_within}
use Rattle.std.proofs.lemmas.Slice.Eq.{bytes_eq-Decides}
use Rattle.vcp_base.specs.Names.{SameName, is_same_name}
use Rattle.st_types.specs.declared.names.Entry.{Entry}
use Rattle.st_types.specs.Scope.{find}
use Rattle.vcp_typed.specs.declared.slot.Slot.{Slot}
use Rattle.vcp_typed.specs.Checked.{is_set, SlotFits, SlotsFit}
use Rattle.il_front.specs.declared.instruction.Operand.TheVariants as operand
use Rattle.il_front.specs.Judging.{Variable, variable_from, Meant, meant_variable}
use Rattle.il_front.specs.Tables.{entry_of, entries_from, Tells}

-- ---- a slot may follow those before it

pub fits-at : (before slots : List Slot) (i : ℕ) (s : Slot) → SlotsFit before slots → slice_get slots i ≡ Some s → SlotFits (before ++ take i slots) s
fits-at before [] i s h e = absurd cc
fits-at before (x ∷ xs) zero s h e =
    let same : x ≡ s = cc in
    subst (λ (b : List Slot). SlotFits b s) (sym (append-nil before)) (subst (SlotFits before) same h.0)
fits-at before (x ∷ xs) (suc i) s h e =
    subst (λ (b : List Slot). SlotFits b s) (append_assoc before (x ∷ []) (take i xs)) (fits-at (before ++ x ∷ []) xs i s h.1 e)

other-name : (a b : List ℕ) → (SameName a b → ⊥) → is_same_name a b ≡ false
other-name a b h =
    elim (is_same_name a b) as (λ (x : Bool). (x ≡ true → SameName a b) → x ≡ false)
    [ true ↦ (λ f. absurd (h (f refl))) | false ↦ (λ f. refl) ]
    (bytes_eq-Decides (map to_ascii_lowercase a) (map to_ascii_lowercase b)).0

unfound : (b : Bool) (e : Entry) (o : Option Entry) → b ≡ false → o ≡ None → cond b (Some e) o ≡ None
unfound true e o h k = absurd cc
unfound false e o h k = k

-- none of the variables has the name
abbrev AreOther : List ℕ → List Slot → Type 0
AreOther n [] = Unit {0}
AreOther n (s ∷ ss) = (is_same_name s.name n ≡ false) × AreOther n ss

none-found : (k : ℕ) (slots : List Slot) (n : List ℕ) → AreOther n slots → find (entries_from k slots) n ≡ None
none-found k [] n h = refl
none-found k (s ∷ slots) n h =
    unfound (is_same_name s.name n) (entry_of k s) (find (entries_from (suc k) slots) n) h.0 (none-found (suc k) slots n h.1)

are-other : (n : List ℕ) (ss : List Slot) → ((i : ℕ) (s : Slot) → slice_get ss i ≡ Some s → is_same_name s.name n ≡ false) → AreOther n ss
are-other n [] h = tt
are-other n (s ∷ ss) h = (h 0 s refl, are-other n ss (λ i x e. h (suc i) x e))

all-slots : (P : Slot → Type 0) (ss : List Slot) (i : ℕ) (s : Slot) → slice_get ss i ≡ Some s → All P ss → P s
all-slots P ss i s e h = subst P (get_or_from_slice_get ss i s s e) (All-get_or P ss i s (slice_get_within ss i s e) h)

-- a further variable's name isn't in the table of those before it
pub new-name : (slots : List Slot) (i : ℕ) (s : Slot) → SlotsFit [] slots → slice_get slots i ≡ Some s
    → is_none (find (entries_from 0 (take i slots)) s.name) ≡ true
new-name slots i s h e =
    ap is_none
    (none-found 0 (take i slots) s.name
    (are-other s.name (take i slots)
    (λ j x f. other-name x.name s.name
    (all-slots (λ (y : Slot). SameName y.name s.name → ⊥) (take i slots) j x f (fits-at [] slots i s h e).name.new))))

-- ---- one variable more

entries-append : (k : ℕ) (xs : List Slot) (s : Slot) → entries_from k (xs ++ s ∷ []) ≡ entries_from k xs ++ entry_of (k + length xs) s ∷ []
entries-append k [] s = ap (λ (n : ℕ). entry_of n s ∷ []) (let e : k ≡ k + 0 = omega arith in e)
entries-append k (x ∷ xs) s =
    ap (λ (es : List Entry). entry_of k x ∷ es)
    (entries-append (suc k) xs s
    ∙ ap (λ (n : ℕ). entries_from (suc k) xs ++ entry_of n s ∷ []) (let e : suc k + length xs ≡ k + suc (length xs) = omega arith in e))

take-more : (slots : List Slot) (i : ℕ) (s : Slot) → slice_get slots i ≡ Some s → take (suc i) slots ≡ take i slots ++ s ∷ []
take-more [] i s e = absurd cc
take-more (x ∷ xs) zero s e = let same : x ≡ s = cc in ap (λ (y : Slot). y ∷ []) same
take-more (x ∷ xs) (suc i) s e = ap (λ (ys : List Slot). x ∷ ys) (take-more xs i s e)

take-length : (slots : List Slot) (i : ℕ) (s : Slot) → slice_get slots i ≡ Some s → length (take i slots) ≡ i
take-length [] i s e = absurd cc
take-length (x ∷ xs) zero s e = refl
take-length (x ∷ xs) (suc i) s e = ap suc (take-length xs i s e)

abbrev named_entry : List ℕ → ℕ → Slot → Entry
named_entry n i s = record { name = n; section = s.section; ty = s.ty; value = pos 0; slot = i }

pub entries-more : (slots : List Slot) (i : ℕ) (s : Slot) (n : List ℕ) (names more : List Entry) → SlotsFit [] slots → slice_get slots i ≡ Some s
    → names ≡ entries_from 0 (take i slots) → n ≡ s.name
    → more ≡ cond (is_none (find names n)) (names ++ record { name = n; section = s.section; ty = s.ty; value = pos 0; slot = i } ∷ []) names
    → more ≡ entries_from 0 (take (i + 1) slots)
entries-more slots i s n names more h e is same m =
    let new : is_none (find names n) ≡ true =
    ap (λ (x : List ℕ). is_none (find names x)) same ∙ ap (λ (x : List Entry). is_none (find x s.name)) is ∙ new-name slots i s h e in
    m ∙ ap (λ (x : Bool). cond x (names ++ named_entry n i s ∷ []) names) new
    ∙ ap (λ (x : List ℕ). names ++ named_entry x i s ∷ []) same
    ∙ ap (λ (x : List Entry). x ++ entry_of i s ∷ []) is
    ∙ ap (λ (k : ℕ). entries_from 0 (take i slots) ++ entry_of k s ∷ [])
    (sym (let z : 0 + length (take i slots) ≡ i = omega (arith, take-length slots i s e) in z))
    ∙ sym (entries-append 0 (take i slots) s)
    ∙ ap (entries_from 0) (sym (take-more slots i s e))
    ∙ ap (λ (k : ℕ). entries_from 0 (take k slots)) (let z : suc i ≡ i + 1 = omega arith in z)

-- ---- what is found

abbrev pub meant_entry : Entry → Meant
meant_entry e = record { operand = operand.Variable e.slot e.ty; set = is_set e.section }

abbrev variable_of : Entry → Variable
variable_of e = record { slot = e.slot; section = e.section; ty = e.ty }

either-found : (b : Bool) (k : ℕ) (s : Slot) (o : Option Entry) (p : Option Variable) → option_map meant_entry o ≡ option_map meant_variable p
    → option_map meant_entry (cond b (Some (entry_of k s)) o)
    ≡ option_map meant_variable (cond b (Some (variable_of (entry_of k s))) p)
either-found true k s o p e = refl
either-found false k s o p e = e

find-variable : (k : ℕ) (slots : List Slot) (n : List ℕ)
    → option_map meant_entry (find (entries_from k slots) n) ≡ option_map meant_variable (variable_from k slots n)
find-variable k [] n = refl
find-variable k (s ∷ slots) n =
    either-found (is_same_name s.name n) k s (find (entries_from (suc k) slots) n) (variable_from (suc k) slots n) (find-variable (suc k) slots n)

-- what is found of a name in the table is what it means
pub found-means : (names : List Entry) (slots : List Slot) (n : List ℕ) (o : Option Entry) → Tells names slots → o ≡ find names n
    → option_map meant_entry o ≡ option_map meant_variable (variable_from 0 slots n)
found-means names slots n o t e = ap (option_map meant_entry) (e ∙ ap (λ (x : List Entry). find x n) t) ∙ find-variable 0 slots n
