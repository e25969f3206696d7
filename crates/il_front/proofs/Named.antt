-- Named: the hidden variables may follow the declared ones, where none of these has a reserved name.
use Rattle.std.proofs.Common.{◌≡◌, ◌≤◌, ℕ, pos, length, Bool, true, false, cond, not, ◌||◌, ◌&&◌, map, List, [], ◌∷◌, ◌++◌, All, Option, Some, None, refl}
use Rattle.std.proofs.Common.{sym, ap, subst, ◌∙◌}
use Rattle.std.proofs.Common.{append_assoc, append-nil, lit≤}
use Rattle.std.specs.Char.{to_ascii_lowercase}
use Rattle.std.specs.List.{list_all}
use Rattle.std.proofs.lemmas.List.Elements.{All-nil, All-cons, All-push}
use Rattle.std.proofs.lemmas.Slice.Eq.{bytes_eq-Decides}
use Rattle.vcp_base.specs.declared.ty.Ty.{Ty}
use Rattle.vcp_base.specs.declared.ty.Ty.TheVariants as ty
use Rattle.vcp_base.specs.Limits.{most_name_bytes}
use Rattle.vcp_base.specs.Names.{SameName, is_name, is_same_name}
use Rattle.vcp_base.specs.Types.{fits, same_type}
use Rattle.vcp_base.specs.declared.spot.Spot.{Spot}
use Rattle.st_tree.specs.declared.program.Section.TheVariants as section
use Rattle.st_tree.specs.ProgramTree.{DeclaredTree}
use Rattle.vcp_typed.specs.declared.slot.Slot.{Slot}
use Rattle.vcp_typed.specs.Checked.{is_set, SlotFits, SlotsFit}
use Rattle.il_front.specs.TypedForm.{hidden_name, is_reserved, first_reserved, hidden_slot, hidden_slots, all_types}

-- ---- lists of slots

fits-append : (before xs ys : List Slot) → SlotsFit before xs → SlotsFit (before ++ xs) ys → SlotsFit before (xs ++ ys)
fits-append before [] ys h k = subst (λ (b : List Slot). SlotsFit b ys) (append-nil before) k
fits-append before (x ∷ xs) ys h k =
    (h.0, fits-append (before ++ x ∷ []) xs ys h.1 (subst (λ (b : List Slot). SlotsFit b ys) (sym (append_assoc before (x ∷ []) xs)) k))

-- ---- names

other_name : (a b : List ℕ) → is_same_name a b ≡ false → SameName a b → ⊥
other_name a b e h = let k : is_same_name a b ≡ true = (bytes_eq-Decides (map to_ascii_lowercase a) (map to_ascii_lowercase b)).1 h in absurd cc

-- none of the slots has the name of the type's hidden variable
abbrev Free : Ty → List Slot → Type 0
Free t ss = All (λ (s : Slot). SameName s.name (hidden_name t) → ⊥) ss

-- none of the types is this one
abbrev is_new : Ty → List Ty → Bool
is_new t [] = true
is_new t (u ∷ us) = cond (same_type t u) false (is_new t us)

hidden_differ : (t u : Ty) → same_type t u ≡ false → is_same_name (hidden_name t) (hidden_name u) ≡ false
hidden_differ ty.Bool ty.Bool e = absurd cc
hidden_differ ty.Bool ty.Int e = refl
hidden_differ ty.Bool ty.Dint e = refl
hidden_differ ty.Bool ty.Lint e = refl
hidden_differ ty.Int ty.Bool e = refl
hidden_differ ty.Int ty.Int e = absurd cc
hidden_differ ty.Int ty.Dint e = refl
hidden_differ ty.Int ty.Lint e = refl
hidden_differ ty.Dint ty.Bool e = refl
hidden_differ ty.Dint ty.Int e = refl
hidden_differ ty.Dint ty.Dint e = absurd cc
hidden_differ ty.Dint ty.Lint e = refl
hidden_differ ty.Lint ty.Bool e = refl
hidden_differ ty.Lint ty.Int e = refl
hidden_differ ty.Lint ty.Dint e = refl
hidden_differ ty.Lint ty.Lint e = absurd cc

local_is_set : section.Local ≡ section.Constant → ⊥
local_is_set e = let no : true ≡ false = ap is_set e in absurd cc

-- of the name: its length, and that it is one
abbrev IsShort : Ty → Type 0
IsShort t = length (hidden_name t) ≤ most_name_bytes

short_name : (t : Ty) → IsShort t
short_name ty.Bool = lit≤ tt
short_name ty.Int = lit≤ tt
short_name ty.Dint = lit≤ tt
short_name ty.Lint = lit≤ tt

good_name : (t : Ty) → is_name (hidden_name t) ≡ true
good_name ty.Bool = refl
good_name ty.Int = refl
good_name ty.Dint = refl
good_name ty.Lint = refl

zero_fits : (t : Ty) → fits t (pos 0) ≡ true
zero_fits ty.Bool = refl
zero_fits ty.Int = refl
zero_fits ty.Dint = refl
zero_fits ty.Lint = refl

hidden_fits : (t : Ty) (before : List Slot) → Free t before → SlotFits before (hidden_slot t)
hidden_fits t before f =
    record { name = record { short = short_name t; letters = good_name t; new = f }; init = zero_fits t; variable = local_is_set }

-- the types are all different, and none of the slots before has a name of theirs
abbrev AreFree : List Slot → List Ty → Type 0
AreFree before [] = Unit {0}
AreFree before (t ∷ ts) = Free t before × (is_new t ts ≡ true) × AreFree before ts

not_first : (b c : Bool) → cond b false c ≡ true → b ≡ false
not_first true c e = absurd cc
not_first false c e = refl

not_later : (b c : Bool) → cond b false c ≡ true → c ≡ true
not_later true c e = absurd cc
not_later false c e = e

-- the types are free also behind the hidden variable of another one
free_push : (before : List Slot) (t : Ty) (ts : List Ty) → is_new t ts ≡ true → AreFree before ts → AreFree (before ++ hidden_slot t ∷ []) ts
free_push before t [] e h = tt
free_push before t (u ∷ us) e h = (
  All-push (λ (s : Slot). SameName s.name (hidden_name u) → ⊥) before (hidden_slot t) h.0
      (other_name (hidden_name t) (hidden_name u) (hidden_differ t u (not_first (same_type t u) (is_new t us) e))),
  h.1,
  free_push before t us (not_later (same_type t u) (is_new t us) e) h.2,
)

either_fit : (b : Bool) (before : List Slot) (s : Slot) (ss : List Slot) → SlotFits before s × SlotsFit (before ++ s ∷ []) ss → SlotsFit before ss
    → SlotsFit before (cond b (s ∷ ss) ss)
either_fit true before s ss h k = (h.0, h.1)
either_fit false before s ss h k = k

hidden_behind : (used : Ty → Bool) (before : List Slot) (ts : List Ty) → AreFree before ts → SlotsFit before (hidden_slots used ts)
hidden_behind used before [] h = tt
hidden_behind used before (t ∷ ts) h =
    either_fit (used t) before (hidden_slot t) (hidden_slots used ts)
    (hidden_fits t before h.0, hidden_behind used (before ++ hidden_slot t ∷ []) ts (free_push before t ts h.1 h.2))
    (hidden_behind used before ts h.2)

-- ---- reserved names

-- the name isn't reserved
abbrev pub is_free : List ℕ → Bool
is_free n = not (is_reserved n)

four : (a b c d : Bool) → not (a || (b || (c || (d || false)))) ≡ true → (a ≡ false) × (b ≡ false) × (c ≡ false) × (d ≡ false)
four true b c d e = absurd cc
four false true c d e = absurd cc
four false false true d e = absurd cc
four false false false true e = absurd cc
four false false false false e = (refl, refl, refl, refl)

-- the hidden name is on the left in `is_reserved`
turned_name : (t : Ty) (n : List ℕ) → is_same_name (hidden_name t) n ≡ false → SameName n (hidden_name t) → ⊥
turned_name t n e h = other_name (hidden_name t) n e (sym h)

-- the name is none of the four
none_of : (n : List ℕ) → is_free n ≡ true → (is_same_name (hidden_name ty.Bool) n ≡ false) × (is_same_name (hidden_name ty.Int) n ≡ false)
    × (is_same_name (hidden_name ty.Dint) n ≡ false) × (is_same_name (hidden_name ty.Lint) n ≡ false)
none_of n e =
    four (is_same_name (hidden_name ty.Bool) n) (is_same_name (hidden_name ty.Int) n) (is_same_name (hidden_name ty.Dint) n)
    (is_same_name (hidden_name ty.Lint) n) e

free_of : (t : Ty) (n : List ℕ) → is_free n ≡ true → is_same_name (hidden_name t) n ≡ false
free_of ty.Bool n e = (none_of n e).0
free_of ty.Int n e = (none_of n e).1
free_of ty.Dint n e = (none_of n e).2
free_of ty.Lint n e = (none_of n e).3

head_of : (a b : Bool) → (a && b) ≡ true → a ≡ true
head_of true b h = refl
head_of false b h = absurd cc

rest_of : (a b : Bool) → (a && b) ≡ true → b ≡ true
rest_of true b h = h
rest_of false b h = absurd cc

all_free : (t : Ty) (ss : List Slot) → list_all (λ (s : Slot). is_free s.name) ss ≡ true → Free t ss
all_free t [] e = All-nil (λ (s : Slot). SameName s.name (hidden_name t) → ⊥)
all_free t (s ∷ ss) e =
    All-cons (λ (x : Slot). SameName x.name (hidden_name t) → ⊥) s ss
    (turned_name t s.name (free_of t s.name (head_of (is_free s.name) (list_all (λ (x : Slot). is_free x.name) ss) e)))
    (all_free t ss (rest_of (is_free s.name) (list_all (λ (x : Slot). is_free x.name) ss) e))

-- declared variables without a reserved name may be followed by the hidden ones
pub hidden-follow : (slots : List Slot) (used : Ty → Bool) → SlotsFit [] slots → list_all (λ (s : Slot). is_free s.name) slots ≡ true
    → SlotsFit [] (slots ++ hidden_slots used all_types)
hidden-follow slots used h e =
    fits-append [] slots (hidden_slots used all_types) h
    (hidden_behind used slots all_types
    (all_free ty.Bool slots e, refl, (all_free ty.Int slots e, refl, (all_free ty.Dint slots e, refl, (all_free ty.Lint slots e, refl, tt)))))

one_free : (b : Bool) (d : DeclaredTree) (o : Option Spot) → cond b (Some d.spot) o ≡ None → (b ≡ false) × (o ≡ None)
one_free true d o e = absurd cc
one_free false d o e = (refl, e)

-- where no declared name is told, each is free
pub none-reserved : (ds : List DeclaredTree) → first_reserved ds ≡ None → list_all (λ (d : DeclaredTree). is_free d.name) ds ≡ true
none-reserved [] e = refl
none-reserved (d ∷ ds) e =
    let both = one_free (is_reserved d.name) d (first_reserved ds) e in
    ap (λ (b : Bool). not b && list_all (λ (x : DeclaredTree). is_free x.name) ds) both.0 ∙ none-reserved ds both.1
