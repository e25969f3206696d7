-- DeclLaws: what declarations without a fault make keeps the rules of checked programs.
use Rattle.std.proofs.Common.{◌≡◌, ◌⊎◌, inl, inr, ℕ, zero, suc, ◌+◌, ◌≤◌, ℤ, pos, Bool, true, false, cond, is_none, map, List, [], ◌∷◌, ◌++◌, length, flat_map}
use Rattle.std.proofs.Common.{All, slice_get, Option, Some, None, refl, sym, ap, subst, arith, append_assoc, append-nil, length-append}
use Rattle.std.proofs.lemmas.List.Elements.{All-nil, All-cons, All-head, All-tail, All-push}
use Rattle.std.proofs.lemmas.Slice.Eq.{bytes_eq-Decides}
use Rattle.std.specs.Char.{to_ascii_lowercase}
use Rattle.vcp_base.specs.declared.ty.Ty.{Ty}
use Rattle.vcp_base.specs.declared.ty.Ty.TheVariants as ty
use Rattle.vcp_base.specs.Names.{SameName, is_same_name}
use Rattle.vcp_base.specs.Types.{fits, within}
use Rattle.st_tree.specs.declared.program.Section.{Section}
use Rattle.st_tree.specs.declared.program.Section.TheVariants as section
use Rattle.st_tree.specs.ExprTree.{ExprTree}
use Rattle.st_tree.specs.ProgramTree.{DeclaredTree, DeclTree, BlockTree}
use Rattle.vcp_typed.specs.declared.slot.Slot.{Slot}
use Rattle.vcp_typed.specs.Checked.{SlotFits, SlotsFit}
use Rattle.st_types.specs.declared.fault.Fault.{Fault}
use Rattle.st_types.specs.declared.fault.Rule.TheVariants as rule
use Rattle.st_types.specs.Faults.{fault}
use Rattle.st_types.specs.Scope.{Entry, find}
use Rattle.st_types.specs.StmtTyping.{Known}
use Rattle.st_tree.specs.Declarable.{IsDeclarable, AreDeclarable}
use Rattle.st_types.specs.StmtTyping.{is_constant}
use Rattle.st_types.specs.DeclTyping.{Made, nothing_made, is_new, added, after_name, after_names, value_or_zero, known_init, init_value, Misfit, NamesFault}
use Rattle.st_types.specs.DeclTyping.{after_decl, DeclFault, after_decls, DeclsFault, after_blocks, BlocksFault}
use Rattle.st_types.proofs.ExprLaws.{some-none, none-some, same-value}
use Rattle.st_types.proofs.MadeChecked.{HasSlot, IsEntry, IsScope, KnownFits, within-fits, constant-fits}

-- ---- lists

all-front : {X : Type 0} (P : X → Type 0) (xs ys : List X) → All P (xs ++ ys) → All P xs
all-front P [] ys h = All-nil P
all-front P (x ∷ xs) ys h = All-cons P x xs (All-head P x (xs ++ ys) h) (all-front P xs ys (All-tail P x (xs ++ ys) h))

all-back : {X : Type 0} (P : X → Type 0) (xs ys : List X) → All P (xs ++ ys) → All P ys
all-back P [] ys h = h
all-back P (x ∷ xs) ys h = all-back P xs ys (All-tail P x (xs ++ ys) h)

front-kept : {X : Type 0} (xs : List X) (y x : X) (i : ℕ) → slice_get xs i ≡ Some x → slice_get (xs ++ y ∷ []) i ≡ Some x
front-kept [] y x i h = absurd (none-some x h)
front-kept (z ∷ xs) y x zero h = h
front-kept (z ∷ xs) y x (suc i) h = front-kept xs y x i h

last-there : {X : Type 0} (xs : List X) (x : X) → slice_get (xs ++ x ∷ []) (length xs) ≡ Some x
last-there [] x = refl
last-there (y ∷ xs) x = last-there xs x

-- ---- names

other-name : (a b : List ℕ) → is_same_name a b ≡ false → SameName a b → ⊥
other-name a b e h = let k : is_same_name a b ≡ true = (bytes_eq-Decides (map to_ascii_lowercase a) (map to_ascii_lowercase b)).1 h in absurd cc

-- what a name stands for after one entry more: what it stood for, or else the entry
find-cond : (b : Bool) (y x e : Entry) (o p : Option Entry) → (p ≡ Some e → (o ≡ Some e) ⊎ (x ≡ e)) → cond b (Some y) p ≡ Some e
    → (cond b (Some y) o ≡ Some e) ⊎ (x ≡ e)
find-cond true y x e o p h k = inl k
find-cond false y x e o p h k = h k

find-first : (b : Bool) (x e : Entry) → cond b (Some x) None ≡ Some e → x ≡ e
find-first true x e h = same-value x e h
find-first false x e h = absurd (none-some e h)

find-push : (es : List Entry) (x e : Entry) (n : List ℕ) → find (es ++ x ∷ []) n ≡ Some e → (find es n ≡ Some e) ⊎ (x ≡ e)
find-push [] x e n h = inr (find-first (is_same_name x.name n) x e h)
find-push (y ∷ es) x e n h = find-cond (is_same_name y.name n) y x e (find es n) (find (es ++ x ∷ []) n) (find-push es x e n) h

none-cond : (b : Bool) (y : Entry) (o : Option Entry) → cond b (Some y) o ≡ None → (b ≡ false) × (o ≡ None)
none-cond true y o h = absurd (some-none y h)
none-cond false y o h = (refl, h)

cond-none : (b : Bool) (y : Entry) (o : Option Entry) → b ≡ false → o ≡ None → cond b (Some y) o ≡ None
cond-none true y o h k = absurd cc
cond-none false y o h k = k

-- a name that stands for nothing after one entry more stood for nothing, and isn't the entry's
none-push : (es : List Entry) (x : Entry) (n : List ℕ) → find (es ++ x ∷ []) n ≡ None → (find es n ≡ None) × (is_same_name x.name n ≡ false)
none-push [] x n h = (refl, (none-cond (is_same_name x.name n) x None h).0)
none-push (y ∷ es) x n h =
    let k = none-cond (is_same_name y.name n) y (find (es ++ x ∷ []) n) h in
    let r = none-push es x n k.1 in
    (cond-none (is_same_name y.name n) y (find es n) k.0 r.0, r.1)

new-none : (o : Option Entry) → is_none o ≡ true → o ≡ None
new-none None e = refl
new-none (Some x) e = absurd cc

-- ---- slots

slots-push : (before ss : List Slot) (x : Slot) → SlotsFit before ss → SlotFits (before ++ ss) x → SlotsFit before (ss ++ x ∷ [])
slots-push before [] x h k = (subst (λ b. SlotFits b x) (append-nil before) k, tt)
slots-push before (s ∷ ss) x h k = (h.0, slots-push (before ++ s ∷ []) ss x h.1 (subst (λ b. SlotFits b x) (sym (append_assoc before (s ∷ []) ss)) k))

slot-kept : (slots : List Slot) (x : Slot) (e : Entry) → HasSlot slots e → HasSlot (slots ++ x ∷ []) e
slot-kept slots x e h = (h.0, front-kept slots x h.0 e.slot h.1, h.2, h.3)

entry-kept : (slots : List Slot) (x : Slot) (e : Entry) (c : Section) → IsEntry slots e c → IsEntry (slots ++ x ∷ []) e c
entry-kept slots x e section.Constant h = h
entry-kept slots x e section.Input h = slot-kept slots x e h
entry-kept slots x e section.Output h = slot-kept slots x e h
entry-kept slots x e section.Local h = slot-kept slots x e h
entry-kept slots x e section.Retain h = slot-kept slots x e h

entry-variable : (slots : List Slot) (e : Entry) (c : Section) → is_constant c ≡ false → HasSlot slots e → IsEntry slots e c
entry-variable slots e section.Constant k h = absurd cc
entry-variable slots e section.Input k h = h
entry-variable slots e section.Output k h = h
entry-variable slots e section.Local k h = h
entry-variable slots e section.Retain k h = h

entry-constant : (slots : List Slot) (e : Entry) (c : Section) → is_constant c ≡ true → fits e.ty e.value ≡ true → IsEntry slots e c
entry-constant slots e section.Constant k h = h
entry-constant slots e section.Input k h = absurd cc
entry-constant slots e section.Output k h = absurd cc
entry-constant slots e section.Local k h = absurd cc
entry-constant slots e section.Retain k h = absurd cc

not-constant : (c : Section) → is_constant c ≡ false → c ≡ section.Constant → ⊥
not-constant c e f = let k : is_constant c ≡ true = ap is_constant f in absurd cc

-- ---- what has been made

-- the slots fit, the names stand for them, and a name that stands for nothing is none of theirs
pub record IsSound (m : Made) : Type 0 where
  pub slots : SlotsFit [] m.slots
  pub scope : IsScope m.slots m.entries
  pub named : (n : List ℕ) → find m.entries n ≡ None → All (λ r. SameName r.name n → ⊥) m.slots

pub nothing-sound : IsSound nothing_made
nothing-sound = record {
  slots = tt;
  scope = λ n e h. absurd (none-some e h);
  named = λ n h. All-nil (λ r. SameName r.name n → ⊥);
}

scope-push : (slots : List Slot) (es : List Entry) (x : Entry) → IsScope slots es → IsEntry slots x x.section → IsScope slots (es ++ x ∷ [])
scope-push slots es x h k = λ n e f. elim (find-push es x e n f) [
  | inl g ↦ h n e g
  | inr g ↦ subst (λ y. IsEntry slots y y.section) g k
]

scope-kept : (slots : List Slot) (s : Slot) (es : List Entry) → IsScope slots es → IsScope (slots ++ s ∷ []) es
scope-kept slots s es h = λ n e f. entry-kept slots s e e.section (h n e f)

-- the entry and the slot of one name more
abbrev new_entry : Made → Section → Ty → ℤ → DeclaredTree → Entry
new_entry m k t v d = record { name = d.name; section = k; ty = t; value = v; slot = length m.slots }

abbrev new_slot : Section → Ty → ℤ → DeclaredTree → Slot
new_slot k t v d = record { name = d.name; spot = d.spot; section = k; ty = t; init = v }

abbrev added_if : Bool → Made → Section → Ty → ℤ → DeclaredTree → Made
added_if b m k t v d = record {
  entries = m.entries ++ new_entry m k t v d ∷ [];
  slots = cond b m.slots (m.slots ++ new_slot k t v d ∷ []);
}

added-sound : (m : Made) (k : Section) (t : Ty) (v : ℤ) (d : DeclaredTree) (b : Bool) → is_constant k ≡ b → IsSound m → find m.entries d.name ≡ None
    → IsDeclarable d.name → fits t v ≡ true → IsSound (added_if b m k t v d)
added-sound m k t v d true c h n w f = record {
  slots = h.slots;
  scope = scope-push m.slots m.entries (new_entry m k t v d) h.scope (entry-constant m.slots (new_entry m k t v d) k c f);
  named = λ o g. h.named o (none-push m.entries (new_entry m k t v d) o g).0;
}
added-sound m k t v d false c h n w f =
    let s = new_slot k t v d in
    let fit : SlotFits m.slots s = record { name = record { short = w.0; letters = w.1; new = h.named d.name n }; init = f; variable = not-constant k c } in
    record {
      slots = slots-push [] m.slots s h.slots fit;
      scope = scope-push (m.slots ++ s ∷ []) m.entries (new_entry m k t v d) (scope-kept m.slots s m.entries h.scope)
          (entry-variable (m.slots ++ s ∷ []) (new_entry m k t v d) k c (s, last-there m.slots s, refl, refl));
      named = λ o g.
          let r = none-push m.entries (new_entry m k t v d) o g in
          All-push (λ r. SameName r.name o → ⊥) m.slots s (h.named o r.0) (other-name d.name o r.1);
    }

name-sound : (m : Made) (k : Section) (t : Ty) (v : ℤ) (d : DeclaredTree) (b : Bool) → is_new m d.name ≡ b → IsSound m → IsDeclarable d.name → fits t v ≡ true
    → IsSound (cond b (added m k t v d) m)
name-sound m k t v d false e h w f = h
name-sound m k t v d true e h w f = added-sound m k t v d (is_constant k) refl h (new-none (find m.entries d.name) e) w f

-- ---- initial values

zero-fits : (t : Ty) → fits t (pos 0) ≡ true
zero-fits ty.Bool = refl
zero-fits ty.Int = refl
zero-fits ty.Dint = refl
zero-fits ty.Lint = refl

is-within : (b : Bool) → (b ≡ false → ⊥) → b ≡ true
is-within true h = refl
is-within false h = absurd (h refl)

value-fits : (x : Option Known) (t : Ty) → KnownFits x → (Misfit x t → ⊥) → fits t (value_or_zero x) ≡ true
value-fits None t h k = zero-fits t
value-fits (Some x) t h k = within-fits x.ty t x.value (is-within (within x.ty t) (λ e. k (x, refl, e))) h

init-known : (m : Made) (init : Option ExprTree) → IsScope m.slots m.entries → KnownFits (known_init m init)
init-known m None h = tt
init-known m (Some e) h = constant-fits m.slots m.entries e h

-- ---- declarations

names-sound : (m : Made) (k : Section) (t : Ty) (v : ℤ) (x : Option Known) (ds : List DeclaredTree) → IsSound m → AreDeclarable ds
    → ((Misfit x t → ⊥) → fits t v ≡ true) → ((f : Fault) → NamesFault m k t v x ds f → ⊥) → IsSound (after_names m k t v ds)
names-sound m k t v x [] h w f never = h
names-sound m k t v x (d ∷ ds) h w f never =
    let fit = f (λ e. never (fault rule.Mismatch d.spot) (inr (inl (refl, e)))) in
    let one = name-sound m k t v d (is_new m d.name) refl h (All-head (λ y. IsDeclarable y.name) d ds w) fit in
    names-sound (after_name m k t v d) k t v x ds one (All-tail (λ y. IsDeclarable y.name) d ds w) f (λ g e. never g (inr (inr e)))

decl-sound : (all : List Entry) (k : Section) (m : Made) (d : DeclTree) → IsSound m → AreDeclarable d.names → ((f : Fault) → DeclFault all k m d f → ⊥)
    → IsSound (after_decl k m d)
decl-sound all k m d h w never =
    names-sound m k d.ty (init_value m d.init) (known_init m d.init) d.names h w
    (λ e. value-fits (known_init m d.init) d.ty (init-known m d.init h.scope) e) (λ f e. never f (inr e))

decls-sound : (all : List Entry) (k : Section) (m : Made) (ds : List DeclTree) → IsSound m → AreDeclarable (flat_map (λ d. d.names) ds)
    → ((f : Fault) → DeclsFault all k m ds f → ⊥) → IsSound (after_decls k m ds)
decls-sound all k m [] h w never = h
decls-sound all k m (d ∷ ds) h w never =
    let one = decl-sound all k m d h (all-front (λ y. IsDeclarable y.name) d.names (flat_map (λ y. y.names) ds) w) (λ f e. never f (inl e)) in
    decls-sound all k (after_decl k m d) ds one (all-back (λ y. IsDeclarable y.name) d.names (flat_map (λ y. y.names) ds) w) (λ f e. never f (inr e))

abbrev pub block_names : BlockTree → List DeclaredTree
block_names b = flat_map (λ d. d.names) b.decls

-- blocks of declarations without a fault keep what has been made sound
pub blocks-sound : (all : List Entry) (m : Made) (bs : List BlockTree) → IsSound m → AreDeclarable (flat_map block_names bs)
    → ((f : Fault) → BlocksFault all m bs f → ⊥) → IsSound (after_blocks m bs)
blocks-sound all m [] h w never = h
blocks-sound all m (b ∷ bs) h w never =
    let one = decls-sound all b.section m b.decls h (all-front (λ y. IsDeclarable y.name) (block_names b) (flat_map block_names bs) w) (λ f e. never f (inl e)) in
    blocks-sound all (after_decls b.section m b.decls) bs one (all-back (λ y. IsDeclarable y.name) (block_names b) (flat_map block_names bs) w)
    (λ f e. never f (inr e))

-- ---- how many slots there are

slots-if : (b : Bool) (ss : List Slot) (x : Slot) → length (cond b ss (ss ++ x ∷ [])) ≤ suc (length ss)
slots-if true ss x = omega arith
slots-if false ss x = let e = length-append ss (x ∷ []) in let o : length (x ∷ []) ≡ 1 = refl in omega arith

name-length : (m : Made) (k : Section) (t : Ty) (v : ℤ) (d : DeclaredTree) (b : Bool) → length (cond b (added m k t v d) m).slots ≤ suc (length m.slots)
name-length m k t v d true = slots-if (is_constant k) m.slots (new_slot k t v d)
name-length m k t v d false = omega arith

names-length : (m : Made) (k : Section) (t : Ty) (v : ℤ) (ds : List DeclaredTree) → length (after_names m k t v ds).slots ≤ length m.slots + length ds
names-length m k t v [] = let none : List DeclaredTree = [] in let e : length none ≡ 0 = refl in omega arith
names-length m k t v (d ∷ ds) =
    let one = name-length m k t v d (is_new m d.name) in
    let rest = names-length (after_name m k t v d) k t v ds in
    let e : length (d ∷ ds) ≡ suc (length ds) = refl in
    omega arith

decls-length : (k : Section) (m : Made) (ds : List DeclTree) → length (after_decls k m ds).slots ≤ length m.slots + length (flat_map (λ d. d.names) ds)
decls-length k m [] = let none : List DeclaredTree = [] in let e : length none ≡ 0 = refl in omega arith
decls-length k m (d ∷ ds) =
    let one = names-length m k d.ty (init_value m d.init) d.names in
    let rest = decls-length k (after_decl k m d) ds in
    let e = length-append d.names (flat_map (λ y. y.names) ds) in
    omega arith

-- there are no more slots than names
pub blocks-length : (m : Made) (bs : List BlockTree) → length (after_blocks m bs).slots ≤ length m.slots + length (flat_map block_names bs)
blocks-length m [] = let none : List DeclaredTree = [] in let e : length none ≡ 0 = refl in omega arith
blocks-length m (b ∷ bs) =
    let one = decls-length b.section m b.decls in
    let rest = blocks-length (after_decls b.section m b.decls) bs in
    let e = length-append (block_names b) (flat_map block_names bs) in
    omega arith
