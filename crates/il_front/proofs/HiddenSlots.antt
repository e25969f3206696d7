-- HiddenSlots: the hidden variables behind the declared ones are no inputs and no outputs, and each used type has one.
use Rattle.std.proofs.Common.{◌≡◌, ℕ, suc, ◌+◌, ◌<◌, ℤ, Bool, true, false, cond, ◌||◌, List, [], ◌∷◌, ◌++◌, length, refl, ap, ◌∙◌, arith}
use Rattle.vcp_base.specs.declared.ty.Ty.{Ty}
use Rattle.vcp_base.specs.declared.ty.Ty.TheVariants as ty
use Rattle.vcp_base.specs.Types.{same_type}
use Rattle.st_tree.specs.declared.program.Section.TheVariants as section
use Rattle.vcp_typed.specs.declared.slot.Slot.{Slot}
use Rattle.vcp_typed.specs.SourceRun.{is_input, is_output, with_inputs, outputs}
use Rattle.il_front.specs.TypedForm.{hidden_slot, hidden_slots, used_before, all_types}

-- ---- places

pub same_type_is : (s t : Ty) → same_type s t ≡ true → s ≡ t
same_type_is ty.Bool ty.Bool e = refl
same_type_is ty.Bool ty.Int e = absurd cc
same_type_is ty.Bool ty.Dint e = absurd cc
same_type_is ty.Bool ty.Lint e = absurd cc
same_type_is ty.Int ty.Bool e = absurd cc
same_type_is ty.Int ty.Int e = refl
same_type_is ty.Int ty.Dint e = absurd cc
same_type_is ty.Int ty.Lint e = absurd cc
same_type_is ty.Dint ty.Bool e = absurd cc
same_type_is ty.Dint ty.Int e = absurd cc
same_type_is ty.Dint ty.Dint e = refl
same_type_is ty.Dint ty.Lint e = absurd cc
same_type_is ty.Lint ty.Bool e = absurd cc
same_type_is ty.Lint ty.Int e = absurd cc
same_type_is ty.Lint ty.Dint e = absurd cc
same_type_is ty.Lint ty.Lint e = refl

pub same_self : (t : Ty) → same_type t t ≡ true
same_self ty.Bool = refl
same_self ty.Int = refl
same_self ty.Dint = refl
same_self ty.Lint = refl

-- the type is one of these
abbrev pub is_among : Ty → List Ty → Bool
is_among t [] = false
is_among t (u ∷ us) = same_type u t || is_among t us

pub all_among : (t : Ty) → is_among t all_types ≡ true
all_among ty.Bool = refl
all_among ty.Int = refl
all_among ty.Dint = refl
all_among ty.Lint = refl

-- b: the type is the first one; c: the first one is used
one_place : (b c : Bool) (n : ℕ) (s : Slot) (ss : List Slot) → (b ≡ true → c ≡ true) → (b ≡ false → n < length ss)
    → cond b 0 (cond c 1 0 + n) < length (cond c (s ∷ ss) ss)
one_place true true n s ss f g = omega arith
one_place true false n s ss f g = absurd (let e : false ≡ true = f refl in cc)
one_place false true n s ss f g = let h : n < length ss = g refl in omega (arith, h)
one_place false false n s ss f g = let h : n < length ss = g refl in omega (arith, h)

pub rest_among : (b c : Bool) → (b || c) ≡ true → b ≡ false → c ≡ true
rest_among true c e f = absurd cc
rest_among false c e f = e

place_among : (used : Ty → Bool) (t : Ty) (us : List Ty) → used t ≡ true → is_among t us ≡ true
    → used_before used t us < length (hidden_slots used us)
place_among used t [] u e = absurd cc
place_among used t (v ∷ us) u e =
    one_place (same_type v t) (used v) (used_before used t us) (hidden_slot v) (hidden_slots used us)
    (λ same. ap used (same_type_is v t same) ∙ u)
    (λ other. place_among used t us u (rest_among (same_type v t) (is_among t us) e other))

-- a used type has a hidden variable
pub place-below : (used : Ty → Bool) (t : Ty) → used t ≡ true → used_before used t all_types < length (hidden_slots used all_types)
place-below used t u = place_among used t all_types u (all_among t)

-- ---- sections

-- the variables are neither inputs nor outputs
abbrev pub AreLocal : List Slot → Type 0
AreLocal [] = Unit {0}
AreLocal (s ∷ ss) = (s.section ≡ section.Local) × AreLocal ss

one_local : (b : Bool) (s : Slot) (ss : List Slot) → s.section ≡ section.Local → AreLocal ss → AreLocal (cond b (s ∷ ss) ss)
one_local true s ss e h = (e, h)
one_local false s ss e h = h

pub hidden-local : (used : Ty → Bool) (us : List Ty) → AreLocal (hidden_slots used us)
hidden-local used [] = tt
hidden-local used (u ∷ us) = one_local (used u) (hidden_slot u) (hidden_slots used us) refl (hidden-local used us)

no_input : (s : Slot) → s.section ≡ section.Local → is_input s.section ≡ false
no_input s e = ap is_input e

no_output : (s : Slot) → s.section ≡ section.Local → is_output s.section ≡ false
no_output s e = ap is_output e

-- ---- inputs

past_input : (b : Bool) (x v : ℤ) (m n : List ℤ) → b ≡ false → cond b (x ∷ m) (v ∷ n) ≡ v ∷ n
past_input true x v m n e = absurd cc
past_input false x v m n e = refl

-- hidden variables keep their values
hidden_keep : (hid : List Slot) (row h : List ℤ) → AreLocal hid → length h ≡ length hid → with_inputs hid row h ≡ h
hidden_keep [] row [] l e = refl
hidden_keep [] row (v ∷ h) l e = absurd (omega (arith, e))
hidden_keep (s ∷ hid) row [] l e = absurd (omega (arith, e))
hidden_keep (s ∷ hid) [] (v ∷ h) l e = refl
hidden_keep (s ∷ hid) (x ∷ row) (v ∷ h) l e =
    past_input (is_input s.section) x v (with_inputs hid row h) (with_inputs hid (x ∷ row) h) (no_input s l.0)
    ∙ ap (λ (m : List ℤ). v ∷ m) (hidden_keep hid (x ∷ row) h l.1 (omega (arith, e)))

one_input : (b : Bool) (x v : ℤ) (m n o p h : List ℤ) → m ≡ o ++ h → n ≡ p ++ h → cond b (x ∷ m) (v ∷ n) ≡ cond b (x ∷ o) (v ∷ p) ++ h
one_input true x v m n o p h e f = ap (λ (l : List ℤ). x ∷ l) e
one_input false x v m n o p h e f = ap (λ (l : List ℤ). v ∷ l) f

-- a row sets the declared inputs alone
pub inputs-beside : (slots hid : List Slot) (row vars h : List ℤ) → AreLocal hid → length vars ≡ length slots → length h ≡ length hid
    → with_inputs (slots ++ hid) row (vars ++ h) ≡ with_inputs slots row vars ++ h
inputs-beside [] hid row [] h l e f = hidden_keep hid row h l f
inputs-beside [] hid row (v ∷ vars) h l e f = absurd (omega (arith, e))
inputs-beside (s ∷ slots) hid row [] h l e f = absurd (omega (arith, e))
inputs-beside (s ∷ slots) hid [] (v ∷ vars) h l e f = refl
inputs-beside (s ∷ slots) hid (x ∷ row) (v ∷ vars) h l e f =
    let g : length vars ≡ length slots = omega (arith, e) in
    one_input (is_input s.section) x v (with_inputs (slots ++ hid) row (vars ++ h)) (with_inputs (slots ++ hid) (x ∷ row) (vars ++ h))
    (with_inputs slots row vars) (with_inputs slots (x ∷ row) vars) h
    (inputs-beside slots hid row vars h l g f) (inputs-beside slots hid (x ∷ row) vars h l g f)

long_input : (b : Bool) (x v : ℤ) (m n : List ℤ) (k : ℕ) → length m ≡ k → length n ≡ k → length (cond b (x ∷ m) (v ∷ n)) ≡ suc k
long_input true x v m n k e f = ap suc e
long_input false x v m n k e f = ap suc f

-- there are as many values as before
pub inputs-long : (slots : List Slot) (row vars : List ℤ) → length vars ≡ length slots → length (with_inputs slots row vars) ≡ length slots
inputs-long [] row vars e = refl
inputs-long (s ∷ slots) row [] e = absurd (omega (arith, e))
inputs-long (s ∷ slots) [] (v ∷ vars) e = e
inputs-long (s ∷ slots) (x ∷ row) (v ∷ vars) e =
    let g : length vars ≡ length slots = omega (arith, e) in
    long_input (is_input s.section) x v (with_inputs slots row vars) (with_inputs slots (x ∷ row) vars) (length slots)
    (inputs-long slots row vars g) (inputs-long slots (x ∷ row) vars g)

-- ---- outputs

past_output : (b : Bool) (v : ℤ) (m : List ℤ) → b ≡ false → cond b (v ∷ m) m ≡ m
past_output true v m e = absurd cc
past_output false v m e = refl

hidden_silent : (hid : List Slot) (h : List ℤ) → AreLocal hid → outputs hid h ≡ []
hidden_silent [] h l = refl
hidden_silent (s ∷ hid) [] l = refl
hidden_silent (s ∷ hid) (v ∷ h) l = past_output (is_output s.section) v (outputs hid h) (no_output s l.0) ∙ hidden_silent hid h l.1

one_output : (b : Bool) (v : ℤ) (m n : List ℤ) → m ≡ n → cond b (v ∷ m) m ≡ cond b (v ∷ n) n
one_output b v m n e = ap (λ (l : List ℤ). cond b (v ∷ l) l) e

-- the outputs are those of the declared variables
pub outputs-beside : (slots hid : List Slot) (vars h : List ℤ) → AreLocal hid → length vars ≡ length slots
    → outputs (slots ++ hid) (vars ++ h) ≡ outputs slots vars
outputs-beside [] hid [] h l e = hidden_silent hid h l
outputs-beside [] hid (v ∷ vars) h l e = absurd (omega (arith, e))
outputs-beside (s ∷ slots) hid [] h l e = absurd (omega (arith, e))
outputs-beside (s ∷ slots) hid (v ∷ vars) h l e =
    one_output (is_output s.section) v (outputs (slots ++ hid) (vars ++ h)) (outputs slots vars)
    (outputs-beside slots hid vars h l (omega (arith, e)))
