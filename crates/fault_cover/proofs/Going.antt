-- Going: some faults that are told of behind others, and rows of a text.
use Rattle.std.proofs.Common.{◌≡◌, ◌≢◌, ℕ, ◌+◌, ◌==◌, Bool, true, false, cond, List, [], ◌∷◌, ◌++◌, map, flat_map, take, slice_get, Some}
use Rattle.std.proofs.Common.{refl, sym, ap, subst, ◌∙◌, add-one, append_assoc, codes}
use Rattle.std.proofs.lemmas.Bool.{eqb-true}
use Rattle.std.proofs.lemmas.Grind.{flat_map-append}
use Rattle.std.proofs.lemmas.List.{append-nil, map-append}
use Rattle.std.proofs.lemmas.List.Elements.{All-append, All-cons, All-nil}
use Rattle.std.proofs.lemmas.Option.{get_or_from_slice_get, slice_get_within}
use Rattle.std.proofs.Math.Seq.{take-suc}
use Rattle.fault_sites.specs.Sites.{each_below}
use Rattle.fault_cover.specs.declared.disturbance.Disturbance.{Disturbance}
use Rattle.fault_cover.specs.declared.effect.Effect.{Effect}
use Rattle.fault_cover.specs.Classes.{Single, fault_at}
use Rattle.fault_cover.specs.CoverText.{AreHeard, Heard, heard_as}
use Rattle.fault_cover.specs.Passing.{Passes}
use Rattle.fault_cover.specs.Telling.{Subject, Tells}
use Rattle.vcp_outside.specs.Pens.{Penned, Goes, unmoved, and_then, same}

-- ---- faults

-- those that are told of are told of in order
pub heard_both : {s : Subject} (xs ys : List Single) (one other : List Heard) → AreHeard s xs one → AreHeard s ys other → AreHeard s (xs ++ ys) (one ++ other)
heard_both {s = s} xs ys one other first second = record {
  faults_are = map-append (λ h. h.fault) one other ∙ ap (λ zs. zs ++ map (λ h. h.fault) other) first.faults_are ∙ ap (λ zs. xs ++ zs) second.faults_are;
  told = All-append (λ h. Tells s h.fault.op h.fault.does h.told) one other first.told second.told;
}

pub heard_none : {s : Subject} → AreHeard s [] []
heard_none {s = s} = record { faults_are = refl; told = All-nil (λ h. Tells s h.fault.op h.fault.does h.told) }

pub heard_one : {s : Subject} (k : ℕ) (d : Disturbance) (x : Effect) → Tells s k d x → AreHeard s (fault_at k d ∷ []) (heard_as k d x ∷ [])
heard_one {s = s} k d x is = record {
  faults_are = refl;
  told = All-cons (λ h. Tells s h.fault.op h.fault.does h.told) (heard_as k d x) [] is (All-nil (λ h. Tells s h.fault.op h.fault.does h.told));
}

module _ {L : Type 0} {s : Subject} {keeps : L → L → List Heard → Type 0} where
  pub passes_none : {x : L} → Passes s [] keeps x x
  passes_none {x = x} = record { heard = []; are = heard_none; kept = λ start past is. subst (keeps start x) (sym (append-nil past)) is }

  pub passes_one : {x y : L} (k : ℕ) (d : Disturbance) (told : Effect) → Tells s k d told
      → ((start : L) (past : List Heard) → keeps start x past → keeps start y (past ++ heard_as k d told ∷ []))
      → Passes s (fault_at k d ∷ []) keeps x y
  passes_one k d told tells kept = record { heard = heard_as k d told ∷ []; are = heard_one k d told tells; kept = kept }

  pub passes_both : {x y z : L} (xs ys : List Single) → Passes s xs keeps x y → Passes s ys keeps y z → Passes s (xs ++ ys) keeps x z
  passes_both {z = z} xs ys one other = record {
    heard = one.heard ++ other.heard;
    are = heard_both xs ys one.heard other.heard one.are other.are;
    kept = λ start past is.
        subst (keeps start z) (append_assoc past one.heard other.heard) (other.kept start (past ++ one.heard) (one.kept start past is));
  }

  -- the same faults, listed otherwise
  pub passes_same : {x y : L} (xs ys : List Single) → Passes s xs keeps x y → xs ≡ ys → Passes s ys keeps x y
  passes_same {x = x} {y = y} xs ys passes e = subst (λ zs. Passes s zs keeps x y) e passes

  -- those of one number more
  pub passes_more : {x y z : L} (f : ℕ → List Single) (i : ℕ) → Passes s (each_below f i) keeps x y → Passes s (f i) keeps y z
      → Passes s (each_below f (i + 1)) keeps x z
  passes_more f i one other = passes_same (each_below f i ++ f i) (each_below f (i + 1)) (passes_both (each_below f i) (f i) one other)
      (ap (each_below f) (sym (add-one i)))

  -- the same of what faults are made of
  pub made_more : {x y z : L} {X : Type 0} (of : X → Single) (f : ℕ → List X) (i : ℕ) → Passes s (map of (each_below f i)) keeps x y
      → Passes s (map of (f i)) keeps y z → Passes s (map of (each_below f (i + 1))) keeps x z
  made_more of f i one other =
      passes_same (map of (each_below f i) ++ map of (f i)) (map of (each_below f (i + 1)))
      (passes_both (map of (each_below f i)) (map of (f i)) one other)
      (sym (map-append of (each_below f i) (f i)) ∙ ap (λ n. map of (each_below f n)) (sym (add-one i)))

-- one element more
pub taken_one : {X : Type 0} (xs : List X) (i : ℕ) (x : X) → slice_get xs i ≡ Some x → take i xs ++ x ∷ [] ≡ take (i + 1) xs
taken_one xs i x there =
    ap (λ y. take i xs ++ y ∷ []) (sym (get_or_from_slice_get xs i x x there)) ∙ sym (take-suc xs i x (slice_get_within xs i x there))
    ∙ ap (λ n. take n xs) (sym (add-one i))

-- those of one element more
pub taken_more : {X Y : Type 0} (f : X → List Y) (xs : List X) (i : ℕ) (x : X) → slice_get xs i ≡ Some x
    → flat_map f (take i xs) ++ f x ≡ flat_map f (take (i + 1) xs)
taken_more f xs i x there =
    ap (λ ys. flat_map f (take i xs) ++ ys) (sym (append-nil (f x))) ∙ sym (flat_map-append f (take i xs) (x ∷ []))
    ∙ ap (flat_map f) (ap (λ y. take i xs ++ y ∷ []) (sym (get_or_from_slice_get xs i x x there)) ∙ sym (take-suc xs i x (slice_get_within xs i x there)))
    ∙ ap (λ n. flat_map f (take n xs)) (sym (add-one i))

-- what is written of one fault more
pub told_next : {x y z : Penned} (text : Heard → List ℕ) (past : List Heard) (h : Heard) → Goes x y (flat_map text past) → Goes y z (text h)
    → Goes x z (flat_map text (past ++ h ∷ []))
told_next text past h first next =
    same (and_then first next) (flat_map-append text past (h ∷ []) ∙ ap (λ t. flat_map text past ++ t) (append-nil (text h)))

pub told_nothing : {x y : Penned} (text : Heard → List ℕ) (past : List Heard) (h : Heard) → Goes x y (flat_map text past) → text h ≡ []
    → Goes x y (flat_map text (past ++ h ∷ []))
told_nothing text past h first none = told_next text past h first (same unmoved none)

-- ---- rows

some_row : (s : List ℕ) (n : ℕ) (b : Bool) → (n == 0) ≡ b → n ≢ 0 → cond (n == 0) [] s ≡ s
some_row s n true is some = absurd (some (eqb-true n 0 is))
some_row s n false is some = ap (λ (c : Bool). cond c [] s) is

-- a row of some, and one of none
pub a_row : {k l m : Penned} (n : ℕ) (columns name : List ℕ) → n ≢ 0
    → Goes k l (columns ++ codes "  ") → Goes l m (name ++ codes "\n")
    → Goes k m (cond (n == 0) [] (columns ++ (codes "  " ++ (name ++ codes "\n"))))
a_row n columns name some first last =
    same (and_then first last)
    (some_row (columns ++ (codes "  " ++ (name ++ codes "\n"))) n (n == 0) refl some ∙ sym (append_assoc columns (codes "  ") (name ++ codes "\n")))

pub no_row : {l : Penned} (n : ℕ) (s : List ℕ) → n ≡ 0 → Goes l l (cond (n == 0) [] s)
no_row n s none = same unmoved (ap (λ (k : ℕ). cond (k == 0) [] s) none)
