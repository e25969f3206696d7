-- NoteLaws: the least fault so far, through one part after another.
use Rattle.std.proofs.Common.{◌≡◌, ◌⊎◌, inl, inr, Option, Some, None, refl, sym, subst, arith}
use Rattle.st_types.specs.declared.fault.Fault.{Fault}
use Rattle.st_types.specs.Faults.{AtMost, IsLeast}
use Rattle.st_types.specs.Notes.{UpTo, Notes}
use Rattle.st_types.proofs.ExprLaws.{same-value}

pub most-refl : (f : Fault) → AtMost f f
most-refl f = inr (refl, inr (refl, omega arith))

pub most-trans : (f g h : Fault) → AtMost f g → AtMost g h → AtMost f h
most-trans f g h a b = grind arith

up-to-on : (o : Option Fault) (g h : Fault) → UpTo o g → AtMost g h → UpTo o h
up-to-on None g h a b = a
up-to-on (Some f) g h a b = most-trans f g h a b

-- nothing is noted, where there is no fault
pub quiet : (o : Option Fault) (F : Fault → Type 0) → ((f : Fault) → F f → ⊥) → Notes o o F
quiet o F never = record {
  from = λ f e. inl e;
  keeps = λ f e. subst (λ x. UpTo x f) (sym e) (most-refl f);
  finds = λ f h. absurd (never f h);
}

-- a least fault stays one where a later one is least
later : (a b : Option Fault) (F : Fault → Type 0) (h : Fault) → Notes a b F → UpTo a h → UpTo b h
later None b F h n u = absurd u
later (Some f) b F h n u = up-to-on b f h (n.keeps f refl) u

-- the faults of one part, and then those of another
pub pair : (a b c : Option Fault) (F G : Fault → Type 0) → Notes a b F → Notes b c G → Notes a c (λ f. F f ⊎ G f)
pair a b c F G x y = record {
  from = λ f e. elim (y.from f e) [ inl o ↦ elim (x.from f o) [ inl p ↦ inl p | inr q ↦ inr (inl q) ] | inr q ↦ inr (inr q) ];
  keeps = λ f e. later b c G f y (x.keeps f e);
  finds = λ f h. elim h [ inl p ↦ later b c G f y (x.finds f p) | inr q ↦ y.finds f q ];
}

-- the same faults, said otherwise
pub notes-as : (a b : Option Fault) (F H : Fault → Type 0) → Notes a b F → ((f : Fault) → H f → F f) → ((f : Fault) → F f → H f) → Notes a b H
notes-as a b F H x back forth = record {
  from = λ f e. elim (x.from f e) [ inl o ↦ inl o | inr q ↦ inr (forth f q) ];
  keeps = x.keeps;
  finds = λ f h. x.finds f (back f h);
}

-- the same fault, where the same is so
first-two : {A B C : Type 0} → A ⊎ (B ⊎ C) → (A ⊎ B) ⊎ C
first-two (inl x) = inl (inl x)
first-two (inr (inl y)) = inl (inr y)
first-two (inr (inr z)) = inr z

last-two : {A B C : Type 0} → (A ⊎ B) ⊎ C → A ⊎ (B ⊎ C)
last-two (inl (inl x)) = inl x
last-two (inl (inr y)) = inr (inl y)
last-two (inr z) = inr (inr z)

-- two kinds of faults were met at once, and then a third
pub third : (a b c : Option Fault) (F G H : Fault → Type 0) → Notes a b (λ f. F f ⊎ G f) → Notes b c H → Notes a c (λ f. F f ⊎ (G f ⊎ H f))
third a b c F G H m n = notes-as a c (λ f. (F f ⊎ G f) ⊎ H f) (λ f. F f ⊎ (G f ⊎ H f)) (pair a b c (λ f. F f ⊎ G f) H m n)
    (λ f h. first-two h) (λ f h. last-two h)

pub note-where : (a b : Option Fault) (g : Fault) (P Q : Type 0) → Notes a b (λ f. (f ≡ g) × P) → (Q → P) → (P → Q) → Notes a b (λ f. (f ≡ g) × Q)
note-where a b g P Q x back forth = notes-as a b (λ f. (f ≡ g) × P) (λ f. (f ≡ g) × Q) x (λ f h. (h.0, back h.1)) (λ f h. (h.0, forth h.1))

-- a fault that is noted anyway
pub note-always : (a b : Option Fault) (g : Fault) (Q : Type 0) → Notes a b (λ f. f ≡ g) → Q → Notes a b (λ f. (f ≡ g) × Q)
note-always a b g Q x q = notes-as a b (λ f. f ≡ g) (λ f. (f ≡ g) × Q) x (λ f h. h.0) (λ f h. (h, q))

pub least-some : (g : Fault) (F : Fault → Type 0) → Notes None (Some g) F → IsLeast F g
least-some g F n = (elim (n.from g refl) [ inl e ↦ absurd cc | inr h ↦ h ], n.finds)

pub least-none : (F : Fault → Type 0) → Notes None None F → (f : Fault) → F f → ⊥
least-none F n f h = n.finds f h

-- an earlier fault takes the place of the least one
pub earlier : (f g : Fault) → AtMost f g → Notes (Some g) (Some f) (λ h. h ≡ f)
earlier f g less = record {
  from = λ h e. inr (sym (same-value f h e));
  keeps = λ h e. subst (λ x. AtMost f x) (same-value g h e) less;
  finds = λ h e. subst (λ x. AtMost f x) (sym e) (most-refl f);
}
