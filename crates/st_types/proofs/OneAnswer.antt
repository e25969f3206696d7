-- OneAnswer: a tree has one answer, but for want of memory.
use Rattle.std.proofs.Common.{◌≡◌, ◌⊎◌, inl, inr, ℕ, zero, suc, ◌<◌, ◌≤◌, ◌==◌, cond, List, [], ◌∷◌, length, slice_get, Some, refl, sym, ap, ◌∙◌, arith}
use Rattle.vcp_base.specs.declared.spot.Spot.{Spot}
use Rattle.st_tree.specs.ProgramTree.{ProgramTree}
use Rattle.vcp_typed.specs.SourceRun.{Program}
use Rattle.vcp_typed.specs.Size.{size}
use Rattle.st_types.specs.declared.fault.Fault.{Fault}
use Rattle.st_types.specs.declared.fault.Rule.{Rule}
use Rattle.st_types.specs.declared.fault.Rule.TheVariants as rule
use Rattle.st_types.specs.declared.fault.TypeFault.{TypeFault}
use Rattle.st_types.specs.declared.fault.TypeFault.TheVariants as told
use Rattle.st_types.specs.Faults.{fault, number, AtMost, IsLeast}
use Rattle.st_tree.specs.Declarable.{names_of}
use Rattle.vcp_base.specs.Limits.{most_names, most_size}
use Rattle.st_types.specs.Typing.{FaultAt, typed_of, IsFaultless, IsTyped, IsPast, IsTooLarge, Refuses}
use Rattle.st_types.proofs.ExprLaws.{same-value}
use Rattle.st_types.proofs.Faultless.{faultless-typed, past-none}
use Rattle.st_types.proofs.LeastFaults.{Least, program-least}

-- ---- the least fault is one

abbrev rule_of : ℕ → Rule
rule_of n = cond (n == 1) rule.Duplicate
    (cond (n == 2) rule.Unknown
    (cond (n == 3) rule.Mismatch (cond (n == 4) rule.Assign (cond (n == 5) rule.Bound (cond (n == 6) rule.Label (cond (n == 7) rule.Call rule.Literal))))))

rule-back : (r : Rule) → rule_of (number r) ≡ r
rule-back rule.Duplicate = refl
rule-back rule.Unknown = refl
rule-back rule.Mismatch = refl
rule-back rule.Assign = refl
rule-back rule.Bound = refl
rule-back rule.Label = refl
rule-back rule.Call = refl
rule-back rule.Literal = refl

same-rule : (r q : Rule) → number r ≡ number q → r ≡ q
same-rule r q e = sym (rule-back r) ∙ ap rule_of e ∙ rule-back q

same-places : (a b c d m n : ℕ) → (a < b) ⊎ ((a ≡ b) × ((c < d) ⊎ ((c ≡ d) × (m ≤ n)))) → (b < a) ⊎ ((b ≡ a) × ((d < c) ⊎ ((d ≡ c) × (n ≤ m))))
    → (a ≡ b) × (c ≡ d) × (m ≡ n)
same-places a b c d m n (inl h) (inl k) = absurd (omega arith)
same-places a b c d m n (inl h) (inr k) = let e = k.0 in absurd (omega arith)
same-places a b c d m n (inr h) (inl k) = let e = h.0 in absurd (omega arith)
same-places a b c d m n (inr (e, inl h)) (inr (f, inl k)) = absurd (omega arith)
same-places a b c d m n (inr (e, inl h)) (inr (f, inr k)) = let g = k.0 in absurd (omega arith)
same-places a b c d m n (inr (e, inr h)) (inr (f, inl k)) = let g = h.0 in absurd (omega arith)
same-places a b c d m n (inr (e, inr h)) (inr (f, inr k)) = let i = h.1 in let j = k.1 in (e, h.0, omega arith)

-- faults that come before each other are one
pub most-both : (f g : Fault) → AtMost f g → AtMost g f → f ≡ g
most-both f g h k =
    let p = same-places f.spot.line g.spot.line f.spot.col g.spot.col (number f.rule) (number g.rule) h k in
    let r = same-rule f.rule g.rule p.2 in
    λ i. record { rule = r i; spot = record { line = p.0 i; col = p.1 i } }

pub one-least : (F : Fault → Type 0) (f g : Fault) → IsLeast F f → IsLeast F g → f ≡ g
one-least F f g h k = most-both f g (h.1 g k.0) (k.1 f h.0)

-- ---- what is told

abbrev told_by : Rule → Spot → TypeFault
told_by rule.Duplicate spot = told.Duplicate spot
told_by rule.Unknown spot = told.Unknown spot
told_by rule.Mismatch spot = told.Mismatch spot
told_by rule.Assign spot = told.Assign spot
told_by rule.Bound spot = told.Bound spot
told_by rule.Label spot = told.Label spot
told_by rule.Call spot = told.Call spot
told_by rule.Literal spot = told.Literal spot

-- a refusal tells the least fault, a name too many, a Size too great, or want of memory
abbrev Cases : ProgramTree → TypeFault → Type 0
Cases p e =
    ((f : Fault) × (e ≡ told_by f.rule f.spot) × IsLeast (FaultAt p) f)
    ⊎ (((spot : Spot) × (e ≡ told.Names spot) × IsFaultless p × IsPast p spot)
    ⊎ (((e ≡ told.Size) × IsTooLarge p) ⊎ (e ≡ told.Memory)))

cases : (p : ProgramTree) (e : TypeFault) → Refuses p e → Cases p e
cases p (told.Duplicate spot) h = inl (fault rule.Duplicate spot, refl, h)
cases p (told.Unknown spot) h = inl (fault rule.Unknown spot, refl, h)
cases p (told.Mismatch spot) h = inl (fault rule.Mismatch spot, refl, h)
cases p (told.Assign spot) h = inl (fault rule.Assign spot, refl, h)
cases p (told.Bound spot) h = inl (fault rule.Bound spot, refl, h)
cases p (told.Label spot) h = inl (fault rule.Label spot, refl, h)
cases p (told.Call spot) h = inl (fault rule.Call spot, refl, h)
cases p (told.Literal spot) h = inl (fault rule.Literal spot, refl, h)
cases p (told.Names spot) h = inr (inl (spot, refl, h.0, h.1))
cases p told.Size h = inr (inr (inl (refl, h)))
cases p told.Memory h = inr (inr (inr refl))

same-told : (e g : TypeFault) (f k : Fault) → e ≡ told_by f.rule f.spot → g ≡ told_by k.rule k.spot → f ≡ k → e ≡ g
same-told e g f k a b c = a ∙ ap (λ x. told_by x.rule x.spot) c ∙ sym b

same-past : (p : ProgramTree) (a b : Spot) → IsPast p a → IsPast p b → a ≡ b
same-past p a b h k = h.2 ∙ ap (λ d. d.spot) (same-value h.0 k.0 (sym h.1 ∙ k.1)) ∙ sym k.2

by-cases : (p : ProgramTree) (e g : TypeFault) → (e ≡ told.Memory → ⊥) → (g ≡ told.Memory → ⊥) → Cases p e → Cases p g → e ≡ g
by-cases p e g m n (inl h) (inl k) = same-told e g h.0 k.0 h.1 k.1 (one-least (FaultAt p) h.0 k.0 h.2 k.2)
by-cases p e g m n (inl h) (inr (inl k)) = absurd (k.2 h.0 h.2.0)
by-cases p e g m n (inl h) (inr (inr (inl k))) = absurd (k.1.faultless h.0 h.2.0)
by-cases p e g m n (inr (inl h)) (inl k) = absurd (h.2 k.0 k.2.0)
by-cases p e g m n (inr (inl h)) (inr (inl k)) = h.1 ∙ ap (λ s. told.Names s) (same-past p h.0 k.0 h.3 k.3) ∙ sym k.1
by-cases p e g m n (inr (inl h)) (inr (inr (inl k))) = absurd (past-none p h.3.0 k.1.few h.3.1)
by-cases p e g m n (inr (inr (inl h))) (inl k) = absurd (h.1.faultless k.0 k.2.0)
by-cases p e g m n (inr (inr (inl h))) (inr (inl k)) = absurd (past-none p k.3.0 h.1.few k.3.1)
by-cases p e g m n (inr (inr (inl h))) (inr (inr (inl k))) = h.0 ∙ sym k.0
by-cases p e g m n (inr (inr (inr h))) k = absurd (m h)
by-cases p e g m n h (inr (inr (inr k))) = absurd (n k)

-- but for want of memory, a tree is refused for one reason
pub one-refusal : (p : ProgramTree) (e g : TypeFault) → (e ≡ told.Memory → ⊥) → (g ≡ told.Memory → ⊥) → Refuses p e → Refuses p g → e ≡ g
one-refusal p e g m n h k = by-cases p e g m n (cases p e h) (cases p g k)

-- ---- a program without a fault has an answer

within-or : (n m : ℕ) → (n ≤ m) ⊎ (m < n)
within-or n m = grind arith

get-there : {X : Type 0} (xs : List X) (i : ℕ) → i < length xs → (x : X) × (slice_get xs i ≡ Some x)
get-there [] i h = let none : List ℕ = [] in let e : length none ≡ 0 = refl in absurd (omega arith)
get-there (x ∷ xs) zero h = (x, refl)
get-there (x ∷ xs) (suc i) h = get-there xs i (omega arith)

abbrev Answered : ProgramTree → Type 0
Answered p = ((t : Program) × IsTyped p t) ⊎ (((spot : Spot) × Refuses p (told.Names spot)) ⊎ Refuses p told.Size)

sized-or : (p : ProgramTree) (t : Program) → IsFaultless p → length (names_of p) ≤ most_names → typed_of p ≡ Some t
    → (size t ≤ most_size) ⊎ (most_size < size t) → Answered p
sized-or p t never few is (inl h) = inl (t, record { faultless = never; few = few; is = is; room = h })
sized-or p t never few is (inr h) = inr (inr (record { faultless = never; few = few; typed = t; is = is; large = h }))

named-or : (p : ProgramTree) (t : Program) → IsFaultless p → typed_of p ≡ Some t → (length (names_of p) ≤ most_names) ⊎ (most_names < length (names_of p))
    → Answered p
named-or p t never is (inl h) = sized-or p t never h is (within-or (size t) most_size)
named-or p t never is (inr h) = let d = get-there (names_of p) most_names h in inr (inl (d.0.spot, (never, (d.0, d.1, refl))))

-- it is checked, or has a name too many, or is too large
pub faultless-answered : (p : ProgramTree) → IsFaultless p → Answered p
faultless-answered p never =
    let k = faultless-typed p never in
    named-or p k.0 never k.1 (within-or (length (names_of p)) most_names)

-- ---- each program has an answer

told-refuses : (p : ProgramTree) (r : Rule) (spot : Spot) → IsLeast (FaultAt p) (fault r spot) → Refuses p (told_by r spot)
told-refuses p rule.Duplicate spot h = h
told-refuses p rule.Unknown spot h = h
told-refuses p rule.Mismatch spot h = h
told-refuses p rule.Assign spot h = h
told-refuses p rule.Bound spot h = h
told-refuses p rule.Label spot h = h
told-refuses p rule.Call spot h = h
told-refuses p rule.Literal spot h = h

no-memory : (r : Rule) (spot : Spot) → told_by r spot ≡ told.Memory → ⊥
no-memory rule.Duplicate spot e = cc
no-memory rule.Unknown spot e = cc
no-memory rule.Mismatch spot e = cc
no-memory rule.Assign spot e = cc
no-memory rule.Bound spot e = cc
no-memory rule.Label spot e = cc
no-memory rule.Call spot e = cc
no-memory rule.Literal spot e = cc

-- a checked program, or a refusal for another reason than want of memory
abbrev Told : ProgramTree → Type 0
Told p = ((t : Program) × IsTyped p t) ⊎ ((e : TypeFault) × (e ≡ told.Memory → ⊥) × Refuses p e)

limits-told : (p : ProgramTree) → Answered p → Told p
limits-told p (inl h) = inl h
limits-told p (inr (inl h)) = inr (told.Names h.0, (λ e. cc), h.1)
limits-told p (inr (inr h)) = inr (told.Size, (λ e. cc), h)

least-told : (p : ProgramTree) → Least (FaultAt p) → Told p
least-told p (inl h) = inr (told_by h.0.rule h.0.spot, no-memory h.0.rule h.0.spot, told-refuses p h.0.rule h.0.spot h.1)
least-told p (inr never) = limits-told p (faultless-answered p never)

pub an-answer : (p : ProgramTree) → Told p
an-answer p = least-told p (program-least p)
