-- Chains: readings one after another.
use Rattle.std.proofs.Common.{◌≡◌, Bool, true, false, cond, ◌&&◌, nat_lt, ℕ, List, length, take, drop, Option, Some, None, Result, Ok, Err, refl, ap, sym}
use Rattle.std.proofs.Common.{subst, ◌∙◌}
use Rattle.std.specs.Option.{is_some}
use Rattle.image_file.specs.declared.fields.fault.FieldFault.{FieldFault}
use Rattle.image_file.specs.declared.fields.fault.FieldFault.TheVariants.{Short}
use Rattle.image_file.specs.declared.fields.fault.ReadError.{ReadError}
use Rattle.image_file.specs.declared.fields.fault.ReadError.TheVariants as errors
use Rattle.image_file.specs.Pieces.{◌>>=◌, checked, text_field, Fails}
use Rattle.image_file.specs.Readings.{GoesOn, kept}

-- nothing is kept that wasn't
pub stays : {B : Type 0} {m : Option ReadError} {x y : Result B FieldFault} → x ≡ y → GoesOn m m x y
stays e = record { before = λ n. n; same = λ n. e; fault = λ n f h. absurd cc; keeps = λ f h. h }

-- a fault was kept
pub failed : {B : Type 0} {e : ReadError} {x y : Result B FieldFault} → GoesOn (Some e) (Some e) x y
failed = record { before = λ n. absurd cc; same = λ n. absurd cc; fault = λ n f h. absurd cc; keeps = λ f h. h }

met : {B : Type 0} (m : Option ReadError) (f : FieldFault) {x y : Result B FieldFault} → x ≡ Err f → GoesOn m (kept m false (errors.FieldFault f)) x y
met None f e = record {
  before = λ n. absurd cc;
  same = λ n. absurd cc;
  fault = λ n g h. cc;
  keeps = λ g h. absurd cc;
}
met (Some g) f e = failed

-- a fault is met
pub refused : {B : Type 0} {m n : Option ReadError} {f : FieldFault} {x y : Result B FieldFault} → n ≡ kept m false (errors.FieldFault f) → x ≡ Err f
    → GoesOn m n x y
refused {m = m} {f = f} {x = x} {y = y} is e = subst (λ z. GoesOn m z x y) (sym is) (met m f e)

run_out : {B : Type 0} (m : Option ReadError) {x y : Result B FieldFault} → GoesOn m (kept m false errors.Memory) x y
run_out None = record { before = λ n. absurd cc; same = λ n. absurd cc; fault = λ n g h. absurd cc; keeps = λ g h. absurd cc }
run_out (Some g) = failed

-- memory ran out
pub no_memory : {B : Type 0} {m n : Option ReadError} {x y : Result B FieldFault} → n ≡ kept m false errors.Memory → GoesOn m n x y
no_memory {m = m} {x = x} {y = y} is = subst (λ z. GoesOn m z x y) (sym is) (run_out m)

-- what is left to read is something else
pub given : {B : Type 0} {m n : Option ReadError} {x y z : Result B FieldFault} → GoesOn m n x y → (n ≡ None → y ≡ z) → GoesOn m n x z
given h e = record { before = h.before; same = λ n. h.same n ∙ e n; fault = h.fault; keeps = h.keeps }

-- what all comes to is something else
pub since : {B : Type 0} {m n : Option ReadError} {x y z : Result B FieldFault} → (m ≡ None → x ≡ y) → GoesOn m n y z → GoesOn m n x z
since e h = record {
  before = h.before;
  same = λ o. e (h.before o) ∙ h.same o;
  fault = λ o f is. e o ∙ h.fault o f is;
  keeps = h.keeps;
}

follows : {B : Type 0} (m : Option ReadError) {l n : Option ReadError} {x y z : Result B FieldFault} → GoesOn l m x y → GoesOn m n y z → l ≡ None
    → (f : FieldFault) → n ≡ Some (errors.FieldFault f) → x ≡ Err f
follows None h k o f is = h.same refl ∙ k.fault refl f is
follows (Some e) h k o f is = h.fault o f (sym (k.keeps e refl) ∙ is)

-- one step after another
pub and_then : {B : Type 0} {l m n : Option ReadError} {x y z : Result B FieldFault} → GoesOn l m x y → GoesOn m n y z → GoesOn l n x z
and_then {m = m} h k = record {
  before = λ o. h.before (k.before o);
  same = λ o. h.same (k.before o) ∙ k.same o;
  fault = follows m h k;
  keeps = λ e is. k.keeps e (h.keeps e is);
}

-- a step of a longer reading
pub part : {A B : Type 0} {m n : Option ReadError} {r s : Result A FieldFault} (next : A → Result B FieldFault) → GoesOn m n r s
    → GoesOn m n (r >>= next) (s >>= next)
part next h = record {
  before = h.before;
  same = λ o. ap (λ z. z >>= next) (h.same o);
  fault = λ o f is. ap (λ z. z >>= next) (h.fault o f is);
  keeps = h.keeps;
}

-- one field, and then others
pub then : {A B : Type 0} {l m n : Option ReadError} {r : Result A FieldFault} (next : A → Result B FieldFault) {x : A} {s : Result B FieldFault}
    → GoesOn l m r (Ok x) → GoesOn m n (next x) s → GoesOn l n (r >>= next) s
then next h k = and_then (part next h) k

-- no byte is read after it
pub still : {A : Type 0} {x : A} {before after : List ℕ} {l m n : Option ReadError} {r : Result (A × List ℕ) FieldFault} → GoesOn l m r (Ok (x, before))
    → GoesOn m n (Ok before) (Ok after) → GoesOn l n r (Ok (x, after))
still {A = A} {x = x} h k = and_then h (part {B = A × List ℕ} (λ b. Ok (x, b)) k)

-- a test
pub passes_or : {B : Type 0} {y : B} (m : Option ReadError) (passes : Bool) (f : FieldFault) {n : Option ReadError}
    → n ≡ kept m passes (errors.FieldFault f) → GoesOn m n (cond passes (Ok y) (Err f)) (Ok y)
passes_or {B = B} {y = y} None true f is = subst (λ z. GoesOn {B = B} None z (Ok y) (Ok y)) (sym is) (stays refl)
passes_or {B = B} {y = y} (Some e) true f is = subst (λ z. GoesOn {B = B} (Some e) z (Ok y) (Ok y)) (sym is) failed
passes_or m false f is = refused is refl

-- a test of what was read
pub tested : {A : Type 0} {a : A} {left more : List ℕ} (m : Option ReadError) (passes : Bool) (f : FieldFault) {n : Option ReadError}
    → more ≡ left → n ≡ kept m passes (errors.FieldFault f) → GoesOn {B = A × List ℕ} m n (cond passes (Ok (a, left)) (Err f)) (Ok (a, more))
tested {A = A} {a = a} m passes f same is =
    given (passes_or {B = A × List ℕ} m passes f is) (λ o. ap {B = Result (A × List ℕ) FieldFault} (λ l. Ok (a, l)) (sym same))

-- where nothing is kept after a test, nothing was before it, and it passed
pub was_none : {n : Option ReadError} (m : Option ReadError) (passes : Bool) (e : ReadError) → n ≡ kept m passes e → n ≡ None → m ≡ None
was_none None passes e is none = refl
was_none (Some f) passes e is none = absurd cc

pub was_passed : {n : Option ReadError} (m : Option ReadError) (passes : Bool) (e : ReadError) → n ≡ kept m passes e → n ≡ None → passes ≡ true
was_passed m true e is none = refl
was_passed None false e is none = absurd cc
was_passed (Some f) false e is none = absurd cc

-- a number that stands for a value, and one that stands for none
pub known : {A : Type 0} {a : A} {left : List ℕ} {m : Option ReadError} (o : Option A) (bad : FieldFault) → o ≡ Some a
    → GoesOn m m (checked o (λ x. true) bad left) (Ok (a, left))
known {a = a} {left = left} o bad is = stays (ap (λ z. checked z (λ x. true) bad left) is)

pub unknown : {A : Type 0} {y : Result (A × List ℕ) FieldFault} {m n : Option ReadError} (o : Option A) (ok : A → Bool) (bad : FieldFault) (left : List ℕ)
    → o ≡ None → n ≡ kept m false (errors.FieldFault bad)
    → GoesOn m n (checked o ok bad left) y
unknown o ok bad left none is = refused is (ap (λ z. checked z ok bad left) none)

narrower : {A : Type 0} (r : Result (ℕ × List ℕ) FieldFault) (of : ℕ → Option A) (ok : A → Bool) (bad : FieldFault)
    → (r >>= λ n. checked (of n.0) ok bad n.1) ≡ ((r >>= λ n. checked (of n.0) (λ a. true) bad n.1) >>= λ x. cond (ok x.0) (Ok (x.0, x.1)) (Err bad))
narrower (Err f) of ok bad = refl
narrower (Ok n) of ok bad = of_one (of n.0) where
  of_one : (o : Option _) → checked o ok bad n.1 ≡ (checked o (λ a. true) bad n.1 >>= λ x. cond (ok x.0) (Ok (x.0, x.1)) (Err bad))
  of_one None = refl
  of_one (Some a) = refl

-- a field that may hold fewer values
pub narrowed : {A : Type 0} (r : Result (ℕ × List ℕ) FieldFault) (of : ℕ → Option A) (ok : A → Bool) (bad : FieldFault) {l m n : Option ReadError} {a : A}
    {left more : List ℕ} → GoesOn l m (r >>= λ x. checked (of x.0) (λ y. true) bad x.1) (Ok (a, left)) → more ≡ left
    → n ≡ kept m (ok a) (errors.FieldFault bad) → GoesOn l n (r >>= λ x. checked (of x.0) ok bad x.1) (Ok (a, more))
narrowed {A = A} r of ok bad {m = m} {a = a} h same is =
    since (λ o. narrower r of ok bad) (then {B = A × List ℕ} (λ x. cond (ok x.0) (Ok (x.0, x.1)) (Err bad)) h (tested m (ok a) bad same is))

-- a text that passes two tests, one after another
two : (a : Bool) (test : List ℕ × List ℕ → Bool) (x : List ℕ × List ℕ) (bad : FieldFault)
    → cond (a && test x) (Ok x) (Err bad) ≡ (cond a (Ok x) (Err bad) >>= λ y. cond (test y) (Ok (y.0, y.1)) (Err bad))
two true test x bad = refl
two false test x bad = refl

abbrev passing : (List ℕ → Bool) → FieldFault → List ℕ × List ℕ → Result (List ℕ × List ℕ) FieldFault
passing test bad x = cond (test x.0) (Ok (x.0, x.1)) (Err bad)

both : (p q : List ℕ → Bool) (is_short : Bool) (t rest : List ℕ) (bad : FieldFault)
    → cond is_short (Err Short) (checked (Some t) (λ u. p u && q u) bad rest)
    ≡ ((cond is_short (Err Short) (checked (Some t) (λ u. true) bad rest) >>= passing p bad) >>= passing q bad)
both p q true t rest bad = refl
both p q false t rest bad = two (p t) (λ y. q y.0) (t, rest) bad

pub twice_tested : (p q : List ℕ → Bool) (size : ℕ) (bytes : List ℕ) (bad : ℕ → FieldFault) (is_new : Bool) {text front next behind last : List ℕ}
    {k l m n o : Option ReadError}
    → GoesOn k l ((text_field size (λ t. true) bad).read bytes) (Ok (text, front)) → next ≡ front
    → m ≡ kept l (p text) (errors.FieldFault (bad (length bytes)))
    → GoesOn m n (Ok next) (Ok behind) → (n ≡ None → is_new ≡ q text) → last ≡ behind → o ≡ kept n is_new (errors.FieldFault (bad (length bytes)))
    → GoesOn k o ((text_field size (λ t. p t && q t) bad).read bytes) (Ok (text, last))
twice_tested p q size bytes bad is_new {text = text} {behind = behind} {l = l} {n = n} reads same first keeps said more second =
    let f = bad (length bytes) in
    let test : List ℕ → Result (List ℕ × List ℕ) FieldFault = λ b. cond (q text) (Ok (text, b)) (Err f) in
    since (λ o. both p q (nat_lt (length bytes) size) (take size bytes) (drop size bytes) f)
    (then (passing q f)
    (then (passing p f) reads (tested l (p text) f same first))
    (and_then (part test keeps)
    (since (λ o. ap {B = Result (List ℕ × List ℕ) FieldFault} (λ b. cond b (Ok (text, behind)) (Err f)) (sym (said o))) (tested n is_new f more second))))

-- what was read, in another form
pub copied : {A : Type 0} {x y : A} {before after : List ℕ} {l m n : Option ReadError} {r : Result (A × List ℕ) FieldFault}
    → GoesOn l m r (Ok (x, before)) → GoesOn m n (Ok before) (Ok after) → (n ≡ None → y ≡ x) → GoesOn l n r (Ok (y, after))
copied {A = A} {after = after} h k is = given (still h k) (λ o. ap {B = Result (A × List ℕ) FieldFault} (λ z. Ok (z, after)) (sym (is o)))

-- where a fault is met, one is kept
pub is_kept : {n : Option ReadError} (m : Option ReadError) (e : ReadError) → n ≡ kept m false e → n ≡ None → ⊥
is_kept None e is none = absurd cc
is_kept (Some f) e is none = absurd cc

-- some fault is not none
pub not_none : (n : Option ReadError) → is_some n ≡ true → n ≡ None → ⊥
not_none None some none = absurd cc
not_none (Some e) some none = absurd cc

-- where a fault is kept, nothing is said of what is left
pub stopped : {B : Type 0} {m n : Option ReadError} {x y z : Result B FieldFault} → GoesOn m n x y → is_some n ≡ true → GoesOn m n x z
stopped {n = n} h some = given h (λ none. absurd (not_none n some none))

-- where none is, it is none
pub none_is : (n : Option ReadError) → is_some n ≡ false → n ≡ None
none_is None none = refl
none_is (Some e) none = absurd cc

-- the fault that is kept in the end is that of all
pub all_fails : {B : Type 0} (e : ReadError) {n : Option ReadError} {x y : Result B FieldFault} → GoesOn None n x y → n ≡ Some e → Fails e x
all_fails errors.Memory h is = tt
all_fails (errors.FieldFault f) h is = h.fault refl f is
