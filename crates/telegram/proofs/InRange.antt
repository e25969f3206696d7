-- InRange: numbers that are tested for their ranges, one after another.
use Rattle.std.proofs.Common.{◌≡◌, ℕ, ◌≤◌, ◌<◌, Bool, true, false, cond, Option, Some, None, option_and_then, option_map, ℤ, unsigned_abs, pos, refl, sym, ap, ◌∙◌, arith, to_z, of_z, to_z-of_z, Fits, SFits, w32, w64}
use Rattle.std.specs.Int.Signed.{non_neg, yes_non_neg}
use Rattle.std.proofs.Math.Dec.{T}
use Rattle.std.proofs.lemmas.Int.{ints, to_z_pos}
use Rattle.vcp_base.specs.Limits.{seeds, most_step, most_cycles}
use Rattle.telegram.specs.Sendings.{most_senders}
use Rattle.telegram.specs.Forms.{is_between, is_below, number_between, number_below, wire_with}

-- a number is what its 64 bits say
pub same : (v : ℤ) → SFits w64 v → to_z w64 (of_z w64 v) ≡ v
same v fits = to_z-of_z {w = w64} {z = v} fits

pub between_is : (least most : ℕ) (v : ℤ) (o p : Option ℕ) → SFits w64 v → o ≡ number_between least most (to_z w64 (of_z w64 v)) → o ≡ p
    → number_between least most v ≡ p
between_is least most v o p fits is e = ap (number_between least most) (sym (same v fits)) ∙ (sym is ∙ e)

pub below_is : (many : ℕ) (v : ℤ) (o p : Option ℕ) → SFits w64 v → o ≡ number_below many (to_z w64 (of_z w64 v)) → o ≡ p → number_below many v ≡ p
below_is many v o p fits is e = ap (number_below many) (sym (same v fits)) ∙ (sym is ∙ e)

-- ---- one number

some_if : (b c : Bool) (n : ℕ) → c ≡ b → b ≡ true → cond c (Some n) None ≡ Some n
some_if b c n is holds = ap (λ (x : Bool). cond x (Some n) None) (is ∙ holds)

none_if : (b c : Bool) (n : ℕ) → c ≡ b → b ≡ false → cond c (Some n) None ≡ None
none_if b c n is fails = ap (λ (x : Bool). cond x (Some n) None) (is ∙ fails)

pub between_some : (least most : ℕ) (v : ℤ) (b : Bool) → SFits w64 v → b ≡ is_between least most (to_z w64 (of_z w64 v)) → b ≡ true
    → Some (unsigned_abs (to_z w64 (of_z w64 v))) ≡ number_between least most v
between_some least most v b fits is holds =
    let w = to_z w64 (of_z w64 v) in
    sym (some_if b (is_between least most w) (unsigned_abs w) (sym is) holds) ∙ ap (number_between least most) (same v fits)

pub between_none : (least most : ℕ) (v : ℤ) (b : Bool) → SFits w64 v → b ≡ is_between least most (to_z w64 (of_z w64 v)) → b ≡ false
    → None ≡ number_between least most v
between_none least most v b fits is fails =
    let w = to_z w64 (of_z w64 v) in
    sym (none_if b (is_between least most w) (unsigned_abs w) (sym is) fails) ∙ ap (number_between least most) (same v fits)

pub between_least : (least most : ℕ) (w : ℤ) (b : Bool) → b ≡ is_between least most w → b ≡ true → least ≤ unsigned_abs w
between_least least most w b is holds = let h : is_between least most w ≡ true = sym is ∙ holds in grind (arith, ints)

pub between_most : (least most : ℕ) (w : ℤ) (b : Bool) → b ≡ is_between least most w → b ≡ true → unsigned_abs w ≤ most
between_most least most w b is holds = let h : is_between least most w ≡ true = sym is ∙ holds in grind (arith, ints)

-- a number of 32 bits is itself with a sign
whole : (n : ℕ) → Fits w32 n → to_z w64 n ≡ pos n
whole n fits = to_z_pos w64 n (let low : n < 4294967296 = fits.fits in omega arith)

is_below_by : (many : ℕ) (w : ℤ) (b c : Bool) → Fits w32 many → b ≡ is_below (to_z w64 many) w → b ≡ c → is_below (pos many) w ≡ c
is_below_by many w b c fits is e = ap (λ (m : ℤ). is_below m w) (sym (whole many fits)) ∙ (sym is ∙ e)

pub below_some : (many : ℕ) (v : ℤ) (b : Bool) → Fits w32 many → SFits w64 v → b ≡ is_below (to_z w64 many) (to_z w64 (of_z w64 v)) → b ≡ true
    → Some (unsigned_abs (to_z w64 (of_z w64 v))) ≡ number_below many v
below_some many v b small fits is holds =
    let w = to_z w64 (of_z w64 v) in
    sym (some_if (is_below (pos many) w) (is_below (pos many) w) (unsigned_abs w) refl (is_below_by many w b true small is holds))
    ∙ ap (number_below many) (same v fits)

pub below_none : (many : ℕ) (v : ℤ) (b : Bool) → Fits w32 many → SFits w64 v → b ≡ is_below (to_z w64 many) (to_z w64 (of_z w64 v)) → b ≡ false
    → None ≡ number_below many v
below_none many v b small fits is fails =
    let w = to_z w64 (of_z w64 v) in
    sym (none_if (is_below (pos many) w) (is_below (pos many) w) (unsigned_abs w) refl (is_below_by many w b false small is fails))
    ∙ ap (number_below many) (same v fits)

pub below_most : (many : ℕ) (v : ℤ) (b : Bool) → Fits w32 many → b ≡ is_below (to_z w64 many) (to_z w64 (of_z w64 v)) → b ≡ true
    → unsigned_abs (to_z w64 (of_z w64 v)) < many
below_most many v b small is holds =
    let w = to_z w64 (of_z w64 v) in
    let h : is_below (pos many) w ≡ true = is_below_by many w b true small is holds in grind (arith, ints)

-- what is at least 0 and at most a number of 32 bits is cast to 32 bits as it is
natural : (w : ℤ) (most : ℕ) → Fits w32 most → T (non_neg w) → unsigned_abs w ≤ most → T (non_neg w) × Fits w32 (unsigned_abs w)
natural w most small sign is = (sign, record { fits = let top : most < 4294967296 = small.fits in omega arith })

pub below_cast : (many : ℕ) (w : ℤ) (b : Bool) → Fits w32 many → b ≡ is_below (to_z w64 many) w → b ≡ true → T (non_neg w) × Fits w32 (unsigned_abs w)
below_cast many w b small is holds =
    let h : is_below (pos many) w ≡ true = is_below_by many w b true small is holds in
    natural w many small (yes_non_neg (grind (arith, ints))) (grind (arith, ints))

pub between_cast : (least most : ℕ) (w : ℤ) (b : Bool) → Fits w32 most → b ≡ is_between least most w → b ≡ true → T (non_neg w) × Fits w32 (unsigned_abs w)
between_cast least most w b small is holds =
    let h : is_between least most w ≡ true = sym is ∙ holds in
    natural w most small (yes_non_neg (grind (arith, ints))) (between_most least most w b is holds)

-- ---- the five of a wire

stops : {A B : Type 0} (o : Option A) (f : A → Option B) → o ≡ None → option_and_then f o ≡ None
stops o f e = ap (option_and_then f) e

goes : {A B : Type 0} (o : Option A) (x : A) (f : A → Option B) → o ≡ Some x → option_and_then f o ≡ f x
goes o x f e = ap (option_and_then f) e

pub no_senders : (s l a d t : ℤ) → number_between 1 most_senders s ≡ None → wire_with s l a d t ≡ None
no_senders s l a d t e = stops _ _ e

pub no_listen : (s l a d t : ℤ) (n : ℕ) → number_between 1 most_senders s ≡ Some n → number_below n l ≡ None → wire_with s l a d t ≡ None
no_listen s l a d t n e f = goes _ _ _ e ∙ stops _ _ f

pub no_age : (s l a d t : ℤ) (n m : ℕ) → number_between 1 most_senders s ≡ Some n → number_below n l ≡ Some m → number_below most_cycles a ≡ None
    → wire_with s l a d t ≡ None
no_age s l a d t n m e f g = goes _ _ _ e ∙ (goes _ _ _ f ∙ stops _ _ g)

pub no_seed : (s l a d t : ℤ) (n m i : ℕ) → number_between 1 most_senders s ≡ Some n → number_below n l ≡ Some m → number_below most_cycles a ≡ Some i
    → number_below seeds d ≡ None → wire_with s l a d t ≡ None
no_seed s l a d t n m i e f g h = goes _ _ _ e ∙ (goes _ _ _ f ∙ (goes _ _ _ g ∙ stops _ _ h))

pub no_step : (s l a d t : ℤ) (n m i j : ℕ) → number_between 1 most_senders s ≡ Some n → number_below n l ≡ Some m → number_below most_cycles a ≡ Some i
    → number_below seeds d ≡ Some j → number_between 1 most_step t ≡ None → wire_with s l a d t ≡ None
no_step s l a d t n m i j e f g h k = goes _ _ _ e ∙ (goes _ _ _ f ∙ (goes _ _ _ g ∙ (goes _ _ _ h ∙ ap (option_map _) k)))

pub all_five : (s l a d t : ℤ) (n m i j k : ℕ) → number_between 1 most_senders s ≡ Some n → number_below n l ≡ Some m → number_below most_cycles a ≡ Some i
    → number_below seeds d ≡ Some j → number_between 1 most_step t ≡ Some k
    → wire_with s l a d t ≡ Some (record { senders = n; listen = m; age = i; seed = j; step = k })
all_five s l a d t n m i j k e f g h o = goes _ _ _ e ∙ (goes _ _ _ f ∙ (goes _ _ _ g ∙ (goes _ _ _ h ∙ ap (option_map _) o)))
