-- What words say is sound: its numbers are in their ranges.
use Rattle.std.proofs.Common.{◌≡◌, ◌<◌, ◌≤◌, ◌-◌, ℕ, Bool, true, false, ◌&&◌, cond, nat_le, List, [], ◌∷◌, Option, Some, None, IfSome, codes, bytes_eq, refl, sym, subst, arith}
use Rattle.std.specs.Option.{option_and_then, option_map, option_or}
use Rattle.std.proofs.lemmas.Bool.Decides.{nat_tests}
use Rattle.vcp_base.specs.Limits.{most_cycles, most_horizon, seeds, most_step}
use Rattle.vcp_base.specs.Numerals.{numeral_of}
use Rattle.vcp_inputs.specs.Forms.{Rows, Code, Form, file, cycles, within, number_within, name_and_rest, cycles_and_rest, rows_and_rest, number_and_rest}
use Rattle.vcp_inputs.specs.Forms.{code_with, code_of, seed_of, step_of, default_seed, default_step, followed, name_then, rows_then, number_then, code_then, is_file_name, end_then}
use Rattle.vcp_inputs.specs.Forms.{image_form, form_of, most_made, AreFew, IsCode, IsSound}
use Rattle.vcp_inputs.specs.Forms.{check, format, plain, run, il, compile, list, exec, trace, widen, audit, inject, pair, pairs, wire, demo}

-- any form that may be given is sound
abbrev Sound : Option Form → Type 0
Sound o = IfSome o IsSound

-- the first of two choices, or the second
either : {X : Type 0} (P : X → Type 0) (b : Bool) (x y : Option X) → IfSome x P → IfSome y P → IfSome (cond b x y) P
either P true x y h k = h
either P false x y h k = k

-- ---- numbers

abbrev Between : ℕ → ℕ → ℕ → Type 0
Between least most n = (least ≤ n) × (n ≤ most)

chosen : (least most n : ℕ) (a b : Bool) → nat_le least n ≡ a → nat_le n most ≡ b → IfSome (cond (a && b) (Some n) None) (Between least most)
chosen least most n true true p q = (grind (arith, nat_tests), grind (arith, nat_tests))
chosen least most n true false p q = tt
chosen least most n false b p q = tt

between : (least most : ℕ) (o : Option ℕ) → IfSome (option_and_then (within least most) o) (Between least most)
between least most None = tt
between least most (Some n) = chosen least most n (nat_le least n) (nat_le n most) refl refl

-- ---- what words at the front give, and more words

said : {X : Type 0} (P : X → Type 0) (o : Option (X × List (List ℕ))) (more : X → List (List ℕ) → Option Form) → IfSome o (λ front. P front.0)
    → ((x : X) (words : List (List ℕ)) → P x → Sound (more x words)) → Sound (followed o more)
said P None more h k = tt
said P (Some front) more h k = k front.0 front.1 h

named : (more : List ℕ → List (List ℕ) → Option Form) (words : List (List ℕ)) → ((p : List ℕ) (rest : List (List ℕ)) → Sound (more p rest))
    → Sound (name_then more words)
named more words k = go (name_and_rest words)
  where
    go : (o : Option (List ℕ × List (List ℕ))) → Sound (followed o more)
    go None = tt
    go (Some front) = k front.0 front.1

number_front : (least most : ℕ) (o : Option ℕ) (rest : List (List ℕ)) → IfSome o (Between least most)
    → IfSome {T = ℕ × List (List ℕ)} (option_map (λ n. (n, rest)) o) (λ front. front.0 ≤ most)
number_front least most None rest h = tt
number_front least most (Some n) rest h = h.1

numbers : (least most : ℕ) (words : List (List ℕ)) → IfSome (number_and_rest least most words) (λ front. front.0 ≤ most)
numbers least most [] = tt
numbers least most (w ∷ rest) = number_front least most (number_within least most w) rest (between least most (numeral_of w))

numbered : (least most : ℕ) (more : ℕ → List (List ℕ) → Option Form) (words : List (List ℕ))
    → ((n : ℕ) (rest : List (List ℕ)) → n ≤ most → Sound (more n rest)) → Sound (number_then least most more words)
numbered least most more words k = said (λ n. n ≤ most) (number_and_rest least most words) more (numbers least most words) k

cycle_front : (o : Option ℕ) (rest : List (List ℕ)) → IfSome o (Between 0 most_cycles) → IfSome {T = Rows × List (List ℕ)} (option_map (λ n. (cycles n, rest)) o) (λ front. AreFew front.0)
cycle_front None rest h = tt
cycle_front (Some n) rest h = h.1

few_cycles : (words : List (List ℕ)) → IfSome (cycles_and_rest words) (λ front. AreFew front.0)
few_cycles [] = tt
few_cycles (w ∷ rest) = cycle_front (number_within 0 most_cycles w) rest (between 0 most_cycles (numeral_of w))

few : (words : List (List ℕ)) → IfSome (rows_and_rest words) (λ front. AreFew front.0)
few [] = tt
few (w ∷ rest) =
    either (λ front. AreFew front.0) (bytes_eq w (codes "--cycles")) (cycles_and_rest rest) _ (few_cycles rest)
    (either (λ front. AreFew front.0) (is_file_name w) (Some (file w, rest)) None tt tt)

timed : (more : Rows → List (List ℕ) → Option Form) (words : List (List ℕ)) → ((rows : Rows) (rest : List (List ℕ)) → AreFew rows → Sound (more rows rest))
    → Sound (rows_then more words)
timed more words k = said AreFew (rows_and_rest words) more (few words) k

-- ---- CODE

abbrev Seed : ℕ → Type 0
Seed s = s < seeds

abbrev Step : ℕ → Type 0
Step t = (1 ≤ t) × (t ≤ most_step)

with_both : (s t : Option ℕ) → IfSome s Seed → IfSome t Step → IfSome (code_with s t) IsCode
with_both None None h k = tt
with_both None (Some t) h k = tt
with_both (Some s) None h k = tt
with_both (Some s) (Some t) h k = record { seed = h; step_from = k.0; step_to = k.1 }

either_or : {X : Type 0} (P : X → Type 0) (x y : Option X) → IfSome x P → IfSome y P → IfSome (option_or x y) P
either_or P None y h k = k
either_or P (Some x) y h k = h

below_seeds : (o : Option ℕ) → IfSome o (Between 0 (seeds - 1)) → IfSome o Seed
below_seeds None h = tt
below_seeds (Some s) h = grind (arith, h.1)

seed_there : (w n : List ℕ) → IfSome (seed_of w n) Seed
seed_there w n =
    either Seed (bytes_eq w (codes "--seed")) (number_within 0 (seeds - 1) n) None
    (below_seeds (number_within 0 (seeds - 1) n) (between 0 (seeds - 1) (numeral_of n))) tt

step_there : (w n : List ℕ) → IfSome (step_of w n) Step
step_there w n = either Step (bytes_eq w (codes "--step")) (number_within 1 most_step n) None (between 1 most_step (numeral_of n)) tt

default : IfSome (Some default_seed) Seed × IfSome (Some default_step) Step
default = (grind arith, (grind arith, grind arith))

of_code : (words : List (List ℕ)) → IfSome (code_of words) IsCode
of_code [] = record { seed = default.0; step_from = default.1.0; step_to = default.1.1 }
of_code (w ∷ []) = tt
of_code (w ∷ n ∷ []) =
    either_or IsCode (code_with (seed_of w n) (Some default_step)) (code_with (Some default_seed) (step_of w n))
    (with_both (seed_of w n) (Some default_step) (seed_there w n) default.1) (with_both (Some default_seed) (step_of w n) default.0 (step_there w n))
of_code (w ∷ n ∷ v ∷ []) = tt
of_code (w ∷ n ∷ v ∷ m ∷ []) =
    either_or IsCode (code_with (seed_of w n) (step_of v m)) (code_with (seed_of v m) (step_of w n))
    (with_both (seed_of w n) (step_of v m) (seed_there w n) (step_there v m)) (with_both (seed_of v m) (step_of w n) (seed_there v m) (step_there w n))
of_code (w ∷ n ∷ v ∷ m ∷ u ∷ rest) = tt

coded : (f : Code → Form) (words : List (List ℕ)) → ((code : Code) → IsCode code → IsSound (f code)) → Sound (code_then f words)
coded f words k = go (code_of words) (of_code words)
  where
    go : (o : Option Code) → IfSome o IsCode → Sound (option_map f o)
    go None h = tt
    go (Some code) h = k code h

ended : (f : Form) (words : List (List ℕ)) → IsSound f → Sound (end_then f words)
ended f [] h = h
ended f (w ∷ rest) h = tt

-- ---- forms

of_image : (w : List ℕ) (words : List (List ℕ)) → Sound (image_form w words)
of_image w words =
    either IsSound (bytes_eq w (codes "list")) _ _ (named _ words (λ m r. ended (list m) r tt))
    (either IsSound (bytes_eq w (codes "exec")) _ _ (named _ words (λ m r. timed _ r (λ rows u few. ended (exec m rows) u few)))
    (either IsSound (bytes_eq w (codes "trace")) _ _
    (named _ words (λ m r. timed _ r (λ rows u few. numbered 0 (most_cycles - 1) _ u (λ n v h. ended (trace m rows n) v (few, grind (arith, h))))))
    (either IsSound (bytes_eq w (codes "widen")) _ _ (named _ words (λ m r. ended (widen m) r tt))
    (either IsSound (bytes_eq w (codes "audit")) _ _ (named _ words (λ m r. numbered 0 most_horizon _ r (λ n u h. ended (audit m n) u h)))
    (either IsSound (bytes_eq w (codes "inject")) _ _
    (named _ words (λ m r. timed _ r (λ rows u few. named _ u (λ f v. ended (inject m rows f) v few))))
    (either IsSound (bytes_eq w (codes "pair")) _ _
    (named _ words (λ m r. timed _ r (λ rows u few. numbered 0 (seeds - 1) _ u (λ n v h. ended (pair m rows n) v (few, grind (arith, h))))))
    (either IsSound (bytes_eq w (codes "pairs")) _ None
    (named _ words (λ m r. timed _ r (λ rows u few. numbered 0 (seeds - 1) _ u (λ n v h. named _ v (λ f x. ended (pairs m rows n f) x (few, grind (arith, h)))))))
    tt)))))))

pub sound : (words : List (List ℕ)) → IfSome (form_of words) IsSound
sound [] = tt
sound (w ∷ words) =
    either IsSound (bytes_eq w (codes "check")) _ _ (named _ words (λ p r. ended (check p) r tt))
    (either IsSound (bytes_eq w (codes "format")) _ _ (named _ words (λ p r. ended (format p) r tt))
    (either IsSound (bytes_eq w (codes "plain")) _ _ (named _ words (λ p r. timed _ r (λ rows u few. ended (plain p rows) u few)))
    (either IsSound (bytes_eq w (codes "run")) _ _ (named _ words (λ p r. timed _ r (λ rows u few. coded (run p rows) u (λ code h. (few, h)))))
    (either IsSound (bytes_eq w (codes "il")) _ _ (named _ words (λ p r. timed _ r (λ rows u few. coded (il p rows) u (λ code h. (few, h)))))
    (either IsSound (bytes_eq w (codes "compile")) _ _ (named _ words (λ p r. coded (compile p) r (λ code h. h)))
    (either IsSound (bytes_eq w (codes "wire")) _ _ (named _ words (λ f r. ended (wire f) r tt))
    (either IsSound (bytes_eq w (codes "demo")) _ (image_form w words) (numbered 0 most_made _ words (λ n r h. ended (demo n) r tt))
    (of_image w words))))))))

-- a command with a form that words say is sound
pub of_form : {X : Type 0} (form : X → Form) (o : Option X) (words : List (List ℕ)) → option_map form o ≡ form_of words
    → IfSome o (λ x. IsSound (form x))
of_form form None words is = tt
of_form form (Some x) words is = subst Sound (sym is) (sound words)
