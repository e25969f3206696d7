-- Turns: one piece after another, and one draw more.
use Rattle.std.proofs.Common.{◌≡◌, ℕ, suc, ◌+◌, ◌*◌, ◌%◌, List, [], ◌∷◌, ◌++◌, length, get_or, ◌<◌, take, take-suc, refl, sym, ap, subst, ◌∙◌, append_assoc, arith}
use Rattle.std.proofs.lemmas.List.{append-nil}
use Rattle.std.proofs.lemmas.Grind.{flat_map-append}
use Rattle.std.specs.List.{flat_map}
use Rattle.program_maker.specs.declared.writer.Writer.{Writer}
use Rattle.program_maker.specs.Draws.{states, state, next, chosen, draw}
use Rattle.program_maker.specs.Written.{Writes}
use Rattle.program_maker.specs.MadeSource.{variables, filled, form_line, statement, joined}

pub and_then : {a b c : Writer} {x y : List ℕ} → Writes a b x → Writes b c y → Writes a c (x ++ y)
and_then {a} {b} {c} {x} {y} first second = record {
  so_far = λ sound. first.so_far (second.so_far sound);
  adds = λ sound. second.adds sound ∙ ap (λ t. t ++ y) (first.adds (second.so_far sound)) ∙ append_assoc a.text.list.items x y;
}

pub nothing : {a : Writer} → Writes a a []
nothing {a} = record {
  so_far = λ sound. sound;
  adds = λ sound. sym (append-nil a.text.list.items);
}

-- no text
pub none : {a : Writer} (text : ℕ → List ℕ) → Writes a a (joined text 0)
unfolding joined
none text = nothing

-- one text more
pub one_more : {a b c : Writer} (text : ℕ → List ℕ) (k : ℕ) → Writes a b (joined text k) → Writes b c (text k) → Writes a c (joined text (k + 1))
unfolding joined
one_more {a} {b} {c} text k so_far one =
    let next : suc k ≡ k + 1 = omega arith in
    subst (λ n. Writes a c (joined text n)) next (and_then so_far one)

-- one byte of a line more
pub byte_more : {a b c : Writer} (text : ℕ → List ℕ) (line : List ℕ) (k : ℕ) → k < length line → Writes a b (flat_map text (take k line))
    → Writes b c (text (get_or line k 0)) → Writes a c (flat_map text (take (k + 1) line))
byte_more {a} {b} {c} text line k there so_far one =
    let next : suc k ≡ k + 1 = omega arith in
    subst (λ n. Writes a c (flat_map text (take n line))) next
    (subst (Writes a c)
    (ap (λ t. flat_map text (take k line) ++ t) (sym (append-nil (text (get_or line k 0)))) ∙ sym (flat_map-append text (take k line) (get_or line k 0 ∷ []))
    ∙ ap (flat_map text) (sym (take-suc line k 0 there)))
    (and_then so_far one))

-- one draw more
pub further : (number k m s : ℕ) → m ≡ suc k → s ≡ state number k → next s ≡ state number m
unfolding state
further number k m s e h = ap next h ∙ ap (state number) (sym e)

-- what a draw gives
pub drawn : (number k choices s r : ℕ) → s ≡ state number k → r ≡ chosen choices (next s) → r ≡ draw number k choices
drawn number k choices s r h d = d ∙ ap (chosen choices) (further number k (suc k) s refl h)

-- the statement of four draws
pub of_draws : (number i p q r form : ℕ) → p ≡ draw number (4 * i) variables → q ≡ draw number (4 * i + 1) variables → r ≡ draw number (4 * i + 2) variables
    → form ≡ draw number (4 * i + 3) 6 → filled p q r (form_line form) ≡ statement number i
of_draws number i p q r form e f g h =
    ap (λ x. filled x q r (form_line form)) e ∙ ap (λ x. filled (draw number (4 * i) variables) x r (form_line form)) f
    ∙ ap (λ x. filled (draw number (4 * i) variables) (draw number (4 * i + 1) variables) x (form_line form)) g
    ∙ ap (λ x. filled (draw number (4 * i) variables) (draw number (4 * i + 1) variables) (draw number (4 * i + 2) variables) (form_line x)) h

-- before the first draw
pub begun : (number s : ℕ) → s ≡ number % states → s ≡ state number 0
unfolding state
begun number s h = h
