-- Firsts: the first line of a text, and the first word of a line.
use Rattle.std.proofs.Common.{◌≡◌, ℕ, zero, suc, ◌+◌, ◌-◌, ◌==◌, ◌<◌, Bool, true, false, not, cond, List, [], ◌∷◌, length, take, drop, Option, Some, None}
use Rattle.std.proofs.Common.{get_or, unwrap_or, refl, sym, subst, ap, ◌∙◌, arith, slice_index, inl, inr}
use Rattle.std.specs.List.{filter, slice_split, position_or_len, before_first, after_first, prefix_len}
use Rattle.std.specs.Str.Lines.{lines, lines_of_parts, strip_carriage_return}
use Rattle.std.proofs.lemmas.Bool.{false≢true, cases_lt}
use Rattle.std.proofs.lemmas.Bool.Decides.{nat_tests}
use Rattle.std.proofs.lemmas.List.{drop_all, drop_more, length-drop, take_all}
use Rattle.std.proofs.lemmas.List.Folds.{length-prefix_len}
use Rattle.std.proofs.lemmas.List.Sums.{position_or_len_is, fails_before_first, passes_at_first, prefix_len-le-length}
use Rattle.std.proofs.lemmas.List.Splits.{slice_split-cons_yes, slice_split_none, slice_split_first, length-slice_split}
use Rattle.memchr.specs.Find.{IsFirstByte}
use Rattle.vcp_base.specs.Blanks.{is_blank, unindented}
use Rattle.vcp_base.specs.Words.{is_word, words, is_end}

not_true : (b : Bool) → (b ≡ true → ⊥) → b ≡ false
not_true true h = absurd (h refl)
not_true false h = refl

-- the place that a search gives, or the length
pub first_place : (test : ℕ → Bool) (text : List ℕ) (r : Option ℕ) → IsFirstByte test text r → unwrap_or r (length text) ≡ position_or_len test text
first_place test text None h =
    sym (position_or_len_is test text (length text) 0 (omega arith) (λ k below. not_true (test (slice_index text k)) (h k (omega arith) below))
    (λ l. absurd (omega arith)))
first_place test text (Some i) h =
    sym (position_or_len_is test text i 0 (omega (arith, h.0.high)) (λ k below. not_true (test (slice_index text k)) (h.0.before k (omega arith) below))
    (λ l. h.1))

-- where no element passes, the list is the one part
one_part : (p : ℕ → Bool) (text : List ℕ) → position_or_len p text ≡ length text → slice_split p text ≡ text ∷ []
one_part p text e = slice_split_none p text (λ k d below. fails_before_first p text k d (omega (arith, e)))

-- the part of a text from a place to its end
pub part_to_end : (text : List ℕ) (n : ℕ) → take (length text - n) (drop n text) ≡ drop n text
part_to_end text n = take_all (length text - n) (drop n text) (omega (arith, length-drop n text))

-- ---- lines

abbrev is_feed : ℕ → Bool
is_feed b = b == 10

nonzero : (n : ℕ) → 0 < n → (n == 0) ≡ false
nonzero n some = grind (arith, nat_tests)

one_line : (line : List ℕ) → 0 < length line → lines_of_parts (line ∷ []) ≡ line ∷ []
one_line line some = ap (λ (b : Bool). cond b [] (line ∷ [])) (nonzero (length line) some)

-- the last line has no LF
pub last_line : (text : List ℕ) (end : ℕ) → 0 < length text → end ≡ position_or_len is_feed text → end ≡ length text → lines text ≡ text ∷ lines (drop end text)
last_line text end some is all =
    let rest : lines (drop end text) ≡ [] = ap lines (drop_all end text (omega (arith, all))) in
    ap lines_of_parts (one_part is_feed text (sym is ∙ all)) ∙ (one_line text some ∙ ap (λ (ls : List (List ℕ)). text ∷ ls) (sym rest))

before_parts : (line : List ℕ) (parts : List (List ℕ)) → 0 < length parts → lines_of_parts (line ∷ parts) ≡ strip_carriage_return line ∷ lines_of_parts parts
before_parts line [] some = absurd (omega arith)
before_parts line (part ∷ parts) some = refl

-- the first line, where it has its LF
pub ended_line : (text : List ℕ) (end : ℕ) → end ≡ position_or_len is_feed text → end < length text
    → lines text ≡ strip_carriage_return (take end text) ∷ lines (drop (end + 1) text)
ended_line text end is within =
    let inside : position_or_len is_feed text < length text = omega (arith, is, within) in
    let behind = after_first is_feed text in
    let some : 0 < length (slice_split is_feed behind) = omega (arith, length-slice_split is_feed behind) in
    rw (is) (ap lines_of_parts (slice_split_first is_feed text 0 inside) ∙ before_parts (before_first is_feed text) (slice_split is_feed behind) some)

-- ---- words

blank_before : (c : ℕ) (text : List ℕ) → is_blank c ≡ true → words (c ∷ text) ≡ words text
blank_before c text e = ap (filter is_word) (slice_split-cons_yes is_blank c text e)

-- blanks at the start don't count
unindent : (c : ℕ) (text : List ℕ) (b : Bool) → is_blank c ≡ b → words text ≡ words (unindented text)
    → words (c ∷ text) ≡ words (cond b (unindented text) (c ∷ text))
unindent c text true is more = blank_before c text is ∙ more
unindent c text false is more = refl

words_unindented : (text : List ℕ) → words text ≡ words (unindented text)
words_unindented [] = refl
words_unindented (c ∷ text) = unindent c text (is_blank c) refl (words_unindented text)

is_word_some : (w : List ℕ) → 0 < length w → is_word w ≡ true
is_word_some [] some = absurd (omega arith)
is_word_some (c ∷ w) some = refl

word_before : (w : List ℕ) (parts : List (List ℕ)) → is_word w ≡ true → filter is_word (w ∷ parts) ≡ w ∷ filter is_word parts
word_before w parts is = ap (λ (b : Bool). cond b (w ∷ filter is_word parts) (filter is_word parts)) is

-- the first word of a text, where it stands at the front
front_at : (text : List ℕ) → 0 < position_or_len is_blank text → words text ≡ before_first is_blank text ∷ words (drop (position_or_len is_blank text) text)
front_at text some = elim (cases_lt (position_or_len is_blank text) (length text)) [
  | inl within ↦
      let word : is_word (before_first is_blank text) ≡ true =
      is_word_some (before_first is_blank text) (omega (arith, some, length-prefix_len (λ x. not (is_blank x)) text)) in
      let behind : words (drop (position_or_len is_blank text) text) ≡ words (after_first is_blank text) =
      ap words (drop_more text (position_or_len is_blank text) 0 within)
      ∙ blank_before (get_or text (position_or_len is_blank text) 0) (after_first is_blank text) (passes_at_first is_blank text 0 within) in
      ap (filter is_word) (slice_split_first is_blank text 0 within)
      ∙ (word_before (before_first is_blank text) (slice_split is_blank (after_first is_blank text)) word
      ∙ ap (λ (ws : List (List ℕ)). before_first is_blank text ∷ ws) (sym behind))
  | inr past ↦
      let all : position_or_len is_blank text ≡ length text = omega (arith, past, prefix_len-le-length (λ x. not (is_blank x)) text) in
      let rest : words (drop (position_or_len is_blank text) text) ≡ [] = ap words (drop_all (position_or_len is_blank text) text past) in
      let whole : before_first is_blank text ≡ text = take_all (position_or_len is_blank text) text past in
      let word : is_word text ≡ true = is_word_some text (omega (arith, some, all)) in
      ap (filter is_word) (one_part is_blank text all)
      ∙ (word_before text [] word
      ∙ (ap (λ (w : List ℕ). w ∷ []) (sym whole) ∙ ap (λ (ws : List (List ℕ)). before_first is_blank text ∷ ws) (sym rest)))
]

front_word : (text : List ℕ) (end : ℕ) → end ≡ position_or_len is_blank text → 0 < end → words text ≡ take end text ∷ words (drop end text)
front_word text end is some =
    subst (λ (n : ℕ). words text ≡ take n text ∷ words (drop n text)) (sym is) (front_at text (omega (arith, is, some)))

-- a text without blanks at its start begins with a word, unless it is empty
word_starts : (text : List ℕ) (b : Bool) → b ≡ false → cond (not b) (1 + prefix_len (λ x. not (is_blank x)) text) 0 ≡ 0 → ⊥
word_starts text true is e = false≢true (sym is)
word_starts text false is e = omega (arith, e)

end_step : (c : ℕ) (text : List ℕ) (b : Bool) → is_blank c ≡ b → (position_or_len is_blank (unindented text) ≡ 0 → unindented text ≡ []) →
    position_or_len is_blank (cond b (unindented text) (c ∷ text)) ≡ 0 → cond b (unindented text) (c ∷ text) ≡ []
end_step c text true is more e = more e
end_step c text false is more e = absurd (word_starts text (is_blank c) is e)

unindented_end : (text : List ℕ) → position_or_len is_blank (unindented text) ≡ 0 → unindented text ≡ []
unindented_end [] e = refl
unindented_end (c ∷ text) e = end_step c text (is_blank c) refl (unindented_end text) e

-- the word at the front, and those behind it
pub word_next : (text : List ℕ) (end : ℕ) → end ≡ position_or_len is_blank (unindented text) → (end ≡ 0 → ⊥)
    → words text ≡ take end (unindented text) ∷ words (drop end (unindented text))
word_next text end is some = words_unindented text ∙ front_word (unindented text) end is (omega (arith, some))

pub no_word : (text : List ℕ) (end : ℕ) → end ≡ position_or_len is_blank (unindented text) → end ≡ 0
    → (words text ≡ []) × (words (drop end (unindented text)) ≡ [])
no_word text end is none =
    let empty : unindented text ≡ [] = unindented_end text (sym is ∙ none) in
    (words_unindented text ∙ ap words empty, rw (none, empty) refl)

-- no word is left exactly where only blanks are
end_of : (front : List ℕ) (end : ℕ) → end ≡ position_or_len is_blank front → (position_or_len is_blank front ≡ 0 → front ≡ [])
    → (length front == 0) ≡ is_end (words front)
end_of [] end is none = refl
end_of (c ∷ front) zero is none = let lengths : suc (length front) ≡ 0 = ap length (none (sym is)) in absurd (omega (arith, lengths))
end_of (c ∷ front) (suc n) is none = nonzero (length (c ∷ front)) (omega arith) ∙ sym (ap is_end (front_word (c ∷ front) (suc n) is (omega arith)))

pub is_end_is : (text : List ℕ) → (length (unindented text) == 0) ≡ is_end (words text)
is_end_is text =
    end_of (unindented text) (position_or_len is_blank (unindented text)) refl (unindented_end text) ∙ sym (ap is_end (words_unindented text))
