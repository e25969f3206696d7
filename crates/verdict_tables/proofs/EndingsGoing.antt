-- Going: the answers of a cycle, one after another.
use Rattle.std.proofs.Common.{◌≡◌, ℕ, ◌+◌, ◌≤◌, ◌&&◌, Bool, true, false, List, [], ◌∷◌, ◌++◌, length, drop, slice_get, Option, Some, ℤ, refl, ap, sym, ◌∙◌}
use Rattle.std.proofs.lemmas.List.{append_assoc, append-nil}
use Rattle.coded_unit.specs.declared.call.Answer.{Answer}
use Rattle.op_graph.specs.declared.op.Op.{Op}
use Rattle.op_graph.specs.Lists.{Lists}
use Rattle.signature_table.specs.Signatures.{Numbers}
use Rattle.coded_machine.specs.Calls.{Setting, is_word}
use Rattle.coded_machine.specs.Runs.{setting_at}
use Rattle.fault_script.specs.declared.act.Act.{Act}
use Rattle.fault_injector.specs.RunLaw.{Words}
use Rattle.verdict_tables.specs.AnswersOver.{all_words, answer_then, answers_from, answers_in, on_word, next_answer}
use Rattle.verdict_tables.proofs.Lists.{drop_there, drop_behind}

-- behind these answers, where operation k answers `a`
next_there : (s : Setting) (acts : ℕ → Option Act) (past : Words) (own : List Answer) (ops : List Op) (k : ℕ) (op : Op) (a : Answer) (b : Bool) →
    slice_get ops k ≡ Some op → a ≡ next_answer s acts past own op → is_word a ≡ b →
    answers_from s acts past own (drop k ops) ≡ a ∷ on_word b (own ++ a ∷ []) (λ own. answers_from s acts past own (drop (k + 1) ops))
next_there s acts past own ops k op a b there is word =
    let next : List Answer → List Answer = λ own. answers_from s acts past own (drop (k + 1) ops) in
    ap (λ (xs : List Op). answers_from s acts past own xs) (drop_there ops k op there)
    ∙ (ap (answer_then own next) (sym is) ∙ ap (λ (b : Bool). a ∷ on_word b (own ++ a ∷ []) next) word)

-- a word is answered
pub goes_further : (s : Setting) (acts : ℕ → Option Act) (past : Words) (own : List Answer) (ops : List Op) (k : ℕ) (op : Op) (a : Answer) →
    slice_get ops k ≡ Some op → a ≡ next_answer s acts past own op → is_word a ≡ true →
    own ++ answers_from s acts past own (drop k ops) ≡ (own ++ a ∷ []) ++ answers_from s acts past (own ++ a ∷ []) (drop (k + 1) ops)
goes_further s acts past own ops k op a there is word =
    ap (λ (xs : List Answer). own ++ xs) (next_there s acts past own ops k op a true there is word)
    ∙ sym (append_assoc own (a ∷ []) (answers_from s acts past (own ++ a ∷ []) (drop (k + 1) ops)))

-- no word is answered
pub goes_no_further : (s : Setting) (acts : ℕ → Option Act) (past : Words) (own : List Answer) (ops : List Op) (k : ℕ) (op : Op) (a : Answer) →
    slice_get ops k ≡ Some op → a ≡ next_answer s acts past own op → is_word a ≡ false →
    own ++ answers_from s acts past own (drop k ops) ≡ own ++ a ∷ []
goes_no_further s acts past own ops k op a there is word =
    ap (λ (xs : List Answer). own ++ xs) (next_there s acts past own ops k op a false there is word)

-- all operations are answered
pub is_over : (s : Setting) (acts : ℕ → Option Act) (past : Words) (own : List Answer) (ops : List Op) (k : ℕ) → length ops ≤ k →
    own ++ answers_from s acts past own (drop k ops) ≡ own
is_over s acts past own ops k all =
    ap (λ (xs : List Op). own ++ answers_from s acts past own xs) (drop_behind ops k all) ∙ append-nil own

with_true : (b : Bool) → (b && true) ≡ b
with_true true = refl
with_true false = refl

all_later : (x y z b : Bool) → (x && y) ≡ true → (y ≡ true → z ≡ b) → (x && z) ≡ b
all_later true y z b all later = later all
all_later false y z b all later = absurd cc

pub words_and : (own : List Answer) (a : Answer) (b : Bool) → is_word a ≡ b → all_words own ≡ true → all_words (own ++ a ∷ []) ≡ b
words_and [] a b is all = ap (λ (x : Bool). x && true) is ∙ with_true b
words_and (o ∷ own) a b is all = all_later (is_word o) (all_words own) (all_words (own ++ a ∷ [])) b all (words_and own a b is)

-- ---- what a cycle begins with

pub same_begun : (g : Lists) (t : Numbers) (n : ℕ) (row : List ℤ) (acts : ℕ → Option Act) (h i p q : List ℤ) (a b : List Answer) →
    h ≡ i → p ≡ q → a ≡ b →
    answers_in (setting_at g t n h row) acts (record { held = p; answers = a }) ≡ answers_in (setting_at g t n i row) acts (record { held = q; answers = b })
same_begun g t n row acts h i p q a b held past_held past =
    ap (λ (x : List ℤ). answers_in (setting_at g t n x row) acts (record { held = p; answers = a })) held
    ∙ (ap (λ (x : List ℤ). answers_in (setting_at g t n i row) acts (record { held = x; answers = a })) past_held
    ∙ ap (λ (x : List Answer). answers_in (setting_at g t n i row) acts (record { held = q; answers = x })) past)

abbrev same : List ℤ → List Answer → Words
same h a = record { held = h; answers = a }

pub same_words : (h i : List ℤ) (a b : List Answer) → h ≡ i → a ≡ b → same h a ≡ same i b
same_words h i a b held past = ap (λ (x : List ℤ). same x a) held ∙ ap (same i) past
