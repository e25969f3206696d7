-- WordsPrinted: the lines of the words that a whole cycle answered, one after another.
use Rattle.std.proofs.Common.{ℕ, zero, suc, ◌+◌, ◌⊎◌, inl, inr, ◌≡◌, ◌<◌, ◌≤◌, Bool, true, cond, nat_le, subst, refl, ap, sym, ◌∙◌, List, [], ◌∷◌, ◌++◌, length, take, append_assoc, append-nil, slice_get, Option, Some, None, IfSome, Ok, Err, arith, ℤ}
use Rattle.coded_unit.specs.declared.call.Answer.{Answer}
use Rattle.coded_unit.specs.declared.call.Answer.TheVariants as answer
use Rattle.coded_machine.specs.Calls.{Whole}
use Rattle.std.proofs.lemmas.Bool.Decides.{nat_tests}
use Rattle.coded_machine.specs.State.{State, word_in}
use Rattle.op_graph.specs.declared.op.Op.{Op}
use Rattle.op_graph.specs.Lists.{Lists}
use Rattle.signature_table.specs.Signatures.{Numbers}
use Rattle.run_report.specs.OperationLines.{trace_text}
use Rattle.vcp_outside.specs.Written.{Writes}
use Rattle.vcp_outside.specs.declared.failed.Failed.{Failed}
use Rattle.vcp_core.proofs.JobRun.{not-there}
use Rattle.vcp_core.proofs.Written.{writes-on, writes-fail}
use Rattle.vcp_inputs.specs.CycleWords.{words_among, word_lines}
use Rattle.vcp_core.specs.TraceRun.{answered_words}

-- no answer is behind a stop
none-there : (answers : List Answer) (i : ℕ) (w : ℤ) → answers ≡ [] → word_in (slice_get answers i) ≡ Some w → ⊥
none-there [] i w none is = cc
none-there (a ∷ answers) i w none is = cc

take-none : (i : ℕ) (answers : List Answer) → answers ≡ [] → take i answers ≡ answers
take-none zero [] none = refl
take-none (suc i) [] none = refl
take-none i (a ∷ answers) none = absurd cc

both-none : (i : ℕ) (answers : List Answer) → answers ≡ [] → words_among answers ≡ words_among (take i answers)
both-none i answers none = ap words_among (sym (take-none i answers none))

module _ (g : Lists) (t : Numbers) (n : ℕ) where
  -- the line of an operation, and then of the later ones
  then-lines : (k i : ℕ) (op x : Op) (ops : List Op) (w v : ℤ) (more words : List ℤ)
      → word_lines g t n (suc k) ops more ≡ word_lines g t n (suc k) ops words ++ trace_text g.profile t (suc k + i) n op.kind w →
      word_lines g t n k (x ∷ ops) (v ∷ more) ≡ word_lines g t n k (x ∷ ops) (v ∷ words) ++ trace_text g.profile t (k + suc i) n op.kind w
  then-lines k i op x ops w v more words is =
      let shift : suc k + i ≡ k + suc i = omega arith in
      ap (λ l. trace_text g.profile t k n x.kind v ++ l) (is ∙ ap (λ j. word_lines g t n (suc k) ops words ++ trace_text g.profile t j n op.kind w) shift)
      ∙ sym (append_assoc (trace_text g.profile t k n x.kind v) (word_lines g t n (suc k) ops words) _)

  -- the first line
  first-line : (k : ℕ) (op x : Op) (ops : List Op) (w v : ℤ) → x ≡ op → v ≡ w
      → word_lines g t n k (x ∷ ops) (v ∷ []) ≡ [] ++ trace_text g.profile t (k + zero) n op.kind w
  first-line k op x ops w v same is =
      let here : k ≡ k + zero = omega arith in
      append-nil (trace_text g.profile t k n x.kind v) ∙ ap (λ (y : Op). trace_text g.profile t k n y.kind v) same
      ∙ ap (λ u. trace_text g.profile t k n op.kind u) is ∙ ap (λ j. trace_text g.profile t j n op.kind w) here

  -- the lines of the first words, and then of the next one
  pub one-more : (k i : ℕ) (ops : List Op) (answers : List Answer) (op : Op) (w : ℤ) → Whole ops answers → slice_get ops i ≡ Some op
      → word_in (slice_get answers i) ≡ Some w →
      word_lines g t n k ops (words_among (take (suc i) answers)) ≡ word_lines g t n k ops (words_among (take i answers)) ++ trace_text g.profile t
      (k + i) n op.kind w
  one-more k i [] answers op w whole there is = absurd cc
  one-more k i (x ∷ ops) [] op w whole there is = absurd cc
  one-more k zero (x ∷ ops) (answer.Word v ∷ answers) op w whole there is =
      let same : x ≡ op = cc in
      let word : v ≡ w = cc in
      first-line k op x ops w v same word
  one-more k zero (x ∷ ops) (answer.Range ∷ answers) op w whole there is = absurd cc
  one-more k zero (x ∷ ops) (answer.DivZero ∷ answers) op w whole there is = absurd cc
  one-more k zero (x ∷ ops) (answer.Operand ∷ answers) op w whole there is = absurd cc
  one-more k (suc i) (x ∷ ops) (answer.Word v ∷ answers) op w whole there is =
      then-lines k i op x ops w v _ _ (one-more (suc k) i ops answers op w whole there is)
  one-more k (suc i) (x ∷ ops) (answer.Range ∷ answers) op w whole there is = absurd (none-there answers i w whole is)
  one-more k (suc i) (x ∷ ops) (answer.DivZero ∷ answers) op w whole there is = absurd (none-there answers i w whole is)
  one-more k (suc i) (x ∷ ops) (answer.Operand ∷ answers) op w whole there is = absurd (none-there answers i w whole is)

  -- the lines of all words begin with those
  pub rest-behind : (k i : ℕ) (ops : List Op) (answers : List Answer) (op : Op) (w : ℤ) → Whole ops answers → slice_get ops i ≡ Some op
      → word_in (slice_get answers i) ≡ Some w →
      (more : List ℕ)
      × (word_lines g t n k ops (words_among answers) ≡ word_lines g t n k ops (words_among (take i answers)) ++ trace_text g.profile t
      (k + i) n op.kind w ++ more)
  rest-behind k i [] answers op w whole there is = absurd cc
  rest-behind k i (x ∷ ops) [] op w whole there is = absurd cc
  rest-behind k zero (x ∷ ops) (answer.Word v ∷ answers) op w whole there is =
      let same : x ≡ op = cc in
      let word : v ≡ w = cc in
      let here : k ≡ k + zero = omega arith in (
        word_lines g t n (suc k) ops (words_among answers),
        ap (λ l. l ++ word_lines g t n (suc k) ops (words_among answers))
            (ap (λ (y : Op). trace_text g.profile t k n y.kind v) same ∙ ap (λ u. trace_text g.profile t k n op.kind u) word
            ∙ ap (λ j. trace_text g.profile t j n op.kind w) here),
      )
  rest-behind k zero (x ∷ ops) (answer.Range ∷ answers) op w whole there is = absurd cc
  rest-behind k zero (x ∷ ops) (answer.DivZero ∷ answers) op w whole there is = absurd cc
  rest-behind k zero (x ∷ ops) (answer.Operand ∷ answers) op w whole there is = absurd cc
  rest-behind k (suc i) (x ∷ ops) (answer.Word v ∷ answers) op w whole there is =
      let (more, e) = rest-behind (suc k) i ops answers op w whole there is in
      let shift : suc k + i ≡ k + suc i = omega arith in
      let front : List ℕ = word_lines g t n (suc k) ops (words_among (take i answers)) in
      let here : List ℕ = trace_text g.profile t k n x.kind v in
      let next : List ℕ = trace_text g.profile t (k + suc i) n op.kind w in (
        more,
        ap (λ l. here ++ l) (e ∙ ap (λ j. front ++ trace_text g.profile t j n op.kind w ++ more) shift) ∙ sym (append_assoc here (front ++ next) more)
            ∙ ap (λ l. l ++ more) (sym (append_assoc here front next)),
      )
  rest-behind k (suc i) (x ∷ ops) (answer.Range ∷ answers) op w whole there is = absurd (none-there answers i w whole is)
  rest-behind k (suc i) (x ∷ ops) (answer.DivZero ∷ answers) op w whole there is = absurd (none-there answers i w whole is)
  rest-behind k (suc i) (x ∷ ops) (answer.Operand ∷ answers) op w whole there is = absurd (none-there answers i w whole is)

-- where an answer is no word, the words are those before it
no-more-words : (i : ℕ) (ops : List Op) (answers : List Answer) → Whole ops answers → word_in (slice_get answers i) ≡ None
    → words_among answers ≡ words_among (take i answers)
no-more-words i [] [] whole is = both-none i [] refl
no-more-words i [] (a ∷ answers) whole is = absurd whole
no-more-words i (x ∷ ops) [] whole is = absurd whole
no-more-words zero (x ∷ ops) (answer.Word v ∷ answers) whole is = absurd cc
no-more-words zero (x ∷ ops) (answer.Range ∷ answers) whole is = ap words_among whole
no-more-words zero (x ∷ ops) (answer.DivZero ∷ answers) whole is = ap words_among whole
no-more-words zero (x ∷ ops) (answer.Operand ∷ answers) whole is = ap words_among whole
no-more-words (suc i) (x ∷ ops) (answer.Word v ∷ answers) whole is = ap (λ ws. v ∷ ws) (no-more-words i ops answers whole is)
no-more-words (suc i) (x ∷ ops) (answer.Range ∷ answers) whole is = both-none i answers whole
no-more-words (suc i) (x ∷ ops) (answer.DivZero ∷ answers) whole is = both-none i answers whole
no-more-words (suc i) (x ∷ ops) (answer.Operand ∷ answers) whole is = both-none i answers whole

-- answers are whole where there is one
pub whole-there : (ops : List Op) (answers : List Answer) (i : ℕ) (w : ℤ) → (answers ≡ []) ⊎ Whole ops answers
    → word_in (slice_get answers i) ≡ Some w → Whole ops answers
whole-there ops answers i w (inl none) is = absurd (none-there answers i w none is)
whole-there ops answers i w (inr whole) is = whole

-- the same where there is none
pub no-more : (i : ℕ) (ops : List Op) (answers : List Answer) → (answers ≡ []) ⊎ Whole ops answers → word_in (slice_get answers i) ≡ None
    → words_among answers ≡ words_among (take i answers)
no-more i ops answers (inl none) is = both-none i answers none
no-more i ops answers (inr whole) is = no-more-words i ops answers whole is

-- and where there are no more operations, they are all
all-words-of : (ops : List Op) (answers : List Answer) → Whole ops answers → take (length ops) answers ≡ answers
all-words-of [] [] whole = refl
all-words-of [] (a ∷ answers) whole = absurd whole
all-words-of (x ∷ ops) [] whole = absurd whole
all-words-of (x ∷ ops) (answer.Word v ∷ answers) whole = ap (λ xs. answer.Word v ∷ xs) (all-words-of ops answers whole)
all-words-of (x ∷ ops) (answer.Range ∷ answers) whole = ap (λ xs. answer.Range ∷ xs) (take-none (length ops) answers whole)
all-words-of (x ∷ ops) (answer.DivZero ∷ answers) whole = ap (λ xs. answer.DivZero ∷ xs) (take-none (length ops) answers whole)
all-words-of (x ∷ ops) (answer.Operand ∷ answers) whole = ap (λ xs. answer.Operand ∷ xs) (take-none (length ops) answers whole)

pub all-words : (ops : List Op) (answers : List Answer) → (answers ≡ []) ⊎ Whole ops answers → take (length ops) answers ≡ answers
all-words ops answers (inl none) = take-none (length ops) answers none
all-words ops answers (inr whole) = all-words-of ops answers whole

-- ---- the loop over operations

-- the lines of the words of these answers of a graph's operations
abbrev pub lines_to : Lists → Numbers → ℕ → List Answer → List ℕ
lines_to g t n answers = word_lines g t n 0 g.operations (words_among answers)

module _ (g : Lists) (t : Numbers) (n i : ℕ) (answers : List Answer) (a b c : Option (List ℕ)) (f h j : ℕ) (whole : Whole g.operations answers)
    (below : i < length g.operations) (before : Writes {T = Unit {0}} {E = Failed} a b f h (lines_to g t n (take i answers)) (Ok tt)) (w : ℤ)
    (there : word_in (slice_get answers i) ≡ Some w) where
  one-further : i + 1 ≡ suc i
  one-further = omega arith

  from-zero : 0 + i ≡ i
  from-zero = omega arith

  on-at : (o : Option Op) → slice_get g.operations i ≡ o
      → IfSome o (λ op. Writes {T = Unit {0}} {E = Failed} b c h j (trace_text g.profile t i n op.kind w) (Ok tt))
      → Writes {T = Unit {0}} {E = Failed} a c f j (lines_to g t n (take (i + 1) answers)) (Ok tt)
  on-at None is next = absurd (not-there g.operations i below is)
  on-at (Some op) is next =
      writes-on tt tt tt a b c f h j (lines_to g t n (take i answers)) (trace_text g.profile t i n op.kind w) _ before next
      (ap (λ k. lines_to g t n (take k answers)) one-further ∙ one-more g t n 0 i g.operations answers op w whole is there
      ∙ ap (λ k. lines_to g t n (take i answers) ++ trace_text g.profile t k n op.kind w) from-zero)

  -- the line of the next word was written
  pub goes-on : IfSome (slice_get g.operations i) (λ op. Writes {T = Unit {0}} {E = Failed} b c h j (trace_text g.profile t i n op.kind w) (Ok tt))
      → Writes {T = Unit {0}} {E = Failed} a c f j (lines_to g t n (take (i + 1) answers)) (Ok tt)
  goes-on next = on-at (slice_get g.operations i) refl next

  fail-at : (e d : Failed) (o : Option Op) → slice_get g.operations i ≡ o
      → IfSome o (λ op. Writes {T = Unit {0}} {E = Failed} b c h j (trace_text g.profile t i n op.kind w) (Err e))
      → Writes {T = Unit {0}} {E = Failed} a c f j (lines_to g t n answers) (Err d)
  fail-at e d None is next = absurd (not-there g.operations i below is)
  fail-at e d (Some op) is next = let (more, all) = rest-behind g t n 0 i g.operations answers op w whole is there in
      writes-fail tt e d a b c f h j (lines_to g t n (take i answers)) (trace_text g.profile t i n op.kind w) more (lines_to g t n answers) before next
      (all ∙ ap (λ k. lines_to g t n (take i answers) ++ trace_text g.profile t k n op.kind w ++ more) from-zero)

  -- or it couldn't be
  pub fails : (e d : Failed)
      → IfSome (slice_get g.operations i) (λ op. Writes {T = Unit {0}} {E = Failed} b c h j (trace_text g.profile t i n op.kind w) (Err e))
      → Writes {T = Unit {0}} {E = Failed} a c f j (lines_to g t n answers) (Err d)
  fails e d next = fail-at e d (slice_get g.operations i) refl next

-- a machine that began a cycle has that cycle's words
pub begun : (m : State) (n k : ℕ) → k ≡ m.cycles → n ≤ k → answered_words m n ≡ words_among m.answers
begun m n k is low =
    let here : n ≤ m.cycles = subst (λ x. n ≤ x) is low in
    let begins : nat_le n m.cycles ≡ true = grind (arith, nat_tests) in
    ap (λ (b : Bool). cond b (words_among m.answers) []) begins
