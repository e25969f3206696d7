use Rattle.std.proofs.Common.{◌≡◌, ◌+◌, ◌++◌, ◌∷◌, [], List, true, false, refl, sym, ap, ◌∙◌, arith, drop, length}
use Rattle.std.proofs.lemmas.List.{length-append}
use Rattle.coded_unit.specs.declared.call.Answer.{Answer}
use Rattle.coded_machine.specs.Calls.{is_word}
use Rattle.verdict_tables.specs.AnswersOver.{all_words, answers_from, next_answer}
use Rattle.verdict_tables.specs.Begun.{setting, acts, past}
use Rattle.verdict_tables.proofs.EndingsGoing.{goes_further, goes_no_further, is_over, words_and}
use Rattle.verdict_tables.proofs.endless.cycle.run_cycle.Goals as goal

pub operations-preserved : goal.operations-preserved
operations-preserved c =
    let i = c.operations.invariant in
    let b = c.args.b.now in
    let ops = b.setting.graph.now.operations in
    let own = c.operations.own.items in
    let op = c.operation-op.result in
    let a : Answer = c.next_answer-answer.result in
    let word : is_word a ≡ true = sym c.is_word.ensures ∙ c.if-not-is_word.false in
    let is = c.next_answer-answer.ensures ∙ ap (λ (xs : List Answer). next_answer (setting b) (acts b) (past b) xs op) c.deref.ensures.value in
    record {
      answers = i.answers
          ∙ (goes_further (setting b) (acts b) (past b) own ops c.operations.k op a c.operation-op.ensures is word
          ∙ ap (λ (xs : List Answer). xs ++ answers_from (setting b) (acts b) (past b) xs (drop (c.operations.k + 1) ops)) (sym c.append.ensures.items));
      answered = ap length c.append.ensures.items ∙ (length-append own (a ∷ []) ∙ omega (arith, i.answered));
      words = ap all_words c.append.ensures.items ∙ words_and own a true word i.words;
      room = omega (arith, i.room, c.append.ensures.capacity);
      all = i.all;
    }

pub returns-then-not-is_word-clause-answers : goal.returns-then-not-is_word-clause-answers
returns-then-not-is_word-clause-answers c =
    let i = c.operations.invariant in
    let b = c.args.b.now in
    let own = c.operations.own.items in
    let op = c.operation-op.result in
    let a : Answer = c.next_answer-answer.result in
    let no_word : is_word a ≡ false = sym c.is_word.ensures ∙ c.if-not-is_word.true in
    let is = c.next_answer-answer.ensures ∙ ap (λ (xs : List Answer). next_answer (setting b) (acts b) (past b) xs op) c.deref.ensures.value in
    c.append.ensures.items
    ∙ sym (i.answers ∙ goes_no_further (setting b) (acts b) (past b) own b.setting.graph.now.operations c.operations.k op a c.operation-op.ensures is no_word)

pub returns-then-not-is_word-clause-words : goal.returns-then-not-is_word-clause-words
returns-then-not-is_word-clause-words c =
    let i = c.operations.invariant in
    let a : Answer = c.next_answer-answer.result in
    let no_word : is_word a ≡ false = sym c.is_word.ensures ∙ c.if-not-is_word.true in
    sym (ap all_words c.append.ensures.items ∙ words_and c.operations.own.items a false no_word i.words)

pub operations-init : goal.operations-init
operations-init c =
    rw c.clear.ensures.items (record {
      answers = refl;
      answered = refl;
      words = refl;
      room = omega (arith, c.clear.ensures.capacity);
      all = c.len-count.ensures.count;
    })

pub append-requires : goal.append-requires
append-requires c =
    let i = c.operations.invariant in
    omega (arith, i.answered, i.all, i.room, c.operations-test.true, c.requires.room)

pub returns-clause-answers : goal.returns-clause-answers
returns-clause-answers c =
    let i = c.operations.invariant in
    let b = c.args.b.now in
    sym (i.answers
    ∙ is_over (setting b) (acts b) (past b) c.operations.own.items b.setting.graph.now.operations c.operations.k (omega (arith, i.all, c.operations-test.false)))

pub returns-clause-words : goal.returns-clause-words
returns-clause-words c = sym c.operations.invariant.words

pub returns-clause-few : goal.returns-clause-few
returns-clause-few c =
    let i = c.operations.invariant in
    omega (arith, i.answered, i.all, c.operations.auto.k-end)

pub returns-then-not-is_word-clause-few : goal.returns-then-not-is_word-clause-few
returns-then-not-is_word-clause-few c =
    let i = c.operations.invariant in
    let a : Answer = c.next_answer-answer.result in
    let longer = ap length c.append.ensures.items ∙ length-append c.operations.own.items (a ∷ []) in
    omega (arith, longer, i.answered, i.all, c.operations-test.true)
