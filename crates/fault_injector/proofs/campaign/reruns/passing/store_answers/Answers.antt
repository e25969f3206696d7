use Rattle.std.proofs.Common.{◌≡◌, ℕ, ◌+◌, ◌++◌, ◌∷◌, [], ℤ, List, sym, ap, ◌∙◌, arith, drop, get_or, length, map}
use Rattle.std.proofs.Math.Nat.{le_trans}
use Rattle.std.proofs.lemmas.List.{append_assoc, append-nil, length-append}
use Rattle.coded_machine.specs.Calls.{word_at}
use Rattle.fault_injector.specs.Begun.{answers_in}
use Rattle.fault_injector.proofs.ListsOfReruns.{drop_behind, drop_read}
use Rattle.fault_injector.proofs.campaign.reruns.passing.store_answers.Goals as goal

pub cells-preserved : goal.cells-preserved
cells-preserved c =
    let i = c.cells.invariant in
    let k = c.cells.i in
    let given = answers_in c.args.from.now in
    let stores = c.args.graph.now.stores in
    let marks = c.cells.held.items in
    let later = map (λ n. word_at given n) (drop (k + 1) stores) in
    let there = drop_read stores k (omega (arith, c.cells-test.true, ap length i.stores)) in
    let told : word_at given (get_or stores k 0) ≡ c.other_word.result =
    ap (λ (ns : List ℕ). word_at given (get_or ns k 0)) (sym i.stores) ∙ sym c.other_word.ensures in
    record {
      words = i.words
          ∙ (ap (λ (left : List ℕ). marks ++ map (λ n. word_at given n) left) there
          ∙ (ap (λ (b : ℤ). marks ++ b ∷ later) told
          ∙ (sym (append_assoc marks (c.other_word.result ∷ []) later) ∙ ap (λ (ms : List ℤ). ms ++ later) (sym c.append.ensures.items))));
      stored = ap length c.append.ensures.items ∙ (length-append marks (c.other_word.result ∷ []) ∙ omega (arith, i.stored));
      room = le_trans i.room c.append.ensures.capacity;
      stores = i.stores;
    }

pub returns-clause-items : goal.returns-clause-items
returns-clause-items c =
    let i = c.cells.invariant in
    let given = answers_in c.args.from.now in
    sym (i.words
    ∙ (ap (λ (left : List ℕ). c.cells.held.items ++ map (λ n. word_at given n) left)
    (drop_behind c.args.graph.now.stores c.cells.i (omega (arith, c.cells-test.false, ap length i.stores))) ∙ append-nil c.cells.held.items))
