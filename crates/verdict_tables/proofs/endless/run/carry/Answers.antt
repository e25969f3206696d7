use Rattle.std.proofs.Common.{◌≡◌, ◌||◌, Bool, List, true, false, cond, sym, ap, ◌∙◌}
use Rattle.std.proofs.lemmas.Bool.{true≢false}
use Rattle.std.specs.List.{list_any}
use Rattle.coded_unit.specs.declared.call.Answer.{Answer}
use Rattle.coded_machine.specs.CycleEnds.{stored_words}
use Rattle.fault_script.specs.Changes.{acts_of}
use Rattle.verdict_tables.specs.AnswersOver.{all_words}
use Rattle.verdict_tables.specs.Endings.{comes_to}
use Rattle.verdict_tables.proofs.EndingsGoing.{same_begun, same_words}
use Rattle.verdict_tables.proofs.endless.run.carry.Goals as goal

pub returns-then-words-clause-done : goal.returns-then-words-clause-done
returns-then-words-clause-done c =
    let g = c.args.graph.now in
    let old = c.args.work.now in
    let own = c.run_cycle-words.new.own.items in
    let all : all_words own ≡ true = sym c.run_cycle-words.ensures.words ∙ c.if-words.true in
    record {
      own = own;
      own_is = c.run_cycle-words.ensures.answers
          ∙ same_begun g c.args.table.now c.args.n old.inputs (acts_of c.args.group.now c.args.n) _ _ _ _ _ _ c.deref.ensures.value
          c.deref-2.ensures.value c.deref-3.ensures.value;
      words_is = c.run_cycle-words.ensures.words;
      reached = c.store.ensures.reached
          ∙ (ap (λ (b : Bool). old.reached || b) c.comes_to_any.ensures
          ∙ ap (λ (xs : List Answer). old.reached || list_any (comes_to c.args.n xs) c.args.group.now) c.deref-4.ensures.value);
      held = c.store.ensures.held ∙ ap (λ (b : Bool). cond b (stored_words g own) old.held.items) (sym all);
      past = λ words. same_words _ _ _ _ c.store.ensures.past_held c.store.ensures.past;
    }

pub returns-else-words-clause-done : goal.returns-else-words-clause-done
returns-else-words-clause-done c =
    let g = c.args.graph.now in
    let old = c.args.work.now in
    let own = c.run_cycle-words.new.own.items in
    let all : all_words own ≡ false = sym c.run_cycle-words.ensures.words ∙ c.if-words.false in
    record {
      own = own;
      own_is = c.run_cycle-words.ensures.answers
          ∙ same_begun g c.args.table.now c.args.n old.inputs (acts_of c.args.group.now c.args.n) _ _ _ _ _ _ c.deref.ensures.value
          c.deref-2.ensures.value c.deref-3.ensures.value;
      words_is = c.run_cycle-words.ensures.words;
      reached = ap (λ (b : Bool). old.reached || b) c.comes_to_any.ensures
          ∙ ap (λ (xs : List Answer). old.reached || list_any (comes_to c.args.n xs) c.args.group.now) c.deref-4.ensures.value;
      held = ap (λ (b : Bool). cond b (stored_words g own) old.held.items) (sym all);
      past = λ words. absurd (true≢false (sym words ∙ c.if-words.false));
    }
