use Rattle.std.proofs.Common.{◌++◌, ◌∷◌, [], List, get_or, ap, sym, ◌∙◌}
use Rattle.std.proofs.Math.Nat.{le_trans}
use Rattle.std.proofs.lemmas.List.{append-nil}
use Rattle.coded_unit.specs.declared.call.Answer.{Answer}
use Rattle.coded_unit.specs.declared.call.Answer.TheVariants as answer
use Rattle.coded_machine.specs.Honest.{stop_answer}
use Rattle.fault_injector.specs.References.{words_answered}
use Rattle.fault_injector.proofs.KeptRuns.{one_answered, take_past, room_answered}
use Rattle.fault_injector.proofs.campaign.reruns.passing.copy_answers.Goals as goal

pub append-requires : goal.append-requires
append-requires c =
    let i = c.words.invariant in
    room_answered c.args.from.now.words.now c.words.i c.args.from.now.stop _ _ _ i.items c.words-test.true c.requires i.room

pub words-preserved : goal.words-preserved
words-preserved c =
    let i = c.words.invariant in
    let words = c.args.from.now.words.now in
    let word = get_or words c.words.i c.index-from-i.result in
    let given : Answer = answer.Word word in
    record {
      items = c.append.ensures.items
          ∙ (ap (λ (answers : List Answer). answers ++ given ∷ []) i.items
          ∙ sym (one_answered words c.words.i word c.words-test.true (ap (get_or words c.words.i) c.index-from-i.is)));
      room = le_trans i.room c.append.ensures.capacity;
    }

pub returns-in-Some : goal.returns-in-Some
returns-in-Some c =
    let i = c.words.invariant in
    let words = c.args.from.now.words.now in
    let all = i.items ∙ ap words_answered (take_past c.words.i words c.words-test.false) in
    let stop = ap stop_answer c.in-Some.is ∙ c.answer_for.ensures in
    record {
      items = c.append-in-Some.ensures.items
          ∙ (ap (λ (answers : List Answer). answers ++ c.answer_for.result ∷ []) all
          ∙ ap (λ (answers : List Answer). words_answered words ++ answers) (sym stop));
      capacity = le_trans i.room c.append-in-Some.ensures.capacity;
    }

pub returns-in_default : goal.returns-in_default
returns-in_default c =
    let i = c.words.invariant in
    let words = c.args.from.now.words.now in
    record {
      items = i.items
          ∙ (ap words_answered (take_past c.words.i words c.words-test.false)
          ∙ (sym (append-nil (words_answered words))
          ∙ ap (λ (answers : List Answer). words_answered words ++ answers) (sym (ap stop_answer c.in_default.is))));
      capacity = i.room;
    }
