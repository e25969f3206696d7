use Rattle.std.proofs.Common.{◌++◌, ◌∷◌, [], List, take, add-one, sym, ap, ◌∙◌}
use Rattle.std.proofs.Math.Nat.{le_trans}
use Rattle.std.proofs.Math.Seq.{take-suc}
use Rattle.coded_unit.specs.declared.word.Word.{Word}
use Rattle.fault_injector.proofs.campaign.reruns.rerun.copy_words.Goals as goal

pub words-preserved : goal.words-preserved
words-preserved c =
    let i = c.words.invariant in
    let word : Word = c.index-from-i.result in
    record {
      items = c.append.ensures.items
          ∙ (ap (λ (xs : List Word). xs ++ word ∷ []) i.items
          ∙ (ap (λ (w : Word). take c.words.i c.args.from.now ++ w ∷ []) c.index-from-i.is
          ∙ (sym (take-suc c.args.from.now c.words.i word c.words-test.true) ∙ ap (λ n. take n c.args.from.now) (sym (add-one c.words.i)))));
      room = le_trans i.room c.append.ensures.capacity;
    }
