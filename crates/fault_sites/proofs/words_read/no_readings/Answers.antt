use Rattle.std.proofs.Common.{◌+◌, ap, ◌∙◌, length}
use Rattle.std.proofs.lemmas.List.{length_push}
use Rattle.fault_sites.proofs.Gathering.{none_more}
use Rattle.fault_sites.proofs.words_read.no_readings.Goals as goal

pub words-preserved : goal.words-preserved
words-preserved c =
    let i = c.words.invariant in
    record {
      many = ap length c.in_ok-push.ensures.items ∙ (length_push c.words.by_word.items _ ∙ ap (λ n. n + 1) i.many);
      none = none_more c.words.by_word.items _ _ c.in_ok-push.ensures.items c.new.ensures i.none;
    }
