use Rattle.std.proofs.Common.{List, ℕ, ◌++◌, true≢false, ap, sym, ◌∙◌}
use Rattle.st_writer.proofs.writer.Writer.put.Goals as goal

pub returns-in-Ok : goal.returns-in-Ok
returns-in-Ok c = λ xs e. record {
  so_far = λ sound. sound;
  text = λ sound. c.in-Ok.ensures.items ∙ ap (λ (t : List ℕ). c.args.self.text.list.items ++ t) (sym e);
}

pub returns-in-Err : goal.returns-in-Err
returns-in-Err c = λ xs e. record { so_far = λ failed. absurd (true≢false failed); text = λ failed. absurd (true≢false failed) }
