use Rattle.il_front.proofs.OneAnswer.{Laws, one, either, refused}
use Rattle.il_front.proofs.SomeAnswer.{Totals, answered}
use Rattle.il_front.proofs.laws.il_answers_are_one.Goals as goal

pub returns : goal.returns
returns c =
    let laws : Laws = record {
      tokens = c.one_reading.ensures.tokens;
      either = c.one_reading.ensures.either;
      place = c.one_reading.ensures.place;
      reason = c.one_reading.ensures.reason;
      program = c.one_answer.ensures.program;
      spelled = c.one_answer.ensures.either;
      parsed = c.one_answer.ensures.refused;
      typed = c.answers_are_one.ensures.typed;
      apart = c.answers_are_one.ensures.either;
      refused = c.answers_are_one.ensures.refused;
    } in
    let totals : Totals = record { lexed = c.one_reading.ensures.total; parsed = c.one_answer.ensures.some; typed = c.answers_are_one.ensures.some } in
    record { some = answered totals; one = one laws; either = either laws; refused = refused laws }
