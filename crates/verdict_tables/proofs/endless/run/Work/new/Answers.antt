use Rattle.std.proofs.Common.{length, pos, refl, ap, arith}
use Rattle.std.proofs.lemmas.List.{length-replicate}
use Rattle.verdict_tables.proofs.endless.run.Work.new.Goals as goal

pub returns-clause-room : goal.returns-clause-room
returns-clause-room c = record {
  own = omega (arith, c.in_ok-with_capacity.ensures.capacity, c.len-operations.ensures.count);
  past = omega (arith, c.in_ok-with_capacity-2.ensures.capacity, c.len-operations.ensures.count);
  past_held = omega (arith, c.in_ok-with_capacity-3.ensures.capacity, c.cells-cells.ensures.stores);
  held = omega (arith, c.in_ok-first_words.ensures.count);
  inputs = omega (arith, ap length c.in_ok-zeros.ensures, length-replicate c.inputs.result (pos 0), c.inputs.ensures);
}

pub returns-clause-begins : goal.returns-clause-begins
returns-clause-begins c = record {
  held = c.in_ok-first_words.ensures.words;
  past = c.in_ok-with_capacity-2.ensures.items;
  past_held = c.in_ok-with_capacity-3.ensures.items;
  reached = refl;
}
