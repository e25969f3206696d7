use Rattle.std.proofs.Common.{◌∷◌, [], ◌++◌, true, sym, ap, subst, ◌∙◌, arith, vec_capacity, not}
use Rattle.coded_machine.specs.State.{State, Awaits, with_answer}
use Rattle.coded_machine.specs.Sound.{Sound}
use Rattle.coded_machine.proofs.Turns.{sound_with_answer}
use Rattle.coded_machine.proofs.machine.Machine.put.Goals as goal

pub invariant_of-self : goal.invariant_of-self
invariant_of-self c =
    let m : State =
    record {
      graph = c.self.inside.graph.now;
      table = c.self.inside.table.now;
      held = c.self.inside.held.items;
      answers = c.self.inside.answers.items;
      under_way = c.self.inside.under_way;
      cycles = c.self.inside.cycles;
      ended = c.self.inside.ended;
    } in
    let more : Sound (with_answer m c.args.answer) (not c.is_word.result) (vec_capacity c.append.new.answers) =
    sound_with_answer m c.args.answer c.self.inside.halted c.is_word.result (vec_capacity c.self.inside.answers)
    (vec_capacity c.append.new.answers) c.self.invariant (subst Awaits (sym c.self.view_is) c.requires) (sym c.is_word.ensures)
    (omega (arith, c.keep_given.ensures.capacity, c.append.ensures.capacity)) in
    subst (λ xs. Sound (record m { answers = xs; under_way = true }) (not c.is_word.result) (vec_capacity c.append.new.answers))
    (sym (c.append.ensures.items ∙ ap (λ xs. xs ++ c.args.answer ∷ []) c.keep_given.ensures.items)) more
