use Rattle.std.proofs.Common.{◌∷◌, [], ◌++◌, cond, true, sym, ap, subst, ◌∙◌, ◌≡◌, vec_capacity, not}
use Rattle.coded_machine.specs.State.{State, Awaits, with_answer}
use Rattle.coded_machine.specs.Sound.{Sound}
use Rattle.coded_machine.proofs.Turns.{sound_with_answer}
use Rattle.coded_machine.proofs.machine.Machine.append_answer.Goals as goal

pub invariant_of-self : goal.invariant_of-self
invariant_of-self c =
    let m : State =
    record {
      graph = c.self.inside.graph.now;
      table = c.self.inside.table.now;
      held = c.self.inside.held.items;
      answers = c.self.inside.answers.items;
      under_way = c.self.inside.under_way;
      cycles = c.self.inside.cycles;
      ended = c.self.inside.ended;
    } in
    let way : c.self.inside.under_way ≡ true = ap (λ (n : State). n.under_way) c.self.view_is ∙ c.requires.way in
    let more : Sound (with_answer m c.args.answer.now) (not c.is_word.result) (vec_capacity c.append.new.answers) =
    sound_with_answer m c.args.answer.now c.self.inside.halted c.is_word.result (vec_capacity c.self.inside.answers)
    (vec_capacity c.append.new.answers) c.self.invariant (subst Awaits (sym c.self.view_is) c.requires.awaits) (sym c.is_word.ensures) c.append.ensures.capacity in
    let items : c.append.new.answers.items ≡ cond c.self.inside.under_way c.self.inside.answers.items [] ++ c.args.answer.now ∷ [] =
    c.append.ensures.items ∙ ap (λ b. cond b c.self.inside.answers.items [] ++ c.args.answer.now ∷ []) (sym way) in
    subst (λ b. Sound (record m { answers = c.append.new.answers.items; under_way = b }) (not c.is_word.result) (vec_capacity c.append.new.answers)) (sym way)
    (subst (λ xs. Sound (record m { answers = xs; under_way = true }) (not c.is_word.result) (vec_capacity c.append.new.answers)) (sym items) more)
