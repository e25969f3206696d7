use Rattle.std.proofs.Common.{rules, ◌≡◌, ap, subst, sym, ◌∙◌, arith, [], cond, true, false, Some, slice_get, vec_capacity, length}
use Rattle.std.proofs.lemmas.Option.{none-some}
use Rattle.coded_machine.specs.Calls.{Next, call_of}
use Rattle.coded_machine.specs.Runs.{setting_at}
use Rattle.coded_machine.specs.State.{State, setting, given}
use Rattle.coded_machine.specs.Sound.{Sound}
use Rattle.coded_machine.proofs.Growth.{next_is}
use Rattle.coded_machine.proofs.Turns.{halted_finished, all_finished}
use Rattle.coded_machine.proofs.machine.Machine.following.Goals as goal

pub returns-then-self : goal.returns-then-self
returns-then-self c =
    let sound : Sound c.args.self.now c.self.inside.halted (vec_capacity c.self.inside.answers) =
    subst (λ m. Sound m c.self.inside.halted (vec_capacity c.self.inside.answers)) c.self.view_is c.self.invariant in
    let halted : Sound c.args.self.now true (vec_capacity c.self.inside.answers) =
    subst (λ b. Sound c.args.self.now b (vec_capacity c.self.inside.answers)) c.if-self.true sound in
    record { none = λ e. halted_finished c.args.self.now _ halted; some = tt; next = tt; asked = tt; own = tt }

pub returns-then-answered-len : goal.returns-then-answered-len
returns-then-answered-len c =
    let m : State = c.args.self.now in
    let sound : Sound m c.self.inside.halted (vec_capacity c.self.inside.answers) =
    subst (λ n. Sound n c.self.inside.halted (vec_capacity c.self.inside.answers)) c.self.view_is c.self.invariant in
    let going : Sound m false (vec_capacity c.self.inside.answers) = subst (λ b. Sound m b (vec_capacity c.self.inside.answers)) c.if-self.false sound in
    let given_is : given m ≡ m.answers = ap (λ b. cond b m.answers []) c.requires.way in
    record {
      none = λ e. all_finished m _ going
          (omega (
            arith,
            ap length given_is,
            ap (λ (n : State). length n.answers) c.self.view_is,
            ap (λ (n : State). length n.graph.operations) c.self.view_is,
            c.len-answered.ensures,
            c.len.ensures.count,
            c.if-answered-len.true,
          ));
      some = tt;
      next = tt;
      asked = tt;
      own = tt;
    }

pub returns-clause-next : goal.returns-clause-next
returns-clause-next c =
    let m : State = c.args.self.now in
    let row = c.args.row.now in
    let op = c.operation-op.result in
    let given_is : given m ≡ m.answers = ap (λ b. cond b m.answers []) c.requires.way in
    let call_is : c.call_after_words.result ≡ call_of (setting m row) op (given m) =
    c.call_after_words.ensures.call
    ∙ ap (λ held. call_of (setting_at c.self.inside.graph.now c.self.inside.table.now c.self.inside.cycles held row) op c.deref-2.result.now) c.deref.ensures.value
    ∙ ap (λ xs. call_of (setting_at c.self.inside.graph.now c.self.inside.table.now c.self.inside.cycles c.self.inside.held.items row) op xs) c.deref-2.ensures.value
    ∙ ap (λ (n : State). call_of (setting n row) op n.answers) c.self.view_is ∙ ap (call_of (setting m row) op) (sym given_is) in
    let many : length c.self.inside.answers.items ≡ c.len-answered.result = omega (arith, c.len-answered.ensures) in
    let here : slice_get m.graph.operations (length (given m)) ≡ Some op =
    ap (λ xs. slice_get m.graph.operations (length xs)) given_is ∙ sym (ap (λ (n : State). slice_get n.graph.operations (length n.answers)) c.self.view_is)
    ∙ ap (slice_get c.self.inside.graph.now.operations) many ∙ c.operation-op.ensures in
    subst (λ call. Next (setting m row) (given m) call) (sym call_is) (next_is (setting m row) (given m) op here)

pub returns-clause-none : goal.returns-clause-none
returns-clause-none c = λ e. absurd (none-some _ (sym e))

pub returns-clause-asked : goal.returns-clause-asked
returns-clause-asked c = c.call_after_words.ensures.asked

pub call_after_words-requires : goal.call_after_words-requires
call_after_words-requires c = search rules
