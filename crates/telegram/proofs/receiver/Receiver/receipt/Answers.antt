use Rattle.std.proofs.Common.{◌≡◌, Option, ℕ, true, ap, ◌∙◌}
use Rattle.telegram.specs.Receipts.{State, is_above, receipt_of}
use Rattle.telegram.proofs.Receiving.{IsHeard, age, early, order, rises, stray}
use Rattle.telegram.proofs.receiver.Receiver.receipt.Goals as goal
use Rattle.telegram.proofs.receiver.Receiver.receipt.Goals.{in-Some+else-number-last, in_default}

pub returns-then-number-self : goal.returns-then-number-self
returns-then-number-self c =
    let r = c.self.inside in
    let s : State = record { listen = r.listen; age = r.age; seed = r.seed; step = r.step; begun = r.begun; last = r.last } in
    early s c.args.telegram.now c.if-number-self.true ∙ ap (λ (s : State). receipt_of s c.args.telegram.now) c.self.view_is

pub returns-then-found-expected : goal.returns-then-found-expected
returns-then-found-expected c =
    let r = c.self.inside in
    let s : State = record { listen = r.listen; age = r.age; seed = r.seed; step = r.step; begun = r.begun; last = r.last } in
    stray s c.args.telegram.now c.split-value.result.1 c.expected-expected.result c.if-number-self.false c.split-value.ensures.residue c.expected-expected.ensures.value
    c.if-found-expected.true
    ∙ ap (λ (s : State). receipt_of s c.args.telegram.now) c.self.view_is

pub returns-then-number-last : goal.returns-then-number-last
returns-then-number-last c =
    let r = c.self.inside in
    let s : State = record { listen = r.listen; age = r.age; seed = r.seed; step = r.step; begun = r.begun; last = r.last } in
    let h : IsHeard s c.args.telegram.now =
    record {
      early = c.if-number-self.false;
      found = c.split-value.result.1;
      expected = c.expected-expected.result;
      found_is = c.split-value.ensures.residue;
      expected_is = c.expected-expected.ensures.value;
      same = c.if-found-expected.false;
    } in
    order s c.args.telegram.now c.in-Some.last h c.in-Some.is c.if-number-last.true ∙ ap (λ (s : State). receipt_of s c.args.telegram.now) c.self.view_is

pub returns-then-cycle-number : goal.returns-then-cycle-number
returns-then-cycle-number c =
    let r = c.self.inside in
    let s : State = record { listen = r.listen; age = r.age; seed = r.seed; step = r.step; begun = r.begun; last = r.last } in
    let h : IsHeard s c.args.telegram.now =
    record {
      early = c.if-number-self.false;
      found = c.split-value.result.1;
      expected = c.expected-expected.result;
      found_is = c.split-value.ensures.residue;
      expected_is = c.expected-expected.ensures.value;
      same = c.if-found-expected.false;
    } in
    let above : is_above r.last c.args.telegram.now.number ≡ true =
    elim c.match-self.branch [
      | in-Some+else-number-last w ↦ rises r.last w.in-Some.last c.args.telegram.now.number w.in-Some.is w.if-number-last.false
      | in_default w ↦ ap (λ (o : Option ℕ). is_above o c.args.telegram.now.number) w.in_default.is
    ] in
    age s c.args.telegram.now h above c.if-cycle-number.true ∙ ap (λ (s : State). receipt_of s c.args.telegram.now) c.self.view_is
