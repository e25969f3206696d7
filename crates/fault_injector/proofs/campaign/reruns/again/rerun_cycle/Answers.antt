use Rattle.std.proofs.Common.{◌≡◌, ◌+◌, ℕ, ◌∷◌, ◌++◌, [], List, sym, subst, ap, ◌∙◌, arith, length, rules, true≢false}
use Rattle.std.proofs.Math.Nat.{le_trans}
use Rattle.std.proofs.lemmas.List.{length-append}
use Rattle.coded_unit.specs.declared.call.Answer.{Answer}
use Rattle.coded_machine.specs.Calls.{AllWords}
use Rattle.fault_injector.specs.Begun.{GoesOver, RanAgain, begun}
use Rattle.fault_injector.proofs.AgainRuns.{Midway, answer_told, none_told, begins, goes_on, moves_over, stops, ends, completes, words_more}
use Rattle.fault_injector.proofs.campaign.reruns.again.rerun_cycle.Goals as goal

pub operations-init : goal.operations-init
operations-init g c =
    let b = begun c.args.b.now in
    let seen = g.U.Unit.seen c.args.unit.now in
    let now = c.copy_untouched.new.own.items in
    let over = c.copy_untouched.ensures in
    record {
      midway =
          moves_over b [] now seen.log seen.log seen.wrong seen.wrong
          (begins b seen.log seen.wrong (c.cycles_by_hand_are_whole.ensures.nothing_carried seen.log seen.wrong))
          (subst (λ (own : List Answer). GoesOver b own now) c.requires.empty over.over);
      words = over.words (subst AllWords (sym c.requires.empty) tt);
      few = over.few;
      room = over.capacity;
      all = c.len-count.ensures.count;
    }

pub operations-preserved : goal.operations-preserved
operations-preserved g c =
    let i = c.operations.invariant in
    let b = begun c.args.b.now in
    let own = c.operations.own.items in
    let first = g.U.Unit.seen c.args.unit.now in
    let before = g.U.Unit.seen c.operations.unit in
    let after = g.U.Unit.seen c.answer_again.new.unit in
    let a = c.in-Some.answer in
    let longer : length (own ++ a ∷ []) ≡ length own + 1 = length-append own (a ∷ []) in
    let told =
    answer_told b own c.deref.result.now c.answer_again.result c.in-Some.answer before.log after.log before.wrong after.wrong c.deref.ensures.value c.in-Some.is
    (omega (arith, c.operations-test.true, c.len.ensures, i.all)) c.answer_again.ensures in
    let word = sym c.is_word.ensures ∙ c.if-not-is_word.false in
    let more = goes_on b (length own) own told.op a first.log before.log after.log first.wrong before.wrong after.wrong told.there i.midway told.comes word in
    let here = subst (λ (k : ℕ). Midway b k (own ++ a ∷ []) first.log after.log first.wrong after.wrong) (sym longer) more in
    let over = c.copy_untouched-in-operations.ensures in
    record {
      midway =
          moves_over b (own ++ a ∷ []) c.copy_untouched-in-operations.new.own.items first.log after.log first.wrong after.wrong here
          (subst (λ (us : List Answer). GoesOver b us c.copy_untouched-in-operations.new.own.items) c.append.ensures.items over.over);
      words = over.words (subst AllWords (sym {A = List Answer} c.append.ensures.items) (words_more own a i.words word));
      few = over.few;
      room = le_trans (le_trans i.room c.append.ensures.capacity) over.capacity;
      all = i.all;
    }

pub returns-then-not-is_word : goal.returns-then-not-is_word
returns-then-not-is_word g c =
    let i = c.operations.invariant in
    let b = begun c.args.b.now in
    let own = c.operations.own.items in
    let first = g.U.Unit.seen c.args.unit.now in
    let before = g.U.Unit.seen c.operations.unit in
    let after = g.U.Unit.seen c.answer_again.new.unit in
    let told =
    answer_told b own c.deref.result.now c.answer_again.result c.in-Some.answer before.log after.log before.wrong after.wrong c.deref.ensures.value c.in-Some.is
    (omega (arith, c.operations-test.true, c.len.ensures, i.all)) c.answer_again.ensures in
    let no_word = sym c.is_word.ensures ∙ c.if-not-is_word.true in
    let longer = ap length c.append.ensures.items ∙ length-append c.operations.own.items (c.in-Some.answer ∷ []) in
    record {
      ran =
          subst (λ (us : List Answer). RanAgain b us first.log after.log first.wrong after.wrong) (sym {A = List Answer} c.append.ensures.items)
          (stops b (length own) own told.op c.in-Some.answer first.log before.log after.log first.wrong before.wrong after.wrong told.there i.midway told.comes
          no_word);
      words = λ on. absurd (true≢false on);
      few = omega (arith, longer, c.operations.invariant.all, c.len.ensures, c.operations-test.true);
      capacity = le_trans c.operations.invariant.room c.append.ensures.capacity;
    }

pub returns : goal.returns
returns g c =
    let i = c.operations.invariant in
    let b = begun c.args.b.now in
    let first = g.U.Unit.seen c.args.unit.now in
    let now = g.U.Unit.seen c.operations.unit in
    record {
      ran =
          completes b (length c.operations.own.items) c.operations.own.items first.log now.log first.wrong now.wrong
          (omega (arith, c.operations-test.false, c.len.ensures, i.all)) i.midway;
      words = λ _. i.words;
      few = c.operations.invariant.few;
      capacity = c.operations.invariant.room;
    }

pub returns-in_default : goal.returns-in_default
returns-in_default g c =
    let i = c.operations.invariant in
    let b = begun c.args.b.now in
    let own = c.operations.own.items in
    let first = g.U.Unit.seen c.args.unit.now in
    let before = g.U.Unit.seen c.operations.unit in
    let after = g.U.Unit.seen c.answer_again.new.unit in
    let told =
    none_told b own c.deref.result.now c.answer_again.result before.log after.log before.wrong after.wrong c.deref.ensures.value c.in_default.is
    (omega (arith, c.operations-test.true, c.len.ensures, i.all)) c.answer_again.ensures in
    record {
      ran =
          ends b (length own) own told.op first.log before.log after.log first.wrong before.wrong after.wrong told.there i.midway told.comes;
      words = λ _. i.words;
      few = c.operations.invariant.few;
      capacity = c.operations.invariant.room;
    }

pub copy_untouched-requires-clause-few : goal.copy_untouched-requires-clause-few
copy_untouched-requires-clause-few g c = omega (arith, ap length c.requires.empty)

pub append-requires : goal.append-requires
append-requires g c =
    let i = c.operations.invariant in
    omega (arith, i.room, i.all, c.requires.room, c.len.ensures, c.operations-test.true)

pub copy_untouched-requires-in-operations-clause-few : goal.copy_untouched-requires-in-operations-clause-few
copy_untouched-requires-in-operations-clause-few g c =
    let longer = ap length c.append.ensures.items ∙ length-append c.operations.own.items (c.in-Some.answer ∷ []) in
    omega (arith, longer, c.operations.invariant.all, c.len.ensures, c.operations-test.true)

pub copy_untouched-requires-in-operations-clause-room : goal.copy_untouched-requires-in-operations-clause-room
copy_untouched-requires-in-operations-clause-room g c = omega (arith, c.operations.invariant.room, c.requires.room, c.append.ensures.capacity)

pub operations-smaller : goal.operations-smaller
operations-smaller g c =
    let longer = ap length c.append.ensures.items ∙ length-append c.operations.own.items (c.in-Some.answer ∷ []) in
    omega (arith, longer, c.copy_untouched-in-operations.ensures.longer, c.operations.invariant.all, c.len.ensures, c.operations-test.true)

pub answer_again-requires : goal.answer_again-requires
answer_again-requires g c = search rules
