use Rattle.std.proofs.Common.{ℕ, ◌+◌, ◌<◌, ◌≤◌, ◌++◌, ◌∷◌, [], List, ℤ, sym, ap, subst, ◌∙◌, drop, length}
use Rattle.std.proofs.Math.Nat.{le_refl, le_trans}
use Rattle.std.proofs.lemmas.Bool.{false≢true}
use Rattle.std.proofs.lemmas.List.{append_assoc, append-nil, drop_all, length-append}
use Rattle.coded_unit.specs.declared.call.Answer.{Answer}
use Rattle.op_graph.specs.Lists.{Lists}
use Rattle.coded_machine.specs.State.{State}
use Rattle.fault_injector.specs.Kept.{front_words}
use Rattle.fault_injector.proofs.KeptAnswers.{front_more, front_ends, nothing_more, one_counted, whole_drop, room_next, fewer_words, all_words}
use Rattle.fault_injector.proofs.campaign.reruns.kept.keep_words.Goals as goal

pub operations-preserved : goal.operations-preserved
operations-preserved c =
    let i = c.operations.invariant in
    let m : State = c.args.machine.now in
    let words = c.operations.words.items in
    let rest = front_words (drop (c.operations.k + 1) m.answers) in
    record {
      words = i.words
          ∙ (ap (λ (ws : List ℤ). words ++ ws) (front_more m.answers c.operations.k c.in-Some.word (sym c.word.ensures ∙ c.in-Some.is))
          ∙ (sym (append_assoc words (c.in-Some.word ∷ []) rest) ∙ ap (λ (ws : List ℤ). ws ++ rest) (sym c.append.ensures.items)));
      count = ap length c.append.ensures.items ∙ (length-append words (c.in-Some.word ∷ []) ∙ one_counted _ _ c.operations.k i.count);
      room = le_trans i.room c.append.ensures.capacity;
      all = i.all;
    }

pub returns-in-None-clause-words : goal.returns-in-None-clause-words
returns-in-None-clause-words c =
    let i = c.operations.invariant in
    let m : State = c.args.machine.now in
    let words = c.operations.words.items in
    sym (i.words
    ∙ (ap (λ (ws : List ℤ). words ++ ws) (front_ends m.answers c.operations.k (sym c.word.ensures ∙ c.in-None.is)) ∙ append-nil words))

pub returns-in-None-clause-stopped : goal.returns-in-None-clause-stopped
returns-in-None-clause-stopped c = λ none.
    let i = c.operations.invariant in
    let m : State = c.args.machine.now in
    let words = c.operations.words.items in
    let all =
    i.words ∙ (ap (λ (ws : List ℤ). words ++ ws) (front_ends m.answers c.operations.k (sym c.word.ensures ∙ c.in-None.is)) ∙ append-nil words) in
    fewer_words c.args.words.now.items words (front_words m.answers) c.operations.k (length m.graph.operations) all i.count
    (subst (λ (n : ℕ). c.operations.k < n) i.all c.operations-test.true)

pub returns-in-None-clause-capacity : goal.returns-in-None-clause-capacity
returns-in-None-clause-capacity c = c.operations.invariant.room

pub returns-in-None-clause-all : goal.returns-in-None-clause-all
returns-in-None-clause-all c = λ all. absurd (false≢true all)

pub operations-init : goal.operations-init
operations-init c =
    let m : State = c.args.machine.now in
    let words = c.args.words.now.items in
    record {
      words = ap (λ (answers : List Answer). words ++ front_words answers) (whole_drop m.answers);
      count = nothing_more (length words);
      room = le_refl _;
      all = c.len-count.ensures.count ∙ ap (λ (h : Lists). length h.operations) c.graph.ensures;
    }

pub append-requires : goal.append-requires
append-requires c =
    let i = c.operations.invariant in
    room_next _ _ c.operations.k _ _ _ i.count (subst (λ (n : ℕ). c.operations.k < n) i.all c.operations-test.true) c.requires.room i.room

pub returns : goal.returns
returns c =
    let i = c.operations.invariant in
    let m : State = c.args.machine.now in
    let k = c.operations.k in
    let words = c.operations.words.items in
    let size = length m.graph.operations in
    let past = subst (λ (n : ℕ). n ≤ k) i.all c.operations-test.false in
    let all =
    i.words ∙ (ap (λ (answers : List Answer). words ++ front_words answers) (drop_all k m.answers (le_trans c.requires.few past)) ∙ append-nil words) in
    record {
      words = sym all;
      capacity = i.room;
      all = λ _. all_words c.args.words.now.items words (front_words m.answers) k size all i.count past
          (subst (λ (n : ℕ). k ≤ n) i.all c.operations.auto.k-end);
      stopped = λ part. absurd (false≢true (sym part));
    }
