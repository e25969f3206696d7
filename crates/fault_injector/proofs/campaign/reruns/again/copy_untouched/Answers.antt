use Rattle.std.proofs.Common.{◌≡◌, ◌<◌, ◌≤◌, ℕ, ◌∷◌, [], sym, subst, ap, ◌∙◌, arith, get_or, length, refl, slice_get}
use Rattle.std.proofs.Math.Nat.{le_trans}
use Rattle.std.proofs.lemmas.List.{length-append}
use Rattle.coded_unit.specs.declared.call.Answer.TheVariants as answer
use Rattle.coded_machine.specs.Calls.{AllWords}
use Rattle.fault_injector.specs.Begun.{GoesOver, begun}
use Rattle.fault_injector.specs.Touched.{mark}
use Rattle.fault_injector.proofs.AgainRuns.{over_word, word_there, words_more}
use Rattle.fault_injector.proofs.ListsOfReruns.{there_is}
use Rattle.fault_injector.proofs.campaign.reruns.again.copy_untouched.Goals as goal

pub words-preserved : goal.words-preserved
words-preserved c =
    let i = c.words.invariant in
    let b = begun c.args.b.now in
    let first = c.args.own.now.items in
    let own = c.words.own.items in
    let k = c.words.k in
    let words = c.args.b.now.other.words.now in
    let w = get_or words k c.index-b-k.result in
    let more = c.append.ensures.items in
    let there = there_is b.setting.graph.operations (length own) (omega (arith, i.count, i.within, c.words-test.true)) in
    let longer = ap length more ∙ length-append own (answer.Word w ∷ []) in
    let untouched = ap (mark b.touched) i.count ∙ (sym c.mark.ensures ∙ c.if-mark.false) in
    let word = ap (slice_get b.other) i.count
    ∙ word_there words c.args.b.now.other.stop k c.index-b-k.result (omega (arith, i.there, c.words-test.true)) in
    record {
      over =
          subst (GoesOver b first) (sym more) (over_word b first own there.0 w there.1 untouched word i.over);
      words = λ all. subst AllWords (sym more) (words_more own (answer.Word w) (i.words all) refl);
      count = omega (arith, longer, i.count);
      from = omega (arith, i.from);
      there = i.there;
      within = i.within;
      few = omega (arith, longer, i.count, i.within, c.words-test.true);
      room = le_trans i.room c.append.ensures.capacity;
    }

room_there : (len k to many cap now : ℕ) → len ≡ k → k < to → to ≤ many → many ≤ cap → cap ≤ now → len < now
room_there len k to many cap now is below within room kept = omega (arith, is, below, within, room, kept)

pub append-requires : goal.append-requires
append-requires c =
    let i = c.words.invariant in
    room_there _ c.words.k _ _ _ _ i.count c.words-test.true i.within c.requires.room i.room

pub returns-then-mark : goal.returns-then-mark
returns-then-mark c =
    let i = c.words.invariant in
    record { over = i.over; words = i.words; few = i.few; longer = subst (λ n. length c.args.own.now.items ≤ n) (sym i.count) i.from; capacity = i.room }

pub returns : goal.returns
returns c =
    let i = c.words.invariant in
    record { over = i.over; words = i.words; few = i.few; longer = subst (λ n. length c.args.own.now.items ≤ n) (sym i.count) i.from; capacity = i.room }
