-- Turns: what a machine's state says of the call to come.
use Rattle.std.proofs.Common.{ℕ, ℤ, ◌<◌, ◌≤◌, ◌-◌, ◌≡◌, sym, ap, subst, ◌∙◌, List, [], ◌∷◌, ◌++◌, length, length-append, Option, None, Bool, true, false, not, cond}
use Rattle.std.proofs.Common.{arith, inl, inr}
use Rattle.coded_unit.specs.declared.call.Call.{Call}
use Rattle.coded_unit.specs.declared.call.Answer.{Answer}
use Rattle.coded_unit.specs.Log.{Entry, GrowsBy, Counts}
use Rattle.coded_unit.specs.Right.{Right}
use Rattle.op_graph.specs.declared.op.Op.{Op}
use Rattle.coded_machine.specs.Calls.{Setting, CallsOf, Next, Carried, is_word, AllWords, Whole}
use Rattle.coded_machine.specs.State.{State, given, setting, Awaits, Finished, with_answer}
use Rattle.coded_machine.specs.Sound.{Sound}
use Rattle.coded_machine.proofs.Growth.{whole_words, whole_end, whole_stop, words_more, carried_on, nothing_carried, one_carried}

pub finished_not_awaits : (m : State) → Finished m → Awaits m → ⊥
finished_not_awaits m (inl h) w = h w.going
finished_not_awaits m (inr h) w = let e = whole_words m.graph.operations (given m) h w.words in omega (arith, e, w.left)

given_few : (b : Bool) (answers : List Answer) → length (cond b answers []) ≤ length answers
given_few true answers = omega arith
given_few false answers = omega arith

pub few_given : (m : State) (halted : Bool) (capacity : ℕ) → Sound m halted capacity → length (given m) ≤ length m.graph.operations
few_given m halted capacity s = let h = given_few m.under_way m.answers in omega (arith, h, s.few)

pub halted_finished : (m : State) (capacity : ℕ) → Sound m true capacity → Finished m
halted_finished m capacity s = inr s.progress

pub all_finished : (m : State) (capacity : ℕ) → Sound m false capacity → length m.graph.operations ≤ length (given m) → Finished m
all_finished m capacity s h = inr (whole_end m.graph.operations (given m) s.progress (omega (arith, few_given m false capacity s)))

-- a machine that goes on after one more answer
progress_case : (ops : List Op) (answers : List Answer) (a : Answer) (word : Bool) → is_word a ≡ word → AllWords answers → length answers < length ops
    → cond (not word) (Whole ops (answers ++ a ∷ [])) (AllWords (answers ++ a ∷ []))
progress_case ops answers a true e w h = words_more answers a w e
progress_case ops answers a false e w h = whole_stop ops answers a w e h

pub sound_with_answer : (m : State) (a : Answer) (halted word : Bool) (capacity more : ℕ) → Sound m halted capacity → Awaits m → is_word a ≡ word
    → capacity ≤ more → Sound (with_answer m a) (not word) more
sound_with_answer m a halted word capacity more s w e h = record {
  graph = s.graph;
  table = s.table;
  table_of = s.table_of;
  room = omega (arith, s.room);
  cells = s.cells;
  few = simp length-append (omega (arith, w.left));
  progress = progress_case m.graph.operations (given m) a word e w.words w.left;
  cycles = s.cycles;
  closed = rw w.going tt;
}

pub finished_whole : (m : State) → m.ended ≡ None → Finished m → Whole m.graph.operations (given m)
finished_whole m e (inl h) = absurd (h e)
finished_whole m e (inr h) = h

-- ---- one turn of carrying a cycle

-- a cycle that was begun has changed nothing but the answers
pub begun_same : (m first : State) → m ≡ record first { answers = []; under_way = true } → m ≡ record first { answers = m.answers; under_way = m.under_way }
begun_same m first e = e ∙ ap (λ (k : State). record first { answers = k.answers; under_way = k.under_way }) (sym e)

-- and made no call
pub begun_carried : (m first : State) (row : List ℤ) (x : Option (List Entry)) (i : ℕ) → m ≡ record first { answers = []; under_way = true } →
    Carried (CallsOf (setting first row) (given m)) x x i i
begun_carried m first row x i e = subst (λ (k : State). Carried (CallsOf (setting first row) (given k)) x x i i) (sym e) (nothing_carried x i)

-- with each answer fewer operations are left
pub turn_smaller : (m n : State) (a : Answer) → n ≡ with_answer m a → Awaits m →
    length n.graph.operations - length (given n) < length m.graph.operations - length (given m)
turn_smaller m n a e w = rw e (simp length-append (omega (arith, w.left)))

-- the answers of a whole cycle are so by the graph that it began with
pub whole_kept : (first m : State) → m ≡ record first { answers = m.answers; under_way = m.under_way } → given m ≡ m.answers →
    Whole m.graph.operations (given m) → Whole first.graph.operations m.answers
whole_kept first m same e w = subst (Whole first.graph.operations) e (subst (λ (k : State). Whole k.graph.operations (given m)) same w)

-- nothing of the machine has changed but its answers
pub only_answers : (first m n : State) (a : Answer) → m ≡ record first { answers = m.answers; under_way = m.under_way } → n ≡ with_answer m a →
    n ≡ record first { answers = n.answers; under_way = n.under_way }
only_answers first m n a same e =
    let there : with_answer m a ≡ record first { answers = given m ++ a ∷ []; under_way = true } =
    ap (λ (k : State). record k { answers = given m ++ a ∷ []; under_way = true }) same in
    e ∙ there ∙ ap (λ (k : State). record first { answers = k.answers; under_way = k.under_way }) (sym e)

pub carried_turn : (first m n : State) (row : List ℤ) (call : Call) (a : Answer) (x y z : Option (List Entry)) (i j k : ℕ)
    → m ≡ record first { answers = m.answers; under_way = m.under_way } → n ≡ with_answer m a →
    Next (setting m row) (given m) call → Carried (CallsOf (setting first row) (given m)) x y i j → GrowsBy y z ((call, a) ∷ []) → Counts a (Right call) j k →
    Carried (CallsOf (setting first row) (given n)) x z i k
carried_turn first m n row call a x y z i j k same e next h g counts =
    let one : Setting = setting first row in
    let begun : setting m row ≡ one = ap (λ (s : State). setting s row) same in
    let more : CallsOf one (given m ++ a ∷ []) ≡ CallsOf one (given m) ++ (call, a) ∷ [] = subst (λ s. Next s (given m) call) begun next a in
    let all : CallsOf one (given n) ≡ CallsOf one (given m) ++ (call, a) ∷ [] = ap (λ (s : State). CallsOf one (given s)) e ∙ more in
    subst (λ es. Carried es x z i k) (sym all) (carried_on (CallsOf one (given m)) ((call, a) ∷ []) x y z i j k h (one_carried call a y z j k g counts))
