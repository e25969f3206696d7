-- Growth: one more call.
use Rattle.std.proofs.Common.{ℕ, suc, ◌-◌, ◌^◌, ◌<◌, ◌≤◌, ◌≡◌, refl, sym, ap, subst, ◌∙◌, List, [], ◌∷◌, ◌++◌, length, Option, Some, None, slice_get}
use Rattle.std.proofs.Common.{append_assoc, append-nil, arith, true, false, cond, inl, inr}
use Rattle.coded_unit.specs.declared.call.Call.{Call}
use Rattle.coded_unit.specs.declared.call.Answer.{Answer}
use Rattle.coded_unit.specs.Log.{Entry, GrowsBy, Counts}
use Rattle.coded_unit.specs.Right.{Right}
use Rattle.op_graph.specs.declared.op.Op.{Op}
use Rattle.coded_machine.specs.Calls.{Setting, calls_from, call_of, Next, Whole, AllRight, AllWords, Carried, is_word}

calls_more : (s : Setting) (before : List Answer) (ops : List Op) (answers : List Answer) (a : Answer) (op : Op) → slice_get ops (length answers) ≡ Some op →
    calls_from s before ops (answers ++ a ∷ []) ≡ calls_from s before ops answers ++ (call_of s op (before ++ answers), a) ∷ []
calls_more s before [] answers a op there = absurd cc
calls_more s before (x ∷ ops) [] a op there =
    let same : x ≡ op = cc in
    ap (λ o. (call_of s o before, a) ∷ []) same ∙ ap (λ b. (call_of s op b, a) ∷ []) (sym (append-nil before))
calls_more s before (x ∷ ops) (y ∷ answers) a op there =
    ap (λ es. (call_of s x before, y) ∷ es)
    (calls_more s (before ++ y ∷ []) ops answers a op there
    ∙ ap (λ b. calls_from s (before ++ y ∷ []) ops answers ++ (call_of s op b, a) ∷ []) (append_assoc before (y ∷ []) answers))

-- the call of the operation that comes after these answers is the next one
pub next_is : (s : Setting) (answers : List Answer) (op : Op) → slice_get s.graph.operations (length answers) ≡ Some op → Next s answers (call_of s op answers)
next_is s answers op there = λ a. calls_more s [] s.graph.operations answers a op there

pub grows_on : (x y z : Option (List Entry)) (es fs : List Entry) → GrowsBy x y es → GrowsBy y z fs → GrowsBy x z (es ++ fs)
grows_on (Some x) (Some y) (Some z) es fs h k = rw (k, h) (append_assoc x es fs)
grows_on (Some x) (Some y) None es fs h k = tt
grows_on (Some x) None None es fs h k = tt
grows_on None None None es fs h k = tt
grows_on None None (Some z) es fs h k = absurd k
grows_on None (Some y) z es fs h k = absurd h
grows_on (Some x) None (Some z) es fs h k = absurd k

pub grows_by_none : (x : Option (List Entry)) → GrowsBy x x []
grows_by_none (Some es) = sym (append-nil es)
grows_by_none None = tt

pub all_right_more : (es fs : List Entry) → AllRight es → AllRight fs → AllRight (es ++ fs)
all_right_more [] fs h k = k
all_right_more (x ∷ es) fs h k = (h.0, all_right_more es fs h.1 k)

pub right_front : (es fs : List Entry) → AllRight (es ++ fs) → AllRight es × AllRight fs
right_front [] fs h = (tt, h)
right_front (e ∷ es) fs h = let r = right_front es fs h.1 in ((h.0, r.0), r.1)

-- ---- answers

pub words_more : (answers : List Answer) (a : Answer) → AllWords answers → is_word a ≡ true → AllWords (answers ++ a ∷ [])
words_more [] a h k = (k, tt)
words_more (x ∷ answers) a h k = (h.0, words_more answers a h.1 k)

pub whole_end : (ops : List Op) (answers : List Answer) → AllWords answers → length answers ≡ length ops → Whole ops answers
whole_end [] [] h k = tt
whole_end [] (a ∷ answers) h k = absurd (omega arith)
whole_end (op ∷ ops) [] h k = absurd (omega arith)
whole_end (op ∷ ops) (a ∷ answers) h k = rw h.0 (whole_end ops answers h.1 (omega arith))

pub whole_stop : (ops : List Op) (answers : List Answer) (a : Answer) → AllWords answers → is_word a ≡ false → length answers < length ops
    → Whole ops (answers ++ a ∷ [])
whole_stop [] answers a h k l = absurd (omega arith)
whole_stop (op ∷ ops) [] a h k l = rw k refl
whole_stop (op ∷ ops) (x ∷ answers) a h k l = rw h.0 (whole_stop ops answers a h.1 k (omega arith))

pub whole_words : (ops : List Op) (answers : List Answer) → Whole ops answers → AllWords answers → length answers ≡ length ops
whole_words [] [] w h = refl
whole_words [] (a ∷ answers) w h = absurd w
whole_words (op ∷ ops) [] w h = absurd w
whole_words (op ∷ ops) (a ∷ answers) w h = ap suc (whole_words ops answers (subst (λ b. cond b (Whole ops answers) (answers ≡ [])) h.0 w) h.1)

-- ---- units

-- a count never falls, and stays only at a right answer
counts_up : (given right : Answer) (before now : ℕ) → Counts given right before now → before ≤ now
counts_up given right before now (inl h) = omega arith
counts_up given right before now (inr h) = grind arith

counts_right : (given right : Answer) (before now : ℕ) → Counts given right before now → now ≡ before → before < 2 ^ 64 - 1 → given ≡ right
counts_right given right before now (inl h) e l = h.0
counts_right given right before now (inr h) e l = absurd (grind arith)

-- one call after another
pub carried_on : (es fs : List Entry) (x y z : Option (List Entry)) (m n o : ℕ) → Carried es x y m n → Carried fs y z n o → Carried (es ++ fs) x z m o
carried_on es fs x y z m n o h k = record {
  told = grows_on x y z es fs h.told k.told;
  never_falls = omega (arith, h.never_falls, k.never_falls);
  honest = λ e b. all_right_more es fs (h.honest (omega (arith, h.never_falls, k.never_falls)) b)
      (k.honest (omega (arith, h.never_falls, k.never_falls)) (omega (arith, h.never_falls, k.never_falls)));
}

-- one call
pub one_carried : (call : Call) (a : Answer) (y z : Option (List Entry)) (n o : ℕ) → GrowsBy y z ((call, a) ∷ []) → Counts a (Right call) n o
    → Carried ((call, a) ∷ []) y z n o
one_carried call a y z n o g k = record { told = g; never_falls = counts_up a (Right call) n o k; honest = λ e b. (counts_right a (Right call) n o k e b, tt) }

pub nothing_carried : (x : Option (List Entry)) (m : ℕ) → Carried [] x x m m
nothing_carried x m = record { told = grows_by_none x; never_falls = omega arith; honest = λ _ _. tt }
