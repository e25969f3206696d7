-- Stopping: the calls of a cycle that stopped end in a stop.
use Rattle.std.proofs.Common.{ℕ, ℤ, zero, suc, ◌+◌, ◌<◌, ◌≤◌, ◌≡◌, ◌⊎◌, true, false, inl, inr, refl, ap, subst, sym, ◌∙◌, List, [], ◌∷◌, ◌++◌, append_assoc, length, length-append, slice_get, Option, Some, None, arith}
use Rattle.std.proofs.lemmas.Option.{slice_get_within}
use Rattle.vcp_base.specs.declared.kind.Kind.TheVariants as kind
use Rattle.vcp_base.specs.declared.kind.StopKind.{StopKind}
use Rattle.vcp_base.specs.declared.kind.StopKind.TheVariants as stop
use Rattle.vcp_base.specs.Types.{fits}
use Rattle.coded_unit.specs.declared.call.Answer.{Answer}
use Rattle.coded_unit.specs.declared.call.Answer.TheVariants as answer
use Rattle.coded_unit.specs.Log.{Entry, GrowsBy}
use Rattle.coded_unit.specs.Words.{value_part}
use Rattle.op_graph.specs.declared.op.Op.{Op}
use Rattle.op_graph.specs.declared.op.Outlet.{Outlet}
use Rattle.op_graph.specs.Laws.{EntryLaws}
use Rattle.op_graph.specs.Lists.{Lists}
use Rattle.op_graph.specs.Rules.{IsGraph}
use Rattle.signature_table.specs.Signatures.{Numbers}
use Rattle.coded_machine.specs.declared.cycle_end.CycleEnd.{CycleEnd}
use Rattle.coded_machine.specs.declared.cycle_end.CycleEnd.TheVariants as end
use Rattle.coded_machine.specs.Calls.{Setting, CallsOf, calls_from, call_of, Whole, AllWords, word_of, word_at}
use Rattle.coded_machine.specs.CycleEnds.{Cause, end_of, end_or, first_outside, first_refused, first_stop, stop_of, stop_or}
use Rattle.coded_machine.specs.Runs.{Turn}
use Rattle.coded_machine.specs.State.{State, after_end, setting, with_answers}
use Rattle.coded_machine.specs.Stops.{AreWordsOf, EndInStop, answered, outside, GrowsToStop}
use Rattle.coded_machine.proofs.Outs.{IsOut, output_is_out}

-- entries end in a stop with one before them, too
one_before : (e : Entry) (entries : List Entry) (n k : ℕ) (why : StopKind) → EndInStop entries n k why → EndInStop (e ∷ entries) n k why
one_before e entries n k why (answered earlier call a is cycle op stops) = answered (e ∷ earlier) call a (ap (λ (l : List Entry). e ∷ l) is) cycle op stops
one_before e entries n k why (outside earlier later call a is op operand out beyond words) =
    outside (e ∷ earlier) later call a (ap (λ (l : List Entry). e ∷ l) is) op operand out beyond words

-- entries whose last call, in this cycle, is answered by a stop, which is the first one among the answers, counted from n
record EndsInFirst (entries : List Entry) (cycle n : ℕ) (answers : List Answer) : Type 0 where
  at : ℕ
  why : StopKind
  ends : EndInStop entries cycle at why
  first : first_stop n answers ≡ Some (end.Stopped at why)

word_before : (e : Entry) (entries : List Entry) (cycle n m : ℕ) (w : ℤ) (answers : List Answer) → m ≡ suc n → EndsInFirst entries cycle m answers
    → EndsInFirst (e ∷ entries) cycle n (answer.Word w ∷ answers)
word_before e entries cycle n m w answers next h = record {
  at = h.at;
  why = h.why;
  ends = one_before e entries cycle h.at h.why h.ends;
  first = subst (λ (i : ℕ). first_stop i answers ≡ Some (end.Stopped h.at h.why)) next h.first;
}

-- every operation is answered by a word
record AllAnswered (ops : List Op) (answers : List Answer) : Type 0 where
  words : AllWords answers
  all : length answers ≡ length ops

one_more_word : (op : Op) (ops : List Op) (w : ℤ) (answers : List Answer) → AllAnswered ops answers → AllAnswered (op ∷ ops) (answer.Word w ∷ answers)
one_more_word op ops w answers h = record { words = (refl, h.words); all = ap suc h.all }

one_longer : (before : List Answer) (a : Answer) → length (before ++ a ∷ []) ≡ suc (length before)
one_longer before a = simp length-append (omega arith)

module _ (s : Setting) where
  -- the last call is answered by a stop
  last_call : (before : List Answer) (op : Op) (ops : List Op) (a : Answer) (why : StopKind) (answers : List Answer) → stop_of a ≡ Some why → answers ≡ []
      → EndsInFirst (calls_from s before (op ∷ ops) (a ∷ answers)) s.cycle (length before) (a ∷ answers)
  last_call before op ops a why answers stops none = record {
    at = length before;
    why = why;
    ends = answered [] (call_of s op before) a
        (ap (λ (l : List Answer). (call_of s op before, a) ∷ calls_from s (before ++ a ∷ []) ops l) none) refl refl stops;
    first = ap (λ (o : Option StopKind). stop_or (length before) o (first_stop (suc (length before)) answers)) stops;
  }

  stop_or_words : (before : List Answer) (ops : List Op) (answers : List Answer) → Whole ops answers
      → EndsInFirst (calls_from s before ops answers) s.cycle (length before) answers ⊎ AllAnswered ops answers
  stop_or_words before [] [] whole = inr (record { words = tt; all = refl })
  stop_or_words before [] (a ∷ answers) whole = absurd whole
  stop_or_words before (op ∷ ops) [] whole = absurd whole
  stop_or_words before (op ∷ ops) (answer.Word w ∷ answers) whole =
      elim (stop_or_words (before ++ answer.Word w ∷ []) ops answers whole) [
        | inl h ↦ inl (word_before (call_of s op before, answer.Word w) (calls_from s (before ++ answer.Word w ∷ []) ops answers) s.cycle (length before)
            (length (before ++ answer.Word w ∷ [])) w answers (one_longer before (answer.Word w)) h)
        | inr h ↦ inr (one_more_word op ops w answers h)
      ]
  stop_or_words before (op ∷ ops) (answer.Range ∷ answers) whole = inl (last_call before op ops answer.Range stop.Range answers refl whole)
  stop_or_words before (op ∷ ops) (answer.DivZero ∷ answers) whole = inl (last_call before op ops answer.DivZero stop.DivZero answers refl whole)
  stop_or_words before (op ∷ ops) (answer.Operand ∷ answers) whole = inl (last_call before op ops answer.Operand stop.Operand answers refl whole)

  are_words : (before : List Answer) (ops : List Op) (answers : List Answer) → AllWords answers → AreWordsOf s.cycle (calls_from s before ops answers)
  are_words before ops [] words = tt
  are_words before [] (a ∷ answers) words = tt
  are_words before (op ∷ ops) (a ∷ answers) words = (refl, words.0, are_words (before ++ a ∷ []) ops answers words.1)

  -- the word of an OUT is outside its type
  out_stops : (before : List Answer) (ops : List Op) (answers : List Answer) (k : ℕ) (op : Op) → slice_get ops k ≡ Some op → op.kind ≡ kind.Out →
      AllWords answers → k < length answers → fits op.ty (value_part s.graph.profile (word_at answers k)) ≡ false
      → EndInStop (calls_from s before ops answers) s.cycle (length before + k) stop.Operand
  out_stops before ops [] k op there is words few beyond = absurd (omega arith)
  out_stops before [] (a ∷ answers) k op there is words few beyond = absurd cc
  out_stops before (p ∷ ops) (a ∷ answers) zero op there is words few beyond =
      let same : op ≡ p = cc in
      outside [] (calls_from s (before ++ a ∷ []) ops answers) (call_of s p before) a refl (omega arith) refl
      (subst (λ (x : Op). x.kind ≡ kind.Out) same is)
      (subst (λ (x : Op). fits x.ty (value_part s.graph.profile (word_of a)) ≡ false) same beyond)
      (are_words before (p ∷ ops) (a ∷ answers) words)
  out_stops before (p ∷ ops) (a ∷ answers) (suc k) op there is words few beyond =
      let mine : List Answer = before ++ a ∷ [] in
      let place : length mine + k ≡ length before + suc k = omega (arith, one_longer before a) in
      one_before (call_of s p before, a) (calls_from s mine ops answers) s.cycle (length before + suc k) stop.Operand
      (subst (λ (i : ℕ). EndInStop (calls_from s mine ops answers) s.cycle i stop.Operand) place
      (out_stops mine ops answers k op there is words.1 (omega arith) beyond))

-- no word is a stop
no_stop : (answers : List Answer) (k : ℕ) (a : Answer) (why : StopKind) → AllWords answers → slice_get answers k ≡ Some a → stop_of a ≡ Some why → ⊥
no_stop [] k a why words there stops = cc
no_stop (answer.Word w ∷ answers) zero a why words there stops =
    let same : answer.Word w ≡ a = cc in
    let none : stop_of (answer.Word w) ≡ Some why = subst (λ x. stop_of x ≡ Some why) (sym same) stops in cc
no_stop (answer.Range ∷ answers) zero a why words there stops = let first : false ≡ true = words.0 in cc
no_stop (answer.DivZero ∷ answers) zero a why words there stops = let first : false ≡ true = words.0 in cc
no_stop (answer.Operand ∷ answers) zero a why words there stops = let first : false ≡ true = words.0 in cc
no_stop (b ∷ answers) (suc k) a why words there stops = no_stop answers k a why words.1 there stops

there_is : {X : Type 0} (xs : List X) (k : ℕ) → k < length xs → (x : X) × (slice_get xs k ≡ Some x)
there_is [] k few = absurd (omega arith)
there_is (x ∷ xs) zero few = (x, refl)
there_is (x ∷ xs) (suc k) few = there_is xs k (omega arith)

-- the calls of a cycle that stopped end in its stop
cycle_ends : EntryLaws → (s : Setting) (t : Numbers) (n : ℕ) (answers : List Answer) (k : ℕ) (why : StopKind) → IsGraph s.graph
    → Whole s.graph.operations answers → Cause s.graph t n answers (end.Stopped k why) → end.Stopped k why ≡ end_of s.graph t n answers
    → EndInStop (CallsOf s answers) s.cycle k why
cycle_ends laws s t n answers k why graph whole cause end_is =
    elim (stop_or_words s [] s.graph.operations answers whole) [
      | inl h ↦
          let g = s.graph in
          let later : CycleEnd = end_or (first_outside g.profile answers g.outputs) (end_or (first_refused g.profile t n answers 0 g.outputs) end.Released) in
          let same : end.Stopped k why ≡ end.Stopped h.at h.why = end_is ∙ ap (λ (o : Option CycleEnd). end_or o later) h.first in
          let place : h.at ≡ k = cc in
          let cause_is : h.why ≡ why = cc in
          subst (λ (i : ℕ). EndInStop (CallsOf s answers) s.cycle i why) place
          (subst (λ (x : StopKind). EndInStop (CallsOf s answers) s.cycle h.at x) cause_is h.ends)
      | inr h ↦ elim cause [
        | inl x ↦ absurd (no_stop answers k x.0 why h.words x.1 x.2)
        | inr x ↦
            let g = s.graph in
            let o : Outlet = x.1.1 in
            let few : o.op < length g.operations = (laws.output g x.1.0 o graph.part x.1.2).operation in
            let here = there_is g.operations o.op few in
            let out : IsOut here.0 o.ty = output_is_out laws g x.1.0 o here.0 graph x.1.2 here.1 in
            let beyond : fits here.0.ty (value_part g.profile (word_at answers o.op)) ≡ false =
            rw out.ty (subst (λ i. fits o.ty (value_part g.profile (word_at answers i)) ≡ false) (sym x.1.3) x.1.4) in
            let none : List Answer = [] in
            let place : length none + o.op ≡ k = omega (arith, x.1.3) in
            subst (λ (y : StopKind). EndInStop (CallsOf s answers) s.cycle k y) (sym x.0)
            (subst (λ (i : ℕ). EndInStop (CallsOf s answers) s.cycle i stop.Operand) place
            (out_stops s none g.operations answers o.op here.0 here.1 out.kind h.words (omega (arith, few, h.all)) beyond))
      ]
    ]

-- ---- the log of a run whose last cycle stopped

more_before : (entries more : List Entry) (n k : ℕ) (why : StopKind) → EndInStop more n k why → EndInStop (entries ++ more) n k why
more_before [] more n k why h = h
more_before (e ∷ entries) more n k why h = one_before e (entries ++ more) n k why (more_before entries more n k why h)

grows_on : (x y z : Option (List Entry)) (es fs : List Entry) → GrowsBy x y es → GrowsBy y z fs → GrowsBy x z (es ++ fs)
grows_on (Some x) (Some y) (Some z) es fs h k = rw (k, h) (append_assoc x es fs)
grows_on (Some x) (Some y) None es fs h k = tt
grows_on (Some x) None None es fs h k = tt
grows_on None None None es fs h k = tt
grows_on None None (Some z) es fs h k = absurd k
grows_on None (Some y) z es fs h k = absurd h
grows_on (Some x) None (Some z) es fs h k = absurd k

pub stopped_log : EntryLaws
    → (m o : State) (row : List ℤ) (e : CycleEnd) (k : ℕ) (why : StopKind) (x y z : Option (List Entry)) (earlier : List Entry) (i j : ℕ) → IsGraph m.graph
    → Turn m o row e y z i j → Cause m.graph m.table m.cycles o.answers e → e ≡ end.Stopped k why → GrowsBy x y earlier
    → GrowsToStop x z m.cycles k why
stopped_log laws m o row e k why x y z earlier i j graph turn cause is h =
    let last = CallsOf (setting m row) o.answers in
    let ends : EndInStop last m.cycles k why =
    cycle_ends laws (setting m row) m.table m.cycles o.answers k why graph turn.whole (subst (Cause m.graph m.table m.cycles o.answers) is cause)
    (sym is ∙ turn.end_is) in
    (earlier ++ last, grows_on x y z earlier last h turn.carried.told, more_before earlier last m.cycles k why ends)

-- a stop is not counted
stop_counts : (m o : State) (row : List ℤ) (e : CycleEnd) (k : ℕ) (why : StopKind) (y z : Option (List Entry)) (i j : ℕ) → Turn m o row e y z i j
    → e ≡ end.Stopped k why → m.cycles ≡ o.cycles
stop_counts m o row e k why y z i j turn is = sym (ap (λ (s : State). s.cycles) (turn.machine ∙ ap (after_end (with_answers m o.answers)) is))

-- so it is in the cycle that the machine is in afterwards
pub stopped_counted : EntryLaws
    → (m o : State) (row : List ℤ) (e : CycleEnd) (k : ℕ) (why : StopKind) (x y z : Option (List Entry)) (earlier : List Entry) (i j : ℕ) → IsGraph m.graph
    → Turn m o row e y z i j → Cause m.graph m.table m.cycles o.answers e → e ≡ end.Stopped k why → GrowsBy x y earlier → GrowsToStop x z o.cycles k why
stopped_counted laws m o row e k why x y z earlier i j graph turn cause is h =
    subst (λ (n : ℕ). GrowsToStop x z n k why) (stop_counts m o row e k why y z i j turn is)
    (stopped_log laws m o row e k why x y z earlier i j graph turn cause is h)

-- ---- where a cycle stopped, or was refused

whole_length : (ops : List Op) (answers : List Answer) → Whole ops answers → length answers ≤ length ops
whole_length [] [] whole = omega arith
whole_length [] (a ∷ answers) whole = absurd whole
whole_length (op ∷ ops) [] whole = absurd whole
whole_length (op ∷ ops) (answer.Word w ∷ answers) whole = omega (arith, whole_length ops answers whole)
whole_length (op ∷ ops) (answer.Range ∷ answers) whole = omega (arith, ap length whole)
whole_length (op ∷ ops) (answer.DivZero ∷ answers) whole = omega (arith, ap length whole)
whole_length (op ∷ ops) (answer.Operand ∷ answers) whole = omega (arith, ap length whole)

-- a stop is at an operation
pub stop_placed : EntryLaws → (g : Lists) (t : Numbers) (n : ℕ) (answers : List Answer) (e : CycleEnd) (k : ℕ) (why : StopKind) → IsGraph g
    → Whole g.operations answers → Cause g t n answers e → e ≡ end.Stopped k why → k < length g.operations
stop_placed laws g t n answers e k why graph whole cause is =
    let here : Cause g t n answers (end.Stopped k why) = subst (Cause g t n answers) is cause in
    elim here [
      | inl x ↦ omega (arith, slice_get_within answers k x.0 x.1, whole_length g.operations answers whole)
      | inr x ↦ omega (arith, (laws.output g x.1.0 x.1.1 graph.part x.1.2).operation, x.1.3)
    ]

-- a refusal is of an output
pub refusal_numbered : (g : Lists) (t : Numbers) (n : ℕ) (answers : List Answer) (e : CycleEnd) (i found wanted : ℕ) → Cause g t n answers e
    → e ≡ end.Refused i found wanted → i < length g.outputs
refusal_numbered g t n answers e i found wanted cause is =
    let here : Cause g t n answers (end.Refused i found wanted) = subst (Cause g t n answers) is cause in
    slice_get_within g.outputs i here.0 here.1
