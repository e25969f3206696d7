-- ByHand: a cycle that a caller carries by `next_call`, `put` and `end`.
use Rattle.std.proofs.Common.{ℕ, ◌≤◌, ◌≡◌, Bool, true, false, cond, refl, sym, ap, subst, ◌∙◌, List, [], ◌∷◌, ◌++◌, length, Option, None, ℤ, arith}
use Rattle.coded_unit.specs.declared.call.Call.{Call}
use Rattle.coded_unit.specs.declared.call.Answer.{Answer}
use Rattle.coded_unit.specs.Log.{Entry, GrowsBy, Counts}
use Rattle.coded_unit.specs.Right.{Right}
use Rattle.op_graph.specs.declared.op.Op.{Op}
use Rattle.coded_machine.specs.declared.cycle_end.CycleEnd.{CycleEnd}
use Rattle.coded_machine.specs.declared.cycle_end.CycleEnd.TheVariants as end
use Rattle.coded_machine.specs.Calls.{Setting, CallsOf, Next, Whole, Carried}
use Rattle.coded_machine.specs.CycleEnds.{end_of, end_or, outputs_of}
use Rattle.coded_machine.specs.Runs.{UnderWay, Ended, Turn}
use Rattle.coded_machine.specs.State.{State, given, setting, Finished, with_answer, with_answers, after_end, row_after}
use Rattle.coded_machine.proofs.Growth.{carried_on, one_carried}
use Rattle.coded_machine.proofs.Following.{answers_kept, after_same, end_same}
use Rattle.coded_machine.proofs.Turns.{only_answers, finished_whole}

-- the answers kept are those put in the cycle that ends
kept_case : (way : Bool) (ops : List Op) (answers : List Answer) → length answers ≤ length ops → Whole ops (cond way answers []) → answers ≡ cond way answers []
kept_case true ops answers few whole = refl
kept_case false [] [] few whole = refl
kept_case false [] (a ∷ answers) few whole = absurd (omega arith)
kept_case false (op ∷ ops) answers few whole = absurd whole

pub all_kept : (m : State) → length m.answers ≤ length m.graph.operations → Whole m.graph.operations (given m) → m.answers ≡ given m
all_kept m few whole = kept_case m.under_way m.graph.operations m.answers few whole

pub begins : (m : State) (row : List ℤ) → m.ended ≡ None → m.under_way ≡ false → UnderWay m m row []
begins m row going between = record {
  going = going;
  same = refl;
  calls_are = ap (λ b. CallsOf (setting m row) (cond b m.answers [])) (sym between);
}

pub goes_on : (old m n : State) (row : List ℤ) (calls : List Entry) (call : Call) (a : Answer) → UnderWay old m row calls → Next (setting m row) (given m) call
    → n ≡ with_answer m a →
    UnderWay old n row (calls ++ (call, a) ∷ [])
goes_on old m n row calls call a way next put =
    let s : Setting = setting old row in
    let begun : setting m row ≡ s = ap (λ (k : State). setting k row) way.same in
    let more : CallsOf s (given m ++ a ∷ []) ≡ CallsOf s (given m) ++ (call, a) ∷ [] = subst (λ z. Next z (given m) call) begun next a in
    record {
      going = way.going;
      same = only_answers old m n a way.same put;
      calls_are = ap (λ es. es ++ (call, a) ∷ []) way.calls_are ∙ sym more ∙ ap (λ (k : State). CallsOf s (given k)) (sym put);
    }

row_of_given : (old m : State) (e : CycleEnd) (out : List ℤ) → m ≡ record old { answers = m.answers; under_way = m.under_way }
    → row_after m e out ≡ row_after (with_answers old (given m)) e out
row_of_given old m end.Released out same = ap (λ (k : State). outputs_of k.graph (given m)) same
row_of_given old m (end.Stopped k why) out same = refl
row_of_given old m (end.Refused k found wanted) out same = refl

pub outputs_are : (old m : State) (row : List ℤ) (calls : List Entry) (e : CycleEnd) (out : List ℤ) → UnderWay old m row calls
    → row_after m e out ≡ row_after (with_answers old (given m)) e out
outputs_are old m row calls e out way = row_of_given old m e out way.same

pub ends : (old m n : State) (row : List ℤ) (calls : List Entry) (e : CycleEnd) → UnderWay old m row calls → Finished m
    → e ≡ end_or m.ended (end_of m.graph m.table m.cycles (given m)) → n ≡ after_end m e → n.answers ≡ given m →
    Ended old n row calls e
ends old m n row calls e way finished is machine put =
    let kept : n.answers ≡ m.answers = ap (λ (k : State). k.answers) machine ∙ answers_kept m e in
    let all : given m ≡ m.answers = sym put ∙ kept in
    let going : m.ended ≡ None = ap (λ (k : State). k.ended) way.same ∙ way.going in
    let whole : Whole m.graph.operations (given m) = finished_whole m going finished in
    let there : Whole old.graph.operations (given m) = subst (λ (k : State). Whole k.graph.operations (given m)) way.same whole in
    record {
      going = way.going;
      whole = subst (Whole old.graph.operations) (sym put) there;
      calls_are = way.calls_are ∙ ap (CallsOf (setting old row)) (sym put);
      end_is = is ∙ end_same old m way.going way.same all ∙ ap (end_of old.graph old.table old.cycles) (sym kept);
      machine = machine ∙ after_same old m e way.same all ∙ ap (λ xs. after_end (with_answers old xs) e) (sym kept);
    }

pub one_more_carried : (calls : List Entry) (call : Call) (a : Answer) (x y z : Option (List Entry)) (i j k : ℕ) → Carried calls x y i j
    → GrowsBy y z ((call, a) ∷ []) → Counts a (Right call) j k → Carried (calls ++ (call, a) ∷ []) x z i k
one_more_carried calls call a x y z i j k h grows counts = carried_on calls ((call, a) ∷ []) x y z i j k h (one_carried call a y z j k grows counts)

pub turn : (old new : State) (row : List ℤ) (calls : List Entry) (e : CycleEnd) (x y : Option (List Entry)) (i j : ℕ) → Ended old new row calls e
    → Carried calls x y i j → Turn old new row e x y i j
turn old new row calls e x y i j ended carried = record {
  going = ended.going;
  whole = ended.whole;
  carried = subst (λ es. Carried es x y i j) ended.calls_are carried;
  end_is = ended.end_is;
  machine = ended.machine;
}
