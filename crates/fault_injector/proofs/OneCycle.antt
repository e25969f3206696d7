-- OneCycle: what the rerun of a cycle begins with and comes to, by the values that the code has.
use Rattle.std.proofs.Common.{◌≡◌, ℕ, Bool, List, Option, Some, ℤ, ap, ◌∙◌}
use Rattle.coded_unit.specs.declared.call.Answer.{Answer}
use Rattle.op_graph.specs.Lists.{Lists}
use Rattle.signature_table.specs.Signatures.{Numbers}
use Rattle.coded_machine.specs.declared.cycle_end.CycleEnd.{CycleEnd}
use Rattle.coded_machine.specs.CycleEnds.{end_of, outputs_of}
use Rattle.coded_machine.specs.Runs.{setting_at}
use Rattle.fault_script.specs.declared.act.Act.{Act}
use Rattle.fault_script.specs.Changes.{Acts}
use Rattle.fault_injector.specs.declared.verdicts.Verdict.{Verdict}
use Rattle.fault_injector.specs.Verdicts.{judged}
use Rattle.vcp_base.specs.Differences.{first_difference}
use Rattle.fault_injector.specs.Reruns.{CycleAgain, cycle_again, read_cycle, refusal_in, stop_in}
use Rattle.fault_injector.specs.Touched.{cycle_marks}

pub rows_same : (a b : List ℤ) → Some a ≡ Some b → a ≡ b
rows_same a b e = cc

pub answers_same : (a b : List Answer) → Some a ≡ Some b → a ≡ b
answers_same a b e = cc

abbrev begins_with : Lists → Numbers → (ℕ → Option Act) → ℕ → List ℤ → List Answer → List ℤ → List ℤ → List Answer → List Bool → CycleAgain
begins_with g t acts n past_held past held row other touched = record {
  setting = setting_at g t n held row;
  acts = acts;
  past = record { held = past_held; answers = past };
  other = other;
  touched = touched;
}

pub marks_same : (g h : Lists) (acts : ℕ → Option Act) (cell_marks d : List Bool) (other o : List Answer) → h ≡ g → d ≡ cell_marks → o ≡ other
    → (cycle_marks h o acts d).given ≡ (cycle_marks g other acts cell_marks).given
marks_same g h acts cell_marks d other o graph cells answers =
    ap (λ (x : Lists). (cycle_marks x o acts d).given) graph
    ∙ (ap (λ (x : List Bool). (cycle_marks g o acts x).given) cells ∙ ap (λ (x : List Answer). (cycle_marks g x acts cell_marks).given) answers)

pub begins_same : (g h : Lists) (t u : Numbers) (acts : Acts) (n : ℕ) (past_held ph : List ℤ) (past pa : List Answer) (held hw : List ℤ)
    (cell_marks : List Bool) (row rv : List ℤ) (other o : List Answer) (touched : List Bool)
    → h ≡ g → u ≡ t → ph ≡ past_held → pa ≡ past → hw ≡ held → rv ≡ row → o ≡ other
    → touched ≡ (cycle_marks g other (acts n) cell_marks).given
    → begins_with h u (acts n) n ph pa hw rv o touched ≡ cycle_again t g acts n (record { held = past_held; answers = past }) held cell_marks row other
begins_same g h t u acts n past_held ph past pa held hw cell_marks row rv other o touched graph table first before cells inputs answers marks =
    ap (λ (x : Lists). begins_with x u (acts n) n ph pa hw rv o touched) graph
    ∙ (ap (λ (x : Numbers). begins_with g x (acts n) n ph pa hw rv o touched) table
    ∙ (ap (λ (x : List ℤ). begins_with g t (acts n) n x pa hw rv o touched) first
    ∙ (ap (λ (x : List Answer). begins_with g t (acts n) n past_held x hw rv o touched) before
    ∙ (ap (λ (x : List ℤ). begins_with g t (acts n) n past_held past x rv o touched) cells
    ∙ (ap (λ (x : List ℤ). begins_with g t (acts n) n past_held past held x o touched) inputs
    ∙ (ap (λ (x : List Answer). begins_with g t (acts n) n past_held past held row x touched) answers
    ∙ ap (λ (x : List Bool). begins_with g t (acts n) n past_held past held row other x) marks))))))

abbrev read_by : ℕ → CycleEnd → CycleEnd → Lists → List Answer → List Answer → Option Verdict
read_by n e f g own other = judged n (stop_in e) (refusal_in e) (stop_in f) (first_difference (outputs_of g own) (outputs_of g other) 0)

pub read_same : (g h : Lists) (t u : Numbers) (n : ℕ) (own d6 d7 other o : List Answer) (e f : CycleEnd) → h ≡ g → u ≡ t → d6 ≡ own → d7 ≡ own → o ≡ other
    → e ≡ end_of h u n d6 → f ≡ end_of g t n other → read_by n e f h d7 o ≡ read_cycle g t n own other
read_same g h t u n own d6 d7 other o e f graph table six seven answers end other_end =
    let end_is : e ≡ end_of g t n own =
    end ∙ (ap (λ (x : Lists). end_of x u n d6) graph ∙ (ap (λ (x : Numbers). end_of g x n d6) table ∙ ap (end_of g t n) six)) in
    ap (λ (x : CycleEnd). read_by n x f h d7 o) end_is
    ∙ (ap (λ (x : CycleEnd). read_by n (end_of g t n own) x h d7 o) other_end
    ∙ (ap (λ (x : Lists). read_by n (end_of g t n own) (end_of g t n other) x d7 o) graph
    ∙ (ap (λ (x : List Answer). read_by n (end_of g t n own) (end_of g t n other) g x o) seven
    ∙ ap (λ (x : List Answer). read_by n (end_of g t n own) (end_of g t n other) g own x) answers)))
