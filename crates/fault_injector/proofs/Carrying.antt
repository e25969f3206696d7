-- Carrying: one call through the faults of a group.
use Rattle.std.proofs.Common.{◌≡◌, ℕ, ◌-◌, ◌^◌, ◌<◌, Bool, true, false, cond, List, [], ◌∷◌, ◌++◌, Option, Some, None, ℤ, zero, suc, refl, sym}
use Rattle.std.proofs.Common.{ap, subst, ◌∙◌, arith, inl, inr}
use Rattle.std.proofs.lemmas.Bool.Decides.{nat_tests}
use Rattle.coded_unit.specs.declared.call.Call.{Call}
use Rattle.coded_unit.specs.declared.call.Answer.{Answer}
use Rattle.coded_unit.specs.declared.call.Answer.TheVariants as answer
use Rattle.coded_unit.specs.Asked.{Asked}
use Rattle.coded_unit.specs.Log.{Entry, GrowsBy, Counts, one_more}
use Rattle.coded_unit.specs.Right.{Right}
use Rattle.fault_script.specs.declared.act.Act.{Act}
use Rattle.fault_script.specs.declared.act.Act.TheVariants as act
use Rattle.fault_script.specs.declared.act.Fault.{Fault}
use Rattle.fault_script.specs.Changes.{with_operand, changed, answered, is_skip, act_at_call}
use Rattle.fault_injector.specs.declared.runs.scripted.Carried.{Carried}
use Rattle.fault_injector.specs.Carried.{faults_of, keeps_of}
use Rattle.coded_unit.specs.Seen.{StoodStill}
use Rattle.fault_injector.specs.Scripts.{passed_by, handed_by, skips_by, right_by, word_at_call, right_under, Performed}

-- ---- the call that is passed on may be asked

pub with_operand_asked : (call : Call) (j : ℕ) (w : ℤ) → Asked call → Asked (with_operand call j w)
with_operand_asked call zero w h = record { corr = h.corr; stamp = h.stamp; from = h.from; ty = h.ty }
with_operand_asked call (suc zero) w h = record { corr = h.corr; stamp = h.stamp; from = h.from; ty = h.ty }
with_operand_asked call (suc (suc j)) w h = record { corr = h.corr; stamp = h.stamp; from = h.from; ty = h.ty }

pub changed_asked : (a : Act) (w : ℤ) (call : Call) → Asked call → Asked (changed a w call)
changed_asked (act.OperandAdd j e) w call h = with_operand_asked call j _ h
changed_asked (act.OperandFrom j r) w call h = with_operand_asked call j w h
changed_asked (act.OperandStale j) w call h = with_operand_asked call j w h
changed_asked (act.ResultAdd e) w call h = h
changed_asked (act.Operator kind) w call h = record { corr = h.corr; stamp = h.stamp; from = h.from; ty = h.ty }
changed_asked act.Skip w call h = h

-- ---- what a group makes of a call, by the act that is carried out

performed_by : (faults : List Fault) (keeps : List (Option ℤ)) (call : Call) (result : Answer) (x y : Option (List Entry)) (i j : ℕ) (a : Option Act)
    (w : ℤ) (inner : Answer) →
    act_at_call faults keeps call ≡ a → word_at_call faults keeps call ≡ w → result ≡ handed_by a w inner →
    GrowsBy x y (cond (skips_by a) [] ((passed_by a w call, inner) ∷ [])) →
    cond (skips_by a) (j ≡ i) (Counts inner (Right (passed_by a w call)) i j) → Performed faults keeps call result x y i j
performed_by faults keeps call result x y i j a w inner e h gives told counted =
    let Logs : Option Act → ℤ → Type 0 = λ b v. GrowsBy x y (cond (skips_by b) [] ((passed_by b v call, inner) ∷ [])) in
    let Rises : Option Act → ℤ → Type 0 = λ b v. cond (skips_by b) (j ≡ i) (Counts inner (Right (passed_by b v call)) i j) in
    let word = word_at_call faults keeps call in
    record {
      inner = inner;
      gives = gives ∙ (ap (λ (b : Option Act). handed_by b w inner) (sym e) ∙ ap (λ (v : ℤ). handed_by (act_at_call faults keeps call) v inner) (sym h));
      told = subst (λ (b : Option Act). Logs b word) (sym e) (subst (λ (v : ℤ). Logs a v) (sym h) told);
      counted = subst (λ (b : Option Act). Rises b word) (sym e) (subst (λ (v : ℤ). Rises a v) (sym h) counted);
    }

-- a log that is told grows by nothing at no call
stays : (x : Option (List Entry)) → GrowsBy x x []
stays None = tt
stays (Some es) = none es
  where
    none : (es : List Entry) → es ≡ es ++ []
    none [] = refl
    none (e ∷ es) = ap (λ (more : List Entry). e ∷ more) (none es)

-- the call of another operation or cycle, or one that lacks the word that the act takes
pub unchanged : (faults : List Fault) (keeps : List (Option ℤ)) (call : Call) (result : Answer) (x y : Option (List Entry)) (i j : ℕ) →
    act_at_call faults keeps call ≡ None → GrowsBy x y ((call, result) ∷ []) → Counts result (Right call) i j → Performed faults keeps call result x y i j
unchanged faults keeps call result x y i j none told counted =
    performed_by faults keeps call result x y i j None (word_at_call faults keeps call) result none refl refl told counted

-- a call that isn't done
pub skipped : (faults : List Fault) (keeps : List (Option ℤ)) (call : Call) (a : Act) (w : ℤ) (x : Option (List Entry)) (i : ℕ) →
    act_at_call faults keeps call ≡ Some a → is_skip a ≡ true → word_at_call faults keeps call ≡ w →
    Performed faults keeps call (answer.Word w) x x i i
skipped faults keeps call act.Skip w x i is skip same =
    performed_by faults keeps call (answer.Word w) x x i i (Some act.Skip) w answer.Operand is same refl (stays x) refl
skipped faults keeps call (act.OperandAdd j e) w x i is skip same = absurd cc
skipped faults keeps call (act.OperandFrom j r) w x i is skip same = absurd cc
skipped faults keeps call (act.OperandStale j) w x i is skip same = absurd cc
skipped faults keeps call (act.ResultAdd e) w x i is skip same = absurd cc
skipped faults keeps call (act.Operator kind) w x i is skip same = absurd cc

cond_false : {X : Type 0} (b : Bool) (u v : X) → b ≡ false → cond b u v ≡ v
cond_false b u v e = ap (λ (b : Bool). cond b u v) e

-- a call that is changed, or whose answer is
pub made : (faults : List Fault) (keeps : List (Option ℤ)) (call : Call) (inner result : Answer) (a : Act) (w : ℤ) (other : Call)
    (x y : Option (List Entry)) (i j : ℕ) →
    act_at_call faults keeps call ≡ Some a → is_skip a ≡ false → word_at_call faults keeps call ≡ w → other ≡ changed a w call → result ≡ answered a w inner →
    GrowsBy x y ((other, inner) ∷ []) → Counts inner (Right other) i j → Performed faults keeps call result x y i j
made faults keeps call inner result a w other x y i j is fails same passed gives told counted =
    performed_by faults keeps call result x y i j (Some a) w inner is same gives
    (subst (GrowsBy x y)
    (ap (λ (c : Call). (c, inner) ∷ []) passed ∙ sym (cond_false (is_skip a) [] ((changed a w call, inner) ∷ []) fails)) told)
    (by_skip (is_skip a) fails (subst (λ (c : Call). Counts inner (Right c) i j) passed counted))
  where
    by_skip : (b : Bool) → b ≡ false → Counts inner (Right (changed a w call)) i j → cond b (j ≡ i) (Counts inner (Right (changed a w call)) i j)
    by_skip false e c = c
    by_skip true e c = absurd cc

-- ---- over an honest unit

same_one_more : (n : ℕ) → one_more n ≡ n → n < 2 ^ 64 - 1 → ⊥
same_one_more n e h = grind (arith, nat_tests)

right_inside : (inner right : Answer) (i j : ℕ) → Counts inner right i j → StoodStill i j → inner ≡ right
right_inside inner right i j (inl h) honest = h.0
right_inside inner right i j (inr h) honest = absurd (same_one_more i (sym h.1 ∙ honest.0) honest.1)

right_from : (a : Option Act) (w : ℤ) (call : Call) (result inner : Answer) (i j : ℕ) → result ≡ handed_by a w inner →
    cond (skips_by a) (j ≡ i) (Counts inner (Right (passed_by a w call)) i j) → StoodStill i j → result ≡ right_by a w call
right_from None w call result inner i j gives counted honest = gives ∙ right_inside inner (Right call) i j counted honest
right_from (Some act.Skip) w call result inner i j gives counted honest = gives
right_from (Some (act.OperandAdd n e)) w call result inner i j gives counted honest = gives ∙ right_inside inner _ i j counted honest
right_from (Some (act.OperandFrom n r)) w call result inner i j gives counted honest = gives ∙ right_inside inner _ i j counted honest
right_from (Some (act.OperandStale n)) w call result inner i j gives counted honest = gives ∙ right_inside inner _ i j counted honest
right_from (Some (act.ResultAdd e)) w call result inner i j gives counted honest =
    gives ∙ ap (answered (act.ResultAdd e) w) (right_inside inner _ i j counted honest)
right_from (Some (act.Operator kind)) w call result inner i j gives counted honest = gives ∙ right_inside inner _ i j counted honest

pub right_of : (faults : List Fault) (keeps : List (Option ℤ)) (call : Call) (result : Answer) (x y : Option (List Entry)) (i j : ℕ) →
    Performed faults keeps call result x y i j → StoodStill i j →
    result ≡ right_under faults keeps call
right_of faults keeps call result x y i j h honest =
    right_from (act_at_call faults keeps call) (word_at_call faults keeps call) call result h.inner i j h.gives h.counted honest

-- ---- the fault of a call, among the faults

-- of all faults the same is carried out as of those from a place on
pub record DoneFrom (all rest : List Carried) (call : Call) : Type 0 where
  pub acts : act_at_call (faults_of all) (keeps_of all) call ≡ act_at_call (faults_of rest) (keeps_of rest) call
  pub words : word_at_call (faults_of all) (keeps_of all) call ≡ word_at_call (faults_of rest) (keeps_of rest) call

-- what the one call needs
pub ruleset one_call = (changed_asked, unchanged, skipped, made, right_of)
