-- Running: the cycles of a run, one after another.
use Rattle.std.proofs.Common.{◌≡◌, ℕ, suc, ◌+◌, ◌||◌, Bool, true, false, cond, List, ◌∷◌, drop, slice_get, Some, ℤ, refl, ap, subst, sym, ◌∙◌, add-one}
use Rattle.std.specs.List.{list_any}
use Rattle.coded_unit.specs.declared.call.Answer.{Answer}
use Rattle.op_graph.specs.Lists.{Lists}
use Rattle.signature_table.specs.Signatures.{Numbers}
use Rattle.coded_machine.specs.CycleEnds.{stored_words}
use Rattle.coded_machine.specs.Runs.{setting_at}
use Rattle.fault_script.specs.declared.act.Fault.{Fault}
use Rattle.fault_script.specs.Changes.{acts_of}
use Rattle.fault_injector.specs.RunLaw.{Words}
use Rattle.verdict_tables.specs.AnswersOver.{all_words, and_later, answers_in, run_answers, answers_over, held_at_end, held_behind, later_if}
use Rattle.verdict_tables.specs.Endings.{comes_to, is_reached}
use Rattle.verdict_tables.specs.declared.endless.run.Work.{Work}
use Rattle.verdict_tables.specs.Moments.{CycleDone, past_of}
use Rattle.verdict_tables.proofs.Lists.{drop_there}

-- before cycle n: what the run comes to is what its later cycles come to from here on
pub record SoFar (t : Numbers) (g : Lists) (faults : List Fault) (rows : List (List ℤ)) (n : ℕ) (past : Words) (held : List ℤ) (reached : Bool) :
    Type 0 where
  pub held_is :
      held_at_end t g (acts_of faults) rows ≡ held_behind g held (answers_over t g (acts_of faults) n past held (drop n rows))
  pub reached_is :
      is_reached faults 0 (run_answers t g (acts_of faults) rows)
      ≡ (reached || is_reached faults n (answers_over t g (acts_of faults) n past held (drop n rows)))

or_assoc : (a b c : Bool) → (a || (b || c)) ≡ ((a || b) || c)
or_assoc true b c = refl
or_assoc false b c = refl

or_none : (a : Bool) → (a || false) ≡ a
or_none true = refl
or_none false = refl

-- the cycle on this row, and the later ones behind it where all its answers are words
here_then : (t : Numbers) (g : Lists) (faults : List Fault) (rows : List (List ℤ)) (n : ℕ) (past : Words) (held row : List ℤ) (own : List Answer)
    (b : Bool) → slice_get rows n ≡ Some row → own ≡ answers_in (setting_at g t n held row) (acts_of faults n) past → all_words own ≡ b →
    answers_over t g (acts_of faults) n past held (drop n rows)
    ≡ own ∷ later_if b own (λ own. answers_over t g (acts_of faults) (n + 1) (record { held = held; answers = own }) (stored_words g own) (drop (n + 1) rows))
here_then t g faults rows n past held row own b there is words =
    let acts = acts_of faults in
    let next : ℕ → List Answer → List (List Answer) =
    λ m own. answers_over t g acts m (record { held = held; answers = own }) (stored_words g own) (drop (n + 1) rows) in
    ap (λ (xs : List (List ℤ)). answers_over t g acts n past held xs) (drop_there rows n row there)
    ∙ (ap (and_later (next (suc n))) (sym is)
    ∙ (ap (λ (b : Bool). own ∷ later_if b own (next (suc n))) words ∙ ap (λ (m : ℕ). own ∷ later_if b own (next m)) (sym (add-one n))))

-- a cycle of words
pub ran_on : (t : Numbers) (g : Lists) (faults : List Fault) (rows : List (List ℤ)) (n : ℕ) (past : Words) (held row : List ℤ) (own : List Answer)
    (reached : Bool) → slice_get rows n ≡ Some row → own ≡ answers_in (setting_at g t n held row) (acts_of faults n) past → all_words own ≡ true →
    SoFar t g faults rows n past held reached →
    SoFar t g faults rows (n + 1) (record { held = held; answers = own }) (stored_words g own) (reached || list_any (comes_to n own) faults)
ran_on t g faults rows n past held row own reached there is words h =
    let later = answers_over t g (acts_of faults) (n + 1) (record { held = held; answers = own }) (stored_words g own) (drop (n + 1) rows) in
    let all = here_then t g faults rows n past held row own true there is words in
    record {
      held_is = h.held_is
          ∙ (ap (held_behind g held) all ∙ ap (λ (b : Bool). held_behind g (cond b (stored_words g own) held) later) words);
      reached_is = h.reached_is
          ∙ (ap (λ (xs : List (List Answer)). reached || is_reached faults n xs) all
          ∙ (or_assoc reached (list_any (comes_to n own) faults) (is_reached faults (suc n) later)
          ∙ ap (λ (m : ℕ). (reached || list_any (comes_to n own) faults) || is_reached faults m later) (sym (add-one n))));
    }

-- a cycle of which an answer is no word is the last one
pub ran_out : (t : Numbers) (g : Lists) (faults : List Fault) (rows : List (List ℤ)) (n : ℕ) (past : Words) (held row : List ℤ) (own : List Answer)
    (reached : Bool) → slice_get rows n ≡ Some row → own ≡ answers_in (setting_at g t n held row) (acts_of faults n) past → all_words own ≡ false →
    SoFar t g faults rows n past held reached →
    (held_at_end t g (acts_of faults) rows ≡ held)
    × (is_reached faults 0 (run_answers t g (acts_of faults) rows) ≡ (reached || list_any (comes_to n own) faults))
ran_out t g faults rows n past held row own reached there is words h =
    let all = here_then t g faults rows n past held row own false there is words in (
      h.held_is ∙ (ap (held_behind g held) all ∙ ap (λ (b : Bool). cond b (stored_words g own) held) words),
      h.reached_is
          ∙ (ap (λ (xs : List (List Answer)). reached || is_reached faults n xs) all
          ∙ ap (λ (b : Bool). reached || b) (or_none (list_any (comes_to n own) faults))),
    )

-- ---- the same of what a run works on

pub cycle_on : (t : Numbers) (g : Lists) (faults : List Fault) (rows : List (List ℤ)) (n : ℕ) (old new : Work) (b : Bool) → b ≡ true →
    slice_get rows n ≡ Some old.inputs → CycleDone g t faults n old new b →
    SoFar t g faults rows n (past_of old) old.held.items old.reached →
    SoFar t g faults rows (n + 1) (past_of new) new.held.items new.reached
cycle_on t g faults rows n old new b is there d h =
    let words : all_words d.own ≡ true = sym d.words_is ∙ is in
    let more = ran_on t g faults rows n (past_of old) old.held.items old.inputs d.own old.reached there d.own_is words h in
    let held : new.held.items ≡ stored_words g d.own = d.held ∙ ap (λ (b : Bool). cond b (stored_words g d.own) old.held.items) words in
    let any = old.reached || list_any (comes_to n d.own) faults in
    subst (λ (r : Bool). SoFar t g faults rows (n + 1) (past_of new) new.held.items r) (sym d.reached)
    (subst (λ (ws : List ℤ). SoFar t g faults rows (n + 1) (past_of new) ws any) (sym held)
    (subst (λ (p : Words). SoFar t g faults rows (n + 1) p (stored_words g d.own) any) (sym (d.past is)) more))

pub cycle_out : (t : Numbers) (g : Lists) (faults : List Fault) (rows : List (List ℤ)) (n : ℕ) (old new : Work) (b : Bool) → b ≡ false →
    slice_get rows n ≡ Some old.inputs → CycleDone g t faults n old new b →
    SoFar t g faults rows n (past_of old) old.held.items old.reached →
    (new.held.items ≡ held_at_end t g (acts_of faults) rows) × (new.reached ≡ is_reached faults 0 (run_answers t g (acts_of faults) rows))
cycle_out t g faults rows n old new b is there d h =
    let words : all_words d.own ≡ false = sym d.words_is ∙ is in
    let out = ran_out t g faults rows n (past_of old) old.held.items old.inputs d.own old.reached there d.own_is words h in
    (d.held ∙ (ap (λ (b : Bool). cond b (stored_words g d.own) old.held.items) words ∙ sym out.0), d.reached ∙ sym out.1)
