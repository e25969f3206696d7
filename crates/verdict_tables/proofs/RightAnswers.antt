-- RightAnswers: the answers of a run under acts are those of a right run.
use Rattle.std.proofs.Common.{◌≡◌, ℕ, suc, ◌&&◌, Bool, true, false, cond, List, [], ◌∷◌, ◌++◌, Option, ℤ, refl, sym, ap, subst, ◌∙◌}
use Rattle.coded_unit.specs.declared.call.Answer.{Answer}
use Rattle.op_graph.specs.declared.op.Op.{Op}
use Rattle.op_graph.specs.Lists.{Lists}
use Rattle.signature_table.specs.Signatures.{Numbers}
use Rattle.coded_machine.specs.Calls.{Setting, AllWords, Whole, is_word}
use Rattle.coded_machine.specs.CycleEnds.{stored_words}
use Rattle.coded_machine.specs.Runs.{setting_at}
use Rattle.fault_script.specs.declared.act.Act.{Act}
use Rattle.fault_script.specs.Changes.{Acts}
use Rattle.fault_injector.specs.RunLaw.{RightRun, RightsUnder, Words}
use Rattle.verdict_tables.specs.AnswersOver.{all_words, answers_from, answers_in, answers_over, on_word, later_if, next_answer}

none_right : (s : Setting) (acts : ℕ → Option Act) (past : Words) (before : List Answer) (ops : List Op) → RightsUnder s acts past before ops []
none_right s acts past before [] = tt
none_right s acts past before (op ∷ ops) = tt

later_right : (s : Setting) (acts : ℕ → Option Act) (past : Words) (own : List Answer) (ops : List Op) (b : Bool) →
    RightsUnder s acts past own ops (answers_from s acts past own ops) →
    RightsUnder s acts past own ops (on_word b own (λ own. answers_from s acts past own ops))
later_right s acts past own ops true h = h
later_right s acts past own ops false h = none_right s acts past own ops

rights : (s : Setting) (acts : ℕ → Option Act) (past : Words) (before : List Answer) (ops : List Op) →
    RightsUnder s acts past before ops (answers_from s acts past before ops)
rights s acts past before [] = tt
rights s acts past before (op ∷ ops) =
    let a = next_answer s acts past before op in
    (refl, later_right s acts past (before ++ a ∷ []) ops (is_word a) (rights s acts past (before ++ a ∷ []) ops))

later_whole : (s : Setting) (acts : ℕ → Option Act) (past : Words) (own : List Answer) (ops : List Op) (b : Bool) →
    Whole ops (answers_from s acts past own ops) →
    cond b (Whole ops (on_word b own (λ own. answers_from s acts past own ops))) (on_word b own (λ own. answers_from s acts past own ops) ≡ [])
later_whole s acts past own ops true h = h
later_whole s acts past own ops false h = refl

whole : (s : Setting) (acts : ℕ → Option Act) (past : Words) (before : List Answer) (ops : List Op) → Whole ops (answers_from s acts past before ops)
whole s acts past before [] = tt
whole s acts past before (op ∷ ops) =
    let a = next_answer s acts past before op in
    later_whole s acts past (before ++ a ∷ []) ops (is_word a) (whole s acts past (before ++ a ∷ []) ops)

words_all : (own : List Answer) → AllWords own → all_words own ≡ true
words_all [] h = refl
words_all (a ∷ own) h = ap (λ (b : Bool). b && all_words own) h.0 ∙ words_all own h.1

pub right_run : (t : Numbers) (g : Lists) (acts : Acts) (n : ℕ) (past : Words) (held : List ℤ) (rows : List (List ℤ)) →
    RightRun t g acts n past held rows (answers_over t g acts n past held rows)
right_run t g acts n past held [] = tt
right_run t g acts n past held (row ∷ rows) =
    let s = setting_at g t n held row in
    let own = answers_in s (acts n) past in
    let next : List Answer → List (List Answer) =
    λ own. answers_over t g acts (suc n) (record { held = held; answers = own }) (stored_words g own) rows in (
      whole s (acts n) past [] g.operations,
      rights s (acts n) past [] g.operations,
      λ words.
          subst (λ (b : Bool). RightRun t g acts (suc n) (record { held = held; answers = own }) (stored_words g own) rows (later_if b own next))
          (sym (words_all own words)) (right_run t g acts (suc n) (record { held = held; answers = own }) (stored_words g own) rows),
    )
