-- Scripts: what a unit with a group of scripted faults does at a call.
use Rattle.std.specs.Prelude.{ℕ, ◌≡◌, Bool, false, cond, List, [], ◌∷◌, Option, Some, None, ℤ, pos, unwrap_or}
use Rattle.coded_unit.specs.Log.{Entry, GrowsBy, Counts}
use Rattle.coded_unit.specs.Right.{Right}
use Rattle.coded_unit.specs.declared.call.Call.{Call}
use Rattle.coded_unit.specs.declared.call.Answer.{Answer}
use Rattle.fault_script.specs.Changes.{changed, answered, is_skip, act_at_call, kept_at_call}
use Rattle.fault_script.specs.declared.act.Act.{Act}
use Rattle.fault_script.specs.declared.act.Fault.{Fault}

-- ---- what an act does, where there is one, with the word that it takes

-- the call that is passed on in place of a call
abbrev pub passed_by : Option Act → ℤ → Call → Call
passed_by None word call = call
passed_by (Some a) word call = changed a word call

-- what is handed back in place of the answer to it
abbrev pub handed_by : Option Act → ℤ → Answer → Answer
handed_by None word given = given
handed_by (Some a) word given = answered a word given

-- no call is passed on
abbrev pub skips_by : Option Act → Bool
skips_by None = false
skips_by (Some a) = is_skip a

-- what is handed back over an honest unit
abbrev pub right_by : Option Act → ℤ → Call → Answer
right_by a word call = handed_by a word (Right (passed_by a word call))

-- ---- what the faults of a group do, where these words were kept for them

-- the word that was kept; no act that takes a word is carried out without one
abbrev pub word : Option ℤ → ℤ
word kept = unwrap_or kept (pos 0)

-- the word that the act at a call takes
abbrev pub word_at_call : List Fault → List (Option ℤ) → Call → ℤ
word_at_call faults keeps call = word (kept_at_call faults keeps call)

abbrev pub passed : List Fault → List (Option ℤ) → Call → Call
passed faults keeps call = passed_by (act_at_call faults keeps call) (word_at_call faults keeps call) call

abbrev pub handed : List Fault → List (Option ℤ) → Call → Answer → Answer
handed faults keeps call given = handed_by (act_at_call faults keeps call) (word_at_call faults keeps call) given

abbrev pub skips : List Fault → List (Option ℤ) → Call → Bool
skips faults keeps call = skips_by (act_at_call faults keeps call)

-- The right answer to each call but those at the operations and cycles of the faults: there, where a fault has the word that it takes, the answer by
-- the replaced operand, kind or word.
abbrev pub right_under : List Fault → List (Option ℤ) → Call → Answer
right_under faults keeps call = right_by (act_at_call faults keeps call) (word_at_call faults keeps call) call

-- What a group makes of a call: the unit inside is asked the call that is passed on, and counts its answer; at a skip it isn't asked at all.
pub record Performed (faults : List Fault) (keeps : List (Option ℤ)) (call : Call) (result : Answer) (told_before told_now : Option (List Entry))
    (wrong_before wrong_now : ℕ) : Type 0 where
  pub inner : Answer
  pub gives : result ≡ handed faults keeps call inner
  pub told : GrowsBy told_before told_now (cond (skips faults keeps call) [] ((passed faults keeps call, inner) ∷ []))
  pub counted : cond (skips faults keeps call) (wrong_now ≡ wrong_before) (Counts inner (Right (passed faults keeps call)) wrong_before wrong_now)
