-- Sends: the calls by which the values of a wire are sent, with their answers.
use Rattle.std.specs.Prelude.{◌≡◌, ◌<◌, ◌≤◌, ℕ, suc, List, [], ◌∷◌, ◌++◌, length, slice_index_or, Option, Some, None, ℤ}
use Rattle.vcp_base.specs.Values.{at}
use Rattle.vcp_outside.specs.Counts.{Rose}
use Rattle.coded_unit.specs.declared.call.Answer.{Answer}
use Rattle.coded_unit.specs.declared.call.Answer.TheVariants as answer
use Rattle.coded_unit.specs.Log.{Entry, GrowsBy}
use Rattle.coded_unit.specs.Seen.{UnitSeen, StaysHonest}
use Rattle.telegram.specs.declared.wire.Wire.{Wire}
use Rattle.telegram.specs.Sendings.{send_call, IsNoWord}
use Rattle.telegram.specs.WireRead.{words_from}

-- the calls by which the senders from `id` on have these values coded in cycle n, each with the word that was answered
abbrev pub sendings_from : Wire → ℕ → ℕ → List ℤ → List ℤ → List Entry
sendings_from w n id [] row = []
sendings_from w n id (v ∷ values) [] = []
sendings_from w n id (v ∷ values) (x ∷ row) = (send_call id w.seed w.step n v, answer.Word x) ∷ sendings_from w n (suc id) values row

-- those of the cycles from n on, a list of words a cycle
abbrev pub sends_from : Wire → ℕ → List (List ℤ) → List (List ℤ) → List Entry
sends_from w n [] words = []
sends_from w n (values ∷ sent) [] = []
sends_from w n (values ∷ sent) (row ∷ words) = sendings_from w n 0 values row ++ sends_from w (suc n) sent words

-- a sending that was answered by no word: the words of the senders before it in its cycle, and the answer
pub record Cut : Type 0 where
  pub row : List ℤ
  pub answer : Answer

-- the calls of a cycle that was cut so
abbrev pub cut_sendings : Wire → ℕ → List ℤ → Cut → List Entry
cut_sendings w n values c =
    sendings_from w n 0 values c.row ++ (send_call (length c.row) w.seed w.step n (at values (length c.row)), c.answer) ∷ []

-- All calls of a wire that sends these values, cycle by cycle: those of the cycles whose words are told, and those of the next one where that
-- was cut.
abbrev pub calls_of : Wire → List (List ℤ) → List (List ℤ) → Option Cut → List Entry
calls_of w sent words None = sends_from w 0 sent words
calls_of w sent words (Some c) = sends_from w 0 sent words ++ cut_sendings w (length words) (slice_index_or sent (length words) []) c

-- ---- one cycle

-- how the sending of a cycle's values ended: by a word for each, or at the sender of this number
abbrev pub SendEnds : Wire → ℕ → List ℤ → List ℤ → UnitSeen → UnitSeen → Option ℕ → Type 0
SendEnds w n values row before after None = (length row ≡ w.senders) × GrowsBy before.log after.log (sendings_from w n 0 values row)
SendEnds w n values row before after (Some id) =
    (a : Answer) × IsNoWord a × (id ≡ length row) × (length row < w.senders)
    × GrowsBy before.log after.log (cut_sendings w n values (record { row = row; answer = a })) × Rose before.wrong after.wrong

-- the values of a cycle were sent, and the words that were answered are kept behind earlier ones
pub record SendsAll (w : Wire) (n : ℕ) (values kept kept_after : List ℤ) (before after : UnitSeen) (result : Option ℕ) : Type 0 where
  pub row : List ℤ
  pub kept_is : kept_after ≡ kept ++ row
  pub ends : SendEnds w n values row before after result
  pub later : before.wrong ≤ after.wrong
  pub honest : StaysHonest before after → (result ≡ None) × (row ≡ words_from w n 0 values)
