-- SumSteps: the words of `sum`, as code takes them one part after another.
use Rattle.std.specs.Prelude.{ℕ, List, Option, Some, None, IfSome}
use Rattle.std.specs.Option.{option_map}
use Rattle.vcp_inputs.specs.Forms.{AreFew, rows_of}
use Rattle.vcp_study_core.specs.Forms.{Behind, SumWord, no_more, a_part, the_rows}
use Rattle.vcp_study_core.specs.declared.words.BehindWords.{BehindWords}
use Rattle.vcp_study_core.specs.declared.words.NextWord.{NextWord}
use Rattle.vcp_study_core.specs.declared.words.NextWord.TheVariants as word

-- what is next, before these words
abbrev pub as_next : List (List ℕ) → NextWord → SumWord
as_next words word.NoMore = no_more
as_next words word.Part = a_part words
as_next words (word.Rows r) = the_rows (rows_of r)

abbrev pub as_behind : BehindWords → Behind
as_behind d = record { parts = d.parts; rows = option_map rows_of d.rows }

-- so many parts, and what is next, unless it is a part
abbrev pub ended_of : ℕ → SumWord → Option Behind
ended_of n no_more = Some (record { parts = n; rows = None })
ended_of n (a_part words) = None
ended_of n (the_rows r) = Some (record { parts = n; rows = Some r })

-- a number of cycles is within its limit
abbrev pub IsFew : NextWord → Type 0
IsFew word.NoMore = Unit {0}
IsFew word.Part = Unit {0}
IsFew (word.Rows r) = AreFew (rows_of r)

abbrev pub FewBehind : BehindWords → Type 0
FewBehind d = IfSome d.rows (λ r. AreFew (rows_of r))
