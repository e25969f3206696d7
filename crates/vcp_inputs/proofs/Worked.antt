-- Worked: the words of a cycle of `y := x + 1;` and of `n := n + 1; y := n;`, with seed 0 and step 1, as they are meant, read off answers and
-- printed.
use Rattle.std.proofs.Common.{◌≡◌, refl, [], ◌∷◌, Some, None, pos, codes}
use Rattle.vcp_base.specs.declared.code.Profile.TheVariants as profile
use Rattle.input_rows.specs.declared.fault.RowFault.TheVariants as row
use Rattle.coded_unit.specs.declared.call.Answer.TheVariants as answer
use Rattle.coded_unit.specs.Words.{coded}
use Rattle.signature_table.specs.Signatures.{signature}
use Rattle.vcp_inputs.specs.Forms.{Code}
use Rattle.vcp_inputs.specs.CycleWords.{words_for, words_in}
use Rattle.vcp_inputs.specs.Printing.{Printing, last_part, no_report}
use Rattle.vcp_inputs.specs.Reports.{complete}

abbrev first_code : Code
first_code = record { seed = 0; step = 1 }

-- cycle 0 of the first, on 5: INPUT, CONST, ADD, OUT
increment : words_for profile.Narrow first_code 0 0 (pos 5 ∷ pos 1 ∷ pos 6 ∷ pos 6 ∷ [])
    ≡ pos 10737418236 ∷ pos 2362232013 ∷ pos 13314398613 ∷ pos 13529146978 ∷ []
unfolding coded signature
increment = refl

-- cycle 1 of the second: LOAD, CONST, ADD, OUT, STORE
counter : words_for profile.Narrow first_code 1 0 (pos 1 ∷ pos 1 ∷ pos 2 ∷ pos 2 ∷ pos 2 ∷ [])
    ≡ pos 2147483649 ∷ pos 2362232014 ∷ pos 4724464026 ∷ pos 4939212391 ∷ pos 5153960756 ∷ []
unfolding coded signature
counter = refl

-- a cycle that stops, and one that the run doesn't begin
stopping : words_in 1 ((answer.Word (pos 7) ∷ []) ∷ (answer.Word (pos 8) ∷ answer.Range ∷ []) ∷ []) ≡ pos 8 ∷ []
stopping = refl

not-begun : words_in 2 ((answer.Word (pos 7) ∷ []) ∷ (answer.Word (pos 8) ∷ answer.Range ∷ []) ∷ []) ≡ []
not-begun = refl

-- behind the rows, where words are shown: their lines and a release; and nothing where a row is refused
abbrev one_line : Printing
one_line = record { header = []; row = λ cycle row. []; lines = λ words. codes "0 CONST\n"; done = λ rows. codes "released\n" }

released : last_part one_line [] no_report complete None ≡ codes "0 CONST\nreleased\n"
released = refl

refused-row : last_part one_line [] no_report complete (Some row.Cycle) ≡ []
refused-row = refl
