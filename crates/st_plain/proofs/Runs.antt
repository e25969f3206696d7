-- The cycles of an evaluator, one after the other, are the run of its program.
use Rattle.std.proofs.Common.{◌≡◌, ℤ, List, [], ◌∷◌, None, Result, Ok, Err, refl}
use Rattle.vcp_typed.specs.Meaning.{Stop}
use Rattle.vcp_typed.specs.declared.slot.Slot.{Slot}
use Rattle.vcp_typed.specs.SourceRun.{Program, Run, outputs, after_cycle, cycle, run_from}
use Rattle.st_plain.specs.Evaluator.{answers}

after-same : (slots : List Slot) (f g : List ℤ → Run) (r : Result (List ℤ) Stop) → ((m : List ℤ) → f m ≡ g m) → after_cycle slots f r ≡ after_cycle slots g r
after-same slots f g (Ok m) h = λ i. record { rows = outputs slots m ∷ (h m i).rows; end = (h m i).end }
after-same slots f g (Err s) h = refl

pub run-is : (p : Program) (rows : List (List ℤ)) (m : List ℤ) → answers (record { program = p; values = m; stop = None }) rows ≡ run_from p m rows
run-is p [] m = refl
run-is p (row ∷ rows) m = after-same p.slots _ _ (cycle p m row) (λ next. run-is p rows next)
