-- Worked: what is printed of wires, from receipts that were worked by hand.
use Rattle.std.proofs.Common.{refl, ◌≡◌, ℕ, List, [], ◌∷◌, ◌++◌, length, Some, pos, negsuc, codes}
use Rattle.std.specs.Fmt.{digits}
use Rattle.coded_unit.specs.declared.call.Answer.TheVariants as answer
use Rattle.telegram.specs.declared.event.Event.{Event}
use Rattle.telegram.specs.declared.event.Event.TheVariants as event
use Rattle.telegram.specs.declared.receipt.Receipt.{Receipt}
use Rattle.telegram.specs.declared.receipt.Receipt.TheVariants as receipt
use Rattle.telegram.specs.declared.wire.Wire.{Wire}
use Rattle.telegram.specs.Deliveries.{delivered}
use Rattle.telegram.specs.WireRun.{Handing}
use Rattle.telegram.specs.Runs.{events_before, told_text}
use Rattle.telegram.specs.WireLines.{wire_end_text, handings_text, receipt_line}

-- a telegram of this number that was handed by a line, and its receipt
handing : (line number : ℕ) → Receipt → Handing
handing line number x = record { line = line; cycle = 0; id = 0; number = number; alter = pos 0; receipt = x }

-- two senders, with a repeated, a foreign, a late and an altered telegram
two : List Handing
two =
    handing 3 0 (receipt.Delivered (pos 5)) ∷
    handing 4 0 (receipt.Order 0) ∷
    handing 5 0 (receipt.Stray 214748366 1) ∷
    handing 8 1 (receipt.Delivered (pos 6)) ∷
    handing 9 2 (receipt.Delivered (pos 8)) ∷
    []

two-told : handings_text two ++ wire_end_text 3 (length (delivered two))
    ≡ codes "3 delivered 0 5\n4 order last 0\n5 stray found 214748366 expected 1\n8 delivered 1 6\n9 delivered 2 8\nend 3 delivered 3\n"
unfolding digits handing two
two-told = refl

-- values that are altered past DINT, and the least one
outside : List Handing
outside = handing 3 0 receipt.Value ∷ handing 5 1 receipt.Value ∷ handing 6 1 (receipt.Delivered (negsuc 2147483647)) ∷ []

outside-told : handings_text outside ++ wire_end_text 2 (length (delivered outside)) ≡ codes "3 value\n5 value\n6 delivered 1 -2147483648\nend 2 delivered 1\n"
unfolding digits handing outside
outside-told = refl

-- one that is too old, and one before the cycle of its number, which no script hands
aged : receipt_line 8 1 (receipt.Age 2) ++ receipt_line 7 4 (receipt.Early 4) ≡ codes "8 age 2\n7 early 4\n"
unfolding digits
aged = refl

-- two cycles of two senders, the second of whom has no word in the second cycle
cycles : List Event
cycles = event.Cycle (pos 1 ∷ pos 3 ∷ []) ∷ event.Cycle (pos 2 ∷ pos 4 ∷ []) ∷ event.Deliver 4 0 1 (pos 0) ∷ []

wire : Wire
wire = record { senders = 2; listen = 0; age = 1; seed = 0; step = 1 }

unsent : told_text wire cycles ((pos 1 ∷ pos 2 ∷ []) ∷ []) (Some (record { row = pos 3 ∷ []; answer = answer.Range })) ≡ codes "unsent 1 1\n"
unfolding digits cycles wire
unsent = refl

-- the events before the second of three cycles
first-events : events_before 1 (event.Cycle [] ∷ event.Deliver 3 0 0 (pos 0) ∷ event.Cycle [] ∷ event.Deliver 5 0 1 (pos 0) ∷ event.Cycle [] ∷ [])
    ≡ event.Cycle [] ∷ event.Deliver 3 0 0 (pos 0) ∷ []
first-events = refl
