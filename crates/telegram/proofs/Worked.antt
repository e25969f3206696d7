-- Worked: wires whose receipts were worked by hand, by the wire run and by the right words.
use Rattle.std.proofs.Common.{refl, ℕ, ◌≡◌, List, [], ◌∷◌, map, pos, negsuc}
use Rattle.coded_unit.specs.Words.{modulo, value_part, coded}
use Rattle.signature_table.specs.Signatures.{signature}
use Rattle.telegram.specs.declared.receipt.Receipt.{Receipt}
use Rattle.telegram.specs.declared.receipt.Receipt.TheVariants as receipt
use Rattle.telegram.specs.declared.event.Event.{Event}
use Rattle.telegram.specs.declared.event.Event.TheVariants as event
use Rattle.telegram.specs.declared.wire.Wire.{Wire}
use Rattle.telegram.specs.WireRun.{Handing, sent_in, wired}
use Rattle.telegram.specs.WireRead.{wire_read, right_words}

-- a wire of so many senders, the one that is heard, an age, a seed and a step
numbers : (senders listen age seed step : ℕ) → Wire
numbers senders listen age seed step = record { senders = senders; listen = listen; age = age; seed = seed; step = step }

-- the line of each handing, and its receipt
told : List Handing → List (ℕ × Receipt)
told handings = map (λ h. (h.line, h.receipt)) handings

-- two senders, with a repeated, a foreign, a late and an altered telegram
two-wire : Wire
two-wire = numbers 2 0 1 0 1

two-events : List Event
two-events =
    event.Cycle (pos 5 ∷ pos 9 ∷ []) ∷
    event.Deliver 3 0 0 (pos 0) ∷
    event.Deliver 4 0 0 (pos 0) ∷
    event.Deliver 5 1 0 (pos 0) ∷
    event.Cycle (pos 6 ∷ pos 9 ∷ []) ∷
    event.Cycle (pos 7 ∷ pos 9 ∷ []) ∷
    event.Deliver 8 0 1 (pos 0) ∷
    event.Deliver 9 0 2 (pos 2147483647) ∷
    []

two-receipts : List (ℕ × Receipt)
two-receipts =
    (3, receipt.Delivered (pos 5)) ∷
    (4, receipt.Order 0) ∷
    (5, receipt.Stray 214748366 1) ∷
    (8, receipt.Delivered (pos 6)) ∷
    (9, receipt.Delivered (pos 8)) ∷
    []

two-run : told (wired two-wire two-events) ≡ two-receipts
unfolding told numbers two-wire two-events two-receipts signature modulo value_part coded
two-run = refl

two-read : told (wire_read two-wire (right_words two-wire 0 (sent_in two-events)) two-events) ≡ two-receipts
unfolding told numbers two-wire two-events two-receipts signature modulo value_part coded
two-read = refl

-- the same with the age 0
aged-wire : Wire
aged-wire = numbers 2 0 0 0 1

aged-events : List Event
aged-events =
    event.Cycle (pos 5 ∷ pos 9 ∷ []) ∷
    event.Deliver 3 0 0 (pos 0) ∷
    event.Deliver 4 0 0 (pos 0) ∷
    event.Deliver 5 1 0 (pos 0) ∷
    event.Cycle (pos 6 ∷ pos 9 ∷ []) ∷
    event.Cycle (pos 7 ∷ pos 9 ∷ []) ∷
    event.Deliver 8 0 1 (pos 0) ∷
    event.Deliver 9 0 2 (pos 2147483647) ∷
    []

aged-receipts : List (ℕ × Receipt)
aged-receipts =
    (3, receipt.Delivered (pos 5)) ∷
    (4, receipt.Order 0) ∷
    (5, receipt.Stray 214748366 1) ∷
    (8, receipt.Age 2) ∷
    (9, receipt.Delivered (pos 8)) ∷
    []

aged-run : told (wired aged-wire aged-events) ≡ aged-receipts
unfolding told numbers aged-wire aged-events aged-receipts signature modulo value_part coded
aged-run = refl

aged-read : told (wire_read aged-wire (right_words aged-wire 0 (sent_in aged-events)) aged-events) ≡ aged-receipts
unfolding told numbers aged-wire aged-events aged-receipts signature modulo value_part coded
aged-read = refl

-- a foreign telegram that is altered by just the difference of the signatures
foreign-wire : Wire
foreign-wire = numbers 2 0 1 0 1

foreign-events : List Event
foreign-events =
    event.Cycle (pos 5 ∷ pos 9 ∷ []) ∷
    event.Deliver 3 1 0 (negsuc 214748364) ∷
    []

foreign-receipts : List (ℕ × Receipt)
foreign-receipts =
    (3, receipt.Delivered (pos 9)) ∷
    []

foreign-run : told (wired foreign-wire foreign-events) ≡ foreign-receipts
unfolding told numbers foreign-wire foreign-events foreign-receipts signature modulo value_part coded
foreign-run = refl

foreign-read : told (wire_read foreign-wire (right_words foreign-wire 0 (sent_in foreign-events)) foreign-events) ≡ foreign-receipts
unfolding told numbers foreign-wire foreign-events foreign-receipts signature modulo value_part coded
foreign-read = refl

-- telegrams that overtake each other
reordered-wire : Wire
reordered-wire = numbers 1 0 5 0 1

reordered-events : List Event
reordered-events =
    event.Cycle (pos 1 ∷ []) ∷
    event.Cycle (pos 2 ∷ []) ∷
    event.Cycle (pos 3 ∷ []) ∷
    event.Deliver 5 0 2 (pos 0) ∷
    event.Deliver 6 0 1 (pos 0) ∷
    event.Deliver 7 0 0 (pos 0) ∷
    []

reordered-receipts : List (ℕ × Receipt)
reordered-receipts =
    (5, receipt.Delivered (pos 3)) ∷
    (6, receipt.Order 2) ∷
    (7, receipt.Order 2) ∷
    []

reordered-run : told (wired reordered-wire reordered-events) ≡ reordered-receipts
unfolding told numbers reordered-wire reordered-events reordered-receipts signature modulo value_part coded
reordered-run = refl

reordered-read : told (wire_read reordered-wire (right_words reordered-wire 0 (sent_in reordered-events)) reordered-events) ≡ reordered-receipts
unfolding told numbers reordered-wire reordered-events reordered-receipts signature modulo value_part coded
reordered-read = refl

-- three senders, another seed and step, and telegrams that are altered both ways
three-wire : Wire
three-wire = numbers 3 1 2 7 3

three-events : List Event
three-events =
    event.Cycle (pos 1 ∷ pos 2 ∷ pos 3 ∷ []) ∷
    event.Deliver 3 0 0 (pos 0) ∷
    event.Deliver 4 1 0 (pos 0) ∷
    event.Deliver 5 2 0 (pos 0) ∷
    event.Cycle (pos 4 ∷ pos 5 ∷ pos 6 ∷ []) ∷
    event.Deliver 7 1 1 (pos 1) ∷
    event.Deliver 8 1 1 (negsuc 0) ∷
    event.Deliver 9 1 1 (pos 4294967294) ∷
    event.Deliver 10 1 1 (pos 0) ∷
    []

three-receipts : List (ℕ × Receipt)
three-receipts =
    (3, receipt.Stray 10 214748375) ∷
    (4, receipt.Delivered (pos 2)) ∷
    (5, receipt.Stray 429496740 214748375) ∷
    (7, receipt.Stray 214748379 214748378) ∷
    (8, receipt.Stray 214748377 214748378) ∷
    (9, receipt.Delivered (pos 7)) ∷
    (10, receipt.Order 1) ∷
    []

three-run : told (wired three-wire three-events) ≡ three-receipts
unfolding told numbers three-wire three-events three-receipts signature modulo value_part coded
three-run = refl

three-read : told (wire_read three-wire (right_words three-wire 0 (sent_in three-events)) three-events) ≡ three-receipts
unfolding told numbers three-wire three-events three-receipts signature modulo value_part coded
three-read = refl

-- values at the ends of DINT that are altered past them
outside-wire : Wire
outside-wire = numbers 1 0 9 0 1

outside-events : List Event
outside-events =
    event.Cycle (pos 2147483647 ∷ []) ∷
    event.Deliver 3 0 0 (pos 2147483647) ∷
    event.Cycle (negsuc 2147483647 ∷ []) ∷
    event.Deliver 5 0 1 (negsuc 2147483646) ∷
    event.Deliver 6 0 1 (pos 0) ∷
    []

outside-receipts : List (ℕ × Receipt)
outside-receipts =
    (3, receipt.Value) ∷
    (5, receipt.Value) ∷
    (6, receipt.Delivered (negsuc 2147483647)) ∷
    []

outside-run : told (wired outside-wire outside-events) ≡ outside-receipts
unfolding told numbers outside-wire outside-events outside-receipts signature modulo value_part coded
outside-run = refl

outside-read : told (wire_read outside-wire (right_words outside-wire 0 (sent_in outside-events)) outside-events) ≡ outside-receipts
unfolding told numbers outside-wire outside-events outside-receipts signature modulo value_part coded
outside-read = refl

-- the greatest seed and step, and all sixteen senders
greatest-wire : Wire
greatest-wire = numbers 16 15 999999 1073741823 1000

greatest-events : List Event
greatest-events =
    event.Cycle (pos 0 ∷ pos 1 ∷ pos 2 ∷ pos 3 ∷ pos 4 ∷ pos 5 ∷ pos 6 ∷ pos 7 ∷ pos 8 ∷ pos 9 ∷ pos 10 ∷ pos 11 ∷ pos 12 ∷ pos 13 ∷ pos 14 ∷ pos 15 ∷ []) ∷
    event.Deliver 3 15 0 (pos 0) ∷
    event.Deliver 4 14 0 (pos 0) ∷
    []

greatest-receipts : List (ℕ × Receipt)
greatest-receipts =
    (3, receipt.Delivered (pos 15)) ∷
    (4, receipt.Stray 858994461 1002) ∷
    []

greatest-run : told (wired greatest-wire greatest-events) ≡ greatest-receipts
unfolding told numbers greatest-wire greatest-events greatest-receipts signature modulo value_part coded
greatest-run = refl

greatest-read : told (wire_read greatest-wire (right_words greatest-wire 0 (sent_in greatest-events)) greatest-events) ≡ greatest-receipts
unfolding told numbers greatest-wire greatest-events greatest-receipts signature modulo value_part coded
greatest-read = refl

-- the greatest integers that may be added
far-wire : Wire
far-wire = numbers 1 0 3 0 1

far-events : List Event
far-events =
    event.Cycle (pos 1 ∷ []) ∷
    event.Deliver 3 0 0 (pos 4611686018427387904) ∷
    event.Deliver 4 0 0 (negsuc 4611686018427387903) ∷
    event.Deliver 5 0 0 (pos 0) ∷
    []

far-receipts : List (ℕ × Receipt)
far-receipts =
    (3, receipt.Stray 2 1) ∷
    (4, receipt.Stray 0 1) ∷
    (5, receipt.Delivered (pos 1)) ∷
    []

far-run : told (wired far-wire far-events) ≡ far-receipts
unfolding told numbers far-wire far-events far-receipts signature modulo value_part coded
far-run = refl

far-read : told (wire_read far-wire (right_words far-wire 0 (sent_in far-events)) far-events) ≡ far-receipts
unfolding told numbers far-wire far-events far-receipts signature modulo value_part coded
far-read = refl
