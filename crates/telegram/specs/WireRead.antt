-- WireRead: the handings of a wire, read off the words that its senders' units answered, by the rules of the receiver.
use Rattle.std.specs.Prelude.{ℕ, suc, List, [], ◌∷◌, slice_index_or, ℤ, ◌+ℤ◌}
use Rattle.vcp_base.specs.Values.{at}
use Rattle.coded_unit.specs.Words.{nearest_word}
use Rattle.telegram.specs.declared.telegram.Telegram.{Telegram}
use Rattle.telegram.specs.Sendings.{telegram_word}
use Rattle.telegram.specs.Receipts.{State, nothing_heard, ticked, present, receipt_of, after_receipt}
use Rattle.telegram.specs.declared.event.Event.{Event}
use Rattle.telegram.specs.declared.event.Event.TheVariants as event
use Rattle.telegram.specs.declared.wire.Wire.{Wire}
use Rattle.telegram.specs.WireRun.{Handing}

-- the telegram of sender `id` and cycle n with `alter` added to its word, where these are the words of each cycle
abbrev pub telegram_of : List (List ℤ) → ℕ → ℕ → ℤ → Telegram
telegram_of words id n alter = record { number = n; word = nearest_word (at (slice_index_or words n []) id +ℤ alter) }

-- a handing, and what follows it from the receiver that it leaves
abbrev pub taken : Handing → State → (State → List Handing) → List Handing
taken h s later = h ∷ later (after_receipt s h.number h.receipt)

-- the handings of these events by a receiver; `words` has the words of the whole run
abbrev pub read_from : List (List ℤ) → State → List Event → List Handing
read_from words s [] = []
read_from words s (event.Cycle values ∷ es) = read_from words (ticked s) es
read_from words s (event.Deliver line id n alter ∷ es) =
    taken
    (record { line = line; cycle = present s; id = id; number = n; alter = alter; receipt = receipt_of s (telegram_of words id n alter) }) s
    (λ more. read_from words more es)

-- the handings of all events by a new receiver
abbrev pub wire_read : Wire → List (List ℤ) → List Event → List Handing
wire_read w words es = read_from words (nothing_heard w.listen w.age w.seed w.step) es

-- the right words of a cycle's values, from sender `id` on
abbrev pub words_from : Wire → ℕ → ℕ → List ℤ → List ℤ
words_from w n id [] = []
words_from w n id (v ∷ values) = telegram_word id w.seed w.step n v ∷ words_from w n (suc id) values

-- the right words of each cycle's values, from cycle n on
abbrev pub right_words : Wire → ℕ → List (List ℤ) → List (List ℤ)
right_words w n [] = []
right_words w n (values ∷ sent) = words_from w n 0 values ∷ right_words w (suc n) sent
