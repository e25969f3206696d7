-- Lookups: the right word of a sender's telegram among all right words.
use Rattle.std.proofs.Common.{refl, ℕ, zero, suc, ◌≡◌, ◌<◌, ◌+◌, true, List, [], ◌∷◌, length, slice_index_or, ℤ, ap, ◌∙◌, arith}
use Rattle.vcp_base.specs.declared.ty.Ty.TheVariants as ty
use Rattle.vcp_base.specs.Types.{fits}
use Rattle.vcp_base.specs.Values.{at}
use Rattle.telegram.specs.Sendings.{telegram_word}
use Rattle.telegram.specs.declared.event.Event.{Event}
use Rattle.telegram.specs.declared.event.Event.TheVariants as event
use Rattle.telegram.specs.declared.wire.Wire.{Wire}
use Rattle.telegram.specs.WireRun.{Every, IsEvent, sent_in, sent_by}
use Rattle.telegram.specs.WireRead.{words_from, right_words}

in_row : (w : Wire) (n id : ℕ) (values : List ℤ) (k : ℕ) → k < length values
    → at (words_from w n id values) k ≡ telegram_word (id + k) w.seed w.step n (at values k)
in_row w n id [] k few = absurd (omega arith)
in_row w n id (v ∷ values) zero few =
    let same : id ≡ id + 0 = omega arith in
    ap (λ i. telegram_word i w.seed w.step n v) same
in_row w n id (v ∷ values) (suc k) few =
    let same : suc id + k ≡ id + suc k = omega arith in
    in_row w n (suc id) values k (omega arith) ∙ ap (λ i. telegram_word i w.seed w.step n (at values k)) same

in_run : (w : Wire) (n : ℕ) (sent : List (List ℤ)) (k id : ℕ) → k < length sent → id < length (slice_index_or sent k [])
    → at (slice_index_or (right_words w n sent) k []) id ≡ telegram_word id w.seed w.step (n + k) (sent_by sent id k)
in_run w n [] k id few under = absurd (omega arith)
in_run w n (values ∷ sent) zero id few under =
    let first : 0 + id ≡ id = omega arith in
    let here : n ≡ n + 0 = omega arith in
    in_row w n 0 values id under ∙ (ap (λ i. telegram_word i w.seed w.step n (at values id)) first
    ∙ ap (λ m. telegram_word id w.seed w.step m (at values id)) here)
in_run w n (values ∷ sent) (suc k) id few under =
    let same : suc n + k ≡ n + suc k = omega arith in
    in_run w (suc n) sent k id (omega arith) under ∙ ap (λ m. telegram_word id w.seed w.step m (sent_by sent id k)) same

-- the right word of sender `id` in cycle k
pub looked_up : (w : Wire) (k id : ℕ) (sent : List (List ℤ)) → k < length sent → id < length (slice_index_or sent k [])
    → at (slice_index_or (right_words w 0 sent) k []) id ≡ telegram_word id w.seed w.step k (sent_by sent id k)
looked_up w k id sent few under =
    let same : 0 + k ≡ k = omega arith in
    in_run w 0 sent k id few under ∙ ap (λ m. telegram_word id w.seed w.step m (sent_by sent id k)) same

-- each cycle has a value of DINT for each sender
abbrev pub AreRows : Wire → List (List ℤ) → Type 0
AreRows w sent = Every (λ values. (length values ≡ w.senders) × Every (λ v. fits ty.Dint v ≡ true) values) sent

pub rows_of : (w : Wire) (es : List Event) → Every (λ e. IsEvent w e) es → AreRows w (sent_in es)
rows_of w [] each = tt
rows_of w (event.Cycle values ∷ es) each = (each.0, rows_of w es each.1)
rows_of w (event.Deliver line id number alter ∷ es) each = rows_of w es each.1

pub row_length : (w : Wire) (sent : List (List ℤ)) (k : ℕ) → AreRows w sent → k < length sent → length (slice_index_or sent k []) ≡ w.senders
row_length w [] k rows few = absurd (omega arith)
row_length w (values ∷ sent) zero rows few = rows.0.0
row_length w (values ∷ sent) (suc k) rows few = row_length w sent k rows.1 (omega arith)

value_fits : (values : List ℤ) (id : ℕ) → Every (λ v. fits ty.Dint v ≡ true) values → fits ty.Dint (at values id) ≡ true
value_fits [] id each = refl
value_fits (v ∷ values) zero each = each.0
value_fits (v ∷ values) (suc id) each = value_fits values id each.1

-- every value that was sent is a DINT
pub sent_fits : (w : Wire) (sent : List (List ℤ)) (id k : ℕ) → AreRows w sent → fits ty.Dint (sent_by sent id k) ≡ true
sent_fits w [] id k rows = refl
sent_fits w (values ∷ sent) id zero rows = value_fits values id rows.0.1
sent_fits w (values ∷ sent) id (suc k) rows = sent_fits w sent id k rows.1
