-- SoFar: what a run over a wire has sent and told, event by event.
use Rattle.std.proofs.Common.{◌≡◌, ℕ, zero, suc, ◌+◌, ◌-◌, ◌*◌, ◌<◌, ◌≤◌, List, [], ◌∷◌, ◌++◌, length, take, drop, slice_get, slice_index_or, Option, Some, None, ℤ, ◌+ℤ◌, refl, sym, ap, subst, ◌∙◌, arith, append_assoc, append-nil, length-append}
use Rattle.std.specs.Io.KnownBytes.{Appends}
use Rattle.std.proofs.KnownBytes.{Appends-trans, Appends-nil}
use Rattle.vcp_base.specs.Values.{at}
use Rattle.vcp_outside.specs.Seen.{SinkSeen}
use Rattle.coded_unit.specs.Log.{Entry, GrowsBy}
use Rattle.coded_unit.specs.Seen.{UnitSeen, StaysHonest}
use Rattle.coded_unit.specs.Words.{nearest_word}
use Rattle.telegram.specs.declared.event.Event.{Event}
use Rattle.telegram.specs.declared.event.Event.TheVariants as event
use Rattle.telegram.specs.declared.receipt.Receipt.{Receipt}
use Rattle.telegram.specs.declared.receipt.Receipt.TheVariants as receipt
use Rattle.telegram.specs.declared.telegram.Telegram.{Telegram}
use Rattle.telegram.specs.declared.wire.Wire.{Wire}
use Rattle.telegram.specs.Deliveries.{delivered}
use Rattle.telegram.specs.Receipts.{State, nothing_heard, ticked, present, receipt_of, after_receipt}
use Rattle.telegram.specs.WireRead.{telegram_of, read_from, wire_read, words_from, right_words}
use Rattle.telegram.specs.WireRun.{Every, Handing, sent_in}
use Rattle.telegram.specs.ScriptOf.{AreSent}
use Rattle.telegram.specs.Runs.{events_before, one_of}
use Rattle.telegram.specs.Sends.{sendings_from, sends_from, SendsAll}
use Rattle.telegram.specs.WireLines.{handings_text, receipt_line}
use Rattle.telegram.proofs.Growing.{grows_on, grows_by_none, honest_first, honest_second, take_one_more, drop_here, every_more, at_end}
use Rattle.telegram.proofs.RunLookups.{joined, joined_length, joined_more, found, earlier_row}
use Rattle.telegram.proofs.Telling.{lines_next, delivered_next, one_at_most}

-- ---- calls and words, cycle by cycle

pub no_sends : (w : Wire) (n : ℕ) (sent : List (List ℤ)) → sends_from w n sent [] ≡ []
no_sends w n [] = refl
no_sends w n (values ∷ sent) = refl

-- the calls of one cycle more
sends_more : (w : Wire) (n : ℕ) (done : List (List ℤ)) (values : List ℤ) (sent words : List (List ℤ)) (row : List ℤ) → length done ≡ length words
    → sends_from w n (done ++ values ∷ sent) (words ++ row ∷ [])
    ≡ sends_from w n (done ++ values ∷ sent) words ++ sendings_from w (n + length words) 0 values row
sends_more w n [] values sent [] row same =
    let here : n ≡ n + 0 = omega arith in
    ap (λ (l : List Entry). sendings_from w n 0 values row ++ l) (no_sends w (suc n) sent)
    ∙ (append-nil (sendings_from w n 0 values row) ∙ ap (λ (k : ℕ). sendings_from w k 0 values row) here)
sends_more w n [] values sent (r ∷ words) row same = absurd (omega (arith, same))
sends_more w n (d ∷ done) values sent [] row same = absurd (omega (arith, same))
sends_more w n (d ∷ done) values sent (r ∷ words) row same =
    let next : suc n + length words ≡ n + suc (length words) = omega arith in
    let first = sendings_from w n 0 d r in
    let rest = sends_from w (suc n) (done ++ values ∷ sent) words in
    ap (λ (l : List Entry). first ++ l)
    (sends_more w (suc n) done values sent words row (omega (arith, same)) ∙ ap (λ (k : ℕ). rest ++ sendings_from w k 0 values row) next)
    ∙ sym (append_assoc first rest (sendings_from w (n + suc (length words)) 0 values row))

-- the right words of a cycle
right_at : (w : Wire) (n : ℕ) (sent : List (List ℤ)) (i : ℕ) (values : List ℤ) → slice_get sent i ≡ Some values
    → slice_get (right_words w n sent) i ≡ Some (words_from w (n + i) 0 values)
right_at w n [] i values there = absurd cc
right_at w n (v ∷ sent) zero values there =
    let same : v ≡ values = cc in
    let here : n ≡ n + 0 = omega arith in
    ap (λ (l : List ℤ). Some (words_from w n 0 l)) same ∙ ap (λ (k : ℕ). Some (words_from w k 0 values)) here
right_at w n (v ∷ sent) (suc i) values there =
    let next : suc n + i ≡ n + suc i = omega arith in
    right_at w (suc n) sent i values there ∙ ap (λ (k : ℕ). Some (words_from w k 0 values)) next

pub right_length : (w : Wire) (n : ℕ) (sent : List (List ℤ)) → length (right_words w n sent) ≡ length sent
right_length w n [] = refl
right_length w n (v ∷ sent) = ap suc (right_length w (suc n) sent)

pub index_there : (sent : List (List ℤ)) (i : ℕ) (values : List ℤ) → slice_get sent i ≡ Some values → slice_index_or sent i [] ≡ values
index_there [] i values there = absurd cc
index_there (v ∷ sent) zero values there = cc
index_there (v ∷ sent) (suc i) values there = index_there sent i values there

-- ---- the receiver

-- the receiver of a wire after so many cycles
abbrev pub hears : Wire → ℕ → Option ℕ → State
hears w begun last = record { listen = w.listen; age = w.age; seed = w.seed; step = w.step; begun = begun; last = last }

hears_after : (w : Wire) (begun n : ℕ) (s : State) (x : Receipt) → s ≡ hears w begun s.last → after_receipt s n x ≡ hears w begun (after_receipt s n x).last
hears_after w begun n s (receipt.Delivered v) is = ap (λ (r : State). record r { last = Some n }) is
hears_after w begun n s (receipt.Early b) is = is
hears_after w begun n s (receipt.Stray a b) is = is
hears_after w begun n s (receipt.Order l) is = is
hears_after w begun n s (receipt.Age c) is = is
hears_after w begun n s receipt.Value is = is

hears_ticked : (w : Wire) (begun : ℕ) (s : State) → s ≡ hears w begun s.last → ticked s ≡ hears w (begun + 1) (ticked s).last
hears_ticked w begun s is = ap (λ (r : State). ticked r) is

-- a telegram of this number and word, to which something is added
abbrev pub altered : ℕ → ℤ → ℤ → Telegram
altered n word alter = record { number = n; word = nearest_word (word +ℤ alter) }

-- ---- so many events

pub record SoFar (w : Wire) (es : List Event) (before now : UnitSeen) (old new : SinkSeen) (i begun count : ℕ) (s : State) (kept : List ℤ) : Type 0 where
  pub words : List (List ℤ)
  pub told : List Handing
  pub done : List (List ℤ)
  pub sent : sent_in es ≡ done ++ sent_in (drop i es)
  pub done_are : length done ≡ begun
  pub words_are : length words ≡ begun
  pub kept_is : kept ≡ joined words
  pub rows : Every (λ row. length row ≡ w.senders) words
  pub hears_is : s ≡ hears w begun s.last
  pub left : AreSent begun (drop i es)
  pub log : GrowsBy before.log now.log (sends_from w 0 (sent_in es) words)
  pub read : (later : List (List ℤ)) → wire_read w (words ++ later) es ≡ told ++ read_from (words ++ later) s (drop i es)
  pub early : (k : ℕ) (later : List (List ℤ)) → wire_read w (words ++ later) (events_before (begun + k) es)
      ≡ told ++ read_from (words ++ later) s (events_before k (drop i es))
  pub past : (more : List Handing) × (told ≡ wire_read w words (events_before (begun - 1) es) ++ more)
  pub count_is : count ≡ length (delivered told)
  pub few : count ≤ i
  pub written : Appends old.written new.written (handings_text told)
  pub later : before.wrong ≤ now.wrong
  pub honest : StaysHonest before now → words ≡ take begun (right_words w 0 (sent_in es))

-- nothing is handed before the first cycle
none_before : (es : List Event) → AreSent 0 es → events_before 0 es ≡ []
none_before [] sent = refl
none_before (event.Cycle values ∷ es) sent = refl
none_before (event.Deliver line id n alter ∷ es) sent = absurd (omega (arith, sent.0))

pub so_far_none : (w : Wire) (es : List Event) (before : UnitSeen) (old : SinkSeen) → AreSent 0 es
    → SoFar w es before before old old 0 0 0 (nothing_heard w.listen w.age w.seed w.step) []
so_far_none w es before old sent = record {
  words = [];
  told = [];
  done = [];
  sent = refl;
  done_are = refl;
  words_are = refl;
  kept_is = refl;
  rows = tt;
  hears_is = refl;
  left = sent;
  log = subst (GrowsBy before.log before.log) (sym (no_sends w 0 (sent_in es))) (grows_by_none before.log);
  read = λ later. refl;
  early = λ k later.
      let same : 0 + k ≡ k = omega arith in
      ap (λ (n : ℕ). wire_read w later (events_before n es)) same;
  past = ([], sym (ap (λ (l : List Event). wire_read w [] l ++ []) (none_before es sent)));
  count_is = refl;
  few = omega arith;
  written = Appends-nil old.written;
  later = omega arith;
  honest = λ h. refl;
}

module _ (w : Wire) (es : List Event) (before now : UnitSeen) (old new : SinkSeen) (i begun count : ℕ) (s : State) (kept : List ℤ)
    (so_far : SoFar w es before now old new i begun count s kept) where
  -- the values of the cycle that begins are the next ones
  pub values_there : (values : List ℤ) → slice_get es i ≡ Some (event.Cycle values) → slice_get (sent_in es) begun ≡ Some values
  values_there values there =
      let rest = drop_here es i (event.Cycle values) there in
      let all : sent_in es ≡ so_far.done ++ values ∷ sent_in (drop (suc i) es) = so_far.sent ∙ ap (λ (l : List Event). so_far.done ++ sent_in l) rest in
      ap (λ (l : List (List ℤ)). slice_get l begun) all
      ∙ (ap (slice_get (so_far.done ++ values ∷ sent_in (drop (suc i) es))) (sym so_far.done_are) ∙ at_end so_far.done values (sent_in (drop (suc i) es)))

  pub within : (values : List ℤ) → slice_get es i ≡ Some (event.Cycle values) → begun < length (sent_in es)
  within values there =
      let rest = drop_here es i (event.Cycle values) there in
      let all : sent_in es ≡ so_far.done ++ values ∷ sent_in (drop (suc i) es) = so_far.sent ∙ ap (λ (l : List Event). so_far.done ++ sent_in l) rest in
      omega (arith, ap (λ (l : List (List ℤ)). length l) all, length-append so_far.done (values ∷ sent_in (drop (suc i) es)), so_far.done_are)

  -- there are no more cycles than those of the script
  pub few_cycles : begun ≤ length (sent_in es)
  few_cycles =
      omega (arith, ap (λ (l : List (List ℤ)). length l) so_far.sent, length-append so_far.done (sent_in (drop i es)), so_far.done_are)

  -- a word of each sender is kept for each cycle
  pub kept_length : length kept ≡ begun * w.senders
  kept_length =
      ap (λ (l : List ℤ). length l) so_far.kept_is
      ∙ (joined_length so_far.words w.senders so_far.rows ∙ ap (λ (n : ℕ). n * w.senders) so_far.words_are)

  -- what is handed was sent
  pub sent_before : (line id n : ℕ) (alter : ℤ) → slice_get es i ≡ Some (event.Deliver line id n alter) → n < begun
  sent_before line id n alter there =
      (subst (λ (l : List Event). AreSent begun l) (drop_here es i (event.Deliver line id n alter) there) so_far.left).0

  -- the log with the calls of one cycle more
  log_more : (values row : List ℤ) (after : UnitSeen) → slice_get es i ≡ Some (event.Cycle values)
      → GrowsBy now.log after.log (sendings_from w begun 0 values row)
      → GrowsBy before.log after.log (sends_from w 0 (sent_in es) (so_far.words ++ row ∷ []))
  log_more values row after there log =
      let rest = drop_here es i (event.Cycle values) there in
      let all : sent_in es ≡ so_far.done ++ values ∷ sent_in (drop (suc i) es) = so_far.sent ∙ ap (λ (l : List Event). so_far.done ++ sent_in l) rest in
      let place : 0 + length so_far.words ≡ begun = omega (arith, so_far.words_are) in
      let more : sends_from w 0 (sent_in es) (so_far.words ++ row ∷ []) ≡ sends_from w 0 (sent_in es) so_far.words ++ sendings_from w begun 0 values row =
      ap (λ (l : List (List ℤ)). sends_from w 0 l (so_far.words ++ row ∷ [])) all
      ∙ (sends_more w 0 so_far.done values (sent_in (drop (suc i) es)) so_far.words row (so_far.done_are ∙ sym so_far.words_are)
      ∙ (ap (λ (k : ℕ). sends_from w 0 (so_far.done ++ values ∷ sent_in (drop (suc i) es)) so_far.words ++ sendings_from w k 0 values row) place
      ∙ ap (λ (l : List (List ℤ)). sends_from w 0 l so_far.words ++ sendings_from w begun 0 values row) (sym all))) in
      subst (GrowsBy before.log after.log) (sym more)
      (grows_on before.log now.log after.log (sends_from w 0 (sent_in es) so_far.words) (sendings_from w begun 0 values row) so_far.log log)

  -- a cycle of which all was sent
  pub cycle_sent : (values kept' : List ℤ) (after : UnitSeen) → slice_get es i ≡ Some (event.Cycle values) → SendsAll w begun values kept kept' now after None
      → SoFar w es before after old new (i + 1) (begun + 1) count (ticked s) kept'
  cycle_sent values kept' after there sends =
      let row = sends.row in
      let words = so_far.words in
      let rest = drop_here es i (event.Cycle values) there in
      let next : suc i ≡ i + 1 = omega arith in
      let here : drop i es ≡ event.Cycle values ∷ drop (i + 1) es = rest ∙ ap (λ (k : ℕ). event.Cycle values ∷ drop k es) next in
      let one : (later : List (List ℤ)) → (words ++ row ∷ []) ++ later ≡ words ++ (row ∷ later) = λ later. append_assoc words (row ∷ []) later in
      record {
        words = words ++ row ∷ [];
        told = so_far.told;
        done = so_far.done ++ values ∷ [];
        sent = so_far.sent ∙ (ap (λ (l : List Event). so_far.done ++ sent_in l) here
            ∙ sym (append_assoc so_far.done (values ∷ []) (sent_in (drop (i + 1) es))));
        done_are = omega (arith, length-append so_far.done (values ∷ []), so_far.done_are);
        words_are = omega (arith, length-append words (row ∷ []), so_far.words_are);
        kept_is = sends.kept_is ∙ (ap (λ (l : List ℤ). l ++ row) so_far.kept_is ∙ sym (joined_more words row));
        rows = every_more (λ row. length row ≡ w.senders) words row so_far.rows sends.ends.0;
        hears_is = hears_ticked w begun s so_far.hears_is;
        left = subst (λ (l : List Event). AreSent begun l) here so_far.left;
        log = log_more values row after there sends.ends.1;
        read = λ later.
            ap (λ (ws : List (List ℤ)). wire_read w ws es) (one later)
            ∙ (so_far.read (row ∷ later)
            ∙ (ap (λ (l : List Event). so_far.told ++ read_from (words ++ (row ∷ later)) s l) here
            ∙ ap (λ (ws : List (List ℤ)). so_far.told ++ read_from ws (ticked s) (drop (i + 1) es)) (sym (one later))));
        early = λ k later.
            let number : begun + 1 + k ≡ begun + suc k = omega arith in
            ap (λ (n : ℕ). wire_read w ((words ++ row ∷ []) ++ later) (events_before n es)) number
            ∙ (ap (λ (ws : List (List ℤ)). wire_read w ws (events_before (begun + suc k) es)) (one later)
            ∙ (so_far.early (suc k) (row ∷ later)
            ∙ (ap (λ (l : List Event). so_far.told ++ read_from (words ++ (row ∷ later)) s (events_before (suc k) l)) here
            ∙ ap (λ (ws : List (List ℤ)). so_far.told ++ read_from ws (ticked s) (events_before k (drop (i + 1) es))) (sym (one later)))));
        past = (
          [],
          let number : begun + 0 ≡ begun + 1 - 1 = omega arith in
              let all = words ++ row ∷ [] in
              let read : wire_read w all (events_before (begun + 0) es) ≡ so_far.told ++ [] =
              so_far.early 0 (row ∷ []) ∙ ap (λ (l : List Event). so_far.told ++ read_from all s (events_before 0 l)) here in
              sym (append-nil so_far.told)
              ∙ (sym read
              ∙ (ap (λ (n : ℕ). wire_read w all (events_before n es)) number
              ∙ sym (append-nil (wire_read w all (events_before (begun + 1 - 1) es))))),
        );
        count_is = so_far.count_is;
        few = omega (arith, so_far.few);
        written = so_far.written;
        later = omega (arith, so_far.later, sends.later);
        honest = λ h.
            let first = so_far.honest (honest_first before now after so_far.later sends.later h) in
            let second = (sends.honest (honest_second before now after so_far.later sends.later h)).1 in
            let place : 0 + begun ≡ begun = omega arith in
            let all = right_words w 0 (sent_in es) in
            let right : slice_get all begun ≡ Some (words_from w begun 0 values) =
            right_at w 0 (sent_in es) begun values (values_there values there) ∙ ap (λ (k : ℕ). Some (words_from w k 0 values)) place in
            let many : suc begun ≡ begun + 1 = omega arith in
            ap (λ (l : List (List ℤ)). l ++ row ∷ []) first
            ∙ (ap (λ (r : List ℤ). take begun all ++ r ∷ []) second
            ∙ (sym (take_one_more all begun (words_from w begun 0 values) right) ∙ ap (λ (k : ℕ). take k all) many));
      }

  -- ---- a telegram that is handed

  -- the same telegram, whatever comes later
  same_telegram : (id n : ℕ) (alter word : ℤ) → n < begun → id < w.senders → slice_get kept (n * w.senders + id) ≡ Some word → (later : List (List ℤ))
      → telegram_of (so_far.words ++ later) id n alter ≡ altered n word alter
  same_telegram id n alter word below sender there later =
      let few : n < length so_far.words = omega (arith, below, so_far.words_are) in
      let is : Some (at (slice_index_or so_far.words n []) id) ≡ Some word =
      sym (found so_far.words w.senders n id so_far.rows few sender) ∙ (ap (λ (l : List ℤ). slice_get l (n * w.senders + id)) (sym so_far.kept_is) ∙ there) in
      let same : at (slice_index_or so_far.words n []) id ≡ word = cc in
      ap (λ (r : List ℤ). altered n (at r id) alter) (earlier_row so_far.words later n few)
      ∙ ap (λ (z : ℤ). altered n z alter) same

  module _ (line id n : ℕ) (alter word : ℤ) (x : Receipt) (there : slice_get es i ≡ Some (event.Deliver line id n alter))
      (sender : id < w.senders) (kept_there : slice_get kept (n * w.senders + id) ≡ Some word)
      (x_is : x ≡ receipt_of s (altered n word alter)) where
    next : suc i ≡ i + 1
    next = omega arith

    pub here : drop i es ≡ event.Deliver line id n alter ∷ drop (i + 1) es
    here = drop_here es i (event.Deliver line id n alter) there ∙ ap (λ (k : ℕ). event.Deliver line id n alter ∷ drop k es) next

    sent_left : (n < begun) × AreSent begun (drop (i + 1) es)
    sent_left = subst (λ (l : List Event). AreSent begun l) here so_far.left

    abbrev pub h : Handing
    h = record { line = line; cycle = present s; id = id; number = n; alter = alter; receipt = x }

    -- one handing more is read
    pub step_read : (later : List (List ℤ)) (rest : List Event)
        → read_from (so_far.words ++ later) s (event.Deliver line id n alter ∷ rest)
        ≡ h ∷ read_from (so_far.words ++ later) (after_receipt s n x) rest
    step_read later rest =
        let given : Receipt → Handing = λ y. record { line = line; cycle = present s; id = id; number = n; alter = alter; receipt = y } in
        let is : receipt_of s (telegram_of (so_far.words ++ later) id n alter) ≡ x =
        ap (receipt_of s) (same_telegram id n alter word sent_left.0 sender kept_there later) ∙ sym x_is in
        ap (λ (y : Receipt). given y ∷ read_from (so_far.words ++ later) (after_receipt s n y) rest) is

    pub read_next : (later : List (List ℤ))
        → wire_read w (so_far.words ++ later) es ≡ (so_far.told ++ h ∷ []) ++ read_from (so_far.words ++ later) (after_receipt s n x) (drop (i + 1) es)
    read_next later =
        so_far.read later
        ∙ (ap (λ (l : List Event). so_far.told ++ read_from (so_far.words ++ later) s l) here
        ∙ (ap (λ (l : List Handing). so_far.told ++ l) (step_read later (drop (i + 1) es))
        ∙ sym (append_assoc so_far.told (h ∷ []) (read_from (so_far.words ++ later) (after_receipt s n x) (drop (i + 1) es)))))

    step_early : (k : ℕ) (later : List (List ℤ))
        → read_from (so_far.words ++ later) s (events_before k (event.Deliver line id n alter ∷ drop (i + 1) es))
        ≡ h ∷ read_from (so_far.words ++ later) (after_receipt s n x) (events_before k (drop (i + 1) es))
    step_early zero later = step_read later (events_before zero (drop (i + 1) es))
    step_early (suc k) later = step_read later (events_before (suc k) (drop (i + 1) es))

    pub handed : (new' : SinkSeen) (count' : ℕ) → Appends new.written new'.written (receipt_line line n x) → count' ≡ count + one_of x
        → SoFar w es before now old new' (i + 1) begun count' (after_receipt s n x) kept
    handed new' count' text counts = record {
      words = so_far.words;
      told = so_far.told ++ h ∷ [];
      done = so_far.done;
      sent = so_far.sent ∙ ap (λ (l : List Event). so_far.done ++ sent_in l) here;
      done_are = so_far.done_are;
      words_are = so_far.words_are;
      kept_is = so_far.kept_is;
      rows = so_far.rows;
      hears_is = hears_after w begun n s x so_far.hears_is;
      left = sent_left.1;
      log = so_far.log;
      read = read_next;
      early = λ k later.
          so_far.early k later
          ∙ (ap (λ (l : List Event). so_far.told ++ read_from (so_far.words ++ later) s (events_before k l)) here
          ∙ (ap (λ (l : List Handing). so_far.told ++ l) (step_early k later)
          ∙ sym (append_assoc so_far.told (h ∷ [])
          (read_from (so_far.words ++ later) (after_receipt s n x) (events_before k (drop (i + 1) es))))));
      past = (
        so_far.past.0 ++ h ∷ [],
        ap (λ (l : List Handing). l ++ h ∷ []) so_far.past.1
            ∙ append_assoc (wire_read w so_far.words (events_before (begun - 1) es)) so_far.past.0 (h ∷ []),
      );
      count_is = omega (arith, counts, so_far.count_is, delivered_next so_far.told h);
      few = omega (arith, counts, so_far.few, one_at_most x);
      written = subst (Appends old.written new'.written) (sym (lines_next so_far.told h))
          (Appends-trans old.written new.written new'.written (handings_text so_far.told) (receipt_line line n x) so_far.written text);
      later = so_far.later;
      honest = so_far.honest;
    }
