use Rattle.std.proofs.Common.{le_trans, le_of_eq, ℕ, List, ◌++◌, ◌≤◌, length, take, drop, ◌+◌, ◌∙◌, inr, refl, sym, ap, subst}
use Rattle.std.proofs.lemmas.List.{take-append-le}
use Rattle.vcp_outside.proofs.Taken.{takes_more, takes_no_more, whatever_held, broke_later, later_on, capped_on, rose_on}
use Rattle.vcp_outside.proofs.Taken.{few_at_first, none_counted, begun, reads_on, longer_by, counted_on, less_room}
use Rattle.vcp_outside.proofs.Taken.{memory_is_no_failure, length_is_no_failure, text_is_no_failure}
use Rattle.vcp_outside.proofs.Taken.{no_reads, few_reads, one_more_read, within_test, piece_within, read_whole, read_too_much}
use Rattle.vcp_outside.proofs.reading.read_all_counting.Goals as goal

-- the file couldn't be begun
pub returns-in-Err : goal.returns-in-Err
returns-in-Err g c = record {
  reads = c.in-Err.ensures.lacking;
  within = tt;
  failed = λ is. c.in-Err.ensures.cause.failed;
  stayed = λ differs. absurd (differs refl);
  ended = tt;
  taken = whatever_held _ (λ h. inr c.in-Err.ensures.begins);
  counted = no_reads _ _;
  failed_taken = λ is. whatever_held _ (λ h. inr (c.in-Err.ensures.begins, refl));
  held = c.begin.ensures.held;
  later = c.in-Err.ensures.cause.later;
  capped = c.in-Err.ensures.cause.capped;
  broken_later = c.begin.ensures.broken_later;
  broken_capped = c.begin.ensures.broken_capped;
}

-- it couldn't be read on
pub returns-in-Err-read_counted : goal.returns-in-Err-read_counted
returns-in-Err-read_counted g c =
    let s = c.reading.invariant in
    let r = c.in-Err-read_counted.ensures in
    let within = within_test (c.len.ensures ∙ c.reading.content.ok.0) c.reading-test.true in
    record {
      reads = broke_later _ _ _ _ _ _ (sym s.held) s.broken_later r.only_broken;
      within = tt;
      failed = λ is. rose_on s.stayed r.cause.failed;
      stayed = λ differs. absurd (differs refl);
      ended = tt;
      taken = takes_no_more c.args.limit _ _ _ _ c.reading.content.items _ s.bytes r.bytes within;
      counted = one_more_read _ _ _ c.args.limit _ _ s.counted c.read_counted.ensures.counted c.len.ensures c.reading-test.true;
      failed_taken = λ is. takes_no_more c.args.limit _ _ _ _ c.reading.content.items _ s.bytes r.bytes within;
      held = c.read_counted.ensures.held ∙ s.held;
      later = later_on s.stayed r.cause.later;
      capped = capped_on s.stayed r.cause.capped;
      broken_later = le_trans s.broken_later c.read_counted.ensures.broken_later;
      broken_capped = λ within. c.read_counted.ensures.broken_capped (s.broken_capped within);
    }

-- there was no memory
pub returns-in-Err-extend_from_slice : goal.returns-in-Err-extend_from_slice
returns-in-Err-extend_from_slice g c =
    let s = c.reading.invariant in
    let r = c.in-Ok-read_counted.ensures in
    let count = c.in-Ok-read_counted.count in
    let fits = piece_within c.args.limit c.len-in-reading.result c.min-room.result count c.reading.content.items c.read_counted.new.buf c.reading.chunk
    r.bound c.in-Ok-read_counted.count-test.1 c.read_counted.auto.buf c.min-room.ensures (c.len-in-reading.ensures ∙ c.reading.content.ok.0)
    (rw (c.len.ensures ∙ sym c.len-in-reading.ensures) at c.reading-test.true) in
    record {
      reads = whatever_held _ (λ h. tt);
      within = tt;
      failed = λ is. absurd (memory_is_no_failure _ refl is);
      stayed = λ differs. r.cause.stayed ∙ s.stayed;
      ended = tt;
      taken =
          takes_more 1 (c.args.limit + 1) _ _ _ _ c.reading.content.items (take count c.read_counted.new.buf) s.bytes r.bytes.0 fits.0 fits.1;
      counted = one_more_read _ _ _ c.args.limit _ _ s.counted c.read_counted.ensures.counted c.len.ensures c.reading-test.true;
      failed_taken = λ is. absurd (memory_is_no_failure _ refl is);
      held = c.read_counted.ensures.held ∙ s.held;
      later = later_on s.stayed r.cause.later;
      capped = capped_on s.stayed r.cause.capped;
      broken_later = le_trans s.broken_later c.read_counted.ensures.broken_later;
      broken_capped = λ within. c.read_counted.ensures.broken_capped (s.broken_capped within);
    }

-- too much was read
pub returns : goal.returns
returns g c =
    let s = c.reading.invariant in
    let more = read_too_much c.args.limit _ _ _ _ c.reading.content.items s.bytes
    (c.len.ensures ∙ c.reading.content.ok.0) c.reading-test.false (within_test c.reading.content.ok.0 s.within) in
    record {
      reads = more.0;
      within = tt;
      failed = λ is. absurd (length_is_no_failure _ refl is);
      stayed = λ differs. s.stayed;
      ended = tt;
      taken = more.1;
      counted = few_reads _ _ c.args.limit _ s.counted s.within;
      failed_taken = λ is. absurd (length_is_no_failure _ refl is);
      held = s.held;
      later = le_of_eq (sym s.stayed);
      capped = λ within. rw (sym s.stayed) at within;
      broken_later = s.broken_later;
      broken_capped = s.broken_capped;
    }

-- the whole file was read
pub returns-in-Ok-eq0 : goal.returns-in-Ok-eq0
returns-in-Ok-eq0 g c =
    let s = c.reading.invariant in
    let r = c.in-Ok-eq0.ensures in
    let within = within_test (c.len.ensures ∙ c.reading.content.ok.0) c.reading-test.true in
    let end = r.bytes.1 c.in-Ok-eq0.field-0-test c.read_counted.ensures.room in
    let whole = read_whole c.args.limit c.in-Ok-eq0.field-0 _ _ _ _ c.reading.content.items c.from_vec.result c.read_counted.new.buf s.bytes r.bytes.0
    c.in-Ok-eq0.field-0-test end c.from_vec.ensures within in
    record {
      reads = whole.0;
      within = rw c.from_vec.ensures within;
      failed = λ is. absurd (text_is_no_failure _ _ refl is);
      stayed = λ differs. r.cause.stayed ∙ s.stayed;
      ended = end;
      taken = whole.1;
      counted = one_more_read _ _ _ c.args.limit _ _ s.counted c.read_counted.ensures.counted c.len.ensures c.reading-test.true;
      failed_taken = λ is. absurd (text_is_no_failure _ _ refl is);
      held = c.read_counted.ensures.held ∙ s.held;
      later = later_on s.stayed r.cause.later;
      capped = capped_on s.stayed r.cause.capped;
      broken_later = le_trans s.broken_later c.read_counted.ensures.broken_later;
      broken_capped = λ within. c.read_counted.ensures.broken_capped (s.broken_capped within);
    }

-- the file was begun
pub reading-init : goal.reading-init
reading-init g c =
    let e = c.in-Ok.ensures in
    record {
      within = few_at_first _ c.args.limit c.new-content.ensures.len;
      bytes = begun _ c.args.name.now _ c.new-content.result.items e.begins c.new-content.ensures.items;
      counted = none_counted _ _;
      held = c.begin.ensures.held;
      stayed = e.cause.stayed;
      broken_later = c.begin.ensures.broken_later;
      broken_capped = c.begin.ensures.broken_capped;
    }

pub reading-smaller : goal.reading-smaller
reading-smaller g c =
    let count = c.in-Ok-read_counted.count in
    let bound = c.in-Ok-read_counted.ensures.bound in
    let items = c.in-Ok-extend_from_slice.ensures.items
    ∙ ap (λ (piece : List ℕ). c.reading.content.items ++ piece) (take-append-le count c.read_counted.new.buf (drop c.min-room.result c.reading.chunk) bound.0) in
    let longer = longer_by _ _ count c.reading.content.items (take count c.read_counted.new.buf) (c.extend_from_slice.new.self.ok.0 ∙ ap length items)
    c.reading.content.ok.0 bound.1 in
    less_room c.args.limit _ _ count longer c.in-Ok-read_counted.count-test.1 (within_test c.len.ensures c.reading-test.true)

-- it was read on
pub reading-preserved : goal.reading-preserved
reading-preserved g c =
    let s = c.reading.invariant in
    let r = c.in-Ok-read_counted.ensures in
    let count = c.in-Ok-read_counted.count in
    let fits = piece_within c.args.limit c.len-in-reading.result c.min-room.result count c.reading.content.items c.read_counted.new.buf c.reading.chunk
    r.bound c.in-Ok-read_counted.count-test.1 c.read_counted.auto.buf c.min-room.ensures (c.len-in-reading.ensures ∙ c.reading.content.ok.0)
    (rw (c.len.ensures ∙ sym c.len-in-reading.ensures) at c.reading-test.true) in
    let items = c.in-Ok-extend_from_slice.ensures.items
    ∙ ap (λ (piece : List ℕ). c.reading.content.items ++ piece) (take-append-le count c.read_counted.new.buf (drop c.min-room.result c.reading.chunk) r.bound.0) in
    let long = c.extend_from_slice.new.self.ok.0 ∙ ap length items in
    record {
      within = subst (λ (n : ℕ). n ≤ c.args.limit + 1) (sym long) fits.1;
      bytes = reads_on _ c.args.name.now _ _ c.reading.content.items (take count c.read_counted.new.buf) _ s.bytes r.bytes.0 items;
      counted = counted_on _ _ _ _ _ count s.counted c.read_counted.ensures.counted
          (longer_by _ _ count c.reading.content.items (take count c.read_counted.new.buf) long c.reading.content.ok.0 r.bound.1) c.in-Ok-read_counted.count-test.1;
      held = c.read_counted.ensures.held ∙ s.held;
      stayed = r.cause.stayed ∙ s.stayed;
      broken_later = le_trans s.broken_later c.read_counted.ensures.broken_later;
      broken_capped = λ within. c.read_counted.ensures.broken_capped (s.broken_capped within);
    }
