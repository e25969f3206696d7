-- Ends: how a run over a wire ends, from what was sent and told so far.
use Rattle.std.proofs.Common.{◌≡◌, ℕ, ◌+◌, ◌-◌, ◌*◌, ◌<◌, ◌≤◌, List, [], ◌∷◌, ◌++◌, length, take, drop, slice_get, slice_index_or, Option, Some, None, Ok, Err, ℤ, refl, sym, ap, subst, ◌∙◌, arith, append_assoc, append-nil}
use Rattle.std.proofs.lemmas.List.{take_all, length-drop}
use Rattle.std.specs.Io.KnownBytes.{Appends}
use Rattle.std.proofs.KnownBytes.{Appends-trans}
use Rattle.vcp_outside.specs.Counts.{Rose}
use Rattle.vcp_outside.specs.Seen.{SinkSeen}
use Rattle.vcp_outside.specs.Written.{AppendsPart}
use Rattle.coded_unit.specs.Log.{Entry, GrowsBy}
use Rattle.coded_unit.specs.Seen.{UnitSeen, StaysHonest}
use Rattle.telegram.specs.declared.event.Event.{Event}
use Rattle.telegram.specs.declared.event.Event.TheVariants as event
use Rattle.telegram.specs.declared.receipt.Receipt.{Receipt}
use Rattle.telegram.specs.declared.wire.Wire.{Wire}
use Rattle.telegram.specs.Deliveries.{delivered}
use Rattle.telegram.specs.Receipts.{State, receipt_of, after_receipt}
use Rattle.telegram.specs.WireRead.{read_from, wire_read, right_words}
use Rattle.telegram.specs.WireRun.{Handing, sent_in, wired}
use Rattle.telegram.specs.Runs.{events_before, told_text, meant_text, AreWords, PartTold, RunsWire, EarlierTold}
use Rattle.telegram.specs.Sends.{Cut, sends_from, cut_sendings, calls_of, SendsAll}
use Rattle.telegram.specs.WireLines.{wire_end_text, handings_text, receipt_line, unsent_text}
use Rattle.telegram.specs.declared.runs.wire_end.WireEnd.TheVariants as end
use Rattle.telegram.specs.declared.runs.wire_end.WireRunFault.TheVariants as fault
use Rattle.telegram.proofs.Growing.{grows_on, grows_by_none, drop_here, honest_second, take_drop}
use Rattle.telegram.proofs.SoFar.{SoFar, altered, few_cycles, no_sends, right_length, index_there, values_there, within, h, read_next}
use Rattle.telegram.proofs.Telling.{first_lines, lines_joined, part_behind}

-- where each sending is answered rightly, the receipts are those of the wire run
abbrev pub Law : Wire → List Event → Type 0
Law w es = wire_read w (right_words w 0 (sent_in es)) es ≡ wired w es

-- ---- what is meant

right_told : (w : Wire) (es : List Event) (words : List (List ℤ)) → Law w es → words ≡ right_words w 0 (sent_in es) → told_text w es words None ≡ meant_text w es
right_told w es words law is =
    ap (λ (ws : List (List ℤ)). told_text w es ws None) is
    ∙ ap (λ (l : List Handing). handings_text l ++ wire_end_text (length (sent_in es)) (length (delivered l))) law

part_meant : (w : Wire) (es : List Event) (words : List (List ℤ)) (n : ℕ) (old new : Option (List ℕ)) → Law w es
    → words ≡ take n (right_words w 0 (sent_in es)) → length words ≡ n → n ≤ length (sent_in es) → PartTold w es words None old new
    → AppendsPart old new (meant_text w es)
part_meant w es words n old new law is many few part =
    let right = right_words w 0 (sent_in es) in
    let rest : length words + length (drop n right) ≡ length (sent_in es) =
    omega (arith, many, few, length-drop n right, right_length w 0 (sent_in es)) in
    let all : words ++ drop n right ≡ right = ap (λ (l : List (List ℤ)). l ++ drop n right) is ∙ take_drop n right in
    subst (AppendsPart old new) (right_told w es (words ++ drop n right) law all) (part (drop n right) rest)

none_later : (a b : ℕ) (later : List (List ℤ)) → a ≡ b → a + length later ≡ b → later ≡ []
none_later a b [] all is = refl
none_later a b (v ∷ later) all is = absurd (omega (arith, all, is))

some_none : (id : ℕ) → Some id ≡ None → ⊥
some_none id e = absurd cc

-- there was no memory
pub no_memory : (w : Wire) (es : List Event) (before : UnitSeen) (old : SinkSeen) → RunsWire w es before before old old (Err fault.Memory)
no_memory w es before old = record {
  words = [];
  cut = None;
  are = record { rows = tt; few = omega arith; cut_is = tt };
  log = subst (GrowsBy before.log before.log) (sym (no_sends w 0 (sent_in es))) (grows_by_none before.log);
  ends = (refl, refl, refl);
  rose = tt;
  honest = λ h. tt;
  still = λ is. refl;
}

module _ (w : Wire) (es : List Event) (before now : UnitSeen) (old new : SinkSeen) (i begun count : ℕ) (s : State) (kept : List ℤ)
    (so_far : SoFar w es before now old new i begun count s kept) (faults : old.faults ≤ new.faults) (law : Law w es) where
  few : begun ≤ length (sent_in es)
  few = few_cycles w es before now old new i begun count s kept so_far

  are : AreWords w (sent_in es) so_far.words None
  are = record { rows = so_far.rows; few = omega (arith, few, so_far.words_are); cut_is = tt }

  -- the lines before the last cycle that was begun
  earlier : (new' : SinkSeen) (piece : List ℕ) → AppendsPart new.written new'.written piece → EarlierTold w es so_far.words None old.written new'.written
  earlier new' piece part =
      let number : begun - 1 ≡ length so_far.words - 1 = ap (λ (n : ℕ). n - 1) (sym so_far.words_are) in
      subst (λ (n : ℕ). (more : List ℕ) × Appends old.written new'.written (handings_text (wire_read w so_far.words (events_before n es)) ++ more)) number
      (first_lines so_far.told (wire_read w so_far.words (events_before (begun - 1) es)) so_far.past.0 old.written new.written new'.written piece
      so_far.past.1 so_far.written part)

  -- ---- behind the last event

  module _ (last : drop i es ≡ []) where
    all_cycles : begun ≡ length (sent_in es)
    all_cycles =
        let all : sent_in es ≡ so_far.done ++ [] = so_far.sent ∙ ap (λ (l : List Event). so_far.done ++ sent_in l) last in
        omega (arith, ap (λ (l : List (List ℤ)). length l) (all ∙ append-nil so_far.done), so_far.done_are)

    told_all : wire_read w so_far.words es ≡ so_far.told
    told_all =
        ap (λ (ws : List (List ℤ)). wire_read w ws es) (sym (append-nil so_far.words))
        ∙ (so_far.read [] ∙ (ap (λ (l : List Event). so_far.told ++ read_from (so_far.words ++ []) s l) last ∙ append-nil so_far.told))

    text_all : handings_text so_far.told ++ wire_end_text begun count ≡ told_text w es so_far.words None
    text_all =
        ap (λ (n : ℕ). handings_text so_far.told ++ wire_end_text n count) all_cycles
        ∙ (ap (λ (n : ℕ). handings_text so_far.told ++ wire_end_text (length (sent_in es)) n) so_far.count_is
        ∙ ap (λ (l : List Handing). handings_text l ++ wire_end_text (length (sent_in es)) (length (delivered l))) (sym told_all))

    right_all : StaysHonest before now → so_far.words ≡ right_words w 0 (sent_in es)
    right_all honest =
        let right = right_words w 0 (sent_in es) in
        so_far.honest honest ∙ take_all begun right (omega (arith, all_cycles, right_length w 0 (sent_in es)))

    pub complete : (new' : SinkSeen) → Appends new.written new'.written (wire_end_text begun count) → RunsWire w es before now old new' (Ok end.Complete)
    complete new' line =
        let text = Appends-trans old.written new.written new'.written (handings_text so_far.told) (wire_end_text begun count) so_far.written line in
        let all = subst (Appends old.written new'.written) text_all text in
        record {
          words = so_far.words;
          cut = None;
          are = are;
          log = so_far.log;
          ends = (so_far.words_are ∙ all_cycles, refl, all);
          rose = tt;
          honest = λ h. (refl, right_told w es so_far.words law (right_all h));
          still = λ is. absurd cc;
        }

    pub end_failed : (new' : SinkSeen) → AppendsPart new.written new'.written (wire_end_text begun count) → Rose new.faults new'.faults
        → RunsWire w es before now old new' (Err fault.Write)
    end_failed new' line rose =
        let piece = part_behind old.written new.written new'.written (handings_text so_far.told) (wire_end_text begun count) [] so_far.written line in
        let whole : AppendsPart old.written new'.written (told_text w es so_far.words None) =
        subst (AppendsPart old.written new'.written)
        (ap (λ (l : List ℕ). handings_text so_far.told ++ l) (append-nil (wire_end_text begun count)) ∙ text_all) piece in
        record {
          words = so_far.words;
          cut = None;
          are = are;
          log = so_far.log;
          ends = (
            omega (arith, rose, faults),
            λ later many.
                let none = none_later (length so_far.words) (length (sent_in es)) later (so_far.words_are ∙ all_cycles) many in
                let same : so_far.words ≡ so_far.words ++ later =
                sym (append-nil so_far.words) ∙ ap (λ (l : List (List ℤ)). so_far.words ++ l) (sym none) in
                subst (λ (ws : List (List ℤ)). AppendsPart old.written new'.written (told_text w es ws None)) same whole,
            earlier new' (wire_end_text begun count) line,
          );
          rose = tt;
          honest = λ h. subst (AppendsPart old.written new'.written) (right_told w es so_far.words law (right_all h)) whole;
          still = λ is. absurd cc;
        }

  -- ---- a line that couldn't be written

  module _ (line id n : ℕ) (alter word : ℤ) (x : Receipt) (there : slice_get es i ≡ Some (event.Deliver line id n alter))
      (sender : id < w.senders) (kept_there : slice_get kept (n * w.senders + id) ≡ Some word)
      (x_is : x ≡ receipt_of s (altered n word alter)) where
    pub line_failed : (new' : SinkSeen) → AppendsPart new.written new'.written (receipt_line line n x) → Rose new.faults new'.faults
        → RunsWire w es before now old new' (Err fault.Write)
    line_failed new' part rose =
        let one : Handing = h w es before now old new i begun count s kept so_far line id n alter word x there sender kept_there x_is in
        let piece = receipt_line line n x in
        let told : PartTold w es so_far.words None old.written new'.written =
        λ later many.
        let rest = read_from (so_far.words ++ later) (after_receipt s n x) (drop (i + 1) es) in
        let totals : List Handing → List ℕ = λ l. wire_end_text (length (sent_in es)) (length (delivered l)) in
        let all = wire_read w (so_far.words ++ later) es in
        let read : all ≡ (so_far.told ++ one ∷ []) ++ rest =
        read_next w es before now old new i begun count s kept so_far line id n alter word x there sender kept_there x_is later in
        let lines : handings_text all ≡ handings_text so_far.told ++ (piece ++ handings_text rest) =
        ap handings_text (read ∙ append_assoc so_far.told (one ∷ []) rest) ∙ lines_joined so_far.told (one ∷ rest) in
        let text : handings_text so_far.told ++ (piece ++ (handings_text rest ++ totals all)) ≡ handings_text all ++ totals all =
        ap (λ (l : List ℕ). handings_text so_far.told ++ l) (sym (append_assoc piece (handings_text rest) (totals all)))
        ∙ (sym (append_assoc (handings_text so_far.told) (piece ++ handings_text rest) (totals all)) ∙ ap (λ (l : List ℕ). l ++ totals all) (sym lines)) in
        subst (AppendsPart old.written new'.written) text
        (part_behind old.written new.written new'.written (handings_text so_far.told) piece (handings_text rest ++ totals all) so_far.written part) in
        record {
          words = so_far.words;
          cut = None;
          are = are;
          log = so_far.log;
          ends = (omega (arith, rose, faults), told, earlier new' piece part);
          rose = tt;
          honest = λ honest.
              part_meant w es so_far.words begun old.written new'.written law (so_far.honest honest) so_far.words_are few told;
          still = λ is. absurd cc;
        }

  -- ---- a sending that was answered by no word

  module _ (values kept' : List ℤ) (after : UnitSeen) (id : ℕ) (there : slice_get es i ≡ Some (event.Cycle values))
      (sends : SendsAll w begun values kept kept' now after (Some id)) where
    abbrev cut : Cut
    cut = record { row = sends.row; answer = sends.ends.0 }

    cut_are : AreWords w (sent_in es) so_far.words (Some cut)
    cut_are =
        let below = within w es before now old new i begun count s kept so_far values there in
        record {
          rows = so_far.rows;
          few = omega (arith, few, so_far.words_are);
          cut_is = (omega (arith, below, so_far.words_are), sends.ends.3, sends.ends.1);
        }

    cut_log : GrowsBy before.log after.log (calls_of w (sent_in es) so_far.words (Some cut))
    cut_log =
        let is : slice_index_or (sent_in es) begun [] ≡ values =
        index_there (sent_in es) begun values (values_there w es before now old new i begun count s kept so_far values there) in
        let calls : cut_sendings w begun values cut ≡ cut_sendings w (length so_far.words) (slice_index_or (sent_in es) (length so_far.words) []) cut =
        ap (λ (l : List ℤ). cut_sendings w begun l cut) (sym is)
        ∙ ap (λ (k : ℕ). cut_sendings w k (slice_index_or (sent_in es) k []) cut) (sym so_far.words_are) in
        subst (λ (l : List Entry). GrowsBy before.log after.log (sends_from w 0 (sent_in es) so_far.words ++ l)) calls
        (grows_on before.log now.log after.log (sends_from w 0 (sent_in es) so_far.words) (cut_sendings w begun values cut) so_far.log sends.ends.4)

    cut_told : wire_read w so_far.words (events_before (length so_far.words) es) ≡ so_far.told
    cut_told =
        let number : length so_far.words ≡ begun + 0 = omega (arith, so_far.words_are) in
        let rest = drop_here es i (event.Cycle values) there in
        ap (λ (n : ℕ). wire_read w so_far.words (events_before n es)) number
        ∙ (ap (λ (ws : List (List ℤ)). wire_read w ws (events_before (begun + 0) es)) (sym (append-nil so_far.words))
        ∙ (so_far.early 0 []
        ∙ (ap (λ (l : List Event). so_far.told ++ read_from (so_far.words ++ []) s (events_before 0 l)) rest ∙ append-nil so_far.told)))

    cut_text : handings_text so_far.told ++ unsent_text begun id ≡ told_text w es so_far.words (Some cut)
    cut_text =
        ap (λ (l : List Handing). handings_text l ++ unsent_text begun id) (sym cut_told)
        ∙ (ap (λ (k : ℕ). handings_text (wire_read w so_far.words (events_before (length so_far.words) es)) ++ unsent_text k id) (sym so_far.words_are)
        ∙ ap (λ (k : ℕ). handings_text (wire_read w so_far.words (events_before (length so_far.words) es)) ++ unsent_text (length so_far.words) k) sends.ends.2)

    cut_rose : Rose before.wrong after.wrong
    cut_rose = let rose = sends.ends.5 in omega (arith, rose, so_far.later)

    not_honest : StaysHonest before after → ⊥
    not_honest honest = some_none id (sends.honest (honest_second before now after so_far.later sends.later honest)).0

    pub unsent : (new' : SinkSeen) → Appends new.written new'.written (unsent_text begun id) → RunsWire w es before after old new' (Ok (end.Unsent begun id))
    unsent new' line = record {
      words = so_far.words;
      cut = Some cut;
      are = cut_are;
      log = cut_log;
      ends = (
        cut,
        refl,
        sym so_far.words_are,
        sends.ends.2,
        subst (Appends old.written new'.written) cut_text
            (Appends-trans old.written new.written new'.written (handings_text so_far.told) (unsent_text begun id) so_far.written line),
      );
      rose = cut_rose;
      honest = λ honest. absurd (not_honest honest);
      still = λ is. absurd cc;
    }

    pub unsent_failed : (new' : SinkSeen) → AppendsPart new.written new'.written (unsent_text begun id) → Rose new.faults new'.faults
        → RunsWire w es before after old new' (Err fault.Write)
    unsent_failed new' part rose = record {
      words = so_far.words;
      cut = Some cut;
      are = cut_are;
      log = cut_log;
      ends = (
        omega (arith, rose, faults),
        subst (AppendsPart old.written new'.written)
            (ap (λ (l : List ℕ). handings_text so_far.told ++ l) (append-nil (unsent_text begun id)) ∙ cut_text)
            (part_behind old.written new.written new'.written (handings_text so_far.told) (unsent_text begun id) [] so_far.written part),
        first_lines so_far.told (wire_read w so_far.words (events_before (length so_far.words) es)) [] old.written new.written new'.written
            (unsent_text begun id) (sym cut_told ∙ sym (append-nil (wire_read w so_far.words (events_before (length so_far.words) es)))) so_far.written part,
      );
      rose = cut_rose;
      honest = λ honest. absurd (not_honest honest);
      still = λ is. absurd cc;
    }
