-- From what a read of csv says to the records that are left.
use Rattle.std.proofs.Common.{◌≡◌, ◌⊎◌, ℕ, List, [], ◌∷◌, Option, Some, None, Bool, true, false, refl, sym, ◌∙◌, inl, inr, Bor}
use Rattle.csv.specs.Machine.{Read, next_record}
use Rattle.csv.specs.Reading.{ReadRecord, ReadsNext, default_config, source_of, pending_of, took_first, is_flexible}
use Rattle.csv.specs.declared.parser.State.{State}
use Rattle.csv.specs.declared.reader.Reader.{Reader}
use Rattle.input_rows.specs.RecordsLeft.{records_left, text_left, IsPlain, Reads}
use Rattle.input_rows.proofs.Fuel.{records_after, no_records}

-- by what the next record is, and what is known of the text after it
by_next : (s s2 : State) (xs : List ℕ) (after : Option (List ℕ)) (o : Option Read) (found : Bool) (fields : List (List ℕ))
    → o ≡ next_record default_config s [] [] xs → ReadsNext default_config s (Some xs) after found fields s2
    → ((found ≡ false) × (records_left s xs ≡ [])) ⊎ ((found ≡ true) × (ys : List ℕ) × (after ≡ Some ys) × (records_left s xs ≡ fields ∷ records_left s2 ys))
by_next s s2 xs None o found fields e h = absurd h
by_next s s2 xs (Some ys) None found fields e h = inl (rw (← e) at h, no_records s xs (sym e))
by_next s s2 xs (Some ys) (Some p) found fields e h = let k = rw (← e) at h in inr (k.0, ys, refl, rw (k.1, k.2, k.3) (records_after s xs p.0 p.1 p.2 (sym e)))

-- once the start of the text is passed, what is unread is what is pending
unread : (r : Reader (Bor (List ℕ))) → r.bom_checked ≡ true → source_of (λ s. Some s.now) r ≡ pending_of (Some r.rdr.now) r
unread r e = rw e refl

pub reads_of : (old new : Reader (Bor (List ℕ))) (found : Bool) (fields : List (List ℕ)) → IsPlain old → ReadRecord (λ s. Some s.now) old new found fields
    → took_first new ≡ true → is_flexible new ≡ is_flexible old → Reads old new fields found
reads_of old new found fields plain read first flexible =
    let next : ReadsNext default_config old.state (Some plain.text) (pending_of (Some new.rdr.now) new) found fields new.state =
    rw (← plain.config, ← plain.source) read.0 in
    by_case (by_next old.state new.state plain.text (pending_of (Some new.rdr.now) new)
    (next_record default_config old.state [] [] plain.text) found fields refl next)
  where
    by_case : ((found ≡ false) × (records_left old.state plain.text ≡ []))
        ⊎ ((found ≡ true) × (ys : List ℕ) × (pending_of (Some new.rdr.now) new ≡ Some ys)
        × (records_left old.state plain.text ≡ fields ∷ records_left new.state ys)) → Reads old new fields found
    by_case (inl h) = rw (h.0, plain.source) h.1
    by_case (inr h) =
        let source : text_left new ≡ Some h.1 = unread new read.1 ∙ h.2 in
        rw h.0 (
          record {
            trim = read.3 ∙ plain.trim;
            config = read.2 ∙ plain.config;
            flexible = flexible ∙ plain.flexible;
            ready = inl first;
            text = h.1;
            source = source;
          },
          rw (plain.source, source) h.3,
        )
