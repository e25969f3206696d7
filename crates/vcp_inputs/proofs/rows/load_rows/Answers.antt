use Rattle.std.proofs.Common.{◌≡◌, ◌≢◌, ◌∙◌, refl, sym, subst, ap, length, Err, IfSome}
use Rattle.vcp_inputs.specs.Forms.{rows_of}
use Rattle.vcp_inputs.specs.RowsOutcome.{LoadsRows, rows_outcome}
use Rattle.vcp_inputs.specs.declared.words.command.RowsWord.{RowsWord}
use Rattle.std.proofs.Math.Nat.{le_refl}
use Rattle.vcp_inputs.proofs.Causes.{read_caused}
use Rattle.vcp_inputs.proofs.RowsLoaded.{always, form_refused, no_error, not_both_ways, not_unread, rows_taken, with_columns, without_columns}
use Rattle.vcp_inputs.proofs.Taken.{if_some_weaker, rows_unread, same_error, same_stays}
use Rattle.vcp_inputs.proofs.rows.load_rows.Goals as goal

-- ---- there are no columns

pub returns-then-len-eq0 : goal.returns-then-len-eq0
returns-then-len-eq0 g c =
    let files = g.F.Files.seen c.args.files.now in
    let none : length c.args.columns.now ≡ 0 = sym c.len.ensures ∙ c.if-len-eq0.true in
    record {
      loads = rw c.in-File.is (always files.held _ (λ h. form_refused c.in-File.name.now c.args.columns.now h files.broken files.broken none));
      without_file = rw c.in-File.is (λ off h. form_refused c.in-File.name.now c.args.columns.now h files.broken files.broken none);
      few = tt;
      unread = λ is. absurd (not_unread _ refl is);
      caused = refl;
      begun = rw c.in-File.is (λ is. absurd (not_unread _ refl is));
      refused = rw c.in-File.is (λ r is on. absurd (not_both_ways _ on (without_columns c.in-File.name.now c.args.columns.now none)));
      long = rw c.in-File.is (λ is. absurd cc);
      unbegun = rw c.in-File.is (λ off. (refl, refl, refl));
      ended = tt;
      whole = λ r is other. refl;
      stayed = λ other. refl;
      held = refl;
      later = le_refl _;
      broken_later = le_refl _;
    }

-- ---- the file isn't read, or it is

pub returns-in-Err : goal.returns-in-Err
returns-in-Err g c =
    let old = g.F.Files.seen c.args.files.now in
    let new = g.F.Files.seen c.read_file.new.files in
    let some : length c.args.columns.now ≢ 0 = λ e. c.if-len-eq0.false (c.len.ensures ∙ e) in
    let on = with_columns c.in-File.name.now c.args.columns.now some in
    let why = c.in-Err.ensures in
    record {
      loads = subst (λ (r : RowsWord). IfSome old.held
          (λ h. LoadsRows (rows_outcome (rows_of r) h c.args.columns.now) c.args.columns.now old.broken new.broken (Err c.in-Err.why)))
          (sym c.in-File.is)
          (if_some_weaker old.held _ _ (λ h read. rows_unread h c.in-File.name.now c.args.columns.now old.broken new.broken c.in-Err.why some read) why.reads);
      without_file = rw c.in-File.is (λ off h. absurd (not_both_ways _ on off));
      few = tt;
      unread = λ is. why.unread (same_error _ _ _ _ refl refl is);
      caused = read_caused c.in-Err.why (λ r is. why.long r (ap Err is));
      begun = rw c.in-File.is (λ is. on);
      refused = rw c.in-File.is (λ r is begun. why.long r (same_error _ _ _ _ refl refl is));
      long = rw c.in-File.is (λ is. why.left (same_error _ _ _ _ refl refl is));
      unbegun = rw c.in-File.is (λ off. absurd (not_both_ways _ on off));
      ended = tt;
      whole = λ r is other. absurd (other (why.long r (same_error _ _ _ _ refl refl is)));
      stayed = same_stays _ _ _ _ _ refl refl why.stayed;
      held = c.read_file.ensures.held;
      later = c.read_file.ensures.later;
      broken_later = c.read_file.ensures.broken_later;
    }

pub returns-in-Ok : goal.returns-in-Ok
returns-in-Ok g c =
    let old = g.F.Files.seen c.args.files.now in
    let new = g.F.Files.seen c.read_file.new.files in
    let some : length c.args.columns.now ≢ 0 = λ e. c.if-len-eq0.false (c.len.ensures ∙ e) in
    let on = with_columns c.in-File.name.now c.args.columns.now some in
    let read = c.in-Ok.ensures in
    record {
      loads = rw c.in-File.is (if_some_weaker old.held _ _ (λ h is. rows_taken h c.in-File.name.now c.in-Ok.text c.args.columns.now old.broken new.broken some is) read.reads);
      without_file = rw c.in-File.is (λ off h. absurd (not_both_ways _ on off));
      few = tt;
      unread = λ is. absurd (no_error is);
      caused = tt;
      begun = rw c.in-File.is (λ is. on);
      refused = rw c.in-File.is (λ r is begun. absurd (no_error is));
      long = rw c.in-File.is (λ is. absurd (no_error is));
      unbegun = rw c.in-File.is (λ off. absurd (not_both_ways _ on off));
      ended = λ before. read.ended;
      whole = λ r is other. absurd (no_error is);
      stayed = λ other. read.stayed no_error;
      held = c.read_file.ensures.held;
      later = c.read_file.ensures.later;
      broken_later = c.read_file.ensures.broken_later;
    }

-- ---- there is none

pub returns-in-Cycles : goal.returns-in-Cycles
returns-in-Cycles g c = record {
  loads = rw c.in-Cycles.is (always (g.F.Files.seen c.args.files.now).held _ (λ h. refl));
  without_file = rw c.in-Cycles.is (λ off h. refl);
  few = rw c.in-Cycles.is at c.requires.few;
  unread = λ is. absurd (no_error is);
  caused = tt;
  begun = λ is. absurd (no_error is);
  refused = λ r is on. absurd (no_error is);
  long = λ is. absurd (no_error is);
  unbegun = λ off. (refl, refl, refl);
  ended = λ at_end. at_end;
  whole = λ r is other. refl;
  stayed = λ other. refl;
  held = refl;
  later = le_refl _;
  broken_later = le_refl _;
}
