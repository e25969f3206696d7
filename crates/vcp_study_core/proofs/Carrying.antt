-- Carrying: how far a command comes, from what reading its files gives and what is written.
use Rattle.std.proofs.Common.{◌≡◌, ◌≤◌, ◌⊎◌, inl, inr, ℕ, Bool, true, false, List, [], ◌∷◌, None, Result, Ok, Err, OnOk, OnErr, IfSome, refl, ◌∙◌, arith}
use Rattle.std.specs.Io.KnownBytes.{Appends, IsAtEnd}
use Rattle.vcp_outside.specs.Counts.{Rose}
use Rattle.vcp_outside.specs.Held.{Held}
use Rattle.vcp_outside.specs.Seen.{FilesSeen, SinkSeen}
use Rattle.vcp_outside.specs.Written.{AppendsPart, WritesTo}
use Rattle.vcp_inputs.specs.Lines.{memory_text, write_fault_text, input_status}
use Rattle.vcp_inputs.specs.declared.refusal.NoInput.{NoInput}
use Rattle.vcp_inputs.specs.declared.refusal.NoInput.TheVariants as input
use Rattle.vcp_inputs.specs.Abouts.{Among}
use Rattle.vcp_inputs.specs.Answer.{Answer}
use Rattle.vcp_study_core.specs.CarriedOut.{status_of, written, told_line, told_status, CarriedOut, done, cut, unmade, WritesSo, IsLoss, Fetches, Studies}
use Rattle.vcp_study_core.specs.FromFiles.{FromFiles, got, ends_by, input_answer, OfLoads, Onward, nothing, onward}
use Rattle.vcp_study_core.specs.declared.fault.Fault.{Fault}
use Rattle.vcp_study_core.specs.declared.fault.Fault.TheVariants as fault
use Rattle.vcp_study_core.proofs.Facts.{if_some_weaker, if_some_always, if_some_both, appends-nothing}

-- ---- what is written

module _ (Is : Answer → Type 0) (old new : SinkSeen) where
  pub whole : (text : List ℕ) (found : Bool) → Is (written text found) → Appends old.written new.written text → WritesSo Is old new [] (status_of found)
  whole text true is w = record {
    reaches = done (written text true) is w refl refl;
    statuses = inr (inr (inr (inr (inl refl))));
    write = λ e. absurd (omega (arith, e));
  }
  whole text false is w = record {
    reaches = done (written text false) is w refl refl;
    statuses = inl refl;
    write = λ e. absurd (omega (arith, e));
  }

  pub broken : (text : List ℕ) (found : Bool) → Is (written text found) → AppendsPart old.written new.written text → Rose old.faults new.faults
      → WritesSo Is old new write_fault_text 6
  broken text found is w rose = record {
    reaches = cut (written text found) is w refl refl;
    statuses = inr (inr (inl refl));
    write = λ e. rose;
  }

  -- a text was written to a sink, or a part of it
  pub wrote : {T E : Type 0} (text : List ℕ) (found : Bool) → Is (written text found) → (w : Result T E) → WritesTo old new text w → (r : Result Bool Fault)
      → OnOk w (r ≡ Ok found) → OnErr w (r ≡ Err fault.Write) → WritesSo Is old new (told_line r) (told_status r)
  wrote text found is (Ok d) writes r ok err = rw ok (whole text found is writes.whole)
  wrote text found is (Err e) writes r ok err = rw err (broken text found is writes.part writes.cause.failed)

  -- nothing was written: memory was wanted, or a refusal was found
  pub no_memory : Appends old.written new.written [] → WritesSo Is old new memory_text 7
  no_memory w = record {
    reaches = unmade w refl refl;
    statuses = inr (inr (inr (inl refl)));
    write = λ e. absurd (omega (arith, e));
  }

  pub refused : (x : Answer) → Is x → x.out ≡ [] → x.status ≡ 1 → Appends old.written new.written [] → WritesSo Is old new x.err x.status
  refused x is none one w = record {
    reaches = done x is (rw none w) refl refl;
    statuses = inr (inl one);
    write = λ e. absurd (omega (arith, one, e));
  }

-- ---- what is read

abbrev pub Losses : List ℕ
Losses = 1 ∷ 5 ∷ 7 ∷ []

input_loss : (i : NoInput) → Among (input_status i) Losses
input_loss input.Unread = inr (inl refl)
input_loss (input.Refused r) = inl refl
input_loss input.Memory = inr (inr (inl refl))

input_unread : (i : NoInput) → input_status i ≡ 5 → i ≡ input.Unread
input_unread input.Unread e = refl
input_unread (input.Refused r) e = absurd (omega (arith, e))
input_unread input.Memory e = absurd (omega (arith, e))

-- of a file, or of ROWS, which lines tell by this name
module _ {V : Type 0} (Gives : Held → ℕ → ℕ → Result V NoInput → Type 0) (name : List ℕ) (files after : FilesSeen) where
  pub loaded : (v : V) → IfSome files.held (λ h. Gives h files.broken after.broken (Ok v)) → IsAtEnd after.rest → after.held ≡ files.held
      → files.faults ≤ after.faults → files.broken ≤ after.broken → Fetches (λ h b n. OfLoads (Gives h b n) name) files after (got v)
  loaded v gives end same later broken = record { reads = gives; ends = end; held = same; later = later; broken_later = broken }

  pub not_loaded : (i : NoInput) → IfSome files.held (λ h. Gives h files.broken after.broken (Err i)) → (i ≡ input.Unread → Rose files.faults after.faults)
      → after.held ≡ files.held → files.faults ≤ after.faults → files.broken ≤ after.broken
      → Fetches (λ h b n. OfLoads (Gives h b n) name) files after (ends_by (input_answer name i))
  not_loaded i gives unread same later broken = record {
    reads = if_some_weaker files.held _ _ (λ h g. (i, g, refl)) gives;
    ends = record { nothing = refl; statuses = input_loss i; read = λ e. unread (input_unread i e) };
    held = same;
    later = later;
    broken_later = broken;
  }

-- an answer without output for another want than that of a file
abbrev pub IsQuiet : {V : Type 0} → FromFiles V → Type 0
IsQuiet (got v) = Unit {0}
IsQuiet (ends_by x) = (x.out ≡ []) × Among x.status (1 ∷ 7 ∷ [])

quiet_loss : (n : ℕ) → Among n (1 ∷ 7 ∷ []) → Among n Losses
quiet_loss n (inl one) = inl one
quiet_loss n (inr (inl seven)) = inr (inr (inl seven))
quiet_loss n (inr (inr none)) = absurd none

quiet_read : (n : ℕ) → Among n (1 ∷ 7 ∷ []) → n ≡ 5 → ⊥
quiet_read n (inl one) e = omega (arith, one, e)
quiet_read n (inr (inl seven)) e = omega (arith, seven, e)
quiet_read n (inr (inr none)) e = none

-- what is made of something that was found, without reading more
pub made_of : {V W : Type 0} {A : Held → ℕ → ℕ → FromFiles V → Type 0} {B : Held → ℕ → ℕ → FromFiles W → Type 0} {files after : FilesSeen} {v : V}
    (r : FromFiles W) → Fetches A files after (got v) → IsQuiet r
    → ((h : Held) → A h files.broken after.broken (got v) → B h files.broken after.broken r) → Fetches B files after r
made_of {files = files} {after = after} (got w) f quiet by =
    record { reads = if_some_weaker files.held _ _ by f.reads; ends = f.ends; held = f.held; later = f.later; broken_later = f.broken_later }
made_of {files = files} {after = after} (ends_by x) f quiet by = record {
  reads = if_some_weaker files.held _ _ by f.reads;
  ends = record { nothing = quiet.0; statuses = quiet_loss x.status quiet.1; read = λ e. absurd (quiet_read x.status quiet.1 e) };
  held = f.held;
  later = f.later;
  broken_later = f.broken_later;
}

-- what wasn't found isn't found either by what is made of it
pub lost_with : {V W : Type 0} {A : Held → ℕ → ℕ → FromFiles V → Type 0} {B : Held → ℕ → ℕ → FromFiles W → Type 0} {files after : FilesSeen} {x : Answer}
    → Fetches A files after (ends_by x) → ((h : Held) → A h files.broken after.broken (ends_by x) → B h files.broken after.broken (ends_by x))
    → Fetches B files after (ends_by x)
lost_with {files = files} f by =
    record { reads = if_some_weaker files.held _ _ by f.reads; ends = f.ends; held = f.held; later = f.later; broken_later = f.broken_later }

-- a loss behind what was found is one of all
pub loss_before : (files mid after : FilesSeen) (x : Answer) → files.faults ≤ mid.faults → IsLoss mid after x → IsLoss files after x
loss_before files mid after x le loss = record {
  nothing = loss.nothing;
  statuses = loss.statuses;
  read = λ e. let rose = loss.read e in omega (arith, le, rose);
}

module _ {V W U : Type 0} {A : Held → ℕ → ℕ → FromFiles V → Type 0} {B : Held → ℕ → ℕ → FromFiles W → Type 0} {C : Held → ℕ → ℕ → FromFiles U → Type 0}
    {files mid after : FilesSeen} {v : V} where
  -- something more was found
  pub found_both : (w : W) (u : U) → Fetches A files mid (got v) → Fetches B mid after (got w)
      → ((h : Held) → files.broken ≤ mid.broken → A h files.broken mid.broken (got v) → B h mid.broken after.broken (got w)
      → C h files.broken after.broken (got u)) → Fetches C files after (got u)
  found_both w u f s by = record {
    reads = if_some_both files.held mid.held _ _ _ f.held (λ h a b. by h f.broken_later a b) f.reads s.reads;
    ends = s.ends;
    held = s.held ∙ f.held;
    later = omega (arith, f.later, s.later);
    broken_later = omega (arith, f.broken_later, s.broken_later);
  }

  -- or the command ends for want of it
  pub lost_behind : (x : Answer) → Fetches A files mid (got v) → Fetches B mid after (ends_by x)
      → ((h : Held) → files.broken ≤ mid.broken → A h files.broken mid.broken (got v) → B h mid.broken after.broken (ends_by x)
      → C h files.broken after.broken (ends_by x)) → Fetches C files after (ends_by x)
  lost_behind x f s by = record {
    reads = if_some_both files.held mid.held _ _ _ f.held (λ h a b. by h f.broken_later a b) f.reads s.reads;
    ends = loss_before files mid after x f.later s.ends;
    held = s.held ∙ f.held;
    later = omega (arith, f.later, s.later);
    broken_later = omega (arith, f.broken_later, s.broken_later);
  }

-- ---- both

loss_status : (n : ℕ) → Among n Losses → Among n (0 ∷ 1 ∷ 5 ∷ 6 ∷ 7 ∷ 9 ∷ [])
loss_status n (inl one) = inr (inl one)
loss_status n (inr (inl five)) = inr (inr (inl five))
loss_status n (inr (inr (inl seven))) = inr (inr (inr (inr (inl seven))))
loss_status n (inr (inr (inr none))) = absurd none

loss_end : (n : ℕ) → Among n Losses → (n ≡ 0) ⊎ (n ≡ 9) → ⊥
loss_end n (inl one) (inl e) = omega (arith, one, e)
loss_end n (inl one) (inr e) = omega (arith, one, e)
loss_end n (inr (inl five)) (inl e) = omega (arith, five, e)
loss_end n (inr (inl five)) (inr e) = omega (arith, five, e)
loss_end n (inr (inr (inl seven))) (inl e) = omega (arith, seven, e)
loss_end n (inr (inr (inl seven))) (inr e) = omega (arith, seven, e)
loss_end n (inr (inr (inr none))) e = none

loss_write : (n : ℕ) → Among n Losses → n ≡ 6 → ⊥
loss_write n (inl one) e = omega (arith, one, e)
loss_write n (inr (inl five)) e = omega (arith, five, e)
loss_write n (inr (inr (inl seven))) e = omega (arith, seven, e)
loss_write n (inr (inr (inr none))) e = none

wrote_status : (n : ℕ) → Among n (0 ∷ 1 ∷ 6 ∷ 7 ∷ 9 ∷ []) → Among n (0 ∷ 1 ∷ 5 ∷ 6 ∷ 7 ∷ 9 ∷ [])
wrote_status n (inl e) = inl e
wrote_status n (inr (inl e)) = inr (inl e)
wrote_status n (inr (inr e)) = inr (inr (inr e))

wrote_read : (n : ℕ) → Among n (0 ∷ 1 ∷ 6 ∷ 7 ∷ 9 ∷ []) → n ≡ 5 → ⊥
wrote_read n (inl a) e = omega (arith, a, e)
wrote_read n (inr (inl a)) e = omega (arith, a, e)
wrote_read n (inr (inr (inl a))) e = omega (arith, a, e)
wrote_read n (inr (inr (inr (inl a)))) e = omega (arith, a, e)
wrote_read n (inr (inr (inr (inr (inl a))))) e = omega (arith, a, e)
wrote_read n (inr (inr (inr (inr (inr none))))) e = none

-- nothing is read
pub only_writes : {Is : Held → ℕ → ℕ → Answer → Type 0} {files : FilesSeen} {old new : SinkSeen} {line : List ℕ} {code : ℕ} → IsAtEnd files.rest
    → ((h : Held) (b n : ℕ) → WritesSo (Is h b n) old new line code) → Studies Is files files old new line code
only_writes {files = files} {code = code} end w =
    let one = w (λ name. None) 0 0 in
    record {
      reaches = if_some_always files.held _ (λ h. (w h files.broken files.broken).reaches);
      statuses = wrote_status code one.statuses;
      held = refl;
      ended = λ e. end;
      read = λ e. absurd (wrote_read code one.statuses e);
      write = one.write;
    }

carried : {V : Type 0} (First : ℕ → ℕ → FromFiles V → Type 0) (Next : V → ℕ → ℕ → Answer → Type 0) (v : V) (b k n : ℕ) (old new : SinkSeen)
    (line : List ℕ) (code : ℕ) → b ≤ k → First b k (got v) → CarriedOut (Next v k n) old new line code → CarriedOut (Onward First Next b n) old new line code
carried First Next v b k n old new line code le reads (done x is w told same) = done x (onward v k le reads is) w told same
carried First Next v b k n old new line code le reads (cut x is w told same) = cut x (onward v k le reads is) w told same
carried First Next v b k n old new line code le reads (unmade w told same) = unmade w told same

module _ {V : Type 0} {First : Held → ℕ → ℕ → FromFiles V → Type 0} {Next : Held → V → ℕ → ℕ → Answer → Type 0} where
  -- what is read first isn't found
  pub lost : {files after : FilesSeen} {out : SinkSeen} {x : Answer} → Fetches First files after (ends_by x)
      → Studies (λ h. Onward (First h) (Next h)) files after out out x.err x.status
  lost {files = files} {out = out} {x = x} f = record {
    reaches = if_some_weaker files.held _ _ (λ h reads. done x (nothing reads) (rw f.ends.nothing (appends-nothing out.written)) refl refl) f.reads;
    statuses = loss_status x.status f.ends.statuses;
    held = f.held;
    ended = λ e. absurd (loss_end x.status f.ends.statuses e);
    read = f.ends.read;
    write = λ e. absurd (loss_write x.status f.ends.statuses e);
  }

  -- it is, and the command goes on
  pub goes_on : {files mid after : FilesSeen} {old new : SinkSeen} {line : List ℕ} {code : ℕ} {v : V} → Fetches First files mid (got v)
      → Studies (λ h. Next h v) mid after old new line code → Studies (λ h. Onward (First h) (Next h)) files after old new line code
  goes_on {files = files} {mid = mid} {after = after} {old = old} {new = new} {line = line} {code = code} {v = v} f s = record {
    reaches =
        if_some_both files.held mid.held _ _ _ f.held
        (λ h reads reach. carried (First h) (Next h) v files.broken mid.broken after.broken old new line code f.broken_later reads reach) f.reads s.reaches;
    statuses = s.statuses;
    held = s.held ∙ f.held;
    ended = s.ended;
    read = λ e. let rose = s.read e in omega (arith, f.later, rose);
    write = s.write;
  }

  -- and writes, by what was read alone
  pub then_writes : {files mid : FilesSeen} {old new : SinkSeen} {line : List ℕ} {code : ℕ} {v : V} → Fetches First files mid (got v)
      → ((h : Held) (b n : ℕ) → WritesSo (Next h v b n) old new line code) → Studies (λ h. Onward (First h) (Next h)) files mid old new line code
  then_writes f w = goes_on f (only_writes f.ends w)
