-- FilesLoaded: what is told of the value of a file that is read whole, or of why there is none.
use Rattle.std.proofs.Common.{ℕ, ◌≡◌, ◌≢◌, ◌∙◌, refl, ap, subst, List, Result, Ok, Err}
use Rattle.std.specs.Prelude.{IfSome, IfOk, IfErr, OnOk}
use Rattle.std.specs.Io.KnownBytes.{IsAtEnd}
use Rattle.vcp_outside.specs.Counts.{Rose}
use Rattle.vcp_outside.specs.Seen.{FilesSeen}
use Rattle.vcp_inputs.specs.declared.refusal.Refusal.{Refusal}
use Rattle.vcp_inputs.specs.declared.refusal.Refusal.TheVariants as refusal
use Rattle.vcp_inputs.specs.declared.refusal.NoInput.{NoInput}
use Rattle.vcp_inputs.specs.declared.refusal.NoInput.TheVariants as input
use Rattle.vcp_inputs.specs.Files.{FileRead, LeavesLong, Loads, Untaken}
use Rattle.vcp_inputs.specs.Refusals.{IsCaused}
use Rattle.vcp_inputs.proofs.Causes.{read_caused}
use Rattle.vcp_inputs.proofs.NotBytes.{never_long}
use Rattle.vcp_inputs.proofs.Taken.{if_some_weaker, not_read, by_result, same_error, same_stays}

-- what the clauses of each function say that loads a file
pub record IsLoaded {V : Type 0} (Is : List ℕ → V → Type 0) (Why : List ℕ → Refusal → Type 0) (old new : FilesSeen) (name : List ℕ) (limit : ℕ)
    (r : Result V NoInput) : Type 0 where
  pub loads : IfSome old.held (λ h. Loads Is Why h name limit old.broken new.broken r)
  pub unread : r ≡ Err input.Unread → Rose old.faults new.faults
  pub caused : IfErr r IsCaused
  pub ended : OnOk r (IsAtEnd new.rest)
  pub whole : (s : Refusal) → r ≡ Err (input.Refused s) → s ≢ refusal.Bytes → IsAtEnd new.rest
  pub left : r ≡ Err (input.Refused refusal.Bytes) → IfSome old.held (LeavesLong name limit new.rest)
  pub stayed : r ≢ Err input.Unread → new.faults ≡ old.faults

-- the file isn't read
pub file_lost : {V : Type 0} (Is : List ℕ → V → Type 0) (Why : List ℕ → Refusal → Type 0) (old new : FilesSeen) (name : List ℕ) (limit : ℕ) (i : NoInput)
    (read : Result (List ℕ) NoInput) → read ≡ Err i → IfSome old.held (λ h. FileRead h name limit old.broken new.broken read) →
    (read ≡ Err input.Unread → Rose old.faults new.faults) → ((s : Refusal) → read ≡ Err (input.Refused s) → s ≡ refusal.Bytes) →
    (read ≡ Err (input.Refused refusal.Bytes) → IfSome old.held (LeavesLong name limit new.rest)) →
    (read ≢ Err input.Unread → new.faults ≡ old.faults) → IsLoaded Is Why old new name limit (Err i)
file_lost Is Why old new name limit i read is reads unread long left stayed = record {
  loads = if_some_weaker old.held _ _
      (λ h given. not_read Why h name limit old.broken new.broken i (subst (FileRead h name limit old.broken new.broken) is given)) reads;
  unread = λ e. unread (same_error i _ read _ is refl e);
  caused = read_caused i (λ s e. long s (is ∙ ap Err e));
  ended = tt;
  whole = λ s e other. absurd (other (long s (same_error i _ read _ is refl e)));
  left = λ e. left (same_error i _ read _ is refl e);
  stayed = same_stays _ _ i read _ is refl stayed;
}

never_unread : {V : Type 0} (Why : Refusal → Type 0) (r : Result V NoInput) → IfErr r (Untaken Why) → r ≡ Err input.Unread → ⊥
never_unread {V} Why r why is = subst (λ (x : Result V NoInput). IfErr x (Untaken Why)) is why

on_ok : {V : Type 0} (r : Result V NoInput) (P : Type 0) → P → OnOk r P
on_ok (Ok v) P h = h
on_ok (Err i) P h = tt

-- the file is read, and its bytes are taken or refused
pub file_taken : {V : Type 0} (Is : List ℕ → V → Type 0) (Why : List ℕ → Refusal → Type 0) (old new : FilesSeen) (name : List ℕ) (limit : ℕ)
    (bytes text : List ℕ) (r : Result V NoInput) → text ≡ bytes → ((s : Refusal) → Why bytes s → s ≢ refusal.Bytes) →
    IfSome old.held (λ h. FileRead h name limit old.broken new.broken (Ok bytes)) → IsAtEnd new.rest → new.faults ≡ old.faults →
    IfOk r (Is text) → IfErr r (Untaken (Why text)) → IfErr r IsCaused → IsLoaded Is Why old new name limit r
file_taken Is Why old new name limit bytes text r same other reads at_end stayed is not_is caused =
    let of_bytes : IfOk r (Is bytes) = subst (λ t. IfOk r (Is t)) same is in
    let not_of_bytes : IfErr r (Untaken (Why bytes)) = subst (λ t. IfErr r (Untaken (Why t))) same not_is in
    record {
      loads = if_some_weaker old.held _ _ (λ h read. by_result Is Why h name limit old.broken new.broken bytes r read of_bytes not_of_bytes) reads;
      unread = λ e. absurd (never_unread (Why bytes) r not_of_bytes e);
      caused = caused;
      ended = on_ok r (IsAtEnd new.rest) at_end;
      whole = λ s e other. at_end;
      left = λ e. absurd (never_long (Why bytes) r other not_of_bytes e);
      stayed = λ other. stayed;
    }
