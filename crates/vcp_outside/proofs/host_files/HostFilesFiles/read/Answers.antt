use Rattle.std.proofs.Common.{◌≡◌, ◌∙◌, ◌≤◌, ap, refl, ℕ, None, Ok, true, is_some, option_and_then, arith}
use Rattle.std.proofs.lemmas.Bool.{true≢false}
use Rattle.vcp_outside.specs.declared.failed.Failed.{Failed}
use Rattle.vcp_outside.specs.Counts.{HasCause}
use Rattle.vcp_outside.specs.HostFiles.{FilesOnHost}
use Rattle.vcp_outside.proofs.Causes.{cause_stays}
use Rattle.vcp_outside.proofs.host_files.HostFilesFiles.read.Goals as goal

no_less : (n : ℕ) → 0 ≤ n
no_less n = omega arith

pub returns-in-Ok : goal.returns-in-Ok
returns-in-Ok g c =
    let now = c.args.self.now in
    let same : c.self.inside.faults ≡ now.faults = ap (λ (s : FilesOnHost). s.faults) c.self.view_is in
    let there : is_some c.self.inside.file ≡ now.is_begun = ap (λ (s : FilesOnHost). s.is_begun) c.self.view_is in
    let begun : true ≡ now.is_begun = rw c.in-Some.is at there in
    let unread : option_and_then (λ file. g.R.File.Read.remaining file) c.self.inside.file ≡ now.unread = ap (λ (s : FilesOnHost). s.unread) c.self.view_is in
    let left : g.R.File.Read.remaining c.in-Some.file ≡ now.unread = rw c.in-Some.is at unread in
    let read = c.in-Ok.ensures in
    let cause : HasCause {T = ℕ} {E = Failed} now.faults c.self.inside.faults (Ok c.in-Ok.count) = cause_stays same in
    record {
      bound = read.bound;
      bytes = (tt, λ none room. tt);
      cause = cause;
      broken_later = cause.later;
      broken_capped = cause.capped;
      at_end = λ none. absurd (true≢false (begun ∙ none));
      begun = begun;
      consumed = (rw left at read.bytes.0, read.bytes.1);
      faults = same;
    }

pub returns-in_default : goal.returns-in_default
returns-in_default g c =
    let now = c.args.self.now in
    let same : c.self.inside.faults ≡ now.faults = ap (λ (s : FilesOnHost). s.faults) c.self.view_is in
    let unread : option_and_then (λ file. g.R.File.Read.remaining file) c.self.inside.file ≡ now.unread = ap (λ (s : FilesOnHost). s.unread) c.self.view_is in
    let none : None ≡ now.unread = rw c.in_default.is at unread in
    let cause : HasCause {T = ℕ} {E = Failed} now.faults c.self.inside.faults (Ok 0) = cause_stays same in
    record {
      bound = (no_less _, refl);
      bytes = (tt, λ none room. tt);
      cause = cause;
      broken_later = cause.later;
      broken_capped = cause.capped;
      at_end = λ none. refl;
      begun = ap (λ (s : FilesOnHost). s.is_begun) c.self.view_is;
      consumed = (rw (← none) tt, λ none room. rw c.in_default.is tt);
      faults = same;
    }

pub returns-in-Err-clause-bound : goal.returns-in-Err-clause-bound
returns-in-Err-clause-bound g c = tt

pub returns-in-Err-clause-bytes : goal.returns-in-Err-clause-bytes
returns-in-Err-clause-bytes g c = tt

pub returns-in-Err-clause-begun : goal.returns-in-Err-clause-begun
returns-in-Err-clause-begun g c =
    let there : is_some c.self.inside.file ≡ c.args.self.now.is_begun = ap (λ (s : FilesOnHost). s.is_begun) c.self.view_is in
    rw c.in-Some.is at there

pub returns-in-Err-clause-consumed : goal.returns-in-Err-clause-consumed
returns-in-Err-clause-consumed g c =
    let unread : option_and_then (λ file. g.R.File.Read.remaining file) c.self.inside.file ≡ c.args.self.now.unread =
    ap (λ (s : FilesOnHost). s.unread) c.self.view_is in
    let left : g.R.File.Read.remaining c.in-Some.file ≡ c.args.self.now.unread = rw c.in-Some.is at unread in
    rw left at c.in-Err.ensures.bytes
