-- Performed: from how far a command came, and what became of its line, to how it serves, what it keeps and that it completes.
use Rattle.std.proofs.Common.{ℕ, ◌≡◌, ◌≢◌, ◌≤◌, lit≤, ◌⊎◌, inl, inr, refl, sym, ap, subst, ◌∙◌, Bool, true, false, List, [], ◌∷◌, ◌++◌, Option, Some, None, IfSome, arith}
use Rattle.std.specs.Io.KnownBytes.{Appends, IsAtEnd}
use Rattle.vcp_outside.specs.Counts.{Rose}
use Rattle.vcp_outside.specs.Held.{Held}
use Rattle.vcp_inputs.specs.Forms.{Form, Rows, Code, check, format, plain, run, il, compile, list, exec, trace, widen, audit, inject, pair, pairs, wire, demo}
use Rattle.vcp_inputs.specs.Answer.{Answer}
use Rattle.vcp_inputs.specs.Abouts.{Among, About, about, AllHeld}
use Rattle.vcp_inputs.specs.Clauses.{IsEnd, IsTooLong, Keeps, MayHold, Serves, TellsTooLong, Completed, Completes, IsAccepted}
use Rattle.vcp_inputs.specs.Endings.{Answered, known, given_up, Came, Causes, DoneHasStatus, DoneIsMeant, Ends, EndingsHaveCauses, Given, GivenUp, GivingUpHasCauses, HasOwnStatus, IsNoFault, NothingFailed, TellsLine}
use Rattle.vcp_inputs.specs.Endings as ends
use Rattle.vcp_inputs.specs.Kinds.{Task, lacks, answers, compiles, runs, judges, compares, pairs_, wires, Done, Meant}
use Rattle.vcp_inputs.specs.Performing.{Reaches, done, cut, wanting, unread, unmade, Performs}
use Rattle.coded_unit.specs.Seen.{UnitSeen, StaysHonest}
use Rattle.vcp_outside.specs.Seen.{SinkSeen}
use Rattle.vcp_inputs.specs.Seen.{Outside, moment_of}
use Rattle.vcp_core.specs.Performed.{Performed}
use Rattle.vcp_core.specs.PerformedLaws.{RunMeansPlain, RunWritesPlain}
use Rattle.vcp_core.specs.Tasks.{TaskOf}

-- What is known of tasks: of each what its endings cause, and that a command comes to one at most, to an answer only with a status of its own,
-- and to a lacking name only where not all of its files are held.
pub record TaskLaws : Type 0 where
  pub meant : DoneIsMeant
  pub statuses : DoneHasStatus
  pub ended : EndingsHaveCauses
  pub left : GivingUpHasCauses
  pub one : (f : Form) (h : Held) (a b : Task) → TaskOf f h a → TaskOf f h b → a ≡ b
  pub own : (f : Form) (h : Held) (task : Task) → TaskOf f h task → HasOwnStatus task
  pub found : (f : Form) (h : Held) (name : List ℕ) → AllHeld h (about f).files → TaskOf f h (lacks name) → ⊥

-- a line that was told, under other names for it and its status
retold : (line other : List ℕ) (code number : ℕ) (a b : SinkSeen) (status : ℕ) → line ≡ other → code ≡ number → TellsLine line code a b status
    → TellsLine other number a b status
retold line other code number a b status lines codes told =
    subst (λ (l : List ℕ). TellsLine l number a b status) lines (subst (λ (n : ℕ). TellsLine line n a b status) codes told)

module _ (c : About) (Comes : Task → Type 0) (before after : Outside) (line : List ℕ) (code status : ℕ)
    (told : TellsLine line code before.err after.err status) where
  answered : Reaches c Comes before.files after.files (moment_of before) (moment_of after) line code → Answered c Comes before after status
  answered (done task x comes d out line_is code_is) =
      known task comes (ends.ended x d out (retold line x.err code x.status before.err after.err status (sym line_is) (sym code_is) told))
  answered (cut task comes left rose line_is code_is) =
      known task comes (ends.cut rose left (retold line _ code 6 before.err after.err status line_is code_is told))
  answered (wanting task comes left late line_is code_is) =
      known task comes (ends.wanting late left (retold line _ code 7 before.err after.err status line_is code_is told))
  answered (unread word named rose still line_is code_is) =
      given_up (ends.unread word named rose still (retold line _ code 5 before.err after.err status line_is code_is told))
  answered (unmade still line_is code_is) =
      given_up (ends.unmade still (retold line _ code 7 before.err after.err status line_is code_is told))

-- ---- completeness

-- no answer has the status of a sink that failed, and only where a name is lacking it has that of a file
never_six : DoneHasStatus → (task : Task) (a b : UnitSeen) (x : Answer) → HasOwnStatus task → Done task a b x → x.status ≡ 6 → ⊥
never_six statuses task a b x few d six =
    elim (statuses task a b x few d) [
      | inl small ↦ omega (arith, six, small)
      | inr lack ↦ omega (arith, six, ap (λ (y : Answer). y.status) lack.2)
    ]

five_lacks : DoneHasStatus → (task : Task) (a b : UnitSeen) (x : Answer) → HasOwnStatus task → Done task a b x → x.status ≡ 5
    → (name : List ℕ) × (task ≡ lacks name)
five_lacks statuses task a b x few d five =
    elim (statuses task a b x few d) [ inl small ↦ absurd (omega (arith, five, small)) | inr lack ↦ (lack.0, lack.1) ]

-- a task that needs no unit: it comes to one answer, or to one of some, whatever a unit answers
abbrev pub NeedsNone : Task → Type 0
NeedsNone (lacks name) = Unit {0}
NeedsNone (answers y) = y.status ≤ 2
NeedsNone (compiles p code) = Unit {0}
NeedsNone (runs j) = ⊥
NeedsNone (judges c) = ⊥
NeedsNone (wires s) = ⊥
NeedsNone (compares j) = ⊥
NeedsNone (pairs_ c) = ⊥

-- it was done as it is meant, with no status of an output that is refused
none_meant : (task : Task) (a b : UnitSeen) (x : Answer) → NeedsNone task → Done task a b x → Meant task x
none_meant (lacks name) a b x none d = d.1
none_meant (answers y) a b x none d = d.1
none_meant (compiles p code) a b x none d = d.1
none_meant (runs j) a b x none d = absurd none
none_meant (judges c) a b x none d = absurd none
none_meant (wires s) a b x none d = absurd none
none_meant (compares j) a b x none d = absurd none
none_meant (pairs_ c) a b x none d = absurd none

none_three : (task : Task) (a b : UnitSeen) (x : Answer) → NeedsNone task → Done task a b x → x.status ≡ 3 → ⊥
none_three (lacks name) a b x none d h = omega (arith, h, ap (λ (z : Answer). z.status) d.1)
none_three (answers y) a b x none d h = omega (arith, none, h, ap (λ (z : Answer). z.status) d.1)
none_three (compiles p code) a b x none (quiet, (g, may, is)) h = omega (arith, h, ap (λ (z : Answer). z.status) is)
none_three (runs j) a b x none d h = none
none_three (judges c) a b x none d h = none
none_three (wires s) a b x none d h = none
none_three (compares j) a b x none d h = none
none_three (pairs_ c) a b x none d h = none

-- a line whose status is another one was told, or its sink failed
told_five : (line : List ℕ) (code : ℕ) (a b : SinkSeen) (status : ℕ) → TellsLine line code a b status → status ≡ 5 → code ≡ 5
told_five line code a b status (inl t) is = sym t.0 ∙ is
told_five line code a b status (inr t) is = absurd (omega (arith, t.0, is))

told_six : (line : List ℕ) (code : ℕ) (a b : SinkSeen) (status : ℕ) → TellsLine line code a b status → status ≡ 6
    → (code ≡ 6) ⊎ Rose a.faults b.faults
told_six line code a b status (inl t) is = inl (sym t.0 ∙ is)
told_six line code a b status (inr t) is = inr t.1

module _ (statuses : DoneHasStatus) (c : About) (before after : Outside) (status : ℕ) (nothing : NothingFailed before after) where
  ended_five : (task : Task) → HasOwnStatus task → ((name : List ℕ) → task ≡ lacks name → ⊥) → Ends c task before after status → status ≡ 5 → ⊥
  ended_five task few found (ends.ended x d out told) is =
      let l = five_lacks statuses task before.unit after.unit x few d (told_five _ _ before.err after.err status told is) in found l.0 l.1
  ended_five task few found (ends.cut rose left told) is = nothing.out rose
  ended_five task few found (ends.wanting late left told) is = let seven = told_five _ 7 before.err after.err status told is in omega (arith, seven)

  ended_six : (task : Task) → HasOwnStatus task → Ends c task before after status → status ≡ 6 → ⊥
  ended_six task few (ends.ended x d out told) is =
      elim (told_six _ _ before.err after.err status told is) [
        | inl six ↦ never_six statuses task before.unit after.unit x few d six
        | inr rose ↦ nothing.err rose
      ]
  ended_six task few (ends.cut rose left told) is = nothing.out rose
  ended_six task few (ends.wanting late left told) is =
      elim (told_six _ 7 before.err after.err status told is) [ inl six ↦ omega (arith, six) | inr rose ↦ nothing.err rose ]

  given_five : GivenUp c before after status → status ≡ 5 → ⊥
  given_five (ends.unread word named rose u told) is = nothing.files rose
  given_five (ends.unmade u told) is = let seven = told_five _ 7 before.err after.err status told is in omega (arith, seven)

  given_six : GivenUp c before after status → status ≡ 6 → ⊥
  given_six (ends.unread word named rose u told) is = nothing.files rose
  given_six (ends.unmade u told) is =
      elim (told_six _ 7 before.err after.err status told is) [ inl six ↦ omega (arith, six) | inr rose ↦ nothing.err rose ]

module _ (laws : TaskLaws) (f : Form) (before after : Outside) (status : ℕ) (h : Held) where
  causes_of : Answered (about f) (TaskOf f h) before after status → (task : Task) → TaskOf f h task → Causes task before after status
  causes_of (known other comes finish) task takes =
      let same : other ≡ task = laws.one f h other task comes takes in
      subst (λ (t : Task). Causes t before after status) same (laws.ended (about f) other before after status (laws.own f h other comes) finish)
  causes_of (given_up g) task takes = laws.left (about f) task before after status g

  unfailing_of : Answered (about f) (TaskOf f h) before after status → AllHeld h (about f).files → NothingFailed before after → (status ≢ 5) × (status ≢ 6)
  unfailing_of (known task comes finish) all nothing = (
    ended_five laws.statuses (about f) before after status nothing task (laws.own f h task comes)
        (λ name is. laws.found f h name all (subst (λ (t : Task). TaskOf f h t) is comes)) finish,
    ended_six laws.statuses (about f) before after status nothing task (laws.own f h task comes) finish,
  )
  unfailing_of (given_up g) all nothing =
      (given_five laws.statuses (about f) before after status nothing g, given_six laws.statuses (about f) before after status nothing g)

-- where a command came so far and then its line was told, it serves
pub performed_serves : (laws : TaskLaws) (f : Form) (before after : Outside) (status : ℕ) → Performed f before after status →
    (h : Held) → MayHold (about f) before.files.held h → Serves (about f) h (TaskOf f h) before after status
performed_serves laws f before after status (line, code, p, told) h may =
    let a : Answered (about f) (TaskOf f h) before after status = answered (about f) (TaskOf f h) before after line code status told (p.reaches h may) in
    record {
      answered = a;
      causes = causes_of laws f before after status h a;
      unfailing = unfailing_of laws f before after status h a;
    }

-- ---- what is kept

among_after : (x : ℕ) (xs ys : List ℕ) → Among x ys → Among x (xs ++ ys)
among_after x [] ys h = h
among_after x (y ∷ xs) ys h = inr (among_after x xs ys h)

told_too_long : (c : About) (found : Option Held) (rest : Option (List ℕ)) (line : List ℕ) (a b : SinkSeen) → Appends a.written b.written line
    → IfSome found (λ h. IsAtEnd rest ⊎ IsTooLong c h rest line) → IfSome found (λ h. IsAtEnd rest ⊎ TellsTooLong c h rest a b)
told_too_long c None rest line a b w h = tt
told_too_long c (Some held) rest line a b w (inl end) = inl end
told_too_long c (Some held) rest line a b w (inr long) = inr (line, long, w)

not_six : (status : ℕ) → status ≡ 6 → IsEnd status → ⊥
not_six status six (inl h) = omega (arith, six, h)
not_six status six (inr (inl h)) = omega (arith, six, h)
not_six status six (inr (inr h)) = omega (arith, six, h)

-- and keeps what every command keeps
keeps_of : (c : About) (Comes : Held → Task → Type 0) (before after : Outside) (line : List ℕ) (code status : ℕ) →
    Performs c Comes before.files after.files (moment_of before) (moment_of after) line code → TellsLine line code before.err after.err status →
    Keeps c before after status
keeps_of c Comes before after line code status p (inl (is, w, same)) = record {
  statuses = subst (λ (n : ℕ). Among n (c.ends ++ 5 ∷ 6 ∷ 7 ∷ [])) (sym is) p.statuses;
  told = (code, line, p.statuses, p.told, p.write, inl (is, w, same));
  held = p.held;
  unit = p.unit;
  files = p.stay;
  ended = λ reads end. p.ended reads (subst (λ (n : ℕ). IsEnd n) is end);
  taken = λ reads one. told_too_long c before.files.held after.files.rest line before.err after.err w (p.taken reads (sym is ∙ one));
  stopped = λ calls two. p.stopped calls (sym is ∙ two);
  refused = λ three. p.refused (sym is ∙ three);
  read = λ five. p.read (sym is ∙ five);
  write = λ six.
      inl (p.write (sym is ∙ six), subst (λ (l : List ℕ). Appends before.err.written after.err.written l) (p.told.output (sym is ∙ six)) w);
  faults = record {
    files = λ five six. p.no_read_fault (λ e. five (is ∙ e));
    out = λ six. p.no_write_fault (λ e. six (is ∙ e));
    err = λ six. same;
  };
}
keeps_of c Comes before after line code status p (inr (is, rose, part)) = record {
  statuses = subst (λ (n : ℕ). Among n (c.ends ++ 5 ∷ 6 ∷ 7 ∷ [])) (sym is) (among_after 6 c.ends (5 ∷ 6 ∷ 7 ∷ []) (inr (inl refl)));
  told = (code, line, p.statuses, p.told, p.write, inr (is, rose, part));
  held = p.held;
  unit = p.unit;
  files = p.stay;
  ended = λ reads end. absurd (not_six status is end);
  taken = λ reads one. absurd (omega (arith, is, one));
  stopped = λ calls two. absurd (omega (arith, is, two));
  refused = λ three. absurd (omega (arith, is, three));
  read = λ five. absurd (omega (arith, is, five));
  write = λ six. inr rose;
  faults = record { files = λ five six. absurd (six is); out = λ six. absurd (six is); err = λ six. absurd (six is) };
}

pub performed_keeps : (f : Form) (before after : Outside) (status : ℕ) → Performed f before after status → Keeps (about f) before after status
performed_keeps f before after status (line, code, p, told) = keeps_of (about f) (TaskOf f) before after line code status p told

-- ---- completeness, as one sentence

-- a status that is none of the others is 7, 0 or 2
seven_or_end : (n : ℕ) → n ≤ 7 → n ≢ 1 → n ≢ 3 → n ≢ 4 → n ≢ 5 → n ≢ 6 → (n ≡ 7) ⊎ ((n ≡ 0) ⊎ (n ≡ 2))
seven_or_end n few one three four five six = grind arith

-- a status of a command that is no fault's is its own
among_own : (n : ℕ) (ends : List ℕ) → n ≢ 5 → n ≢ 6 → n ≢ 7 → Among n (ends ++ 5 ∷ 6 ∷ 7 ∷ []) → Among n ends
among_own n [] five six seven (inl is) = five is
among_own n [] five six seven (inr (inl is)) = six is
among_own n [] five six seven (inr (inr (inl is))) = seven is
among_own n [] five six seven (inr (inr (inr h))) = h
among_own n (end ∷ ends) five six seven (inl is) = inl is
among_own n (end ∷ ends) five six seven (inr h) = inr (among_own n ends five six seven h)

two_own : (n : ℕ) (ends : List ℕ) → n ≡ 2 → Among n (ends ++ 5 ∷ 6 ∷ 7 ∷ []) → Among 2 ends
two_own n ends two own =
    among_own 2 ends (λ e. omega (arith, e)) (λ e. omega (arith, e)) (λ e. omega (arith, e))
    (subst (λ (m : ℕ). Among m (ends ++ 5 ∷ 6 ∷ 7 ∷ [])) two own)

-- its status is none of words that are no command
abbrev AreSmall : List ℕ → Type 0
AreSmall [] = Unit {0}
AreSmall (end ∷ ends) = (end ≤ 3) × AreSmall ends

among_small : (n : ℕ) (ends : List ℕ) → AreSmall ends → Among n (ends ++ 5 ∷ 6 ∷ 7 ∷ []) → (n ≤ 7) × (n ≢ 4)
among_small n [] small (inl is) = (omega (arith, is), λ four. omega (arith, is, four))
among_small n [] small (inr (inl is)) = (omega (arith, is), λ four. omega (arith, is, four))
among_small n [] small (inr (inr (inl is))) = (omega (arith, is), λ four. omega (arith, is, four))
among_small n [] small (inr (inr (inr none))) = absurd none
among_small n (end ∷ ends) small (inl is) = (omega (arith, is, small.0), λ four. omega (arith, is, small.0, four))
among_small n (end ∷ ends) small (inr h) = among_small n ends small.1 h

ends_small : (f : Form) → AreSmall (about f).ends
ends_small (check p) = (lit≤ tt, (lit≤ tt, tt))
ends_small (format p) = (lit≤ tt, (lit≤ tt, tt))
ends_small (plain p rows) = (lit≤ tt, (lit≤ tt, (lit≤ tt, tt)))
ends_small (run p rows code) = (lit≤ tt, (lit≤ tt, (lit≤ tt, (lit≤ tt, tt))))
ends_small (il p rows code) = (lit≤ tt, (lit≤ tt, (lit≤ tt, (lit≤ tt, tt))))
ends_small (compile p code) = (lit≤ tt, (lit≤ tt, tt))
ends_small (list m) = (lit≤ tt, (lit≤ tt, tt))
ends_small (exec m rows) = (lit≤ tt, (lit≤ tt, (lit≤ tt, (lit≤ tt, tt))))
ends_small (trace m rows n) = (lit≤ tt, (lit≤ tt, (lit≤ tt, (lit≤ tt, tt))))
ends_small (widen m) = (lit≤ tt, (lit≤ tt, tt))
ends_small (audit m horizon) = (lit≤ tt, (lit≤ tt, tt))
ends_small (inject m rows g) = (lit≤ tt, (lit≤ tt, tt))
ends_small (pair m rows seed) = (lit≤ tt, (lit≤ tt, (lit≤ tt, (lit≤ tt, tt))))
ends_small (pairs m rows seed g) = (lit≤ tt, (lit≤ tt, tt))
ends_small (wire g) = (lit≤ tt, (lit≤ tt, (lit≤ tt, tt)))
ends_small (demo n) = (lit≤ tt, (lit≤ tt, (lit≤ tt, (lit≤ tt, tt))))

pub performed_known : (f : Form) (before after : Outside) (status : ℕ) → Performed f before after status → (status ≤ 7) × (status ≢ 4)
performed_known f before after status did = among_small status (about f).ends (ends_small f) (performed_keeps f before after status did).statuses

module _ (as_meant : DoneIsMeant) (c : About) (task : Task) (before after : Outside) (status : ℕ) (kept : Keeps c before after status) where
  ended_so : (x : Answer) → Meant task x → Came x before after status → (status ≡ 7) ⊎ ((status ≡ 0) ⊎ (status ≡ 2)) →
      (status ≡ 7) ⊎ Completed c task before after status
  ended_so x meant came (inl wanted) = inl wanted
  ended_so x meant came (inr (inl zero)) =
      inr (record { answer = x; meant = meant; came = came; own = inl zero; read = λ reads. kept.ended reads (inl zero) })
  ended_so x meant came (inr (inr two)) =
      inr (record {
        answer = x;
        meant = meant;
        came = came;
        own = inr (two, two_own status c.ends two kept.statuses);
        read = λ reads. kept.ended reads (inr (inl two));
      })

  module _ (small : status ≤ 7) (no_usage : status ≢ 4) (accepted : IsAccepted task) (faults : (status ≢ 5) × (status ≢ 6)) where
    module _ (given : Given task before after status) where
      meant_so : Meant task given.answer → status ≢ 3 → (status ≡ 7) ⊎ Completed c task before after status
      meant_so meant three =
          ended_so given.answer meant given.came
          (seven_or_end status small (λ one. accepted given.answer meant (sym given.came.status_is ∙ one)) three no_usage faults.0 faults.1)

      -- with an honest unit, or for a task that needs none
      given_so : StaysHonest before.unit after.unit ⊎ NeedsNone task → (status ≡ 7) ⊎ Completed c task before after status
      given_so (inl honest) =
          meant_so (as_meant task before.unit after.unit given.answer given.done honest)
          (λ three. let rose = kept.refused three in omega (arith, rose, honest.0, honest.1))
      given_so (inr none) =
          meant_so (none_meant task before.unit after.unit given.answer none given.done)
          (λ three. none_three task before.unit after.unit given.answer none given.done (sym given.came.status_is ∙ three))

    came_so : StaysHonest before.unit after.unit ⊎ NeedsNone task → (status ≡ 7) ⊎ Given task before after status →
        (status ≡ 7) ⊎ Completed c task before after status
    came_so how (inl wanted) = inl wanted
    came_so how (inr given) = given_so given how

-- the unit is honest where it is called, and else the task needs none
honest_or_none : (calls : Bool) (before after : UnitSeen) (task : Task) → (calls ≡ true → StaysHonest before after) → (calls ≡ false → NeedsNone task)
    → StaysHonest before after ⊎ NeedsNone task
honest_or_none true before after task honest none = inl (honest refl)
honest_or_none false before after task honest none = inr (none refl)

-- a command that calls no unit comes to tasks that need none
abbrev pub QuietNeedsNone : Type 0
QuietNeedsNone = (f : Form) (h : Held) (task : Task) → (about f).calls ≡ false → TaskOf f h task → NeedsNone task

-- where a command was performed, it completes
pub performed_completes : TaskLaws → QuietNeedsNone → (f : Form) (before after : Outside) (status : ℕ) → Performed f before after status →
    (h : Held) → MayHold (about f) before.files.held h → Completes (about f) h (TaskOf f h) before after status
performed_completes laws quiet f before after status did h may all nothing honest task comes accepted =
    let serves = performed_serves laws f before after status did h may in
    let few = performed_known f before after status did in
    came_so laws.meant (about f) task before after status (performed_keeps f before after status did) few.0 few.1 accepted (serves.unfailing all nothing)
    (honest_or_none (about f).calls before.unit after.unit task honest (λ no. quiet f h task no comes)) ((serves.causes task comes).finishes nothing)

-- ---- `run` beside `plain`

-- what was given up ended by a fault
gave_no_answer : (c : About) (before after : Outside) (status : ℕ) → GivenUp c before after status → IsNoFault status → ⊥
gave_no_answer c before after status (ends.unread word named rose u (inl told)) fine = fine.files told.0
gave_no_answer c before after status (ends.unread word named rose u (inr told)) fine = fine.sinks told.0
gave_no_answer c before after status (ends.unmade u (inl told)) fine = fine.memory told.0
gave_no_answer c before after status (ends.unmade u (inr told)) fine = fine.sinks told.0

module _ (p : List ℕ) (rows : Rows) (code : Code) (before after : Outside) (status : ℕ) (h : Held)
    (same : (task : Task) → TaskOf (run p rows code) h task → (x y : Answer) → TaskOf (plain p rows) h (answers x) → Meant task y → y ≡ x)
    (causes : (task : Task) → TaskOf (run p rows code) h task → Causes task before after status) where
  answered_as_plain : Answered (about (run p rows code)) (TaskOf (run p rows code) h) before after status
      → (x : Answer) → TaskOf (plain p rows) h (answers x) → StaysHonest before.unit after.unit → IsNoFault status → Came x before after status
  answered_as_plain (known task comes finish) x also honest fine =
      let (y, meant, came) = (causes task comes).meant honest fine in
      subst (λ (z : Answer). Came z before after status) (same task comes x y also meant) came
  answered_as_plain (given_up g) x also honest fine = absurd (gave_no_answer (about (run p rows code)) before after status g fine)

-- where `run` was performed, what `plain` answers was written, with an honest unit, but for 5, 6 and 7
pub performed_as_plain : TaskLaws → RunMeansPlain → RunWritesPlain
performed_as_plain laws same p rows code before after status did h may =
    let serves = performed_serves laws (run p rows code) before after status did h may in
    answered_as_plain p rows code before after status h (same p rows code h) serves.causes serves.answered
