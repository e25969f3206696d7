-- Causing: from how a command ends to the causes of its status.
use Rattle.std.proofs.Common.{ℕ, ◌≡◌, ◌≤◌, lit≤, inl, inr, refl, sym, ap, subst, ◌∙◌, List, Option, Some, None, arith}
use Rattle.std.specs.Io.KnownBytes.{Appends}
use Rattle.vcp_outside.specs.Counts.{Rose}
use Rattle.input_rows.specs.declared.fault.RowFault.{RowFault}
use Rattle.fault_injector.specs.declared.verdicts.Verdict.{Verdict}
use Rattle.pair_channel.specs.declared.pair_end.PairEnd.{PairEnd}
use Rattle.pair_channel.specs.declared.pair_end.PairEnd.TheVariants as pair
use Rattle.pair_channel.specs.PairRuns.{PairOutcome}
use Rattle.vcp_inputs.specs.Answer.{Answer}
use Rattle.vcp_inputs.specs.CampaignKind.{pairs_answer, verdicts_answer}
use Rattle.fault_injector.specs.declared.campaign.pairs.verdict.PairVerdict.{PairVerdict}
use Rattle.vcp_inputs.specs.PairKind.{pair_answer, pair_read, pair_status}
use Rattle.vcp_inputs.specs.Printing.{Report}
use Rattle.vcp_inputs.specs.Endings.{TellsLine, ended, cut, wanting, unread, unmade, Given, Causes, NothingFailed, HasOwnStatus, DoneHasStatus, DoneIsMeant, EndingsHaveCauses, GivingUpHasCauses}
use Rattle.vcp_inputs.specs.Kinds.{Task, lacks, answers, compiles, runs, judges, compares, pairs_, wires, Done, lack_answer}
use Rattle.vcp_inputs.specs.Reports.{RunEnd, complete, stopped, refused, run_status}
use Rattle.vcp_inputs.specs.RunKind.{job_answer, run_read}
use Rattle.telegram.specs.Sends.{Cut}
use Rattle.vcp_inputs.specs.WireKind.{wire_status}
use Rattle.coded_unit.specs.Seen.{UnitSeen}
use Rattle.vcp_outside.specs.Seen.{SinkSeen}
use Rattle.vcp_inputs.specs.Seen.{Outside}

-- ---- the status of an answer

run_small : (e : RunEnd) (behind : Option RowFault) → run_status e behind ≤ 3
run_small complete None = lit≤ tt
run_small complete (Some f) = lit≤ tt
run_small (stopped s) behind = lit≤ tt
run_small (refused output found wanted) behind = lit≤ tt

pair_small : (e : PairEnd) (behind : Option RowFault) → pair_status e behind ≤ 3
pair_small pair.Released None = lit≤ tt
pair_small pair.Released (Some f) = lit≤ tt
pair_small (pair.Stopped op why) behind = lit≤ tt
pair_small (pair.Parted first second) behind = lit≤ tt
pair_small (pair.Differ output first second) behind = lit≤ tt

wire_small : (cut : Option Cut) → wire_status cut ≤ 3
wire_small None = lit≤ tt
wire_small (Some c) = lit≤ tt

status_of : (x y : Answer) → x ≡ y → x.status ≡ y.status
status_of x y same = ap (λ (z : Answer). z.status) same

pub done_has_status : DoneHasStatus
done_has_status (lacks name) a b x few d = inr (name, refl, d.1)
done_has_status (answers y) a b x few d = inl (omega (arith, few, status_of x y d.1))
done_has_status (compiles p code) a b x few (quiet, (g, may, is)) = inl (omega (arith, status_of x _ is))
done_has_status (runs j) a b x few d = inl (omega (arith, status_of x _ d.read, run_small (run_read j d.graph d.cycles).end j.rows.refusal))
done_has_status (judges c) a b x few d = inl (omega (arith, status_of x _ d.read))
done_has_status (wires s) a b x few d = inl (omega (arith, status_of x _ d.read, wire_small d.cut))
done_has_status (compares j) a b x few d = inl (omega (arith, status_of x _ d.read, pair_small (pair_read j d.cycles).end j.rows.refusal))
done_has_status (pairs_ c) a b x few d = inl (omega (arith, status_of x _ d.read))

-- only where a name is lacking the status is 5
five_lacks : (task : Task) (a b : UnitSeen) (x : Answer) → HasOwnStatus task → Done task a b x → x.status ≡ 5
    → (name : List ℕ) × (task ≡ lacks name) × (x ≡ lack_answer name)
five_lacks task a b x few d five = elim (done_has_status task a b x few d) [ inl small ↦ absurd (omega (arith, five, small)) | inr lack ↦ lack ]

lacks_five : (task : Task) (a b : UnitSeen) (x : Answer) (name : List ℕ) → task ≡ lacks name → Done task a b x → x.status ≡ 5
lacks_five task a b x name is d =
    let lacking : Done (lacks name) a b x = subst (λ (t : Task). Done t a b x) is d in status_of x (lack_answer name) lacking.1

-- ---- the answer is the one that is meant

pub done_is_meant : DoneIsMeant
done_is_meant (lacks name) before after x d honest = d.1
done_is_meant (answers a) before after x d honest = d.1
done_is_meant (compiles p code) before after x d honest = d.1
done_is_meant (runs j) before after x d honest = d.read ∙ ap (λ (r : Report). job_answer j r) (d.honest honest)
done_is_meant (judges c) before after x d honest = d.read ∙ ap (λ (vs : List Verdict). verdicts_answer c vs) (d.honest honest)
done_is_meant (wires s) before after x d honest = d.honest honest
done_is_meant (compares j) before after x d honest = d.read ∙ ap (λ (o : PairOutcome). pair_answer j o) (d.honest honest)
done_is_meant (pairs_ c) before after x d honest = d.read ∙ ap (λ (vs : List PairVerdict). pairs_answer c vs) (d.honest honest)

-- ---- the answer came

came_causes : (task : Task) (before after : Outside) (status : ℕ) → HasOwnStatus task → Given task before after status → Causes task before after status
came_causes task before after status few g = record {
  meant = λ honest fine. (g.answer, done_is_meant task before.unit after.unit g.answer g.done honest, g.came);
  done = λ fine. g;
  finishes = λ nothing. inr g;
  five_only = λ h.
      let l = five_lacks task before.unit after.unit g.answer few g.done (sym g.came.status_is ∙ h) in
      inr (l.0, l.1, subst (λ (z : Answer). Appends before.err.written after.err.written z.err) l.2 g.came.err);
  five = λ name is sinks memory. g.came.status_is ∙ lacks_five task before.unit after.unit g.answer name is g.done;
}

-- ---- what kept it from coming

data Kept (before after : Outside) (status : ℕ) : Type 0 where
  by_files : status ≡ 5 → Rose before.files.broken after.files.broken → Kept before after status
  by_sink : status ≡ 6 → (NothingFailed before after → ⊥) → Kept before after status
  by_memory : status ≡ 7 → Kept before after status

kept_causes : (task : Task) (before after : Outside) (status : ℕ) → Kept before after status → Causes task before after status
kept_causes task before after status (by_files s rose) = record {
  meant = λ honest fine. absurd (fine.files s);
  done = λ fine. absurd (fine.files s);
  finishes = λ nothing. absurd (nothing.files rose);
  five_only = λ h. inl rose;
  five = λ name is sinks memory. s;
}
kept_causes task before after status (by_sink s failed) = record {
  meant = λ honest fine. absurd (fine.sinks s);
  done = λ fine. absurd (fine.sinks s);
  finishes = λ nothing. absurd (failed nothing);
  five_only = λ h. absurd (omega (arith, h, s));
  five = λ name is sinks memory. absurd (sinks s);
}
kept_causes task before after status (by_memory s) = record {
  meant = λ honest fine. absurd (fine.memory s);
  done = λ fine. absurd (fine.memory s);
  finishes = λ nothing. inl s;
  five_only = λ h. absurd (omega (arith, h, s));
  five = λ name is sinks memory. absurd (memory s);
}

memory_kept : (before after : Outside) (status : ℕ) (line : List ℕ) → TellsLine line 7 before.err after.err status → Kept before after status
memory_kept before after status line (inl t) = by_memory t.0
memory_kept before after status line (inr t) = by_sink t.0 (λ nothing. nothing.err t.1)

sink_six : (line : List ℕ) (a b : SinkSeen) (status : ℕ) → TellsLine line 6 a b status → status ≡ 6
sink_six line a b status (inl t) = t.0
sink_six line a b status (inr t) = t.0

-- ---- all

pub endings_have_causes : EndingsHaveCauses
endings_have_causes c task before after status few (ended x d out (inl (is, line, same))) =
    came_causes task before after status few (record { answer = x; done = d; came = record { status_is = is; out = out; err = line } })
endings_have_causes c task before after status few (ended x d out (inr (is, rose, part))) =
    kept_causes task before after status (by_sink is (λ nothing. nothing.err rose))
endings_have_causes c task before after status few (cut rose left told) =
    kept_causes task before after status (by_sink (sink_six _ before.err after.err status told) (λ nothing. nothing.out rose))
endings_have_causes c task before after status few (wanting late left told) =
    kept_causes task before after status (memory_kept before after status _ told)

pub giving_up_has_causes : GivingUpHasCauses
giving_up_has_causes c task before after status (unread word named rose u (inl (is, line, same))) = kept_causes task before after status (by_files is rose)
giving_up_has_causes c task before after status (unread word named rose u (inr (is, err, part))) =
    kept_causes task before after status (by_sink is (λ nothing. nothing.err err))
giving_up_has_causes c task before after status (unmade u told) = kept_causes task before after status (memory_kept before after status _ told)
