-- GroupRuns: the reruns of groups, with one more.
use Rattle.std.proofs.Common.{◌≡◌, ℤ, List, [], ◌∷◌, ◌++◌, length, slice_get, All, Some, refl, sym, ap, subst, ◌∙◌, arith, length-append}
use Rattle.std.proofs.lemmas.List.{append_assoc, append-nil, map-append}
use Rattle.std.proofs.lemmas.List.Elements.{All-nil, All-push}
use Rattle.coded_unit.specs.declared.call.Answer.{Answer}
use Rattle.coded_unit.specs.Log.{Entry}
use Rattle.coded_unit.specs.Seen.{UnitSeen}
use Rattle.op_graph.specs.Lists.{Lists}
use Rattle.signature_table.specs.Signatures.{Numbers}
use Rattle.coded_machine.specs.declared.cycle_end.CycleEnd.{CycleEnd}
use Rattle.coded_machine.specs.Calls.{Carried}
use Rattle.coded_machine.specs.CycleEnds.{initial_words}
use Rattle.coded_machine.specs.Runs.{calls_over}
use Rattle.fault_script.specs.declared.act.Fault.{Fault}
use Rattle.fault_injector.specs.declared.verdicts.Verdict.{Verdict}
use Rattle.fault_injector.specs.Groups.{GroupsJudged, calls_again, reruns, verdicts_again}
use Rattle.fault_injector.specs.References.{RanOver}
use Rattle.fault_injector.specs.Reruns.{Again, IsExact, Reran, rerun}
use Rattle.fault_injector.proofs.AgainRuns.{carried_on}

calls_more : (before : List Again) (a : Again) → calls_again (before ++ a ∷ []) ≡ calls_again before ++ a.calls
calls_more [] a = append-nil a.calls
calls_more (b ∷ before) a = ap (λ (es : List Entry). b.calls ++ es) (calls_more before a) ∙ sym (append_assoc b.calls (calls_again before) a.calls)

module _ (t : Numbers) (g : Lists) (rows : List (List ℤ)) (others : List (List Answer)) where
  none_rerun : (groups : List (List Fault)) → reruns t g rows others groups [] ≡ []
  none_rerun [] = refl
  none_rerun (faults ∷ groups) = refl

  one_more : (groups : List (List Fault)) (givens : List (List Answer)) (faults : List Fault) (given : List Answer)
      → slice_get groups (length givens) ≡ Some faults
      → reruns t g rows others groups (givens ++ given ∷ []) ≡ reruns t g rows others groups givens ++ rerun t g faults rows others given ∷ []
  one_more [] givens faults given there = absurd cc
  one_more (first ∷ groups) [] faults given there =
      let same : first ≡ faults = cc in
      ap (λ (later : List Again). rerun t g first rows others given ∷ later) (none_rerun groups)
      ∙ ap (λ (x : List Fault). rerun t g x rows others given ∷ []) same
  one_more (first ∷ groups) (y ∷ givens) faults given there =
      ap (λ (later : List Again). rerun t g first rows others y ∷ later) (one_more groups givens faults given there)

  module _ (groups : List (List Fault)) where
    -- the run without faults alone
    pub judged_first : (e : CycleEnd) (before now : UnitSeen) → RanOver g t rows others e before.log now.log before.wrong now.wrong
        → GroupsJudged t g rows others groups [] before now
    judged_first e before now ran =
        let none = none_rerun groups in
        let calls = calls_over g t 0 (initial_words g t.seed) rows others in
        record {
          all = ran.all;
          givens = [];
          each = refl;
          exact = subst (λ (again : List Again). All IsExact again) (sym none) (All-nil IsExact);
          verdicts_are = sym (ap verdicts_again none);
          carried =
              subst (λ (es : List Entry). Carried es before.log now.log before.wrong now.wrong)
              (sym (ap (λ (again : List Again). calls ++ calls_again again) none ∙ append-nil calls)) ran.carried;
        }

    -- one group more
    pub judged_next : (verdicts : List Verdict) (faults : List Fault) (v : Verdict) (before mid now : UnitSeen)
        → GroupsJudged t g rows others groups verdicts before mid → slice_get groups (length verdicts) ≡ Some faults
        → Reran t g faults rows others mid now v → GroupsJudged t g rows others groups (verdicts ++ v ∷ []) before now
    judged_next verdicts faults v before mid now j there r =
        let so_far = reruns t g rows others groups j.givens in
        let a : Again = rerun t g faults rows others r.given in
        let next = one_more groups j.givens faults r.given (ap (slice_get groups) j.each ∙ there) in
        let calls = calls_over g t 0 (initial_words g t.seed) rows others in
        record {
          all = j.all;
          givens = j.givens ++ r.given ∷ [];
          each = omega (arith, j.each, length-append j.givens (r.given ∷ []), length-append verdicts (v ∷ []));
          exact = subst (λ (again : List Again). All IsExact again) (sym next) (All-push IsExact so_far a j.exact r.exact);
          verdicts_are =
              ap (λ (vs : List Verdict). vs ++ v ∷ []) j.verdicts_are
              ∙ (ap (λ (w : Verdict). verdicts_again so_far ++ w ∷ []) r.verdict_is
              ∙ (sym (map-append (λ (x : Again). x.verdict) so_far (a ∷ [])) ∙ ap verdicts_again (sym next)));
          carried =
              subst (λ (es : List Entry). Carried es before.log now.log before.wrong now.wrong)
              (append_assoc calls (calls_again so_far) a.calls
              ∙ ap (λ (es : List Entry). calls ++ es) (sym (calls_more so_far a) ∙ ap calls_again (sym next)))
              (carried_on (calls ++ calls_again so_far) a.calls before.log mid.log now.log before.wrong mid.wrong now.wrong j.carried r.carried);
        }
