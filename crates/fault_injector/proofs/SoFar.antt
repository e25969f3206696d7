-- SoFar: what a campaign has found and told, group by group.
use Rattle.std.proofs.Common.{◌≡◌, ◌≤◌, ◌+◌, ℕ, zero, suc, ℤ, List, [], ◌∷◌, ◌++◌, length, take, All, slice_get, option_map, Option, Some, Ok, Err, inl, inr, refl, ap, sym, subst, ◌∙◌, length-append, arith}
use Rattle.std.proofs.lemmas.List.Elements.{All-get_or, All-nil, All-push}
use Rattle.std.proofs.lemmas.Option.{get_or_from_slice_get, slice_get-map, slice_get_within}
use Rattle.std.specs.Io.KnownBytes.{Appends}
use Rattle.std.proofs.KnownBytes.{Appends-trans, Appends-nil}
use Rattle.vcp_outside.specs.Written.{AppendsPart}
use Rattle.op_graph.specs.Lists.{Lists}
use Rattle.signature_table.specs.Signatures.{Numbers}
use Rattle.fault_script.specs.declared.act.Fault.{Fault}
use Rattle.fault_script.specs.Groups.{GroupFits, line_of}
use Rattle.fault_injector.specs.declared.verdicts.Verdict.{Verdict}
use Rattle.fault_injector.specs.Names.{Names}
use Rattle.coded_unit.specs.declared.call.Answer.{Answer}
use Rattle.coded_unit.specs.Seen.{StaysHonest, StoodStill, UnitSeen}
use Rattle.fault_injector.specs.Verdicts.{verdict_of}
use Rattle.fault_injector.specs.Groups.{GroupsJudged}
use Rattle.fault_injector.specs.Laws.{GroupLaws}
use Rattle.fault_injector.specs.References.{KeptRun}
use Rattle.fault_injector.specs.Reruns.{IsReference, Reran}
use Rattle.fault_injector.specs.declared.lines.Totals.{Totals}
use Rattle.fault_injector.specs.FaultLines.{verdict_text, counted, no_verdicts, totals_of, totals_text}
use Rattle.fault_injector.specs.declared.campaign.fault.CampaignFault.TheVariants as fault
use Rattle.fault_injector.specs.Campaign.{verdict_lines, verdicts_of, Told}
use Rattle.fault_injector.proofs.Telling.{no_lines, lines_next, totals_next, line_failed, totals_failed}

-- where no answer was wrong from the first moment to the last, none was up to a moment between them
pub honest_first : (a b c : ℕ) → a ≤ b → b ≤ c → StoodStill a c → StoodStill a b
honest_first a b c first second h = (omega (arith, first, second, h.0), h.1)

pub honest_second : (a b c : ℕ) → a ≤ b → b ≤ c → StoodStill a c → StoodStill b c
honest_second a b c first second h = (omega (arith, first, second, h.0), omega (arith, first, second, h.0, h.1))

-- each group of a script fits the graph
pub group_fits : (g : Lists) (script : List (List Fault)) (i : ℕ) (f : List Fault) → slice_get script i ≡ Some f → All (GroupFits g) script → GroupFits g f
group_fits g script i f there all =
    subst (GroupFits g) (get_or_from_slice_get script i f f there) (All-get_or (GroupFits g) script i f (slice_get_within script i f there) all)

take_one_more : {X : Type 0} (xs : List X) (i : ℕ) (x : X) → slice_get xs i ≡ Some x → take (suc i) xs ≡ take i xs ++ x ∷ []
take_one_more [] i x e = absurd cc
take_one_more (y ∷ xs) zero x e = let same : y ≡ x = cc in ap (λ z. z ∷ []) same
take_one_more (y ∷ xs) (suc i) x e = ap (λ l. y ∷ l) (take_one_more xs i x e)

-- the verdicts of the first groups, found between two moments of a unit
pub record Found (t : Numbers) (g : Lists) (fs : List (List Fault)) (rows : List (List ℤ)) (before now : UnitSeen) (vs : List Verdict) : Type 0 where
  pub names : All (Names (length g.outputs) (length g.operations)) vs
  pub few : length vs ≤ length fs
  pub right : StaysHonest before now → vs ≡ take (length vs) (verdicts_of t g fs rows)

-- so many verdicts are found, counted and told
pub record SoFar (t : Numbers) (g : Lists) (fs : List (List Fault)) (rows : List (List ℤ)) (others : List (List Answer)) (before now : UnitSeen)
    (old new : Option (List ℕ)) (i : ℕ) (totals : Totals) : Type 0 where
  pub verdicts : List Verdict
  pub count : length verdicts ≡ i
  pub judged : GroupsJudged t g rows others fs verdicts before now
  pub found : Found t g fs rows before now verdicts
  pub totals_are : totals ≡ totals_of verdicts
  pub told : Appends old new (verdict_lines g fs verdicts)

-- the verdict of the next group is found
pub record Next (t : Numbers) (g : Lists) (fs : List (List Fault)) (rows : List (List ℤ)) (others : List (List Answer)) (first before now : UnitSeen)
    (i : ℕ) (f : List Fault) (v : Verdict) : Type 0 where
  pub there : slice_get fs i ≡ Some f
  pub reran : Reran t g f rows others before now v
  pub names : Names (length g.outputs) (length g.operations) v
  pub right : StaysHonest first now → v ≡ verdict_of t g f rows

-- what a kept run ensures of its own graph, numbers and rows, of those that it was made of
pub of_kept : (P : Numbers → Lists → List (List ℤ) → Type 0) (r : KeptRun) (t : Numbers) (g : Lists) (rows : List (List ℤ)) → r.graph ≡ g → r.table ≡ t
    → r.rows ≡ rows → P r.table r.graph r.rows → P t g rows
of_kept P r t g rows graph table list h =
    subst (λ (x : Numbers). P x g rows) table
    (subst (λ (x : Lists). P r.table x rows) graph (subst (λ (x : List (List ℤ)). P r.table r.graph x) list h))

pub to_kept : (P : Numbers → Lists → List (List ℤ) → Type 0) (r : KeptRun) (t : Numbers) (g : Lists) (rows : List (List ℤ)) → r.graph ≡ g → r.table ≡ t
    → r.rows ≡ rows → P t g rows → P r.table r.graph r.rows
to_kept P r t g rows graph table list h =
    subst (λ (x : Numbers). P x r.graph r.rows) (sym table)
    (subst (λ (x : Lists). P t x r.rows) (sym graph) (subst (λ (x : List (List ℤ)). P t g x) (sym list) h))

-- so it is by the rerun of that group
pub next_found : (r : KeptRun) (fs : List (List Fault)) (a first b c : UnitSeen) (i : ℕ) (f : List Fault) (v : Verdict) → slice_get fs i ≡ Some f
    → a.wrong ≤ first.wrong → first.wrong ≤ b.wrong → (StaysHonest a first → IsReference r.table r.graph r.rows r.answers) → All (GroupFits r.graph) fs
    → Reran r.table r.graph f r.rows r.answers b c v → Names (length r.graph.outputs) (length r.graph.operations) v
    → (IsReference r.table r.graph r.rows r.answers → GroupFits r.graph f → StaysHonest b c → v ≡ verdict_of r.table r.graph f r.rows)
    → Next r.table r.graph fs r.rows r.answers a b c i f v
next_found r fs a first b c i f v there one two reference fit reran names verdict =
    let three = reran.carried.never_falls in
    record {
      there = there;
      reran = reran;
      names = names;
      right = λ h. verdict (reference (honest_first a.wrong first.wrong c.wrong one (omega (arith, two, three)) h)) (group_fits r.graph fs i f there fit)
          (honest_second a.wrong b.wrong c.wrong (omega (arith, one, two)) three h);
    }

pub so_far_none : (t : Numbers) (g : Lists) (fs : List (List Fault)) (rows : List (List ℤ)) (others : List (List Answer)) (before now : UnitSeen)
    (old : Option (List ℕ)) → GroupsJudged t g rows others fs [] before now → SoFar t g fs rows others before now old old 0 no_verdicts
so_far_none t g fs rows others before now old judged = record {
  verdicts = [];
  count = refl;
  judged = judged;
  found = record { names = All-nil (Names (length g.outputs) (length g.operations)); few = omega arith; right = λ h. refl };
  totals_are = refl;
  told = subst (Appends old old) (sym (no_lines (verdict_text g) fs)) (Appends-nil old);
}

-- memory was wanted for the run without faults
pub none_told : (t : Numbers) (g : Lists) (fs : List (List Fault)) (rows : List (List ℤ)) (before now : UnitSeen) (old : Option (List ℕ)) → now ≡ before →
    Told t g fs rows before now old old (Err fault.Memory)
none_told t g fs rows before now old still = record {
  verdicts = [];
  names = All-nil (Names (length g.outputs) (length g.operations));
  few = omega arith;
  asked = inr (refl, still);
  right = λ h. refl;
  written = subst (Appends old old) (sym (no_lines (verdict_text g) fs)) (Appends-nil old);
}

-- memory was wanted for the next rerun
pub memory_exit : (t : Numbers) (g : Lists) (fs : List (List Fault)) (rows : List (List ℤ)) (others : List (List Answer)) (before now : UnitSeen)
    (old new : Option (List ℕ)) (i : ℕ) (totals : Totals) → SoFar t g fs rows others before now old new i totals →
    Told t g fs rows before now old new (Err fault.Memory)
memory_exit t g fs rows others before now old new i totals so_far = record {
  verdicts = so_far.verdicts;
  names = so_far.found.names;
  few = so_far.found.few;
  asked = inl (others, so_far.judged);
  right = so_far.found.right;
  written = so_far.told;
}

module _ (t : Numbers) (g : Lists) (fs : List (List Fault)) (rows : List (List ℤ)) where
  -- the defined verdicts, with one more
  right_next : (vs : List Verdict) (f : List Fault) (v : Verdict) → slice_get fs (length vs) ≡ Some f → vs ≡ take (length vs) (verdicts_of t g fs rows) →
      v ≡ verdict_of t g f rows → vs ++ v ∷ [] ≡ take (length (vs ++ v ∷ [])) (verdicts_of t g fs rows)
  right_next vs f v there before is =
      let many : length (vs ++ v ∷ []) ≡ suc (length vs) = omega (arith, length-append vs (v ∷ [])) in
      let all = verdicts_of t g fs rows in
      let here : slice_get all (length vs) ≡ Some (verdict_of t g f rows) =
      slice_get-map (λ (e : List Fault). verdict_of t g e rows) fs (length vs) ∙ ap (option_map (λ (e : List Fault). verdict_of t g e rows)) there in
      ap (λ l. l ++ v ∷ []) before ∙ ap (λ w. take (length vs) all ++ w ∷ []) is
      ∙ sym (take_one_more all (length vs) (verdict_of t g f rows) here) ∙ ap (λ n. take n all) (sym many)

  -- one verdict more
  found_next : (others : List (List Answer)) (a b c : UnitSeen) (vs : List Verdict) (f : List Fault) (v : Verdict) → a.wrong ≤ b.wrong
      → Found t g fs rows a b vs → Next t g fs rows others a b c (length vs) f v → Found t g fs rows a c (vs ++ v ∷ [])
  found_next others a b c vs f v first found next =
      let many : length (vs ++ v ∷ []) ≡ suc (length vs) = omega (arith, length-append vs (v ∷ [])) in
      record {
        names = All-push (Names (length g.outputs) (length g.operations)) vs v found.names next.names;
        few = omega (arith, many, slice_get_within fs (length vs) f next.there);
        right = λ h. right_next vs f v next.there (found.right (honest_first a.wrong b.wrong c.wrong first next.reran.carried.never_falls h))
            (next.right h);
      }

  module _ (laws : GroupLaws) (others : List (List Answer)) (a b c : UnitSeen) (old mid new : Option (List ℕ)) (i : ℕ) (totals : Totals)
      (so_far : SoFar t g fs rows others a b old mid i totals) where
    -- the next one, by how many there are
    here : {f : List Fault} {v : Verdict} → Next t g fs rows others a b c i f v → Next t g fs rows others a b c (length so_far.verdicts) f v
    here next = record { there = ap (slice_get fs) so_far.count ∙ next.there; reran = next.reran; names = next.names; right = next.right }

    judged_on : (f : List Fault) (v : Verdict) → Next t g fs rows others a b c i f v
        → GroupsJudged t g rows others fs (so_far.verdicts ++ v ∷ []) a c
    judged_on f v next = laws.goes_on t g rows others fs so_far.verdicts f v a b c so_far.judged (here next).there next.reran

    pub so_far_next : (f : List Fault) (v : Verdict) (number : ℕ) → Next t g fs rows others a b c i f v → number ≡ line_of f →
        Appends mid new (verdict_text g number v) → SoFar t g fs rows others a c old new (i + 1) (counted totals v)
    so_far_next f v number next is said =
        let line = subst (λ (n : ℕ). Appends mid new (verdict_text g n v)) is said in
        let vs = so_far.verdicts in
        let there = (here next).there in
        record {
          verdicts = vs ++ v ∷ [];
          count = omega (arith, length-append vs (v ∷ []), so_far.count);
          judged = judged_on f v next;
          found = found_next others a b c vs f v so_far.judged.carried.never_falls so_far.found (here next);
          totals_are = ap (λ (x : Totals). counted x v) so_far.totals_are ∙ sym (totals_next no_verdicts vs v);
          told = subst (Appends old new) (sym (lines_next (verdict_text g) fs vs f v there))
              (Appends-trans old mid new (verdict_lines g fs vs) (verdict_text g (line_of f) v) so_far.told line);
        }

    -- the line of the next verdict couldn't be written
    pub line_exit : (f : List Fault) (v : Verdict) (number : ℕ) → Next t g fs rows others a b c i f v → number ≡ line_of f →
        AppendsPart mid new (verdict_text g number v) → Told t g fs rows a c old new (Err fault.Write)
    line_exit f v number next is said =
        let part = subst (λ (n : ℕ). AppendsPart mid new (verdict_text g n v)) is said in
        let found = found_next others a b c so_far.verdicts f v so_far.judged.carried.never_falls so_far.found (here next) in
        record {
          verdicts = so_far.verdicts ++ v ∷ [];
          names = found.names;
          few = found.few;
          asked = (others, judged_on f v next);
          right = found.right;
          written = line_failed (verdict_text g) (λ vs. totals_text (totals_of vs)) fs so_far.verdicts f v old mid new (here next).there so_far.told part;
        }

  module _ (others : List (List Answer)) (a b : UnitSeen) (old mid new : Option (List ℕ)) (totals : Totals)
      (so_far : SoFar t g fs rows others a b old mid (length fs) totals) where
    -- the totals couldn't be written
    pub totals_exit : AppendsPart mid new (totals_text totals) → Told t g fs rows a b old new (Err fault.Write)
    totals_exit part = record {
      verdicts = so_far.verdicts;
      names = so_far.found.names;
      few = so_far.found.few;
      asked = (others, so_far.judged);
      right = so_far.found.right;
      written = totals_failed (verdict_text g) (λ vs. totals_text (totals_of vs)) fs so_far.verdicts old mid new so_far.count so_far.told
          (subst (λ (x : Totals). AppendsPart mid new (totals_text x)) so_far.totals_are part);
    }

    -- the totals were written, and with them all
    pub all_told : Appends mid new (totals_text totals) → Told t g fs rows a b old new (Ok tt)
    all_told said = record {
      verdicts = so_far.verdicts;
      names = so_far.found.names;
      few = so_far.found.few;
      asked = (others, so_far.judged);
      right = so_far.found.right;
      written = (
        so_far.count,
        Appends-trans old mid new (verdict_lines g fs so_far.verdicts) (totals_text (totals_of so_far.verdicts)) so_far.told
            (subst (λ (x : Totals). Appends mid new (totals_text x)) so_far.totals_are said),
      );
    }
