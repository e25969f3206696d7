-- Told: what a campaign on a pair has run and told, group by group.
use Rattle.std.proofs.Common.{◌≡◌, ◌≤◌, ◌+◌, ℕ, zero, suc, ℤ, List, [], ◌∷◌, ◌++◌, length, take, slice_get, option_map, Option, Some, Result, Ok, Err, refl, ap, sym, subst, ◌∙◌, length-append, arith}
use Rattle.std.proofs.lemmas.Option.{slice_get-map, slice_get_within}
use Rattle.std.specs.Io.KnownBytes.{Appends}
use Rattle.std.proofs.KnownBytes.{Appends-trans, Appends-nil}
use Rattle.vcp_outside.specs.Written.{AppendsPart}
use Rattle.coded_unit.specs.Seen.{UnitSeen, StaysHonest}
use Rattle.op_graph.specs.Lists.{Lists}
use Rattle.signature_table.specs.Signatures.{Numbers}
use Rattle.fault_script.specs.declared.act.Fault.{Fault}
use Rattle.fault_script.specs.Groups.{line_of}
use Rattle.fault_injector.specs.Campaign.{verdicts_of}
use Rattle.fault_injector.specs.declared.campaign.fault.CampaignFault.{CampaignFault}
use Rattle.fault_injector.specs.declared.campaign.fault.CampaignFault.TheVariants as fault
use Rattle.fault_injector.proofs.CarriedByHand.{honest_first, honest_second}
use Rattle.fault_injector.specs.Verdicts.{verdict_of}
use Rattle.fault_injector.specs.declared.campaign.pairs.lines.PairTotals.{PairTotals}
use Rattle.fault_injector.specs.declared.campaign.pairs.verdict.PairVerdict.{PairVerdict}
use Rattle.fault_injector.specs.GroupLines.{group_text, counted, no_groups, totals_of, pair_totals_text}
use Rattle.fault_injector.specs.GroupRuns.{GroupRan}
use Rattle.fault_injector.specs.PairCampaigns.{GroupsRan, PairsTold, group_lines}
use Rattle.fault_injector.specs.PairVerdicts.{told_verdict, told_verdicts}
use Rattle.fault_injector.proofs.PairsTelling.{totals_next}
use Rattle.fault_injector.proofs.Telling.{no_lines, lines_next, line_failed, totals_failed}

-- ---- what isn't a failed write

pub wanted : {V : Type 0} → (let r : Result V CampaignFault = Err fault.Memory in r) ≡ Err fault.Write → ⊥
wanted is = cc

pub done : {V : Type 0} {v : V} → (let r : Result V CampaignFault = Ok v in r) ≡ Err fault.Write → ⊥
done is = cc

take_one_more : {X : Type 0} (xs : List X) (i : ℕ) (x : X) → slice_get xs i ≡ Some x → take (suc i) xs ≡ take i xs ++ x ∷ []
take_one_more [] i x e = absurd cc
take_one_more (y ∷ xs) zero x e = let same : y ≡ x = cc in ap (λ z. z ∷ []) same
take_one_more (y ∷ xs) (suc i) x e = ap (λ l. y ∷ l) (take_one_more xs i x e)

-- one more group was run
ran_more : (t : Numbers) (g : Lists) (rows : List (List ℤ)) (fs : List (List Fault)) (vs : List PairVerdict) (f : List Fault) (v : PairVerdict)
    (before now after : UnitSeen) → slice_get fs (length vs) ≡ Some f → GroupsRan t g rows fs vs before now → GroupRan t g f rows now after v →
    GroupsRan t g rows fs (vs ++ v ∷ []) before after
ran_more t g rows [] vs f v before now after there h one = absurd cc
ran_more t g rows (e ∷ fs) [] f v before now after there h one =
    let same : e ≡ f = cc in (
      after,
      subst (λ (x : List Fault). GroupRan t g x rows before after v) (sym same) (subst (λ (s : UnitSeen). GroupRan t g f rows s after v) h one),
      refl,
    )
ran_more t g rows (e ∷ fs) (w ∷ vs) f v before now after there h one =
    (h.0, h.1, ran_more t g rows fs vs f v h.0 now after there h.2 one)

-- so many groups are run, counted and told
pub record SoFar (t : Numbers) (g : Lists) (fs : List (List Fault)) (rows : List (List ℤ)) (before now : UnitSeen) (old new : Option (List ℕ)) (i : ℕ)
    (totals : PairTotals) : Type 0 where
  pub verdicts : List PairVerdict
  pub count : length verdicts ≡ i
  pub few : length verdicts ≤ length fs
  pub later : before.wrong ≤ now.wrong
  pub ran : GroupsRan t g rows fs verdicts before now
  pub right : StaysHonest before now → verdicts ≡ take (length verdicts) (told_verdicts t g fs rows)
  pub totals_are : totals ≡ totals_of verdicts
  pub told : Appends old new (group_lines fs verdicts)

pub so_far_none : (t : Numbers) (g : Lists) (fs : List (List Fault)) (rows : List (List ℤ)) (before : UnitSeen) (old : Option (List ℕ)) →
    SoFar t g fs rows before before old old 0 no_groups
so_far_none t g fs rows before old = record {
  verdicts = [];
  count = refl;
  few = omega arith;
  later = omega arith;
  ran = refl;
  right = λ h. refl;
  totals_are = refl;
  told = subst (Appends old old) (sym (no_lines group_text fs)) (Appends-nil old);
}

module _ (t : Numbers) (g : Lists) (fs : List (List Fault)) (rows : List (List ℤ)) where
  abbrev defined : List Fault → PairVerdict
  defined f = told_verdict (verdict_of t g f rows)

  told_at : (i : ℕ) (f : List Fault) → slice_get fs i ≡ Some f → slice_get (told_verdicts t g fs rows) i ≡ Some (defined f)
  told_at i f there =
      slice_get-map told_verdict (verdicts_of t g fs rows) i
      ∙ ap (option_map told_verdict)
      (slice_get-map (λ (e : List Fault). verdict_of t g e rows) fs i ∙ ap (option_map (λ (e : List Fault). verdict_of t g e rows)) there)

  -- the defined verdicts, with one more
  right_next : (vs : List PairVerdict) (f : List Fault) (v : PairVerdict) → slice_get fs (length vs) ≡ Some f →
      vs ≡ take (length vs) (told_verdicts t g fs rows) → v ≡ defined f → vs ++ v ∷ [] ≡ take (length (vs ++ v ∷ [])) (told_verdicts t g fs rows)
  right_next vs f v there before is =
      let many : length (vs ++ v ∷ []) ≡ suc (length vs) = omega (arith, length-append vs (v ∷ [])) in
      let all = told_verdicts t g fs rows in
      ap (λ l. l ++ v ∷ []) before ∙ ap (λ w. take (length vs) all ++ w ∷ []) is
      ∙ sym (take_one_more all (length vs) (defined f) (told_at (length vs) f there)) ∙ ap (λ n. take n all) (sym many)

  module _ (before now after : UnitSeen) (old mid new : Option (List ℕ)) (i : ℕ) (totals : PairTotals) (h : SoFar t g fs rows before now old mid i totals)
      (f : List Fault) (v : PairVerdict) (there : slice_get fs i ≡ Some f) (one : GroupRan t g f rows now after v) where
    here : slice_get fs (length h.verdicts) ≡ Some f
    here = ap (slice_get fs) h.count ∙ there

    many : length (h.verdicts ++ v ∷ []) ≡ suc (length h.verdicts)
    many = omega (arith, length-append h.verdicts (v ∷ []))

    few_more : length (h.verdicts ++ v ∷ []) ≤ length fs
    few_more = omega (arith, many, slice_get_within fs (length h.verdicts) f here)

    right_more : StaysHonest before after → h.verdicts ++ v ∷ [] ≡ take (length (h.verdicts ++ v ∷ [])) (told_verdicts t g fs rows)
    right_more honest =
        right_next h.verdicts f v here (h.right (honest_first before.wrong now.wrong after.wrong h.later one.later honest))
        (one.honest (honest_second before.wrong now.wrong after.wrong h.later one.later honest))

    pub so_far_next : (number : ℕ) → number ≡ line_of f → Appends mid new (group_text number v) →
        SoFar t g fs rows before after old new (i + 1) (counted totals v)
    so_far_next number is said =
        let line = subst (λ (n : ℕ). Appends mid new (group_text n v)) is said in
        record {
          verdicts = h.verdicts ++ v ∷ [];
          count = omega (arith, many, h.count);
          few = few_more;
          later = omega (arith, h.later, one.later);
          ran = ran_more t g rows fs h.verdicts f v before now after here h.ran one;
          right = right_more;
          totals_are = ap (λ (x : PairTotals). counted x v) h.totals_are ∙ sym (totals_next no_groups h.verdicts v);
          told = subst (Appends old new) (sym (lines_next group_text fs h.verdicts f v here))
              (Appends-trans old mid new (group_lines fs h.verdicts) (group_text (line_of f) v) h.told line);
        }

    -- the line of the group couldn't be written
    pub line_exit : (number : ℕ) → number ≡ line_of f → AppendsPart mid new (group_text number v) →
        PairsTold t g fs rows before after old new (Err fault.Write)
    line_exit number is said =
        let part = subst (λ (n : ℕ). AppendsPart mid new (group_text n v)) is said in
        record {
          verdicts = h.verdicts ++ v ∷ [];
          few = few_more;
          ran = ran_more t g rows fs h.verdicts f v before now after here h.ran one;
          right = right_more;
          written = line_failed group_text (λ vs. pair_totals_text (totals_of vs)) fs h.verdicts f v old mid new here h.told part;
        }

  -- memory was wanted for the next group
  pub memory_exit : (before now : UnitSeen) (old new : Option (List ℕ)) (i : ℕ) (totals : PairTotals) → SoFar t g fs rows before now old new i totals →
      PairsTold t g fs rows before now old new (Err fault.Memory)
  memory_exit before now old new i totals h = record { verdicts = h.verdicts; few = h.few; ran = h.ran; right = h.right; written = h.told }

  module _ (before now : UnitSeen) (old mid new : Option (List ℕ)) (totals : PairTotals) (h : SoFar t g fs rows before now old mid (length fs) totals) where
    -- the totals couldn't be written
    pub totals_exit : AppendsPart mid new (pair_totals_text totals) → PairsTold t g fs rows before now old new (Err fault.Write)
    totals_exit part = record {
      verdicts = h.verdicts;
      few = h.few;
      ran = h.ran;
      right = h.right;
      written = totals_failed group_text (λ vs. pair_totals_text (totals_of vs)) fs h.verdicts old mid new h.count h.told
          (subst (λ (x : PairTotals). AppendsPart mid new (pair_totals_text x)) h.totals_are part);
    }

    pub all_told : Appends mid new (pair_totals_text totals) → PairsTold t g fs rows before now old new (Ok tt)
    all_told whole = record {
      verdicts = h.verdicts;
      few = h.few;
      ran = h.ran;
      right = h.right;
      written = (
        h.count,
        Appends-trans old mid new (group_lines fs h.verdicts) (pair_totals_text (totals_of h.verdicts)) h.told
            (subst (λ (x : PairTotals). Appends mid new (pair_totals_text x)) h.totals_are whole),
      );
    }
