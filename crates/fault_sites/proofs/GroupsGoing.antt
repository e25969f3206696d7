-- GroupsGoing: the lines of a group, one behind another.
use Rattle.std.proofs.Common.{◌≡◌, ℕ, ◌+◌, ◌-◌, ◌<◌, ◌≤◌, Bool, false, cond, List, [], ◌∷◌, ◌++◌, length, take, drop, get_or, slice_get, Option, Some, ℤ, refl, sym, ap, ◌∙◌, append_assoc, arith}
use Rattle.std.proofs.lemmas.List.{append-nil, length-drop, take_all}
use Rattle.std.proofs.lemmas.Option.{get_or_from_slice_get}
use Rattle.op_graph.specs.declared.op.Op.{Op}
use Rattle.op_graph.specs.Lists.{Lists}
use Rattle.op_graph.specs.Rules.{is_out}
use Rattle.fault_sites.specs.declared.reading.Reading.{Reading}
use Rattle.fault_sites.specs.Readings.{readings_within}
use Rattle.fault_sites.specs.Rests.{changed, groups_at, groups_by}
use Rattle.fault_sites.specs.Telling.{fed_lines}
use Rattle.fault_sites.proofs.Lists.{drop_there, drop_behind}
use Rattle.fault_sites.proofs.RunFit.{there_is}
use Rattle.vcp_outside.specs.Pens.{Penned, Goes, unmoved, and_then, same}

pub at_there : (rs : List Reading) (i : ℕ) (d : Reading) → i < length rs → slice_get rs i ≡ Some (get_or rs i d)
at_there rs i d inside = let (r, there) = there_is rs i inside in there ∙ ap Some (sym (get_or_from_slice_get rs i r d there))

pub tail_is : (rs : List Reading) (i : ℕ) → take (length rs - i) (drop i rs) ≡ drop i rs
tail_is rs i = take_all (length rs - i) (drop i rs) (omega (arith, length-drop i rs))

pub groups_at_is : (g : Lists) (more : Bool) (n k : ℕ) (op : Op) (rs : List Reading) → slice_get g.operations k ≡ Some op → is_out op.kind ≡ false
    → rs ≡ readings_within g more k → groups_at g more n k (slice_get g.operations k) ≡ groups_by n rs
groups_at_is g more n k op rs there stays is =
    ap (λ (o : Option Op). groups_at g more n k o) there
    ∙ (ap (λ (b : Bool). cond b [] (groups_by n (readings_within g more k))) stays ∙ ap (λ (d : List Reading). groups_by n d) (sym is))

-- the lines of these readings, as far as the loop has come, and those that are left
pub record ChangedSo (l m : Penned) (n : ℕ) (e : ℤ) (rs : List Reading) (i : ℕ) : Type 0 where
  pub text : List ℕ
  pub gathers : Goes l m text
  pub whole : fed_lines (changed n e rs) ≡ text ++ fed_lines (changed n e (drop i rs))

pub changed_none : {l : Penned} (n : ℕ) (e : ℤ) (rs : List Reading) → ChangedSo l l n e rs 0
changed_none n e rs = record { text = []; gathers = unmoved; whole = none rs }
  where
    none : (rs : List Reading) → fed_lines (changed n e rs) ≡ fed_lines (changed n e (drop 0 rs))
    none [] = refl
    none (r ∷ rs) = refl

one_more : (n : ℕ) (e : ℤ) (r : Reading) (rs : List Reading) → fed_lines (changed n e (r ∷ rs)) ≡ fed_lines (changed n e (r ∷ [])) ++ fed_lines (changed n e rs)
one_more n e r rs = simp append_assoc

pub changed_more : {l m o : Penned} (n : ℕ) (e : ℤ) (rs : List Reading) (i : ℕ) (r : Reading) → ChangedSo l m n e rs i
    → slice_get rs i ≡ Some r → Goes m o (fed_lines (changed n e (r ∷ []))) → ChangedSo l o n e rs (i + 1)
changed_more n e rs i r so there gathers =
    let one : List ℕ = fed_lines (changed n e (r ∷ [])) in
    let more : List ℕ = fed_lines (changed n e (drop (i + 1) rs)) in
    record {
      text = so.text ++ one;
      gathers = and_then so.gathers gathers;
      whole = so.whole
          ∙ (ap (λ (d : List Reading). so.text ++ fed_lines (changed n e d)) (drop_there rs i r there)
          ∙ (ap (λ (t : List ℕ). so.text ++ t) (one_more n e r (drop (i + 1) rs)) ∙ sym (append_assoc so.text one more)));
    }

pub changed_all : {l m : Penned} (n : ℕ) (e : ℤ) (rs : List Reading) (i : ℕ) → ChangedSo l m n e rs i → length rs ≤ i
    → Goes l m (fed_lines (changed n e rs))
changed_all n e rs i so past =
    same so.gathers (so.whole ∙ (ap (λ (d : List Reading). so.text ++ fed_lines (changed n e d)) (drop_behind rs i past) ∙ append-nil so.text))
