-- Ends: how a cycle of a pair ends, and why.
use Rattle.std.proofs.Common.{◌≡◌, ◌≢◌, ℕ, ◌==◌, ◌&&◌, Bool, true, false, cond, List, length, Option, Some, None, ℤ, refl, sym, ap, subst, ◌∙◌, arith, eqb-true}
use Rattle.std.proofs.lemmas.Bool.{eq-eqb, false≢true}
use Rattle.vcp_base.specs.Differences.{Difference, first_difference}
use Rattle.vcp_base.specs.Kinds.{same_stop}
use Rattle.vcp_base.specs.declared.kind.StopKind.{StopKind}
use Rattle.vcp_base.specs.declared.kind.StopKind.TheVariants as stop
use Rattle.coded_machine.specs.declared.cycle_end.CycleEnd.{CycleEnd}
use Rattle.coded_machine.specs.declared.cycle_end.CycleEnd.TheVariants as end
use Rattle.op_graph.specs.GraphRun.{Stop}
use Rattle.pair_channel.specs.declared.pair_end.PairEnd.{PairEnd}
use Rattle.pair_channel.specs.declared.pair_end.PairEnd.TheVariants as pair
use Rattle.pair_channel.specs.PairEnds.{both, FirstDifference, released_unless, PairCause}
use Rattle.pair_channel.proofs.Rows.{same_row, none_differs, some_differs, Placed}

pub kind_self : (a : StopKind) → same_stop a a ≡ true
kind_self stop.Range = refl
kind_self stop.DivZero = refl
kind_self stop.Operand = refl

kind_same : (a b : StopKind) → same_stop a b ≡ true → a ≡ b
kind_same stop.Range stop.Range h = refl
kind_same stop.Range stop.DivZero h = absurd cc
kind_same stop.Range stop.Operand h = absurd cc
kind_same stop.DivZero stop.Range h = absurd cc
kind_same stop.DivZero stop.DivZero h = refl
kind_same stop.DivZero stop.Operand h = absurd cc
kind_same stop.Operand stop.Range h = absurd cc
kind_same stop.Operand stop.DivZero h = absurd cc
kind_same stop.Operand stop.Operand h = refl

both_true : (a b : Bool) → (a && b) ≡ true → (a ≡ true) × (b ≡ true)
both_true true true h = (refl, refl)
both_true true false h = absurd cc
both_true false b h = absurd cc

not_true : (b : Bool) → (b ≢ true) → b ≡ false
not_true true h = absurd (h refl)
not_true false h = refl

-- the stop that an end is, if it is one
abbrev pub stop_in : CycleEnd → Option Stop
stop_in (end.Stopped k why) = Some (record { op = k; kind = why })
stop_in end.Released = None
stop_in (end.Refused i found wanted) = None

abbrev pub pair_stop_in : PairEnd → Option Stop
pair_stop_in (pair.Stopped k why) = Some (record { op = k; kind = why })
pair_stop_in pair.Released = None
pair_stop_in (pair.Parted e f) = None
pair_stop_in (pair.Differ i x y) = None

abbrev pub stop_or : Option Stop → Stop → Stop
stop_or (Some s) other = s
stop_or None other = other

-- two stops that are one
stops_equal : (k l : ℕ) (why cause : StopKind) → (k == l && same_stop why cause) ≡ true → end.Stopped l cause ≡ end.Stopped k why
stops_equal k l why cause h =
    let p = both_true (k == l) (same_stop why cause) h in
    ap (λ z. end.Stopped z cause) (sym (eqb-true k l p.0)) ∙ ap (λ z. end.Stopped k z) (sym (kind_same why cause p.1))

stop_self : (k : ℕ) (why : StopKind) → (k == k && same_stop why why) ≡ true
stop_self k why = ap (λ b. b && same_stop why why) (eq-eqb k k refl) ∙ kind_self why

equal_stops : (k l : ℕ) (why cause : StopKind) → end.Stopped l cause ≡ end.Stopped k why → (k == l && same_stop why cause) ≡ true
equal_stops k l why cause h =
    let one : Stop = record { op = k; kind = why } in
    let two : Stop = record { op = l; kind = cause } in
    let same : two ≡ one = ap (λ e. stop_or (stop_in e) one) h in
    ap (λ (s : Stop). k == s.op && same_stop why s.kind) same ∙ stop_self k why

-- ---- both ends alike, or not

pub both_released : (e f : CycleEnd) (row other : List ℤ) → e ≡ end.Released → f ≡ end.Released → row ≡ other → both e f row other ≡ pair.Released
both_released e f row other is that same =
    ap (λ x. both x f row other) is ∙ (ap (λ x. both end.Released x row other) that
    ∙ (ap (λ r. released_unless (first_difference r other 0)) same ∙ ap released_unless (same_row other 0)))

-- the second channel's row counts only where it released
pub both_second_row : (e f : CycleEnd) (row other more : List ℤ) → (f ≡ end.Released → other ≡ more) → both e f row other ≡ both e f row more
both_second_row end.Released end.Released row other more h = ap (λ r. released_unless (first_difference row r 0)) (h refl)
both_second_row end.Released (end.Stopped l cause) row other more h = refl
both_second_row end.Released (end.Refused i found wanted) row other more h = refl
both_second_row (end.Stopped k why) end.Released row other more h = refl
both_second_row (end.Stopped k why) (end.Stopped l cause) row other more h = refl
both_second_row (end.Stopped k why) (end.Refused i found wanted) row other more h = refl
both_second_row (end.Refused j got want) end.Released row other more h = refl
both_second_row (end.Refused j got want) (end.Stopped l cause) row other more h = refl
both_second_row (end.Refused j got want) (end.Refused i found wanted) row other more h = refl

-- and so does the first one's
pub both_first_row : (e f : CycleEnd) (row other more : List ℤ) → (e ≡ end.Released → row ≡ more) → both e f row other ≡ both e f more other
both_first_row end.Released end.Released row other more h = ap (λ r. released_unless (first_difference r other 0)) (h refl)
both_first_row end.Released (end.Stopped l cause) row other more h = refl
both_first_row end.Released (end.Refused i found wanted) row other more h = refl
both_first_row (end.Stopped k why) end.Released row other more h = refl
both_first_row (end.Stopped k why) (end.Stopped l cause) row other more h = refl
both_first_row (end.Stopped k why) (end.Refused i found wanted) row other more h = refl
both_first_row (end.Refused j got want) end.Released row other more h = refl
both_first_row (end.Refused j got want) (end.Stopped l cause) row other more h = refl
both_first_row (end.Refused j got want) (end.Refused i found wanted) row other more h = refl

-- ---- causes

released_cause : (row other : List ℤ) (o : Option Difference) → length row ≡ length other → first_difference row other 0 ≡ o →
    PairCause end.Released end.Released row other (released_unless o)
released_cause row other None e is = (refl, refl, none_differs row other 0 e is)
released_cause row other (Some d) e is =
    let p : Placed row other 0 d = some_differs row other 0 d is in
    let at : p.i ≡ d.place = omega (arith, p.number) in
    (refl, refl, subst (λ i. FirstDifference row other i d.first d.second) at p.first)

stopped_cause : (k l : ℕ) (why cause : StopKind) (row other : List ℤ) (b : Bool) → (k == l && same_stop why cause) ≡ b →
    PairCause (end.Stopped k why) (end.Stopped l cause) row other
    (cond b (pair.Stopped k why) (pair.Parted (end.Stopped k why) (end.Stopped l cause)))
stopped_cause k l why cause row other true is = (refl, stops_equal k l why cause is)
stopped_cause k l why cause row other false is = (refl, refl, λ h. false≢true (sym is ∙ equal_stops k l why cause h))

pub both_cause : (e f : CycleEnd) (row other : List ℤ) → length row ≡ length other → PairCause e f row other (both e f row other)
both_cause end.Released end.Released row other w = released_cause row other (first_difference row other 0) w refl
both_cause end.Released (end.Stopped l cause) row other w = (refl, refl, λ h. absurd cc)
both_cause end.Released (end.Refused i found wanted) row other w = (refl, refl, λ h. absurd cc)
both_cause (end.Stopped k why) end.Released row other w = (refl, refl, λ h. absurd cc)
both_cause (end.Stopped k why) (end.Stopped l cause) row other w =
    stopped_cause k l why cause row other (k == l && same_stop why cause) refl
both_cause (end.Stopped k why) (end.Refused i found wanted) row other w = (refl, refl, λ h. absurd cc)
both_cause (end.Refused j got want) end.Released row other w = (refl, refl, λ h. h)
both_cause (end.Refused j got want) (end.Stopped l cause) row other w = (refl, refl, λ h. h)
both_cause (end.Refused j got want) (end.Refused i found wanted) row other w = (refl, refl, λ h. h)
