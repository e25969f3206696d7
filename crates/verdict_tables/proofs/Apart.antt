-- Apart: the endings of groups, one by one, and how many there are of each.
use Rattle.std.proofs.Common.{◌≡◌, ℕ, Bool, ◌+◌, ◌≤◌, ◌++◌, append_assoc, All, List, [], ◌∷◌, length, drop, slice_get, Option, Some, None, ℤ, refl, sym, ap, ◌∙◌, arith}
use Rattle.std.proofs.Math.Path.{ap₂}
use Rattle.std.proofs.lemmas.List.{append-nil, drop_all}
use Rattle.op_graph.specs.Lists.{Lists}
use Rattle.signature_table.specs.Signatures.{Numbers}
use Rattle.fault_script.specs.declared.act.Fault.{Fault}
use Rattle.fault_injector.specs.declared.verdicts.Verdict.{Verdict}
use Rattle.fault_injector.specs.declared.verdicts.Verdict.TheVariants as verdict
use Rattle.verdict_tables.specs.declared.endless.ending.SameEnding.{SameEnding}
use Rattle.verdict_tables.specs.declared.endless.ending.SameEnding.TheVariants as ends
use Rattle.verdict_tables.specs.Endings.{ending_of}
use Rattle.fault_injector.specs.declared.lines.Totals.{Totals}
use Rattle.fault_injector.specs.FaultLines.{counted, no_verdicts, totals_after, totals_of}
use Rattle.verdict_tables.specs.declared.parts.Part.{Part}
use Rattle.verdict_tables.specs.Parts.{IsWhole}
use Rattle.verdict_tables.specs.SameEndings.{AreOf, ending_if, endings_for, endings_over, ended_count, is_ended, one_if}
use Rattle.verdict_tables.proofs.LinesRead.{drop_here}
use Rattle.verdict_tables.proofs.Lists.{all_first, all_others}

-- one group more
pub one_ended : (t : Numbers) (g : Lists) (rows : List (List ℤ)) (groups : List (List Fault)) (vs : List Verdict) (i : ℕ) (faults : List Fault)
    (v : Verdict) (e : Option SameEnding) (es : List (Option SameEnding)) → slice_get groups i ≡ Some faults → slice_get vs i ≡ Some v →
    e ≡ ending_if t g rows faults v →
    es ++ endings_for t g rows (drop i groups) (drop i vs) ≡ (es ++ e ∷ []) ++ endings_for t g rows (drop (i + 1) groups) (drop (i + 1) vs)
one_ended t g rows groups vs i faults v e es at there is =
    let later = endings_for t g rows (drop (i + 1) groups) (drop (i + 1) vs) in
    ap (λ (gs : List (List Fault)). es ++ endings_for t g rows gs (drop i vs)) (drop_here groups i faults at)
    ∙ ap (λ (ws : List Verdict). es ++ endings_for t g rows (faults ∷ drop (i + 1) groups) ws) (drop_here vs i v there)
    ∙ ap (λ (x : Option SameEnding). es ++ x ∷ later) (sym is)
    ∙ sym (append_assoc es (e ∷ []) later)

-- no group is left
pub none_ended : (t : Numbers) (g : Lists) (rows : List (List ℤ)) (groups : List (List Fault)) (vs : List Verdict) (i : ℕ)
    (es : List (Option SameEnding)) → length groups ≤ i → es ++ endings_for t g rows (drop i groups) (drop i vs) ≡ es
none_ended t g rows groups vs i es past =
    ap (λ (gs : List (List Fault)). es ++ endings_for t g rows gs (drop i vs)) (drop_all i groups past) ∙ append-nil es

-- there is one for each group
pub each_ended : (t : Numbers) (g : Lists) (rows : List (List ℤ)) (groups : List (List Fault)) (vs : List Verdict) → length vs ≡ length groups →
    length (endings_for t g rows groups vs) ≡ length groups
each_ended t g rows [] vs many = refl
each_ended t g rows (faults ∷ groups) [] many = absurd (omega (arith, many))
each_ended t g rows (faults ∷ groups) (v ∷ vs) many = omega (arith, each_ended t g rows groups vs (omega (arith, many)))

-- of each part as well
pub each_over : (t : Numbers) (g : Lists) (rows : List (List ℤ)) (parts : List Part) → All IsWhole parts → AreOf (endings_over t g rows parts) parts
each_over t g rows [] whole = refl
each_over t g rows (p ∷ parts) whole =
    ap₂ (λ (n : ℕ) (ns : List ℕ). n ∷ ns) (each_ended t g rows p.script p.verdicts (all_first IsWhole p parts whole).many)
    (each_over t g rows parts (all_others IsWhole p parts whole))

-- ---- one ending more

pub one_more_ended : (n : ℕ) (es : List (Option SameEnding)) (i : ℕ) (e : Option SameEnding) (b : Bool) → slice_get es i ≡ Some e →
    is_ended n e ≡ b → ended_count n (drop i es) ≡ one_if b + ended_count n (drop (i + 1) es)
one_more_ended n es i e b there is =
    ap (ended_count n) (drop_here es i e there) ∙ ap (λ (b : Bool). one_if b + ended_count n (drop (i + 1) es)) is

pub no_more_ended : (n : ℕ) (es : List (Option SameEnding)) (i : ℕ) → length es ≤ i → ended_count n (drop i es) ≡ 0
no_more_ended n es i past = ap (ended_count n) (drop_all i es past)

-- ---- the three are all

abbrev all_of : List (Option SameEnding) → ℕ
all_of es = ended_count 0 es + ended_count 1 es + ended_count 2 es

one_of_three : (e : SameEnding) → one_if (is_ended 0 (Some e)) + one_if (is_ended 1 (Some e)) + one_if (is_ended 2 (Some e)) ≡ 1
one_of_three ends.NeverReached = refl
one_of_three ends.DiedOut = refl
one_of_three ends.Stands = refl

same_more : (e : SameEnding) (es : List (Option SameEnding)) → all_of (Some e ∷ es) ≡ 1 + all_of es
same_more e es = omega (arith, one_of_three e)

none_more : (es : List (Option SameEnding)) → all_of (None ∷ es) ≡ all_of es
none_more es = omega arith

all_after : (t : Numbers) (g : Lists) (rows : List (List ℤ)) (groups : List (List Fault)) (vs : List Verdict) (tot : Totals) →
    length vs ≡ length groups → tot.same + all_of (endings_for t g rows groups vs) ≡ (totals_after tot vs).same
all_after t g rows [] [] tot many = omega arith
all_after t g rows [] (v ∷ vs) tot many = absurd (omega (arith, many))
all_after t g rows (faults ∷ groups) [] tot many = absurd (omega (arith, many))
all_after t g rows (faults ∷ groups) (verdict.Same ∷ vs) tot many =
    omega (
      arith,
      same_more (ending_of t g faults rows) (endings_for t g rows groups vs),
      all_after t g rows groups vs (counted tot verdict.Same) (omega (arith, many)),
    )
all_after t g rows (faults ∷ groups) (verdict.Wrong cycle output got want ∷ vs) tot many =
    omega (
      arith,
      none_more (endings_for t g rows groups vs),
      all_after t g rows groups vs (counted tot (verdict.Wrong cycle output got want)) (omega (arith, many)),
    )
all_after t g rows (faults ∷ groups) (verdict.RanOn cycle ∷ vs) tot many =
    omega (arith, none_more (endings_for t g rows groups vs), all_after t g rows groups vs (counted tot (verdict.RanOn cycle)) (omega (arith, many)))
all_after t g rows (faults ∷ groups) (verdict.Refused cycle output found wanted ∷ vs) tot many =
    omega (
      arith,
      none_more (endings_for t g rows groups vs),
      all_after t g rows groups vs (counted tot (verdict.Refused cycle output found wanted)) (omega (arith, many)),
    )
all_after t g rows (faults ∷ groups) (verdict.Stopped cycle op kind ∷ vs) tot many =
    omega (
      arith,
      none_more (endings_for t g rows groups vs),
      all_after t g rows groups vs (counted tot (verdict.Stopped cycle op kind)) (omega (arith, many)),
    )

pub three_are_all : (t : Numbers) (g : Lists) (rows : List (List ℤ)) (groups : List (List Fault)) (vs : List Verdict) → length vs ≡ length groups →
    all_of (endings_for t g rows groups vs) ≡ (totals_of vs).same
three_are_all t g rows groups vs many = omega (arith, all_after t g rows groups vs no_verdicts many)
