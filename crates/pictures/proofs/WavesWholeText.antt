-- WavesWholeText: no element of a picture has an attribute twice.
use Rattle.std.proofs.Common.{ℕ, zero, suc, ◌+◌, ◌%◌, ◌==◌, ◌&&◌, nat_lt, List, [], ◌∷◌, ◌++◌, flat_map, length, refl, Bool, true, false, cond, codes, Option, Some, None}
use Rattle.std.specs.List.{AllByRecursion}
use Rattle.vcp_outside.specs.Drawing.{each_below}
use Rattle.vcp_outside.specs.Elements.{Element}
use Rattle.vcp_outside.specs.WellFormed.{HasEachOnce}
use Rattle.pictures.specs.declared.waves.layout.Layout.{Layout}
use Rattle.pictures.specs.declared.waves.stretches.Stretch.{Stretch}
use Rattle.pictures.specs.declared.waves.times.Period.{Period}
use Rattle.pictures.specs.RunOf.{Recorded}
use Rattle.pictures.specs.WavesDrawn.{is_level, lanes}
use Rattle.pictures.specs.WavesElements.{start_of, holds, level_element, number_element, ramp_element, edge_element, edge_elements, first_element, last_element, label_elements, stretch_elements, name_element, names_elements, base_element, base_elements, bases_elements, begin_element, cycle_element, time_elements, mark_elements, page_elements, cycle_elements, cycles_elements, ending_elements, waves_elements}

abbrev All : List Element → Type 0
All es = AllByRecursion HasEachOnce es

all_both : (xs ys : List Element) → All xs → All ys → All (xs ++ ys)
all_both [] ys h k = k
all_both (x ∷ xs) ys h k = (h.0, all_both xs ys h.1 k)

all_flat : {X : Type 0} (f : X → List Element) → ((x : X) → All (f x)) → (xs : List X) → All (flat_map f xs)
all_flat f each [] = tt
all_flat f each (x ∷ xs) = all_both (f x) (flat_map f xs) (each x) (all_flat f each xs)

all_below : (f : ℕ → List Element) → ((n : ℕ) → All (f n)) → (n : ℕ) → All (each_below f n)
all_below f each zero = tt
all_below f each (suc n) = all_both (each_below f n) (f n) (all_below f each n) (each n)

of_value : (l : Layout) (s : Stretch) (a b : Bool) → HasEachOnce (cond a (level_element l s) (cond b (number_element l s) (ramp_element l s)))
of_value l s true b = refl
of_value l s false true = refl
of_value l s false false = refl

if_so : (b : Bool) (es : List Element) → All es → All (cond b es [])
if_so true es h = h
if_so false es h = tt

of_labels : (l : Layout) (s : Stretch) (a b : Bool) → All (cond a [] (first_element l s ∷ cond b [] (last_element l s ∷ [])))
of_labels l s true b = tt
of_labels l s false true = (refl, tt)
of_labels l s false false = (refl, (refl, tt))

of_stretch : (l : Layout) (s : Stretch) → All (stretch_elements l s)
of_stretch l s = (
  of_value l s s.is_level (holds s),
  all_both (edge_elements l s) (label_elements l s) (if_so (nat_lt 0 s.start) (edge_element l s ∷ []) (refl, tt)) (of_labels l s s.is_level (holds s)),
)

of_names : (run : Recorded) (class : List ℕ) (x y columns : ℕ) → All (names_elements run class x y columns)
of_names run class x y columns = all_below (λ column. name_element run class x y column ∷ []) (λ column. (refl, tt)) columns

of_time : (l : Layout) (columns : ℕ) (period : Option Period) (cycle : ℕ) → All (time_elements l columns period cycle)
of_time l columns None cycle = tt
of_time l columns (Some period) cycle = (refl, tt)

of_cycle : (l : Layout) (run : Recorded) (period : Option Period) (cycle : ℕ) → All (cycle_elements l run period cycle)
of_cycle l run period cycle =
    all_both (mark_elements l (length run.names) period cycle) (page_elements l run cycle)
    (if_so (cycle % l.every == 0)
    (begin_element l (length run.names) cycle ∷ cycle_element l (length run.names) cycle ∷ time_elements l (length run.names) period cycle)
    (refl, (refl, of_time l (length run.names) period cycle)))
    (if_so (nat_lt 0 cycle && cycle % l.page == 0) (names_elements run (codes "again") (start_of l cycle + 4) 4 (length run.names))
    (of_names run (codes "again") (start_of l cycle + 4) 4 (length run.names)))

of_base : (l : Layout) (run : Recorded) (column : ℕ) → All (base_elements l run column)
of_base l run column = if_so (is_level run column) (base_element l (length run.rows) column ∷ []) (refl, tt)

pub each_once : (l : Layout) (run : Recorded) (period : Option Period) → All (waves_elements l run period)
each_once l run period =
    let columns = length run.names in
    let cycles = length run.rows in
    let ends : All (ending_elements l columns cycles run.ending) = (refl, (refl, tt)) in
    let values : All (flat_map (stretch_elements l) (lanes run)) = all_flat (stretch_elements l) (of_stretch l) (lanes run) in
    let bases : All (bases_elements l run columns) = all_below (base_elements l run) (of_base l run) columns in
    let names : All (names_elements run (codes "name") 8 23 columns) = of_names run (codes "name") 8 23 columns in
    let drawn : All (cycles_elements l run period cycles) = all_below (cycle_elements l run period) (of_cycle l run period) cycles in
    (refl, all_both _ _ drawn (all_both _ _ names (all_both _ _ bases (all_both _ _ values ends))))
