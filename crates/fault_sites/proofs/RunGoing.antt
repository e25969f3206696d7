-- RunGoing: the sites that a run decides, cycle by cycle.
use Rattle.std.proofs.Common.{◌≡◌, ℕ, ℤ, zero, suc, ◌+◌, ◌-◌, ◌<◌, ◌≤◌, List, [], ◌∷◌, ◌++◌, length, drop, slice_get, Option, Some, None, All, refl, sym, ap, ◌∙◌, append_assoc, arith}
use Rattle.std.proofs.lemmas.List.{append-nil}
use Rattle.std.proofs.lemmas.List.Elements.{All-head, All-tail}
use Rattle.vcp_base.specs.declared.kind.StopKind.{StopKind}
use Rattle.vcp_outside.specs.Pens.{Penned}
use Rattle.op_graph.specs.Lists.{Lists}
use Rattle.op_graph.specs.GraphRun.{Cycle, cycle}
use Rattle.signature_table.specs.Signatures.{Numbers}
use Rattle.fault_sites.specs.declared.part.Part.{Part}
use Rattle.fault_sites.specs.declared.run_class.RunClass.{RunClass}
use Rattle.fault_sites.specs.declared.site.Site.{Site}
use Rattle.fault_sites.specs.Run.{Moment, after, begun}
use Rattle.fault_sites.specs.RunSites.{cycle_of, in_cycle, run_sites, run_sites_from, unless_stopped}
use Rattle.fault_sites.specs.Telling.{Tells}
use Rattle.fault_sites.proofs.Going.{passed_over, tells_none, tells_both, tells_over, tells_same}
use Rattle.fault_sites.proofs.Lists.{drop_there, drop_behind}

pub width_there : (rows : List (List ℤ)) (w n : ℕ) (row : List ℤ) → All (λ r. length r ≡ w) rows → slice_get rows n ≡ Some row → length row ≡ w
width_there [] w n row all there = absurd cc
width_there (r ∷ rows) w zero row all there = let same : r ≡ row = cc in rw (← same) (All-head (λ r. length r ≡ w) r rows all)
width_there (r ∷ rows) w (suc n) row all there = width_there rows w n row (All-tail (λ r. length r ≡ w) r rows all) there

-- the sites that are left from cycle n on, at this moment
abbrev pub left_at : RunClass → Numbers → Moment → ℕ → List (List ℤ) → List Site
left_at class t now n rows = run_sites_from class t now n (drop n rows)

-- those of the cycle of a row
abbrev pub of_row : RunClass → Numbers → Moment → ℕ → List ℤ → List Site
of_row class t now n row = in_cycle class (cycle_of t n now (cycle now.graph now.cells row).values)

-- in a cycle of which these are parts
pub same_cycle : (class : RunClass) (t : Numbers) (n : ℕ) (now : Moment) (g : Lists) (cells past values are : List ℤ) → g ≡ now.graph → cells ≡ now.cells
    → past ≡ now.values → values ≡ are
    → in_cycle class (cycle_of t n now are) ≡ in_cycle class (record { graph = g; table = t; cycle = n; cells = cells; past = past; values = values })
same_cycle class t n now g cells past values are e f h k = rw (e, f, h, k) refl

-- of what the run was before
pub row_is : (class : RunClass) (t : Numbers) (n : ℕ) (past now next : Moment) (row : List ℤ) → past ≡ now → next ≡ after now (cycle now.graph now.cells row)
    → of_row class t now n row ≡ in_cycle class (cycle_of t n past next.values)
row_is class t n past now next row same is = rw (same, is) refl

-- so many sites that all stand before the part
pub passed_by : {l : Penned} {p : Part} (xs : List Site) (n : ℕ) → n ≡ length xs → 0 < p.left → n ≤ p.skip
    → Tells l l p (record { skip = p.skip - n; left = p.left }) xs
passed_by xs n is going some = passed_over xs going (omega (arith, is, some)) (omega (arith, is)) refl

-- those of a cycle without a stop, and the rest
pub left_on : (class : RunClass) (t : Numbers) (now : Moment) (n : ℕ) (rows : List (List ℤ)) (row : List ℤ) → slice_get rows n ≡ Some row
    → (cycle now.graph now.cells row).stop ≡ None
    → left_at class t now n rows ≡ of_row class t now n row ++ left_at class t (after now (cycle now.graph now.cells row)) (n + 1) rows
left_on class t now n rows row there on =
    let c : Cycle = cycle now.graph now.cells row in
    let rest : Moment → List Site = λ next. run_sites_from class t next (n + 1) (drop (n + 1) rows) in
    ap (λ (rs : List (List ℤ)). run_sites_from class t now n rs) (drop_there rows n row there)
    ∙ ap (λ (s : Option StopKind). unless_stopped (of_row class t now n row) rest now c s) on

-- none from a stop on
pub left_none : (class : RunClass) (t : Numbers) (now : Moment) (n : ℕ) (rows : List (List ℤ)) (row : List ℤ) (why : StopKind) → slice_get rows n ≡ Some row
    → (cycle now.graph now.cells row).stop ≡ Some why → left_at class t now n rows ≡ []
left_none class t now n rows row why there stops =
    let c : Cycle = cycle now.graph now.cells row in
    let rest : Moment → List Site = λ next. run_sites_from class t next (n + 1) (drop (n + 1) rows) in
    ap (λ (rs : List (List ℤ)). run_sites_from class t now n rs) (drop_there rows n row there)
    ∙ ap (λ (s : Option StopKind). unless_stopped (of_row class t now n row) rest now c s) stops

-- and none behind the rows
pub left_end : (class : RunClass) (t : Numbers) (now : Moment) (n : ℕ) (rows : List (List ℤ)) → length rows ≤ n → left_at class t now n rows ≡ []
left_end class t now n rows few = ap (λ (rs : List (List ℤ)). run_sites_from class t now n rs) (drop_behind rows n few)

-- ---- writing

-- so far: some sites were told, and these are left
pub record SoFar (l m : Penned) (p q : Part) (class : RunClass) (t : Numbers) (g : Lists) (rows : List (List ℤ)) (n : ℕ) (now : Moment) : Type 0
  where
    pub done : List Site
    pub tells : Tells l m p q done
    pub graph : now.graph ≡ g
    pub whole : run_sites class t g rows ≡ done ++ left_at class t now n rows

pub so_far_none : {l : Penned} {p : Part} (class : RunClass) (t : Numbers) (g : Lists) (rows : List (List ℤ)) (now : Moment) → now ≡ begun g
    → SoFar l l p p class t g rows 0 now
so_far_none class t g rows now is = rw is record { done = []; tells = tells_none; graph = refl; whole = refl }

pub so_far_more : {l m o : Penned} {p q r : Part} (class : RunClass) (t : Numbers) (g : Lists) (rows : List (List ℤ)) (n : ℕ)
    (now next : Moment) (row : List ℤ)
    → SoFar l m p q class t g rows n now → slice_get rows n ≡ Some row → (cycle now.graph now.cells row).stop ≡ None
    → next ≡ after now (cycle now.graph now.cells row) → Tells m o q r (of_row class t now n row) → SoFar l o p r class t g rows (n + 1) next
so_far_more class t g rows n now next row so there on is tells =
    let these : List Site = of_row class t now n row in
    rw is record {
      done = so.done ++ these;
      tells = tells_both so.tells tells;
      graph = so.graph;
      whole = so.whole ∙ (ap (λ (xs : List Site). so.done ++ xs) (left_on class t now n rows row there on)
          ∙ sym (append_assoc so.done these (left_at class t (after now (cycle now.graph now.cells row)) (n + 1) rows)));
    }

-- nothing is left
pub so_far_all : {l m : Penned} {p q : Part} (class : RunClass) (t : Numbers) (g : Lists) (rows : List (List ℤ)) (n : ℕ) (now : Moment)
    → SoFar l m p q class t g rows n now → left_at class t now n rows ≡ [] → Tells l m p q (run_sites class t g rows)
so_far_all class t g rows n now so none =
    tells_same so.tells (so.whole ∙ (ap (λ (xs : List Site). so.done ++ xs) none ∙ append-nil so.done))

-- the part is over
pub so_far_over : {l m : Penned} {p q : Part} (class : RunClass) (t : Numbers) (g : Lists) (rows : List (List ℤ)) (n : ℕ) (now : Moment)
    → SoFar l m p q class t g rows n now → q.left ≡ 0 → Tells l m p q (run_sites class t g rows)
so_far_over class t g rows n now so over = tells_same (tells_both so.tells (tells_over (left_at class t now n rows) over)) so.whole
