-- RunSites: the sites of a class that the words of a run without faults decide: cycle by cycle, up to the first in which an operation stops.
use Rattle.std.specs.Prelude.{ℕ, ◌+◌, cond, bytes_eq, List, [], ◌∷◌, ◌++◌, Option, Some, None, ℤ, codes}
use Rattle.vcp_base.specs.declared.kind.StopKind.{StopKind}
use Rattle.op_graph.specs.Lists.{Lists}
use Rattle.op_graph.specs.GraphRun.{Cycle, cycle}
use Rattle.signature_table.specs.Signatures.{Numbers}
use Rattle.fault_sites.specs.declared.part.Part.{Part}
use Rattle.fault_sites.specs.declared.run_class.RunClass.{RunClass}
use Rattle.fault_sites.specs.declared.run_class.RunClass.TheVariants as class
use Rattle.fault_sites.specs.declared.site.Site.{Site}
use Rattle.fault_sites.specs.Flips.{flips_in}
use Rattle.fault_sites.specs.Late.{lates_in}
use Rattle.fault_sites.specs.Part.{kept}
use Rattle.fault_sites.specs.Run.{Moment, after, begun}
use Rattle.fault_sites.specs.RunCycle.{RunCycle}
use Rattle.fault_sites.specs.SiteText.{named_remark, site_lines}

-- the word that names a class
abbrev pub run_class_name : RunClass → List ℕ
run_class_name class.Flips = codes "flips"
run_class_name class.Late = codes "late"

-- the class that a word names
abbrev pub run_class_of : List ℕ → Option RunClass
run_class_of w = cond (bytes_eq w (codes "flips")) (Some class.Flips) (cond (bytes_eq w (codes "late")) (Some class.Late) None)

-- the sites of a class in a cycle
abbrev pub in_cycle : RunClass → RunCycle → List Site
in_cycle class.Flips c = flips_in c
in_cycle class.Late c = lates_in c

-- cycle n, before which the run was so far, with these values
abbrev pub cycle_of : Numbers → ℕ → Moment → List ℤ → RunCycle
cycle_of t n now values = record { graph = now.graph; table = t; cycle = n; cells = now.cells; past = now.values; values = values }

-- the sites of a cycle, and those behind it: none, where an operation stops in it
abbrev pub unless_stopped : List Site → (Moment → List Site) → Moment → Cycle → Option StopKind → List Site
unless_stopped these next now c None = these ++ next (after now c)
unless_stopped these next now c (Some why) = []

-- in the cycles of these rows, from cycle n on, before which the run was so far
abbrev pub run_sites_from : RunClass → Numbers → Moment → ℕ → List (List ℤ) → List Site
run_sites_from class t now n [] = []
run_sites_from class t now n (row ∷ rows) =
    unless_stopped (in_cycle class (cycle_of t n now (cycle now.graph now.cells row).values)) (λ next. run_sites_from class t next (n + 1) rows) now
    (cycle now.graph now.cells row) (cycle now.graph now.cells row).stop

-- in the run over these rows
abbrev pub run_sites : RunClass → Numbers → Lists → List (List ℤ) → List Site
run_sites class t g rows = run_sites_from class t (begun g) 0 rows

-- the script of a part of them
abbrev pub run_text : RunClass → List ℕ → Numbers → Lists → List (List ℤ) → Part → List ℕ
run_text class digest t g rows p = named_remark (run_class_name class) digest ++ site_lines (kept p (run_sites class t g rows))
