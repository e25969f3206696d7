-- NamedScript: the script of lines that name faults, and what it says.
use Rattle.std.specs.Prelude.{ℕ, zero, suc, ◌+◌, ◌-◌, Bool, cond, List, [], ◌∷◌, ◌++◌, length, Option, Some, None, Result, Ok, Err, codes}
use Rattle.op_graph.specs.Lists.{Lists}
use Rattle.vcp_base.specs.Lines.{Line}
use Rattle.vcp_base.specs.Words.{words}
use Rattle.fault_script.specs.declared.act.Act.{Act}
use Rattle.fault_script.specs.declared.act.Fault.{Fault}
use Rattle.fault_sites.specs.declared.site.Site.{Site}
use Rattle.fault_sites.specs.Sites.{site, as_fault}
use Rattle.fault_sites.specs.SiteText.{site_lines, said_from}
use Rattle.fault_sites.specs.declared.named.refused.Why.{Why}
use Rattle.fault_sites.specs.declared.named.when.Span.{Span}
use Rattle.fault_sites.specs.declared.named.meant.Meant.{Meant}
use Rattle.fault_sites.specs.NamedLines.{meant_of}

-- ---- what a line says

-- how many cycles there are
abbrev pub cycles_of : Span → ℕ
cycles_of s = s.last + 1 - s.first

-- an act at operation k in each of so many cycles from cycle n on
abbrev pub sites_from : ℕ → Act → ℕ → ℕ → List Site
sites_from k a n zero = []
sites_from k a n (suc count) = site n k a ∷ sites_from k a (n + 1) count

abbrev pub sites_over : ℕ → Span → Act → List Site
sites_over k s a = sites_from k a s.first (cycles_of s)

abbrev pub other_sites : ℕ → Span → Option Act → List Site
other_sites k s None = []
other_sites k s (Some a) = sites_over k s a

-- the faults that a line says, in the order of its acts and of its cycles
abbrev pub sites_meant : Meant → List Site
sites_meant m = sites_over m.op m.span m.acts.act ++ other_sites m.op m.span m.acts.other

-- each of these in a line, the first of which has this number
abbrev pub faults_from : ℕ → List Site → List Fault
faults_from line [] = []
faults_from line (s ∷ more) = as_fault line s ∷ faults_from (line + 1) more

-- The groups of a line, from the line of this number on: one group between `begin` and `end`, or a group for each fault.
abbrev pub groups_meant : ℕ → Meant → List (List Fault)
groups_meant line m = cond m.together (faults_from (line + 1) (sites_meant m) ∷ []) (said_from line (sites_meant m))

-- how many lines they have
abbrev pub lines_meant : Meant → ℕ
lines_meant m = cond m.together (length (sites_meant m) + 2) (length (sites_meant m))

-- ---- lines that mean something

pub record Entry : Type 0 where
  pub text : List ℕ
  pub meant : Meant

abbrev pub entry_of : List ℕ → Result Meant Why → List Entry
entry_of text (Err why) = []
entry_of text (Ok m) = record { text = text; meant = m } ∷ []

-- those of these lines that mean something
abbrev pub entries : Lists → List Line → List Entry
entries g [] = []
entries g (l ∷ more) = entry_of l.text (meant_of g (words l.text)) ++ entries g more

-- the groups of all, a remark before those of each
abbrev pub groups_from : ℕ → List Entry → List (List Fault)
groups_from line [] = []
groups_from line (e ∷ more) = groups_meant (line + 1) e.meant ++ groups_from (line + 1 + lines_meant e.meant) more

-- ---- the text

abbrev pub begin_text : Bool → List ℕ
begin_text together = cond together (codes "begin\n") []

abbrev pub end_text : Bool → List ℕ
end_text together = cond together (codes "end\n") []

abbrev pub meant_text : Meant → List ℕ
meant_text m = begin_text m.together ++ (site_lines (sites_meant m) ++ end_text m.together)

-- the line itself as a remark, and its faults
abbrev pub entry_text : Entry → List ℕ
entry_text e = codes "# " ++ (e.text ++ (codes "\n" ++ meant_text e.meant))

abbrev pub entry_texts : List Entry → List ℕ
entry_texts [] = []
entry_texts (e ∷ more) = entry_text e ++ entry_texts more

-- The script of lines: a remark with the digits of the image's digest, the lines, and a remark at the end.
abbrev pub script_text : List ℕ → List Entry → List ℕ
script_text digest es = codes "# sites named of " ++ (digest ++ (codes "\n" ++ (entry_texts es ++ codes "# end\n")))
