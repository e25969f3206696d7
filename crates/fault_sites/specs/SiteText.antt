-- SiteText: a script of sites: a remark, and a line each. Each line ends with LF.
use Rattle.std.specs.Prelude.{ℕ, ◌+◌, List, [], ◌∷◌, ◌++◌, cond, bytes_eq, Option, Some, None, decimal, codes}
use Rattle.std.specs.Fmt.{signed_decimal}
use Rattle.vcp_base.specs.Spellings.{kind_name}
use Rattle.op_graph.specs.Lists.{Lists}
use Rattle.fault_script.specs.declared.act.Act.{Act}
use Rattle.fault_script.specs.declared.act.Act.TheVariants as act
use Rattle.fault_script.specs.declared.act.Fault.{Fault}
use Rattle.fault_sites.specs.declared.class.Class.{Class}
use Rattle.fault_sites.specs.declared.class.Class.TheVariants as class
use Rattle.fault_sites.specs.declared.class.Classes.{Classes}
use Rattle.fault_sites.specs.declared.class.Classes.TheVariants as classes
use Rattle.fault_sites.specs.declared.part.Part.{Part}
use Rattle.fault_sites.specs.declared.site.Site.{Site}
use Rattle.fault_sites.specs.Part.{kept}
use Rattle.fault_sites.specs.Sites.{as_fault, sites}

-- the word that names a class
abbrev pub class_name : Class → List ℕ
class_name class.Bits = codes "bits"
class_name class.Stale = codes "stale"
class_name class.Skip = codes "skip"
class_name class.From = codes "from"
class_name class.Operator = codes "operator"

abbrev pub classes_name : Classes → List ℕ
classes_name (classes.One c) = class_name c
classes_name classes.All = codes "all"

-- the classes that a word names
abbrev pub classes_of : List ℕ → Option Classes
classes_of w =
    cond (bytes_eq w (codes "bits")) (Some (classes.One class.Bits))
    (cond (bytes_eq w (codes "stale")) (Some (classes.One class.Stale))
    (cond (bytes_eq w (codes "skip")) (Some (classes.One class.Skip))
    (cond (bytes_eq w (codes "from")) (Some (classes.One class.From))
    (cond (bytes_eq w (codes "operator")) (Some (classes.One class.Operator))
    (cond (bytes_eq w (codes "all")) (Some classes.All)
    None)))))

-- the first word of a line
abbrev pub verb : Act → List ℕ
verb (act.OperandAdd j e) = codes "operand "
verb (act.OperandFrom j r) = codes "operand "
verb (act.OperandStale j) = codes "operand "
verb (act.ResultAdd e) = codes "result "
verb (act.Operator other) = codes "operator "
verb act.Skip = codes "skip "

-- what stands behind the cycle and the operation
abbrev pub rest : Act → List ℕ
rest (act.OperandAdd j e) = codes " " ++ (decimal j ++ (codes " add " ++ signed_decimal e))
rest (act.OperandFrom j r) = codes " " ++ (decimal j ++ (codes " from " ++ decimal r))
rest (act.OperandStale j) = codes " " ++ (decimal j ++ codes " stale")
rest (act.ResultAdd e) = codes " add " ++ signed_decimal e
rest (act.Operator other) = codes " " ++ kind_name other
rest act.Skip = []

-- the line of a site, without its LF and with it
abbrev pub site_line : Site → List ℕ
site_line s = verb s.act ++ (decimal s.cycle ++ (codes " " ++ (decimal s.op ++ rest s.act)))

abbrev pub site_text : Site → List ℕ
site_text s = site_line s ++ codes "\n"

abbrev pub site_lines : List Site → List ℕ
site_lines [] = []
site_lines (s ∷ more) = site_text s ++ site_lines more

-- the remark that names the class and the image, by the digits of its digest
abbrev pub named_remark : List ℕ → List ℕ → List ℕ
named_remark name digest = codes "# sites " ++ (name ++ (codes " of " ++ (digest ++ codes "\n")))

abbrev pub remark : Classes → List ℕ → List ℕ
remark c digest = named_remark (classes_name c) digest

-- the script of a part of the sites
abbrev pub sites_text : Classes → List ℕ → Lists → ℕ → Part → List ℕ
sites_text c digest g cycles p = remark c digest ++ site_lines (kept p (sites c g cycles))

-- what such a script says: a group for each site, whose fault has the number of its line
abbrev pub said_from : ℕ → List Site → List (List Fault)
said_from line [] = []
said_from line (s ∷ more) = (as_fault line s ∷ []) ∷ said_from (line + 1) more
