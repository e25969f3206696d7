-- Telling: what the calls that write a part of the sites do, one after another.
use Rattle.std.specs.Prelude.{◌≡◌, List, [], ◌∷◌, ◌++◌, codes, ℕ}
use Rattle.fault_sites.specs.declared.part.Part.{Part}
use Rattle.fault_sites.specs.declared.site.Site.{Site}
use Rattle.fault_sites.specs.Part.{kept, after}
use Rattle.fault_sites.specs.SiteText.{site_line}
use Rattle.vcp_outside.specs.Pens.{Penned, Goes}

-- the lines of these sites, each behind the LF of the line before it
abbrev pub fed_lines : List Site → List ℕ
fed_lines [] = []
fed_lines (s ∷ more) = codes "\n" ++ (site_line s ++ fed_lines more)

-- a call goes on with the lines of those of these sites that are in the part, and gives what is left of it
pub record Tells (old new : Penned) (part next : Part) (xs : List Site) : Type 0 where
  pub gathers : Goes old new (fed_lines (kept part xs))
  pub left : next ≡ after part xs
