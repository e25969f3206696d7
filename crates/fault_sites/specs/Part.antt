-- Part: a part of the sites, cut out by how many come before it and how many it has.
use Rattle.std.specs.Prelude.{◌-◌, ◌==◌, cond, List, length, take, drop}
use Rattle.fault_sites.specs.declared.part.Part.{Part}
use Rattle.fault_sites.specs.declared.site.Site.{Site}

-- the part of these sites
abbrev pub kept : Part → List Site → List Site
kept p xs = take p.left (drop p.skip xs)

-- what is to be passed over and to be kept behind these sites
abbrev pub after : Part → List Site → Part
after p xs = cond (p.left == 0) p (record { skip = p.skip - length xs; left = p.left - (length xs - p.skip) })
