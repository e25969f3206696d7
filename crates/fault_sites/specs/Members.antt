-- Members: which sites a class has, said of each by itself.
use Rattle.std.specs.Prelude.{◌≡◌, ◌≢◌, ◌↔◌, ◌⊎◌, ℕ, ◌^◌, ◌<◌, ◌≤◌, true, slice_get, Some, ℤ, pos, neg_ℤ}
use Rattle.std.specs.List.{Contains}
use Rattle.op_graph.specs.declared.op.Op.{Op}
use Rattle.op_graph.specs.Lists.{Lists}
use Rattle.fault_script.specs.declared.act.Act.{Act}
use Rattle.fault_script.specs.declared.act.Act.TheVariants as act
use Rattle.fault_script.specs.Fits.{ActFits}
use Rattle.fault_sites.specs.declared.class.Class.{Class}
use Rattle.fault_sites.specs.declared.class.Class.TheVariants as class
use Rattle.fault_sites.specs.declared.site.Site.{Site}
use Rattle.fault_sites.specs.Sites.{may_replace, sites_of}

-- plus or minus a power of two, up to 2^61
abbrev pub IsPower : ℤ → Type 0
IsPower e = (m : ℕ) × (m ≤ 61) × ((e ≡ pos (2 ^ m)) ⊎ (e ≡ neg_ℤ (pos (2 ^ m))))

-- what is added is such a power
abbrev pub AddsPower : Act → Type 0
AddsPower (act.OperandAdd j e) = IsPower e
AddsPower (act.ResultAdd e) = IsPower e
AddsPower _ = ⊥

abbrev pub IsStale : Act → Type 0
IsStale (act.OperandStale j) = Unit {0}
IsStale _ = ⊥

abbrev pub IsSkip : Act → Type 0
IsSkip act.Skip = Unit {0}
IsSkip _ = ⊥

-- an operand is the word of an operation whose type fits, and which isn't the one that it reads
abbrev pub IsFrom : Lists → Op → Act → Type 0
IsFrom g op (act.OperandFrom j r) = (source : Op) × (slice_get g.operations r ≡ Some source) × (may_replace op j r source ≡ true)
IsFrom g op _ = ⊥

-- another kind
abbrev pub IsOther : Op → Act → Type 0
IsOther op (act.Operator other) = other ≢ op.kind
IsOther op _ = ⊥

-- the act is of the class, at this operation
abbrev pub OfClass : Class → Lists → Op → Act → Type 0
OfClass class.Bits g op a = AddsPower a
OfClass class.Stale g op a = IsStale a
OfClass class.Skip g op a = IsSkip a
OfClass class.From g op a = IsFrom g op a
OfClass class.Operator g op a = IsOther op a

-- a site is one of the class: it is in one of the first cycles, its operation is there, and its act may stand there and is of the class
pub record IsSite (c : Class) (g : Lists) (cycles : ℕ) (s : Site) : Type 0 where
  pub early : s.cycle < cycles
  pub op : Op
  pub there : slice_get g.operations s.op ≡ Some op
  pub fits : ActFits op.kind s.op s.cycle s.act
  pub of_class : OfClass c g op s.act

-- the sites of a class are these and no others
abbrev pub HasEach : Type 0
HasEach = (c : Class) (g : Lists) (cycles : ℕ) (s : Site) → Contains (sites_of c g cycles) s ↔ IsSite c g cycles s
