-- Typing: the faults of a program, the checked program of one without a fault, and its limits.
use Rattle.std.specs.Prelude.{◌≡◌, ◌⊎◌, ◌<◌, ◌≤◌, [], length, slice_get, Option, Some, option_map}
use Rattle.vcp_base.specs.declared.spot.Spot.{Spot}
use Rattle.vcp_base.specs.Limits.{most_names, most_size}
use Rattle.st_tree.specs.ProgramTree.{DeclaredTree, ProgramTree}
use Rattle.st_tree.specs.Declarable.{names_of}
use Rattle.vcp_typed.specs.SourceRun.{Program}
use Rattle.vcp_typed.specs.Size.{size}
use Rattle.st_types.specs.declared.fault.Fault.{Fault}
use Rattle.st_types.specs.declared.fault.Rule.TheVariants as rule
use Rattle.st_types.specs.declared.fault.TypeFault.{TypeFault}
use Rattle.st_types.specs.declared.fault.TypeFault.TheVariants as told
use Rattle.st_types.specs.Faults.{fault, IsLeast}
use Rattle.st_types.specs.StmtTyping.{StmtsFault, stmts_of}
use Rattle.st_types.specs.DeclTyping.{Made, nothing_made, after_blocks, BlocksFault}

-- what the declarations of a program make
abbrev pub made : ProgramTree → Made
made p = after_blocks nothing_made p.blocks

-- f is a fault of the program
abbrev pub FaultAt : ProgramTree → Fault → Type 0
FaultAt p f = BlocksFault (made p).entries nothing_made p.blocks f ⊎ StmtsFault (made p).entries [] p.body f

-- the checked program; none where the body has a fault
abbrev pub typed_of : ProgramTree → Option Program
typed_of p = option_map (λ body. record { slots = (made p).slots; body = body }) (stmts_of (made p).entries [] p.body)

-- the program has no fault
abbrev pub IsFaultless : ProgramTree → Type 0
IsFaultless p = (f : Fault) → FaultAt p f → ⊥

-- The checked program of a tree: it has no fault, no more names than the limit, and no greater Size.
pub record IsTyped (p : ProgramTree) (t : Program) : Type 0 where
  pub faultless : IsFaultless p
  pub few : length (names_of p) ≤ most_names
  pub is : typed_of p ≡ Some t
  pub room : size t ≤ most_size

-- the name after the last that is allowed
abbrev pub IsPast : ProgramTree → Spot → Type 0
IsPast p spot = (d : DeclaredTree) × (slice_get (names_of p) most_names ≡ Some d) × (spot ≡ d.spot)

-- too large, where there is neither a fault nor a name too many
pub record IsTooLarge (p : ProgramTree) : Type 0 where
  pub faultless : IsFaultless p
  pub few : length (names_of p) ≤ most_names
  pub typed : Program
  pub is : typed_of p ≡ Some typed
  pub large : most_size < size typed

-- why the tree is refused; of want of memory nothing is said
abbrev pub Refuses : ProgramTree → TypeFault → Type 0
Refuses p (told.Duplicate spot) = IsLeast (FaultAt p) (fault rule.Duplicate spot)
Refuses p (told.Unknown spot) = IsLeast (FaultAt p) (fault rule.Unknown spot)
Refuses p (told.Mismatch spot) = IsLeast (FaultAt p) (fault rule.Mismatch spot)
Refuses p (told.Assign spot) = IsLeast (FaultAt p) (fault rule.Assign spot)
Refuses p (told.Bound spot) = IsLeast (FaultAt p) (fault rule.Bound spot)
Refuses p (told.Label spot) = IsLeast (FaultAt p) (fault rule.Label spot)
Refuses p (told.Call spot) = IsLeast (FaultAt p) (fault rule.Call spot)
Refuses p (told.Literal spot) = IsLeast (FaultAt p) (fault rule.Literal spot)
Refuses p (told.Names spot) = IsFaultless p × IsPast p spot
Refuses p told.Size = IsTooLarge p
Refuses p told.Memory = Unit {0}
