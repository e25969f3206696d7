-- Steps: what is added before and after the statements of a body: a branch's condition and the path conditions, or a turn and its value.
use Rattle.std.specs.Prelude.{◌≡◌, ℕ, ℤ, Bool, true, false, List, Some, sum_by}
use Rattle.vcp_base.specs.declared.ty.Ty.TheVariants as ty
use Rattle.vcp_typed.specs.declared.stmt.TLabel.{TLabel}
use Rattle.vcp_typed.specs.Size.{label_size}
use Rattle.vcp_typed.specs.TExprTree.{TExprTree}
use Rattle.flat_expr.specs.State.{State, IsState, IsA, Makes, Flattens, Nests}
use Rattle.flat_stmt.specs.declared.branch.Entered.{Entered}
use Rattle.flat_stmt.specs.Branches.{Conditions, next_of}
use Rattle.flat_stmt.specs.Conditions.{joins, any_labelled}
use Rattle.flat_stmt.specs.Moves.{Moves, Does, setting}

-- a branch over operation r was entered: the new path condition joins the outer one and the branch's
pub record Enters (old new : State) (r : ℕ) (branch : Entered) : Type 0 where
  pub before : IsState old
  pub outer : branch.outer ≡ old.path
  pub condition : branch.condition ≡ r
  pub there : IsA ty.Bool old.graph.operations r
  pub joined : State
  pub path : ℕ
  pub makes : Makes old joined ty.Bool 1 (joins branch.outer r) path
  pub is : new ≡ record joined { path = Some path }

-- an arm of IF over a condition was entered
abbrev pub EntersArm : State → State → TExprTree → Entered → Type 0
EntersArm old new e branch = (mid : State) × (r : ℕ) × Flattens old mid e r × Enters mid new r branch

-- a branch of CASE over operation k was entered
abbrev pub EntersLabelled : State → State → ℕ → List TLabel → Entered → Type 0
EntersLabelled old new k labels branch =
    (mid : State) × (r : ℕ) × Makes old mid ty.Bool (sum_by label_size labels) (any_labelled k labels) r × Enters mid new r branch

-- a branch was left: the next one is reached where this one's condition is 0; after the last one the path condition is that of before
abbrev pub Exits : Bool → State → State → Entered → Type 0
Exits true old new branch = (x : ℤ) (o : Bool) → Moves old new (Conditions branch.condition x branch.outer o) 2 (next_of x o)
Exits false old new branch = new ≡ record old { path = branch.outer }

-- the slot gets the value; no turn node is added
pub record Sets (old new : State) (slot : ℕ) (v : ℤ) : Type 0 where
  pub does : Does old new 2 (setting slot v)
  pub nodes : new.graph.turn_nodes ≡ old.graph.turn_nodes

-- a turn of FOR was entered
pub record EntersTurn (old new : State) (slot : ℕ) (v : ℤ) : Type 0 where
  pub n : ℕ
  pub nested : State
  pub nests : Nests old nested (record { parent = old.turn; name = slot; value = v }) n
  pub sets : Sets (record nested { turn = n }) new slot v
