-- NamedOperations: which operation a name names.
use Rattle.std.specs.Prelude.{ℕ, zero, suc, ◌==◌, Bool, true, false, not, cond, ◌&&◌, ◌||◌, List, [], ◌∷◌, ◌++◌, length, slice_get, Option, Some, None, Result, Ok, Err}
use Rattle.vcp_base.specs.declared.spot.Spot.{Spot}
use Rattle.vcp_base.specs.declared.kind.Kind.{Kind}
use Rattle.vcp_base.specs.Names.{is_same_name}
use Rattle.vcp_base.specs.Spellings.{kind_code}
use Rattle.op_graph.specs.declared.op.Op.{Op}
use Rattle.op_graph.specs.Lists.{Lists}
use Rattle.op_graph.specs.Rules.{is_load}
use Rattle.run_report.specs.Variables.{variable_of}
use Rattle.fault_sites.specs.declared.named.refused.Why.{Why}
use Rattle.fault_sites.specs.declared.named.refused.Why.TheVariants as reason
use Rattle.fault_sites.specs.NamedWords.{spot_of}

-- ---- what a name means

-- the operation is of this kind, where one is said
abbrev pub is_kind : Option Kind → Kind → Bool
is_kind None other = true
is_kind (Some k) other = kind_code k == kind_code other

-- the kind is said, or the operation is no LOAD: a variable alone is its INPUT, STORE or OUT
abbrev pub may_be_alone : Option Kind → Kind → Bool
may_be_alone None other = not (is_load other)
may_be_alone (Some k) other = true

-- the operation is that of the variable
abbrev pub is_variable : Lists → Option Kind → List ℕ → Op → Bool
is_variable g k w op = may_be_alone k op.kind && is_same_name w (variable_of g op)

-- the operation stands for this place
abbrev pub is_at : Option Spot → Spot → Bool
is_at None other = false
is_at (Some s) other = s.line == other.line && s.col == other.col

-- the operation has the name
abbrev pub is_named : Lists → Option Kind → List ℕ → Op → Bool
is_named g k w op = is_kind k op.kind && (is_variable g k w op || is_at (spot_of w) op.spot)

abbrev pub is_named_there : Lists → Option Kind → List ℕ → Option Op → Bool
is_named_there g k w None = false
is_named_there g k w (Some op) = is_named g k w op

-- one number, where it is so
abbrev pub number_if : Bool → ℕ → List ℕ
number_if b i = cond b (i ∷ []) []

-- the numbers of the operations below n that have the name
abbrev pub named_below : Lists → Option Kind → List ℕ → ℕ → List ℕ
named_below g k w zero = []
named_below g k w (suc i) = named_below g k w i ++ number_if (is_named_there g k w (slice_get g.operations i)) i

-- the one of them
abbrev pub the_one : List ℕ → Result ℕ Why
the_one [] = Err reason.Unknown
the_one (k ∷ []) = Ok k
the_one (k ∷ l ∷ more) = Err reason.Several

-- the same with number i behind them, where it is so
abbrev pub found_next : Result ℕ Why → ℕ → Bool → Result ℕ Why
found_next r i false = r
found_next (Err reason.Unknown) i true = Ok i
found_next r i true = Err reason.Several

-- the operation that has the name, of this kind where one is said
abbrev pub operation_named : Lists → Option Kind → List ℕ → Result ℕ Why
operation_named g k w = the_one (named_below g k w (length g.operations))
