-- Constants: which operations have no box of their own.
use Rattle.std.specs.Prelude.{Bool, true, false, Option, Some, None}
use Rattle.vcp_base.specs.declared.kind.Kind.{Kind}
use Rattle.vcp_base.specs.declared.kind.Kind.TheVariants as kind
use Rattle.op_graph.specs.declared.op.Op.{Op}

-- operations of this kind are constants
abbrev pub is_constant : Kind → Bool
is_constant kind.Const = true
is_constant _ = false

-- there is an operation, and it is a constant
abbrev pub is_constant_there : Option Op → Bool
is_constant_there None = false
is_constant_there (Some op) = is_constant op.kind
