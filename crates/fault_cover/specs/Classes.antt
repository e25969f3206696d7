-- Classes: the faults of each class, in order: by operation, then operand or reading, then value.
use Rattle.std.specs.Prelude.{ℕ, ◌+◌, ◌-◌, cond, List, [], ◌∷◌, map, flat_map, length, slice_get, Option, Some, None}
use Rattle.vcp_base.specs.Kinds.{operands}
use Rattle.op_graph.specs.declared.op.Op.{Op}
use Rattle.op_graph.specs.Lists.{Lists}
use Rattle.op_graph.specs.Rules.{is_out}
use Rattle.fault_sites.specs.declared.class.Class.TheVariants as class
pub use Rattle.fault_sites.specs.Late.{may_be_late}
use Rattle.fault_sites.specs.Sites.{each_below, acts_of}
use Rattle.fault_cover.specs.declared.class.CoverClass.{CoverClass}
use Rattle.fault_cover.specs.declared.class.CoverClass.TheVariants as cover
use Rattle.fault_cover.specs.declared.class.CoverClasses.{CoverClasses}
use Rattle.fault_cover.specs.declared.class.CoverClasses.TheVariants as covers
use Rattle.fault_cover.specs.declared.disturbance.Disturbance.{Disturbance}
use Rattle.fault_cover.specs.declared.disturbance.Disturbance.TheVariants as disturbance
use Rattle.fault_cover.specs.Sources.{readings}

-- ---- add: a number that is no multiple of the constant is added to the result, and then to each operand

abbrev pub additions : Op → List Disturbance
additions op = disturbance.AddToResult ∷ each_below (λ j. disturbance.AddToOperand j ∷ []) (operands op.kind)

-- ---- rest: such a number is added to the word between two of its readings, two or more of which are left

-- of an operation that isn't OUT, behind the first reading, the second, and so on
abbrev pub rests : Lists → ℕ → Op → List Disturbance
rests g k op = cond (is_out op.kind) [] (each_below (λ i. disturbance.AddToRest (i + 1) ∷ []) (length (readings g k) - 2))

-- ---- late: an operand is the word that an operation answered in the cycle before

abbrev pub late_one : Lists → Op → ℕ → ℕ → Option Op → List Disturbance
late_one g op j r None = []
late_one g op j r (Some source) = cond (may_be_late g op j r source) (disturbance.Late j r ∷ []) []

-- operation k itself, or one behind it
abbrev pub lates_at : Lists → ℕ → Op → ℕ → List Disturbance
lates_at g k op j = each_below (λ i. late_one g op j (k + i) (slice_get g.operations (k + i))) (length g.operations - k)

abbrev pub lates : Lists → ℕ → Op → List Disturbance
lates g k op = each_below (λ j. lates_at g k op j) (operands op.kind)

-- ---- classes

-- the faults of a class at operation k; those of four classes are the acts that a script of sites has
abbrev pub disturbances : CoverClass → Lists → ℕ → Op → List Disturbance
disturbances cover.Add g k op = additions op
disturbances cover.Rest g k op = rests g k op
disturbances cover.Stale g k op = map disturbance.Does (acts_of class.Stale g k op)
disturbances cover.Skip g k op = map disturbance.Does (acts_of class.Skip g k op)
disturbances cover.From g k op = map disturbance.Does (acts_of class.From g k op)
disturbances cover.Late g k op = lates g k op
disturbances cover.Operator g k op = map disturbance.Does (acts_of class.Operator g k op)

-- a fault: an operation, and what is amiss there
pub record Single : Type 0 where
  pub op : ℕ
  pub does : Disturbance

abbrev pub fault_at : ℕ → Disturbance → Single
fault_at k d = record { op = k; does = d }

abbrev pub singles_at : CoverClass → Lists → ℕ → Option Op → List Single
singles_at c g k None = []
singles_at c g k (Some op) = map (fault_at k) (disturbances c g k op)

-- at operation k
abbrev pub singles_of : CoverClass → Lists → ℕ → List Single
singles_of c g k = singles_at c g k (slice_get g.operations k)

-- all faults of a class
abbrev pub singles : CoverClass → Lists → List Single
singles c g = each_below (λ k. singles_of c g k) (length g.operations)

-- the classes, in order
abbrev pub all_classes : List CoverClass
all_classes = cover.Add ∷ cover.Rest ∷ cover.Stale ∷ cover.Skip ∷ cover.From ∷ cover.Late ∷ cover.Operator ∷ []

abbrev pub classes_of : CoverClasses → List CoverClass
classes_of (covers.One c) = c ∷ []
classes_of covers.All = all_classes

-- all faults of these classes, class by class
abbrev pub of_classes : List CoverClass → Lists → List Single
of_classes classes g = flat_map (λ c. singles c g) classes

-- those of operation k
abbrev pub of_classes_at : List CoverClass → Lists → ℕ → List Single
of_classes_at classes g k = flat_map (λ c. singles_of c g k) classes
