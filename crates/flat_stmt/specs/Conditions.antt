-- Conditions: what the operations of conditions give. None of them can stop.
use Rattle.std.specs.Prelude.{ℕ, ℤ, pos, Bool, not, ◌&&◌, ◌||◌, cond, List, Option, Some, Ok}
use Rattle.std.specs.List.{list_any}
use Rattle.vcp_base.specs.Kinds.{same, truth}
use Rattle.vcp_base.specs.Values.{at}
use Rattle.vcp_typed.specs.declared.stmt.TLabel.{TLabel}
use Rattle.vcp_typed.specs.Meaning.{is_labelled}
use Rattle.flat_expr.specs.State.{active, Meant}

-- a value that the earlier operations' values tell
abbrev pub total : (List ℤ → ℤ) → Meant
total v = λ now vs. Ok (Some (v vs))

-- the BOOL operation k is 1
abbrev pub holds : ℕ → List ℤ → Bool
holds k vs = not (same (at vs k) (pos 0))

-- the outer condition, where there is one, and operation k
abbrev pub joins : Option ℕ → ℕ → Meant
joins outer k = total (λ vs. truth (active outer vs && holds k vs))

-- not operation k
abbrev pub denies : ℕ → Meant
denies k = total (λ vs. truth (not (holds k vs)))

-- operation k has the label
abbrev pub labelled : ℕ → TLabel → Meant
labelled k l = total (λ vs. truth (is_labelled (at vs k) l))

-- operation j, or that operation k has the label
abbrev pub or_labelled : ℕ → ℕ → TLabel → Meant
or_labelled j k l = total (λ vs. truth (holds j vs || is_labelled (at vs k) l))

-- operation k has one of the labels
abbrev pub any_labelled : ℕ → List TLabel → Meant
any_labelled k ls = total (λ vs. truth (list_any (is_labelled (at vs k)) ls))

-- how many operations a label adds that isn't joined to others
abbrev pub alone_size : TLabel → ℕ
alone_size l = cond l.range 6 2
