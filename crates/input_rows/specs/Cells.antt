-- Cells: which text spells which value of a type.
use Rattle.std.specs.Prelude.{ℕ, ◌||◌, cond, List, reverse, Option, Some, None, option_and_then, ℤ, pos, codes}
use Rattle.vcp_base.specs.Blanks.{unindented}
use Rattle.vcp_base.specs.Numerals.{integer_of, in_type}
use Rattle.vcp_base.specs.declared.ty.Ty.{Ty}
use Rattle.vcp_base.specs.declared.ty.Ty.TheVariants as ty
use Rattle.vcp_base.specs.Names.{is_same_name}

-- a text without the blanks at both ends
abbrev pub trimmed : List ℕ → List ℕ
trimmed text = reverse (unindented (reverse (unindented text)))

-- 1 and TRUE are 1, 0 and FALSE are 0, in any case
abbrev pub truth_of : List ℕ → Option ℤ
truth_of text =
    cond (is_same_name text (codes "1") || is_same_name text (codes "true")) (Some (pos 1))
    (cond (is_same_name text (codes "0") || is_same_name text (codes "false")) (Some (pos 0)) None)

-- the value of the type that a text spells, if it spells one
abbrev pub spelled : Ty → List ℕ → Option ℤ
spelled ty.Bool text = truth_of text
spelled ty.Int text = option_and_then (in_type ty.Int) (integer_of text)
spelled ty.Dint text = option_and_then (in_type ty.Dint) (integer_of text)
spelled ty.Lint text = option_and_then (in_type ty.Lint) (integer_of text)

-- the value of the type that a cell spells, if it spells one: blanks at both ends do not count
abbrev pub value_of : Ty → List ℕ → Option ℤ
value_of t cell = spelled t (trimmed cell)
