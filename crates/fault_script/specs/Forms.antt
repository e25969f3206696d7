-- Forms: what the words of a line say.
use Rattle.std.specs.Prelude.{ℕ, ◌^◌, cond, nat_lt, List, [], ◌∷◌, Option, Some, None, option_map, option_and_then, ℤ, codes, bytes_eq}
use Rattle.vcp_base.specs.Limits.{most_cycles}
use Rattle.vcp_base.specs.declared.kind.Kind.{Kind}
use Rattle.vcp_base.specs.Spellings.{kinds, kind_name}
use Rattle.vcp_base.specs.Numerals.{numeral_of, integer_of}
use Rattle.vcp_base.specs.Words.{is_end, only}
pub use Rattle.vcp_base.specs.Integers.{is_addend}
use Rattle.fault_script.specs.declared.act.Act.{Act}
use Rattle.fault_script.specs.declared.act.Act.TheVariants as act
use Rattle.fault_script.specs.declared.forms.Change.{Change}
use Rattle.fault_script.specs.declared.forms.Mark.{Mark}
use Rattle.fault_script.specs.declared.forms.Mark.TheVariants as mark

-- ---- single words

-- the number that one to ten digits write, where it is below the bound
abbrev pub number_below : ℕ → List ℕ → Option ℕ
number_below bound w = option_and_then (λ n. cond (nat_lt n bound) (Some n) None) (numeral_of w)

-- the number of a cycle
abbrev pub cycle_of : List ℕ → Option ℕ
cycle_of w = number_below most_cycles w

-- the number of an operation, an operand or a register
abbrev pub index_of : List ℕ → Option ℕ
index_of w = number_below (2 ^ 32) w

-- the number that is added: an optional sign and digits, at most 2^62 in size
abbrev pub addend_of : List ℕ → Option ℤ
addend_of w = option_and_then (λ e. cond (is_addend e) (Some e) None) (integer_of w)

-- the first of these kinds with the name
abbrev pub first_named : List ℕ → List Kind → Option Kind
first_named w [] = None
first_named w (k ∷ more) = cond (bytes_eq w (kind_name k)) (Some k) (first_named w more)

-- the kind with the name, which is in capitals
abbrev pub kind_of : List ℕ → Option Kind
kind_of w = first_named w kinds

-- ---- the acts

-- what is done to operand j: `add e`, `from r` or `stale`
abbrev pub operand_change : ℕ → List ℕ → List (List ℕ) → Option Act
operand_change j how more =
    cond (bytes_eq how (codes "add")) (option_map (λ e. act.OperandAdd j e) (option_and_then addend_of (only more)))
    (cond (bytes_eq how (codes "from")) (option_map (λ r. act.OperandFrom j r) (option_and_then index_of (only more)))
    (cond (bytes_eq how (codes "stale")) (cond (is_end more) (Some (act.OperandStale j)) None)
    None))

-- the words behind `operand n k`: j, and what is done to operand j
abbrev pub operand_act : List (List ℕ) → Option Act
operand_act (j ∷ how ∷ more) = option_and_then (λ j. operand_change j how more) (index_of j)
operand_act _ = None

-- the words behind `result n k`: `add e`
abbrev pub result_act : List (List ℕ) → Option Act
result_act [] = None
result_act (how ∷ more) =
    cond (bytes_eq how (codes "add")) (option_map (λ e. act.ResultAdd e) (option_and_then addend_of (only more))) None

-- the words behind `operator n k`: KIND
abbrev pub operator_act : List (List ℕ) → Option Act
operator_act more = option_map (λ k. act.Operator k) (option_and_then kind_of (only more))

-- no words behind `skip n k`
abbrev pub skip_act : List (List ℕ) → Option Act
skip_act more = cond (is_end more) (Some act.Skip) None

-- the act of a line, from its first word and those behind n and k
abbrev pub act_of : List ℕ → List (List ℕ) → Option Act
act_of verb more =
    cond (bytes_eq verb (codes "operand")) (operand_act more)
    (cond (bytes_eq verb (codes "result")) (result_act more)
    (cond (bytes_eq verb (codes "operator")) (operator_act more)
    (cond (bytes_eq verb (codes "skip")) (skip_act more)
    None)))

-- what the words of a line say, if they say anything
abbrev pub change_of : List (List ℕ) → Option Change
change_of (verb ∷ n ∷ k ∷ more) =
    option_and_then
    (λ n. option_and_then (λ k. option_map (λ a. record { cycle = n; op = k; act = a }) (act_of verb more)) (index_of k))
    (cycle_of n)
change_of _ = None

-- ---- the lines that enclose a group

-- what a line is that has this one word
abbrev pub mark_named : List ℕ → Mark
mark_named w = cond (bytes_eq w (codes "begin")) mark.Begin (cond (bytes_eq w (codes "end")) mark.End mark.Fault)

abbrev pub mark_alone : Option (List ℕ) → Mark
mark_alone None = mark.Fault
mark_alone (Some w) = mark_named w

-- what a line with these words is: `begin` or `end`, each alone, or else a fault line
abbrev pub mark_of : List (List ℕ) → Mark
mark_of ws = mark_alone (only ws)
