-- Outcome: which verdict the words of a line may mean.
use Rattle.std.specs.Prelude.{ℕ, zero, suc, cond, List, [], ◌∷◌, length, bytes_eq, codes, Option, Some, None, option_map, option_and_then, ℤ, unsigned_abs}
use Rattle.vcp_base.specs.declared.ty.Ty.TheVariants as ty
use Rattle.vcp_base.specs.declared.kind.StopKind.{StopKind}
use Rattle.vcp_base.specs.declared.kind.StopKind.TheVariants as stop
use Rattle.vcp_base.specs.Numerals.{integer_of, in_type}
use Rattle.vcp_base.specs.Spellings.{stop_name}
use Rattle.op_graph.specs.Lists.{Lists}
use Rattle.run_report.specs.Variables.{output_name}
use Rattle.fault_script.specs.Forms.{number_below, cycle_of}
use Rattle.fault_injector.specs.declared.verdicts.Verdict.{Verdict}
use Rattle.fault_injector.specs.declared.verdicts.Verdict.TheVariants as verdict
use Rattle.verdict_tables.specs.declared.words.Numbers.{Numbers}
use Rattle.verdict_tables.specs.declared.words.Shown.{Shown}

-- the number of 64 bits that a word writes
abbrev pub value_of : List ℕ → Option ℤ
value_of w = option_and_then (in_type ty.Lint) (integer_of w)

-- both numbers of a verdict
abbrev pub numbers : ℤ → ℤ → Numbers
numbers first second = record { first = first; second = second }

-- two numbers, each behind another word
abbrev pub numbers_of : List (List ℕ) → Option Numbers
numbers_of (u ∷ a ∷ v ∷ b ∷ more) =
    option_and_then (λ first. option_map (numbers first) (value_of b)) (value_of a)
numbers_of _ = None

-- the output that was found, or output n where it has this name
abbrev pub named_then : Lists → List ℕ → ℕ → Option ℕ → Option ℕ
named_then g name n (Some found) = Some found
named_then g name n None = cond (bytes_eq name (output_name g n)) (Some n) None

-- the first output below output n with this name
abbrev pub named_below : Lists → List ℕ → ℕ → Option ℕ
named_below g name zero = None
named_below g name (suc n) = named_then g name n (named_below g name n)

abbrev pub output_named : Lists → List ℕ → Option ℕ
output_named g name = named_below g name (length g.outputs)

-- what shows in this cycle at this output, with these numbers
abbrev pub shown_with : ℕ → ℕ → Numbers → Shown
shown_with cycle output two = record { cycle = cycle; output = output; numbers = two }

-- the same of words: the cycle, the output's name, and the numbers
abbrev pub shown_of : Lists → List (List ℕ) → Option Shown
shown_of g (n ∷ name ∷ more) =
    option_and_then
    (λ cycle. option_and_then (λ output. option_map (shown_with cycle output) (numbers_of more)) (output_named g name))
    (cycle_of n)
shown_of g _ = None

-- an output is released with a wrong value, or refused by its residue
abbrev pub as_wrong : Shown → Verdict
as_wrong s = verdict.Wrong s.cycle s.output s.numbers.first s.numbers.second

abbrev pub as_refused : Shown → Verdict
as_refused s = verdict.Refused s.cycle s.output (unsigned_abs s.numbers.first) (unsigned_abs s.numbers.second)

-- the kind of a stop with this name
abbrev pub stop_of : List ℕ → Option StopKind
stop_of w =
    cond (bytes_eq w (stop_name stop.Range)) (Some stop.Range)
    (cond (bytes_eq w (stop_name stop.DivZero)) (Some stop.DivZero)
    (cond (bytes_eq w (stop_name stop.Operand)) (Some stop.Operand)
    None))

-- a stop of which words write the cycle, the operation and the kind; the place follows from these
abbrev pub stopped_by : Lists → List ℕ → List ℕ → List ℕ → Option Verdict
stopped_by g n k why =
    option_and_then
    (λ cycle. option_and_then (λ op. option_map (λ kind. verdict.Stopped cycle op kind) (stop_of why)) (number_below (length g.operations) k))
    (cycle_of n)

-- the words behind `stopped`
abbrev pub stopped_of : Lists → List (List ℕ) → Option Verdict
stopped_of g (n ∷ k ∷ why ∷ more) = stopped_by g n k why
stopped_of g _ = None

-- the word behind `ran-on`: the cycle
abbrev pub ran_on_of : List (List ℕ) → Option Verdict
ran_on_of [] = None
ran_on_of (n ∷ more) = option_map (λ cycle. verdict.RanOn cycle) (cycle_of n)

-- the verdict that words may mean, by the first of them
abbrev pub meant : Lists → List (List ℕ) → Option Verdict
meant g [] = None
meant g (w ∷ more) =
    cond (bytes_eq w (codes "same")) (Some verdict.Same)
    (cond (bytes_eq w (codes "wrong")) (option_map as_wrong (shown_of g more))
    (cond (bytes_eq w (codes "ran-on")) (ran_on_of more)
    (cond (bytes_eq w (codes "refused")) (option_map as_refused (shown_of g more))
    (cond (bytes_eq w (codes "stopped")) (stopped_of g more)
    None))))
