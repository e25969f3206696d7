-- Worked: texts of verdicts over the graph of `y := x + 1;`, and their tables, worked by hand.
use Rattle.std.specs.Prelude.{◌≡◌, refl, ℕ, List, [], ◌∷◌, ◌++◌, Result, Ok, Err, Some, None, pos, codes, true, false}
use Rattle.std.specs.Fmt.{digits}
use Rattle.vcp_base.specs.declared.code.Profile.TheVariants as profile
use Rattle.vcp_base.specs.declared.ty.Ty.TheVariants as ty
use Rattle.vcp_base.specs.declared.kind.Kind.TheVariants as kind
use Rattle.op_graph.specs.Lists.{Lists}
use Rattle.run_report.proofs.OperationRows.{adding}
use Rattle.fault_script.specs.declared.act.Act.{Act}
use Rattle.fault_script.specs.declared.act.Act.TheVariants as act
use Rattle.fault_script.specs.declared.act.Fault.{Fault}
use Rattle.fault_injector.specs.declared.verdicts.Verdict.{Verdict}
use Rattle.fault_injector.specs.declared.verdicts.Verdict.TheVariants as verdict
use Rattle.verdict_tables.specs.declared.fault.VerdictsFault.{VerdictsFault}
use Rattle.verdict_tables.specs.declared.fault.VerdictsFault.TheVariants as fault
use Rattle.verdict_tables.specs.declared.parts.Part.{Part}
use Rattle.verdict_tables.specs.declared.tables.Table.TheVariants as table
use Rattle.verdict_tables.specs.Reading.{verdicts_in}
use Rattle.verdict_tables.specs.Remark.{is_for}
use Rattle.verdict_tables.specs.declared.endless.ending.SameEnding.TheVariants as ends
use Rattle.verdict_tables.specs.SameEndings.{endings_text, standing_parts}
use Rattle.verdict_tables.specs.SumText.{column_text, heading_text, sum_text}

sum : Lists
sum = adding profile.Narrow ty.Dint

-- a fault on a line of its own, a group of one
alone : ℕ → Act → List Fault
alone line a = (record { line = line; cycle = 0; op = 2; act = a }) ∷ []

-- `operand 0 2 0 add 2147483647`, `operand 0 2 1 from 0` and `operator 0 2 SUB`
three : List (List Fault)
three = alone 1 (act.OperandAdd 0 (pos 2147483647)) ∷ alone 2 (act.OperandFrom 1 0) ∷ alone 3 (act.Operator kind.Sub) ∷ []

-- what these lines say, with these totals behind them
said : List ℕ → List ℕ → Result (List Verdict) VerdictsFault
said lines totals = verdicts_in sum three (lines ++ totals)

totals : List ℕ
totals = codes "faults 3 same 0 wrong 1 ran-on 0 refused 2 stopped 0\n"

-- as `inject` prints them
told : said (codes "1 wrong 0 y got 7 want 6\n2 refused 0 y found 429496731 expected 644245096\n3 refused 0 y found 214748366 expected 644245096\n") totals
    ≡ Ok (verdict.Wrong 0 0 (pos 7) (pos 6) ∷ verdict.Refused 0 0 429496731 644245096 ∷ verdict.Refused 0 0 214748366 644245096 ∷ [])
unfolding digits sum three alone said totals
told = refl

-- the lines of the second and the third group stand in each other's place
exchanged : said (codes "1 wrong 0 y got 7 want 6\n3 refused 0 y found 214748366 expected 644245096\n2 refused 0 y found 429496731 expected 644245096\n") totals
    ≡ Err (fault.Group 2)
unfolding digits sum three alone said totals
exchanged = refl

missing : said (codes "1 wrong 0 y got 7 want 6\n2 refused 0 y found 429496731 expected 644245096\n") totals ≡ Err (fault.Group 3)
unfolding digits sum three alone said totals
missing = refl

cut : said (codes "1 wrong 0 y got 7 want 6\n2 refused 0 y found 429496731 expected 644245096\n") [] ≡ Err (fault.End 3)
unfolding digits sum three alone said totals
cut = refl

-- no output is called z, and numbers have no zeros before them
unnamed : said (codes "1 wrong 0 z got 7 want 6\n") totals ≡ Err (fault.Verdict 1)
unfolding digits sum three alone said totals
unnamed = refl

zeros : said (codes "1 wrong 0 y got 07 want 6\n") totals ≡ Err (fault.Verdict 1)
unfolding digits sum three alone said totals
zeros = refl

-- a stop at another place than that of its operation
elsewhere : said (codes "1 stopped 0 2 OPERAND 4:9\n") totals ≡ Err (fault.Verdict 1)
unfolding digits sum three alone said totals
elsewhere = refl

-- other totals, and a line behind them
miscounted : said (codes "1 same\n2 stopped 0 2 OPERAND 4:8\n3 ran-on 0\n") totals ≡ Err (fault.Totals 4)
unfolding digits sum three alone said totals
miscounted = refl

more : said (codes "1 same\n2 stopped 0 2 OPERAND 4:8\n3 ran-on 0\nfaults 3 same 1 wrong 0 ran-on 1 refused 0 stopped 1\n") totals ≡ Err (fault.Rest 5)
unfolding digits sum three alone said totals
more = refl

-- ---- tables

-- numbers of one to seven digits end alike
columns : column_text 0 ++ (column_text 10 ++ (column_text 999 ++ (column_text 1000 ++ (column_text 10000 ++ (column_text 100000 ++ column_text 1000000)))))
    ≡ codes "       0      10     999    1000   10000  100000 1000000"
unfolding digits
columns = refl

part : List Verdict → Part
part vs = record { script = three; verdicts = vs }

seen : List Verdict
seen = verdict.Wrong 0 0 (pos 7) (pos 6) ∷ verdict.Refused 0 0 429496731 644245096 ∷ verdict.Refused 0 0 214748366 644245096 ∷ []

tables : sum_text sum (part seen ∷ [])
    ≡ heading_text table.Acts
    ++ (codes "       1       0       1       0       0       0  operand add\n"
    ++ (codes "       1       0       0       0       1       0  operand from\n"
    ++ (codes "       1       0       0       0       1       0  operator\n"
    ++ (codes "  faults    same   wrong  ran-on refused stopped  by where it stands\n"
    ++ (codes "       3       0       1       0       2       0  operation 2 ADD at 4:8\n"
    ++ (heading_text table.Outputs
    ++ (codes "       3       0       1       0       2       0  output y\n"
    ++ (heading_text table.Delays
    ++ (codes "       3       0       1       0       2       0  after 0\n"
    ++ (codes "1 wrong 0 y got 7 want 6\n  operand 0 2 0 add 2147483647: operation 2 ADD at 4:8\n"
    ++ codes "faults 3 same 0 wrong 1 ran-on 0 refused 2 stopped 0\n"))))))))))
unfolding digits sum three alone part seen
tables = refl

-- of two parts, the second of which ran on at its second group
in_parts : sum_text sum (part seen ∷ part (verdict.Same ∷ verdict.RanOn 4 ∷ verdict.Same ∷ []) ∷ [])
    ≡ heading_text table.Acts
    ++ (codes "       2       1       1       0       0       0  operand add\n"
    ++ (codes "       2       0       0       1       1       0  operand from\n"
    ++ (codes "       2       1       0       0       1       0  operator\n"
    ++ (codes "  faults    same   wrong  ran-on refused stopped  by where it stands\n"
    ++ (codes "       6       2       1       1       2       0  operation 2 ADD at 4:8\n"
    ++ (heading_text table.Outputs
    ++ (codes "       3       0       1       0       2       0  output y\n"
    ++ (heading_text table.Delays
    ++ (codes "       3       0       1       0       2       0  after 0\n"
    ++ (codes "       1       0       0       1       0       0  after 4\n"
    ++ (codes "1:1 wrong 0 y got 7 want 6\n  operand 0 2 0 add 2147483647: operation 2 ADD at 4:8\n"
    ++ (codes "2:2 ran-on 4\n  operand 0 2 1 from 0: operation 2 ADD at 4:8\n"
    ++ codes "faults 6 same 2 wrong 1 ran-on 1 refused 2 stopped 0\n"))))))))))))
unfolding digits sum three alone part seen
in_parts = refl

-- a row for each ending that a group has
endings : endings_text (Some ends.DiedOut ∷ None ∷ Some ends.Stands ∷ Some ends.DiedOut ∷ [])
    ≡ codes "  faults    same   wrong  ran-on refused stopped  by how it ends where it shows nowhere\n"
    ++ (codes "       2       2       0       0       0       0  died out\n"
    ++ codes "       1       1       0       0       0       0  stands in a cell\n")
unfolding digits
endings = refl

-- of three groups the second stands
standing : standing_parts sum (part [] ∷ []) ((Some ends.DiedOut ∷ Some ends.Stands ∷ None ∷ []) ∷ []) 1
    ≡ codes "2 stands in a cell\n  operand 0 2 1 from 0: operation 2 ADD at 4:8\n"
unfolding digits sum three alone part
standing = refl

-- and of the second of two parts the third
standing_later : standing_parts sum (part [] ∷ part [] ∷ []) ((Some ends.DiedOut ∷ None ∷ None ∷ []) ∷ (None ∷ None ∷ Some ends.Stands ∷ []) ∷ []) 2
    ≡ codes "2:3 stands in a cell\n  operator 0 2 SUB: operation 2 ADD at 4:8\n"
unfolding digits sum three alone part
standing_later = refl

-- ---- remarks

of_this : is_for (codes "0a1b") (codes "# sites bits of 0a1b\nskip 1 2\n") ≡ true
of_this = refl

of_another : is_for (codes "0a1b") (codes "# sites bits of ff1b\nskip 1 2\n") ≡ false
of_another = refl

of_none : is_for (codes "0a1b") (codes "skip 1 2\n# sites bits of ff1b\n") ≡ true
of_none = refl
