-- Worked rows: what small programs print on the rows that are left.
use Rattle.std.proofs.Common.{◌≡◌, ℕ, ℤ, pos, negsuc, List, [], ◌∷◌, Option, Some, None, false, refl, codes}
use Rattle.std.specs.Fmt.{digits}
use Rattle.vcp_base.specs.declared.spot.Spot.{Spot}
use Rattle.vcp_base.specs.declared.ty.Ty.TheVariants as ty
use Rattle.st_tree.specs.declared.expr.BinOp.TheVariants as bin
use Rattle.st_tree.specs.declared.program.Section.{Section}
use Rattle.st_tree.specs.declared.program.Section.TheVariants as section
use Rattle.vcp_typed.specs.declared.slot.Slot.{Slot}
use Rattle.vcp_typed.specs.TExprTree.{literal, get, binary}
use Rattle.vcp_typed.specs.TStmtTree.{assign, for_, no_tstmts, and_tstmt}
use Rattle.vcp_typed.specs.SourceRun.{Program}
use Rattle.input_rows.specs.declared.fault.RowFault.{RowFault}
use Rattle.input_rows.specs.declared.fault.RowFault.TheVariants as rows
use Rattle.input_rows.specs.RowsOf.{RowsLeft}
use Rattle.vcp_core.specs.PlainRun.{plain_text}

-- a place of the first line
abbrev at : ℕ → Spot
at col = record { line = 1; col = col }

-- a DINT under a name, which begins as 0
abbrev variable : List ℕ → Section → Slot
variable name section = record { name = name; spot = at 1; section = section; ty = ty.Dint; init = pos 0 }

-- rows that are left, each of one DINT, and the refusal behind them or none
abbrev left : List (List ℤ) → Option RowFault → RowsLeft
left rows refusal = record { types = ty.Dint ∷ []; rows = rows; refusal = refusal; ended = false }

-- so many rows of no values as there are here
abbrev cycles : List (List ℤ) → RowsLeft
cycles rows = record { types = []; rows = rows; refusal = None; ended = false }

-- VAR_INPUT x : DINT; VAR_OUTPUT y : DINT; y := x + 1; the operator stands at 1:8
abbrev addition : Program
addition = record {
  slots = variable (codes "x") section.Input ∷ variable (codes "y") section.Output ∷ [];
  body = and_tstmt (assign 1 (binary bin.Add ty.Dint (get 0 ty.Dint) (literal ty.Dint (pos 1) (at 10)) (at 8)) (at 4)) no_tstmts;
}

-- a line for each row, and the number of the cycles
on-two-rows : plain_text addition (left ((pos 5 ∷ []) ∷ (negsuc 7 ∷ []) ∷ []) None) ≡ codes "cycle,y\n0,6\n1,-7\nend 2\n"
unfolding digits
on-two-rows = refl

on-no-row : plain_text addition (left [] None) ≡ codes "cycle,y\nend 0\n"
unfolding digits
on-no-row = refl

-- a stop is the last line, whatever rows or refusals are behind its row
on-the-greatest : plain_text addition (left ((pos 5 ∷ []) ∷ (pos 2147483647 ∷ []) ∷ (pos 7 ∷ []) ∷ []) (Some (rows.Width 5)))
    ≡ codes "cycle,y\n0,6\nstop 1 RANGE 1:8\n"
unfolding digits
on-the-greatest = refl

-- before a refusal there are the earlier rows, and no last line
before-a-refusal : plain_text addition (left ((pos 5 ∷ []) ∷ []) (Some (rows.Cell 3 1))) ≡ codes "cycle,y\n0,6\n"
unfolding digits
before-a-refusal = refl

before-a-first-refusal : plain_text addition (left [] (Some (rows.Width 2))) ≡ codes "cycle,y\n"
unfolding digits
before-a-first-refusal = refl

-- VAR_OUTPUT y : DINT; VAR i : DINT; VAR_OUTPUT z : DINT; FOR i := 1 TO -1 BY -1 DO y := 6 / i; END_FOR; the operator stands at 1:8
abbrev division : Program
division = record {
  slots = variable (codes "y") section.Output ∷ variable (codes "i") section.Local ∷ variable (codes "z") section.Output ∷ [];
  body = and_tstmt
      (for_ 1 (pos 1) (negsuc 0) 3 (and_tstmt (assign 0 (binary bin.Div ty.Dint (literal ty.Dint (pos 6) (at 6)) (get 1 ty.Dint) (at 8)) (at 4)) no_tstmts)
      (at 2)) no_tstmts;
}

-- a stop inside a FOR is told with its turn
in-a-turn : plain_text division (cycles ([] ∷ [] ∷ [])) ≡ codes "cycle,y,z\nstop 0 DIVZERO 1:8 i=0\n"
unfolding digits
in-a-turn = refl

-- a program without outputs
abbrev silent : Program
silent = record { slots = variable (codes "i") section.Local ∷ []; body = no_tstmts }

without-outputs : plain_text silent (cycles ([] ∷ [] ∷ [])) ≡ codes "cycle\n0\n1\nend 2\n"
unfolding digits
without-outputs = refl
