-- Worked: a division in one turn of a FOR, and a sum of LINT, as programs and as graphs, and how both runs are told.
use Rattle.std.proofs.Common.{◌≡◌, refl, ℕ, pos, ℤ, true, false, List, [], ◌∷◌, Some, None}
use Rattle.vcp_base.specs.declared.spot.Spot.{Spot}
use Rattle.vcp_base.specs.declared.code.Profile.TheVariants as profile
use Rattle.vcp_base.specs.declared.ty.Ty.TheVariants as ty
use Rattle.vcp_base.specs.declared.kind.Kind.TheVariants as kind
use Rattle.vcp_base.specs.declared.kind.StopKind.TheVariants as why
use Rattle.op_graph.specs.Lists.{Lists}
use Rattle.st_tree.specs.declared.program.Section.{Section}
use Rattle.st_tree.specs.declared.program.Section.TheVariants as section
use Rattle.st_tree.specs.declared.expr.BinOp.TheVariants as bin
use Rattle.vcp_typed.specs.declared.slot.Slot.{Slot}
use Rattle.vcp_typed.specs.TExprTree.{literal, get, binary}
use Rattle.vcp_typed.specs.TStmtTree.{assign, for_, no_tstmts, and_tstmt}
use Rattle.vcp_typed.specs.SourceRun.{Program}
use Rattle.vcp_typed.specs.Wide.{wide}
use Rattle.flat_expr.specs.Begin.{held_from}
use Rattle.flat_expr.specs.State.{last_size}
use Rattle.flat_expr.specs.Told.{told_source, told_graph}

place : Spot
place = record { line = 4; col = 9 }

slot : List ℕ → Section → Slot
slot name c = record { name = name; spot = record { line = 0; col = 0 }; section = c; ty = ty.Int; init = pos 8 }

-- FOR i := 3 TO 3 DO y := x / x; END_FOR;
program : Program
program = record {
  slots = slot (120 ∷ []) section.Input ∷ slot (121 ∷ []) section.Output ∷ slot (105 ∷ []) section.Local ∷ [];
  body = and_tstmt
      (for_ 2 (pos 3) (pos 1) 1 (and_tstmt (assign 1 (binary bin.Div ty.Int (get 0 ty.Int) (get 0 ty.Int) place) place) no_tstmts) place) no_tstmts;
}

graph : Lists
graph = record {
  profile = profile.Narrow;
  names = (120 ∷ []) ∷ (121 ∷ []) ∷ (105 ∷ []) ∷ [];
  inputs = (record { name = 0; ty = ty.Int }) ∷ [];
  outputs = (record { name = 1; ty = ty.Int; op = 2 }) ∷ [];
  loads = [];
  stores = [];
  turn_nodes = (record { parent = 0; name = 2; value = pos 3 }) ∷ [];
  operations = (record { kind = kind.Input; from = ty.Int; ty = ty.Int; a = 0; b = 0; c = 0; imm = pos 0; spot = place; turn = 0 })
      ∷ (record { kind = kind.Div; from = ty.Int; ty = ty.Int; a = 0; b = 0; c = 0; imm = pos 0; spot = place; turn = 1 })
      ∷ (record { kind = kind.Out; from = ty.Int; ty = ty.Int; a = 1; b = 0; c = 0; imm = pos 0; spot = place; turn = 0 }) ∷ [];
}

rows : List (List ℤ)
rows = (pos 6 ∷ []) ∷ (pos 0 ∷ []) ∷ (pos 2 ∷ []) ∷ []

-- the second cycle stops at the division, in the turn i = 3
source-stops : told_source program rows
    ≡ record { rows = (pos 1 ∷ []) ∷ []; end = Some (record { kind = why.DivZero; spot = place; turns = (record { name = 105 ∷ []; value = pos 3 }) ∷ [] }) }
unfolding program slot place rows
source-stops = refl

both-are-told-the-same : told_graph graph rows ≡ told_source program rows
unfolding graph program slot place rows
both-are-told-the-same = refl

-- the input alone is known at the begin; the OUT and the STORE of y, and the STORE of i, may come at the end
begin-holds : held_from 0 program.slots ≡ Some 0 ∷ None ∷ None ∷ []
unfolding program slot
begin-holds = refl

last-three : last_size program.slots ≡ 3
unfolding program slot
last-three = refl

-- ---- the same of LINT, in the wide code

lint_slot : List ℕ → Section → Slot
lint_slot name c = record { name = name; spot = record { line = 0; col = 0 }; section = c; ty = ty.Lint; init = pos 0 }

-- y := x + 1;
lint_program : Program
lint_program = record {
  slots = lint_slot (120 ∷ []) section.Input ∷ lint_slot (121 ∷ []) section.Output ∷ [];
  body = and_tstmt (assign 1 (binary bin.Add ty.Lint (get 0 ty.Lint) (literal ty.Lint (pos 1) place) place) place) no_tstmts;
}

lint_graph : Lists
lint_graph = record {
  profile = profile.Wide;
  names = (120 ∷ []) ∷ (121 ∷ []) ∷ [];
  inputs = (record { name = 0; ty = ty.Lint }) ∷ [];
  outputs = (record { name = 1; ty = ty.Lint; op = 3 }) ∷ [];
  loads = [];
  stores = [];
  turn_nodes = [];
  operations = (record { kind = kind.Input; from = ty.Lint; ty = ty.Lint; a = 0; b = 0; c = 0; imm = pos 0; spot = place; turn = 0 })
      ∷ (record { kind = kind.Const; from = ty.Lint; ty = ty.Lint; a = 0; b = 0; c = 0; imm = pos 1; spot = place; turn = 0 })
      ∷ (record { kind = kind.Add; from = ty.Lint; ty = ty.Lint; a = 0; b = 1; c = 0; imm = pos 0; spot = place; turn = 0 })
      ∷ (record { kind = kind.Out; from = ty.Lint; ty = ty.Lint; a = 2; b = 0; c = 0; imm = pos 0; spot = place; turn = 0 }) ∷ [];
}

lint_rows : List (List ℤ)
lint_rows = (pos 9223372036854775806 ∷ []) ∷ (pos 9223372036854775807 ∷ []) ∷ []

codes-are-theirs : (wide program ≡ false) × (wide lint_program ≡ true)
unfolding program lint_program slot lint_slot place
codes-are-theirs = (refl, refl)

lint-stops : told_source lint_program lint_rows
    ≡ record { rows = (pos 9223372036854775807 ∷ []) ∷ []; end = Some (record { kind = why.Range; spot = place; turns = [] }) }
unfolding lint_program lint_slot place lint_rows
lint-stops = refl

lint-is-told-the-same : told_graph lint_graph lint_rows ≡ told_source lint_program lint_rows
unfolding lint_graph lint_program lint_slot place lint_rows
lint-is-told-the-same = refl
