-- Worked rows: cycles of small programs.
use Rattle.std.proofs.Common.{◌≡◌, ℕ, ℤ, pos, List, [], ◌∷◌, Some, None, Ok, Err, refl}
use Rattle.vcp_base.specs.declared.spot.Spot.{Spot}
use Rattle.vcp_base.specs.declared.ty.Ty.TheVariants as ty
use Rattle.vcp_base.specs.declared.kind.StopKind.TheVariants as why
use Rattle.st_tree.specs.declared.expr.BinOp.TheVariants as bin
use Rattle.st_tree.specs.declared.program.Section.{Section}
use Rattle.st_tree.specs.declared.program.Section.TheVariants as section
use Rattle.vcp_typed.specs.declared.slot.Slot.{Slot}
use Rattle.vcp_typed.specs.TExprTree.{TExprTree, literal, get, binary}
use Rattle.vcp_typed.specs.TStmtTree.{assign, for_, no_tstmts, and_tstmt}
use Rattle.vcp_typed.specs.Meaning.{Stop}
use Rattle.vcp_typed.specs.SourceRun.{Program}
use Rattle.st_plain.specs.Evaluator.{started, comes_to, answers}

abbrev at : ℕ → ℕ → Spot
at line col = record { line = line; col = col }

abbrev slot : List ℕ → Section → ℤ → Slot
slot name c init = record { name = name; spot = at 1 1; section = c; ty = ty.Int; init = init }

abbrev int : ℤ → TExprTree
int v = literal ty.Int v (at 1 1)

abbrev plus : TExprTree → TExprTree → Spot → TExprTree
plus a b p = binary bin.Add ty.Int a b p

-- ---- VAR_INPUT x : INT; VAR_OUTPUT y : INT; y := x + 1;

abbrev next : Program
next = record {
  slots = slot (120 ∷ []) section.Input (pos 0) ∷ slot (121 ∷ []) section.Output (pos 0) ∷ [];
  body =
      and_tstmt (assign 1 (plus (get 0 ty.Int) (int (pos 1)) (at 4 8)) (at 4 1)) no_tstmts;
}

abbrev too_great : Stop
too_great = record { kind = why.Range; spot = at 4 8; turns = [] }

begins : started next ≡ record { program = next; values = pos 0 ∷ pos 0 ∷ []; stop = None }
begins = refl

one-more : comes_to (started next) (pos 5 ∷ []) ≡ Ok (pos 5 ∷ pos 6 ∷ [])
one-more = refl

greatest : comes_to (started next) (pos 32767 ∷ []) ≡ Err too_great
greatest = refl

-- the stop comes again on inputs that would not stop
again : comes_to (record { program = next; values = pos 5 ∷ pos 6 ∷ []; stop = Some too_great }) (pos 1 ∷ []) ≡ Err too_great
again = refl

rows : answers (started next) ((pos 5 ∷ []) ∷ (pos 32767 ∷ []) ∷ (pos 1 ∷ []) ∷ []) ≡ record { rows = (pos 6 ∷ []) ∷ []; end = Some too_great }
rows = refl

no-rows : answers (started next) [] ≡ record { rows = []; end = None }
no-rows = refl

-- ---- VAR n : INT; VAR_OUTPUT y : INT; n := n + 1; y := n;

abbrev counter : Program
counter = record {
  slots = slot (110 ∷ []) section.Local (pos 0) ∷ slot (121 ∷ []) section.Output (pos 0) ∷ [];
  body = and_tstmt (assign 0 (plus (get 0 ty.Int) (int (pos 1)) (at 4 8)) (at 4 1)) (and_tstmt (assign 1 (get 0 ty.Int) (at 5 1)) no_tstmts);
}

-- variables keep their values from cycle to cycle
counted : answers (started counter) ([] ∷ [] ∷ [] ∷ []) ≡ record { rows = (pos 1 ∷ []) ∷ (pos 2 ∷ []) ∷ (pos 3 ∷ []) ∷ []; end = None }
counted = refl

-- ---- the product in a loop: slot 0 is x, slot 1 is i, slot 2 is y

abbrev product : Program
product = record {
  slots = slot (120 ∷ []) section.Input (pos 0) ∷ slot (105 ∷ []) section.Local (pos 0) ∷ slot (121 ∷ []) section.Output (pos 0) ∷ [];
  body = and_tstmt (assign 2 (int (pos 1)) (at 5 1))
      (and_tstmt (for_ 1 (pos 1) (pos 1) 5 (and_tstmt (assign 2 (binary bin.Mul ty.Int (get 2 ty.Int) (get 0 ty.Int) (at 7 10)) (at 7 3)) no_tstmts)
      (at 6 5)) no_tstmts);
}

-- 7 * 7 * 7 * 7 * 7
seven : answers (started product) ((pos 7 ∷ []) ∷ []) ≡ record { rows = (pos 16807 ∷ []) ∷ []; end = None }
seven = refl

-- 20 * 20 * 20 * 20 is no INT
twenty : answers (started product) ((pos 20 ∷ []) ∷ [])
    ≡ record { rows = []; end = Some (record { kind = why.Range; spot = at 7 10; turns = record { name = 1; value = pos 4 } ∷ [] }) }
twenty = refl
