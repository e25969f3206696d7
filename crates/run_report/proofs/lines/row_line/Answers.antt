use Rattle.std.proofs.Common.{◌≡◌, ◌<◌, true≢false, arith, append_assoc, decimal, take, refl, length, pos, ℕ, ◌+◌, ◌∙◌, sym, Result, Ok, Err}
use Rattle.std.proofs.lemmas.List.{append-nil, take_all}
use Rattle.std.proofs.lemmas.Option.{slice_get-get_or}
use Rattle.run_report.specs.Lines.{value_cell}
use Rattle.run_report.proofs.Texts.{flat_map-next}
use Rattle.run_report.proofs.lines.row_line.Goals as goal

pub cells-init : goal.cells-init
cells-init g c = record {
  told = refl;
  gathered = rw append-nil (c.count.ensures.gathers _ _ _ (c.new-line.ensures.begun _ _));
}

same_count : {E : Type 0} (r : Result ℕ E) (a b : ℕ) → r ≡ Ok a → r ≡ Ok b → a ≡ b
same_count r a b first second = let both : Ok a ≡ Ok b = sym first ∙ second in cc

pub cells-preserved : goal.cells-preserved
cells-preserved g c =
    let inside : c.cells.i < length c.args.row.now = omega arith in
    let there = slice_get-get_or c.args.row.now c.cells.i (pos 0) inside in
    record {
      told = same_count c.then_cell.result c.in_ok-told.told (c.cells.i + 1) c.in_ok-told.was c.then_cell.ensures.told;
      gathered = rw (flat_map-next value_cell (decimal c.args.cycle) c.args.row.now c.cells.i _ there)
          (c.in_ok-told.ensures.gathers _ there _ _ _ c.cells.invariant.gathered);
    }

pub returns : goal.returns
returns g c =
    let whole : take c.cells.i c.args.row.now ≡ c.args.row.now = take_all c.cells.i c.args.row.now (omega arith) in
    let all = rw whole at c.cells.invariant.gathered in
    rw append_assoc at (c.end.ensures.writes _ _ _ all)

pub returns-then-not-has_count : goal.returns-then-not-has_count
returns-then-not-has_count g c = absurd (true≢false (sym c.has_count.ensures ∙ c.if-not-has_count.true))

pub returns-then-not-has_cell : goal.returns-then-not-has_cell
returns-then-not-has_cell g c = absurd (true≢false (sym c.has_cell.ensures ∙ c.if-not-has_cell.true))

never_err : {A E : Type 0} (r : Result A E) (a : A) (e : E) → r ≡ Ok a → r ≡ Err e → ⊥
never_err r a e first second = let both : Ok a ≡ Err e = sym first ∙ second in cc

pub returns-in_err-told : goal.returns-in_err-told
returns-in_err-told g c = absurd (never_err c.then_cell.result _ _ c.then_cell.ensures.told c.in_err-told.was)

pub returns-then-not-are_all : goal.returns-then-not-are_all
returns-then-not-are_all g c =
    let all : c.cells.told ≡ length c.args.row.now = omega (arith, c.cells.invariant.told) in
    absurd (true≢false (sym (c.are_all.ensures all) ∙ c.if-not-are_all.true))
