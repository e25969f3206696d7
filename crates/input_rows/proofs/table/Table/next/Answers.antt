use Rattle.std.proofs.lemmas.Bool.{false≢true}
use Rattle.std.proofs.Common.{ℤ, ◌∷◌, refl, ◌≡◌, ◌∙◌, sym, ap, length, Option, List, ℕ, ◌+◌, arith}
use Rattle.input_rows.specs.RowsOf.{RowsLeft}
use Rattle.input_rows.specs.TableLeft.{Ordered, left_from}
use Rattle.input_rows.proofs.Lefts.{left-types, left-fresh}
use Rattle.input_rows.proofs.table.Table.next.Goals as goal

-- the types are the columns'
seen-types : (o : Ordered) (cycle : ℕ) (records : Option (List (List (List ℕ)))) (left : RowsLeft) → left_from o cycle records ≡ left → o.types ≡ left.types
seen-types o cycle records left e = sym (left-types o cycle records) ∙ ap (λ l. l.types) e

pub invariant_of-self : goal.invariant_of-self
invariant_of-self c =
    let s = c.self.inside in
    let types = seen-types s.layout s.cycle s.records.left c.args.self.now c.self.view_is in
    let width = ap length types in
    (omega (arith, ap length c.swap.ensures.y_after), omega (arith, c.in-Ok-true.ensures.more c.in-Ok-true.field-0-test))

pub returns-in-Ok-true-clause-width : goal.returns-in-Ok-true-clause-width
returns-in-Ok-true-clause-width c =
    let s = c.self.inside in
    let types = seen-types s.layout s.cycle s.records.left c.args.self.now c.self.view_is in
    let width = ap length types in
    omega (arith, ap length c.swap.ensures.x_after)

pub returns-in-Ok-true-clause-fresh : goal.returns-in-Ok-true-clause-fresh
returns-in-Ok-true-clause-fresh c = left-fresh c.self.inside.layout (c.self.inside.cycle + 1) c.read_row.new.records.left

pub returns-in-Err-clause-types : goal.returns-in-Err-clause-types
returns-in-Err-clause-types c =
    let s = c.self.inside in
    left-types s.layout s.cycle c.read_row.new.records.left ∙ seen-types s.layout s.cycle s.records.left c.args.self.now c.self.view_is

pub returns-in-Err-clause-fresh : goal.returns-in-Err-clause-fresh
returns-in-Err-clause-fresh c = left-fresh c.self.inside.layout c.self.inside.cycle c.read_row.new.records.left

pub returns-in-Ok-false : goal.returns-in-Ok-false
returns-in-Ok-false c =
    let s = c.self.inside in
    let left = sym c.self.view_is ∙ (c.in-Ok-false.ensures.end c.in-Ok-false.field-0-test).0 in
    record {
      row = λ found. absurd (false≢true found);
      end = λ none. (ap (λ (l : RowsLeft). l.rows) left, ap (λ (l : RowsLeft). l.refusal) left);
      stays = λ none. refl;
      refusal = tt;
      types = left-types s.layout s.cycle c.read_row.new.records.left ∙ seen-types s.layout s.cycle s.records.left c.args.self.now c.self.view_is;
      fresh = left-fresh s.layout s.cycle c.read_row.new.records.left;
      out = tt;
      width = refl;
    }

pub returns-in-Ok-true-clause-row : goal.returns-in-Ok-true-clause-row
returns-in-Ok-true-clause-row c = λ found.
    let s = c.self.inside in
    let later = left_from s.layout (s.cycle + 1) c.read_row.new.records.left in
    sym c.self.view_is
    ∙ (c.in-Ok-true.ensures.row c.in-Ok-true.field-0-test ∙ ap (λ (row : List ℤ). record later { rows = row ∷ later.rows }) (sym c.swap.ensures.x_after))

pub returns-in-Ok-true-clause-end : goal.returns-in-Ok-true-clause-end
returns-in-Ok-true-clause-end c = λ none. absurd (false≢true (sym none))

pub returns-in-Ok-true-clause-stays : goal.returns-in-Ok-true-clause-stays
returns-in-Ok-true-clause-stays c = λ none. absurd (false≢true (sym none))

pub returns-in-Ok-true-clause-types : goal.returns-in-Ok-true-clause-types
returns-in-Ok-true-clause-types c =
    let s = c.self.inside in
    left-types s.layout (s.cycle + 1) c.read_row.new.records.left ∙ seen-types s.layout s.cycle s.records.left c.args.self.now c.self.view_is

pub returns-in-Err-clause-refusal : goal.returns-in-Err-clause-refusal
returns-in-Err-clause-refusal c = λ other.
    let left = sym c.self.view_is ∙ c.in-Err.ensures.refusal other in
    (ap (λ (l : RowsLeft). l.rows) left, ap (λ (l : RowsLeft). l.refusal) left)

pub returns-in-Err-clause-out : goal.returns-in-Err-clause-out
returns-in-Err-clause-out c = refl

pub returns-in-Err-clause-width : goal.returns-in-Err-clause-width
returns-in-Err-clause-width c = refl
