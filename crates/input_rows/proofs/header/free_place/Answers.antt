use Rattle.std.proofs.Common.{◌≡◌, sym, ◌&&◌, Bool, true, false, get_or, refl, ap, ◌∙◌, List, ℕ, arith, rules}
use Rattle.vcp_base.specs.Names.{is_same_name}
use Rattle.input_rows.proofs.Headers.{goes_on, found_here}
use Rattle.input_rows.proofs.header.free_place.Goals as goal
use Rattle.input_rows.proofs.header.free_place.Goals.{else-free-i-via-then-free-i+else-is_same_name, else-free-i-via-else-free-i}

both : (a b r : Bool) → a ≡ true → r ≡ b → r ≡ true → (a && b) ≡ true
both a b r e f g = rw (e, ← f, g) refl

not_second : (a b r : Bool) → a ≡ true → r ≡ b → r ≡ false → (a && b) ≡ false
not_second a b r e f g = rw (e, ← f, g) refl

not_first : (a b : Bool) → a ≡ false → (a && b) ≡ false
not_first a b e = rw e refl

pub returns-then-is_same_name-clause-place : goal.returns-then-is_same_name-clause-place
returns-then-is_same_name-clause-place c =
    let d = c.at-column.result.now in
    let same : c.is_same_name.result ≡ is_same_name d.name c.args.name.now = c.is_same_name.ensures.test
    ∙ ap (λ (n : List ℕ). is_same_name n c.args.name.now) c.bytes.ensures in
    let test : (get_or c.args.free.now c.columns.i false && is_same_name d.name c.args.name.now) ≡ true =
    both (get_or c.args.free.now c.columns.i false) (is_same_name d.name c.args.name.now) c.is_same_name.result (search rules) same c.if-is_same_name.true in
    sym (found_here c.args.columns.now c.args.free.now c.args.name.now c.columns.i d _ c.columns.invariant c.at-column.ensures (omega arith) test)

pub columns-preserved : goal.columns-preserved
columns-preserved c =
    let d = c.at-column.result.now in
    let test : (get_or c.args.free.now c.columns.i false && is_same_name d.name c.args.name.now) ≡ false =
    elim c.else-free-i.branch [
      | else-free-i-via-then-free-i+else-is_same_name w ↦
          not_second (get_or c.args.free.now c.columns.i false) (is_same_name d.name c.args.name.now) w.is_same_name.result (search rules)
          (w.is_same_name.ensures.test ∙ ap (λ (n : List ℕ). is_same_name n c.args.name.now) w.bytes.ensures) w.if-is_same_name.false
      | else-free-i-via-else-free-i w ↦ not_first (get_or c.args.free.now c.columns.i false) (is_same_name d.name c.args.name.now) (search rules)
    ] in
    goes_on c.args.columns.now c.args.free.now c.args.name.now c.columns.i d _ c.columns.invariant c.at-column.ensures (omega arith) test
