-- Listed: the lines of a graph's first operations, and of one more.
use Rattle.std.proofs.Common.{ℕ, zero, suc, ◌+◌, ◌≡◌, refl, ap, sym, ◌∙◌, List, [], ◌∷◌, ◌++◌, take, append_assoc, append-nil, slice_get, length, Option, Some, None, IfSome, Ok, Err, ◌<◌, arith}
use Rattle.op_graph.specs.declared.op.Op.{Op}
use Rattle.op_graph.specs.Lists.{Lists}
use Rattle.signature_table.specs.Signatures.{Numbers}
use Rattle.run_report.specs.OperationLines.{list_text}
use Rattle.vcp_outside.specs.Written.{Writes}
use Rattle.vcp_outside.specs.declared.failed.Failed.{Failed}
use Rattle.vcp_core.specs.Tasks.{lines_from, listing}
use Rattle.vcp_core.proofs.JobRun.{not-there}
use Rattle.vcp_core.proofs.Written.{writes-on, writes-fail}

-- the lines of the first operations, and then of the next one
pub one_more : (g : Lists) (t : Numbers) (k i : ℕ) (ops : List Op) (op : Op) → slice_get ops i ≡ Some op
    → lines_from g t k (take (suc i) ops) ≡ lines_from g t k (take i ops) ++ list_text g t (k + i) op
one_more g t k i [] op is = absurd cc
one_more g t k zero (x ∷ ops) op is =
    let same : x ≡ op = cc in
    let here : k ≡ k + zero = omega arith in
    append-nil (list_text g t k x) ∙ ap (list_text g t k) same ∙ ap (λ j. list_text g t j op) here
one_more g t k (suc i) (x ∷ ops) op is =
    let shift : suc k + i ≡ k + suc i = omega arith in
    ap (λ l. list_text g t k x ++ l) (one_more g t (suc k) i ops op is ∙ ap (λ j. lines_from g t (suc k) (take i ops) ++ list_text g t j op) shift)
    ∙ sym (append_assoc (list_text g t k x) (lines_from g t (suc k) (take i ops)) _)

-- the lines of all begin with those
pub rest-behind : (g : Lists) (t : Numbers) (k i : ℕ) (ops : List Op) (op : Op) → slice_get ops i ≡ Some op
    → (more : List ℕ) × (lines_from g t k ops ≡ lines_from g t k (take i ops) ++ list_text g t (k + i) op ++ more)
rest-behind g t k i [] op is = absurd cc
rest-behind g t k zero (x ∷ ops) op is =
    let same : x ≡ op = cc in
    let here : k ≡ k + zero = omega arith in
    (lines_from g t (suc k) ops, ap (λ l. l ++ lines_from g t (suc k) ops) (ap (list_text g t k) same ∙ ap (λ j. list_text g t j op) here))
rest-behind g t k (suc i) (x ∷ ops) op is =
    let (more, e) = rest-behind g t (suc k) i ops op is in
    let shift : suc k + i ≡ k + suc i = omega arith in
    let here : List ℕ = list_text g t k x in
    let front : List ℕ = lines_from g t (suc k) (take i ops) in
    let next : List ℕ = list_text g t (k + suc i) op in (
      more,
      ap (λ l. here ++ l) (e ∙ ap (λ j. front ++ list_text g t j op ++ more) shift) ∙ sym (append_assoc here (front ++ next) more)
          ∙ ap (λ l. l ++ more) (sym (append_assoc here front next)),
    )

-- ---- the loop over operations

module _ (g : Lists) (t : Numbers) (i : ℕ) (a b c : Option (List ℕ)) (f h j : ℕ) (below : i < length g.operations)
    (before : Writes {T = Unit {0}} {E = Failed} a b f h (lines_from g t 0 (take i g.operations)) (Ok tt)) where
  one-further : i + 1 ≡ suc i
  one-further = omega arith

  from-zero : 0 + i ≡ i
  from-zero = omega arith

  on-at : (o : Option Op) → slice_get g.operations i ≡ o → IfSome o (λ op. Writes {T = Unit {0}} {E = Failed} b c h j (list_text g t i op) (Ok tt))
      → Writes {T = Unit {0}} {E = Failed} a c f j (lines_from g t 0 (take (i + 1) g.operations)) (Ok tt)
  on-at None is next = absurd (not-there g.operations i below is)
  on-at (Some op) is next =
      writes-on tt tt tt a b c f h j (lines_from g t 0 (take i g.operations)) (list_text g t i op) _ before next
      (ap (λ k. lines_from g t 0 (take k g.operations)) one-further ∙ one_more g t 0 i g.operations op is
      ∙ ap (λ k. lines_from g t 0 (take i g.operations) ++ list_text g t k op) from-zero)

  -- the line of the next operation was written
  pub goes-on : IfSome (slice_get g.operations i) (λ op. Writes {T = Unit {0}} {E = Failed} b c h j (list_text g t i op) (Ok tt))
      → Writes {T = Unit {0}} {E = Failed} a c f j (lines_from g t 0 (take (i + 1) g.operations)) (Ok tt)
  goes-on next = on-at (slice_get g.operations i) refl next

  fail-at : (e d : Failed) (o : Option Op) → slice_get g.operations i ≡ o
      → IfSome o (λ op. Writes {T = Unit {0}} {E = Failed} b c h j (list_text g t i op) (Err e))
      → Writes {T = Unit {0}} {E = Failed} a c f j (listing g t) (Err d)
  fail-at e d None is next = absurd (not-there g.operations i below is)
  fail-at e d (Some op) is next = let (more, all) = rest-behind g t 0 i g.operations op is in
      writes-fail tt e d a b c f h j (lines_from g t 0 (take i g.operations)) (list_text g t i op) more (listing g t) before next
      (all ∙ ap (λ k. lines_from g t 0 (take i g.operations) ++ list_text g t k op ++ more) from-zero)

  -- or it couldn't be
  pub fails : (e d : Failed) → IfSome (slice_get g.operations i) (λ op. Writes {T = Unit {0}} {E = Failed} b c h j (list_text g t i op) (Err e))
      → Writes {T = Unit {0}} {E = Failed} a c f j (listing g t) (Err d)
  fails e d next = fail-at e d (slice_get g.operations i) refl next
