-- Writing: what is written for one more row.
use Rattle.std.proofs.Common.{ℕ, suc, ◌+◌, ◌≡◌, ap, subst, sym, ◌∙◌, ℤ, List, [], ◌∷◌, ◌++◌, append-nil, append_assoc, length, arith, Option, Some, None}
use Rattle.std.specs.Io.KnownBytes.{Appends}
use Rattle.vcp_outside.specs.Written.{AppendsPart}
use Rattle.coded_machine.specs.RowRuns.{texts_from}

pub appends_nothing : (x : Option (List ℕ)) → Appends x x []
appends_nothing None = tt
appends_nothing (Some bytes) = sym (append-nil bytes)

pub appends_on : (x y z : Option (List ℕ)) (bytes more : List ℕ) → Appends x y bytes → Appends y z more → Appends x z (bytes ++ more)
appends_on None y z bytes more h k = tt
appends_on (Some x) None z bytes more h k = absurd h
appends_on (Some x) (Some y) None bytes more h k = absurd k
appends_on (Some x) (Some y) (Some z) bytes more h k = rw (k, h) (append_assoc x bytes more)

pub texts_on : (text : ℕ → List ℤ → List ℕ) (n : ℕ) (rows more : List (List ℤ))
    → texts_from text n (rows ++ more) ≡ texts_from text n rows ++ texts_from text (n + length rows) more
texts_on text n [] more = ap (λ k. texts_from text k more) (omega arith)
texts_on text n (row ∷ rows) more =
    ap (λ bytes. text n row ++ bytes) (texts_on text (suc n) rows more)
    ∙ ap (λ k. text n row ++ (texts_from text (suc n) rows ++ texts_from text k more)) (omega arith)
    ∙ sym (append_assoc (text n row) (texts_from text (suc n) rows) (texts_from text (n + length (row ∷ rows)) more))

-- all is written for some rows, and then for those that come after them
pub rows_written : (text : ℕ → List ℤ → List ℕ) (x y z : Option (List ℕ)) (rows more : List (List ℤ)) → Appends x y (texts_from text 0 rows)
    → Appends y z (texts_from text (0 + length rows) more) → Appends x z (texts_from text 0 (rows ++ more))
rows_written text x y z rows more h k =
    subst (λ bytes. Appends x z bytes) (sym (texts_on text 0 rows more))
    (appends_on x y z (texts_from text 0 rows) (texts_from text (0 + length rows) more) h k)

-- and where the last write failed, a part
pub part_written : (text : ℕ → List ℤ → List ℕ) (x y z : Option (List ℕ)) (rows more : List (List ℤ)) → Appends x y (texts_from text 0 rows)
    → AppendsPart y z (texts_from text (0 + length rows) more) → AppendsPart x z (texts_from text 0 (rows ++ more))
part_written text x y z rows more h k = (
  texts_from text 0 rows ++ k.0,
  k.1,
  texts_on text 0 rows more ∙ ap (λ bytes. texts_from text 0 rows ++ bytes) k.2
      ∙ sym (append_assoc (texts_from text 0 rows) k.0 k.1),
  k.3,
  appends_on x y z (texts_from text 0 rows) k.0 h k.4,
)
