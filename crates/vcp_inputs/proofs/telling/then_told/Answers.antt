use Rattle.std.proofs.Common.{◌≡◌, ℕ, List, ◌++◌, codes, append_assoc}
use Rattle.vcp_outside.specs.Pens.{written_so}
use Rattle.vcp_inputs.proofs.telling.then_told.Goals as goal

place : (text number what : List ℕ)
    → text ++ (codes ":" ++ (number ++ (codes " " ++ what))) ≡ text ++ (codes ":" ++ number) ++ (codes " " ++ what)
place text number what = simp append_assoc

pair : (text row column what : List ℕ)
    → text ++ (codes ":" ++ (row ++ (codes ":" ++ (column ++ (codes " " ++ what)))))
    ≡ text ++ (codes ":" ++ row) ++ (codes ":" ++ column) ++ (codes " " ++ what)
pair text row column what = simp append_assoc

correction : (text offset stored expected : List ℕ)
    → text ++ (codes ":" ++ (offset ++ (codes " I6 Table stored " ++ (stored ++ (codes " expected " ++ expected)))))
    ≡ text ++ (codes ":" ++ offset) ++ (codes " I6 Table stored " ++ stored) ++ (codes " expected " ++ expected)
correction text offset stored expected = simp append_assoc

pub returns-in-Whole : goal.returns-in-Whole
returns-in-Whole g c = rw c.in-Whole.is c.texts.ensures

pub returns-in-Place : goal.returns-in-Place
returns-in-Place g c =
    rw c.in-Place.is (λ sink name text is.
    written_so (c.texts-in-Place.ensures _ _ _ (c.numbered.ensures sink name text is)) (place _ _ _))

pub returns-in-Pair : goal.returns-in-Pair
returns-in-Pair g c =
    rw c.in-Pair.is (λ sink name text is.
    let row = c.numbered-in-Pair.ensures sink name text is in
    written_so (c.texts-in-Pair.ensures _ _ _ (c.numbered-in-Pair-2.ensures _ _ _ row)) (pair _ _ _ _))

pub returns-in-Correction : goal.returns-in-Correction
returns-in-Correction g c =
    rw c.in-Correction.is (λ sink name text is.
    let offset = c.numbered-in-Correction.ensures sink name text is in
    written_so (c.numbered-in-Correction-3.ensures _ _ _ (c.numbered-in-Correction-2.ensures _ _ _ offset)) (correction _ _ _ _))
