-- One append after another.
use Rattle.std.proofs.Common.{◌≡◌, ℕ, zero, suc, ◌+◌, List, [], ◌∷◌, ◌++◌, length, take, slice_get, Some, refl, sym, ap, subst, ◌∙◌, append_assoc, arith}
use Rattle.std.proofs.lemmas.List.{append-nil}
use Rattle.image_file.specs.declared.fields.writing.Writer.{Writer}
use Rattle.image_file.specs.Written.{Writes}
use Rattle.image_file.specs.Pieces.{entries}
use Rattle.op_graph.specs.Rules.{Each}
use Rattle.op_graph.specs.declared.op.Op.{Op}
use Rattle.op_graph.specs.declared.op.Cell.{Cell}
use Rattle.std.specs.Prelude.{unsigned_abs}
use Rattle.vcp_base.specs.declared.code.Profile.{Profile}
use Rattle.signature_table.specs.Signatures.{correction, corrections_from, store_of}

pub and_then : {a b c : Writer} {x y : List ℕ} → Writes a b x → Writes b c y → Writes a c (x ++ y)
and_then {a} {b} {c} {x} {y} first second = record {
  so_far = λ sound. first.so_far (second.so_far sound);
  adds = λ sound. second.adds sound ∙ ap (λ t. t ++ y) (first.adds (second.so_far sound)) ∙ append_assoc a.bytes.list.items x y;
}

pub ended : {a b : Writer} {x : List ℕ} → Writes a b x → Writes a b (x ++ [])
ended {a} {b} {x} one = subst (Writes a b) (sym (append-nil x)) one

pub nothing : {a : Writer} → Writes a a []
nothing {a} = record {
  so_far = λ sound. sound;
  adds = λ sound. sym (append-nil a.bytes.list.items);
}

entries_push : {X : Type 0} (spell : List X → X → List ℕ) (before xs : List X) (x : X)
    → entries spell before (xs ++ x ∷ []) ≡ entries spell before xs ++ spell (before ++ xs) x
entries_push spell before [] x = append-nil (spell before x) ∙ ap (λ b. spell b x) (sym (append-nil before))
entries_push spell before (y ∷ xs) x =
    ap (λ t. spell before y ++ t)
    (entries_push spell (before ++ y ∷ []) xs x ∙ ap (λ b. entries spell (before ++ y ∷ []) xs ++ spell b x) (append_assoc before (y ∷ []) xs))
    ∙ sym (append_assoc (spell before y) (entries spell (before ++ y ∷ []) xs) (spell (before ++ y ∷ xs) x))

take_push : {X : Type 0} (xs : List X) (k : ℕ) (x : X) → slice_get xs k ≡ Some x → take (k + 1) xs ≡ take k xs ++ x ∷ []
take_push [] k x e = absurd cc
take_push (y ∷ xs) zero x e = let same : y ≡ x = cc in ap (λ z. z ∷ []) same
take_push (y ∷ xs) (suc k) x e =
    let more : suc k + 1 ≡ suc (k + 1) = omega arith in
    ap (λ m. take m (y ∷ xs)) more ∙ ap (λ r. y ∷ r) (take_push xs k x e)

pub next_entry : {X : Type 0} {a b c : Writer} (spell : List X → X → List ℕ) (xs : List X) (k : ℕ) (x : X) → slice_get xs k ≡ Some x
    → Writes a b (entries spell [] (take k xs)) → Writes b c (spell (take k xs) x) → Writes a c (entries spell [] (take (k + 1) xs))
next_entry {X} {a} {b} {c} spell xs k x there so_far one =
    subst (Writes a c) (sym (entries_push spell [] (take k xs) x) ∙ ap (entries spell []) (sym (take_push xs k x there))) (and_then so_far one)

pub each_at : {X : Type 0} (P : List X → X → Type 0) (Q : X → Type 0) (earlier xs : List X) (i : ℕ) (x : X) → ((b : List X) (y : X) → P b y → Q y)
    → Each P earlier xs → slice_get xs i ≡ Some x → Q x
each_at P Q earlier [] i x f h e = absurd cc
each_at P Q earlier (y ∷ xs) zero x f h e = let same : y ≡ x = cc in subst Q same (f earlier y h.0)
each_at P Q earlier (y ∷ xs) (suc i) x f h e = each_at P Q (earlier ++ y ∷ []) xs i x f h.1 e

pub correction_at : (p : Profile) (seed step : ℕ) (held : List Cell) (k : ℕ) (ops : List Op) (i : ℕ) (op : Op) → slice_get ops i ≡ Some op
    → slice_get (corrections_from p seed step held k ops) i ≡ Some (correction p seed step (k + i) op (store_of held (unsigned_abs op.imm)))
correction_at p seed step held k [] i op e = absurd cc
correction_at p seed step held k (o ∷ ops) zero op e =
    let same : o ≡ op = cc in
    let place : k ≡ k + 0 = omega arith in
    ap (λ q. Some (correction p seed step k q (store_of held (unsigned_abs q.imm)))) same
    ∙ ap (λ n. Some (correction p seed step n op (store_of held (unsigned_abs op.imm)))) place
correction_at p seed step held k (o ∷ ops) (suc i) op e =
    let place : (k + 1) + i ≡ k + suc i = omega arith in
    correction_at p seed step held (k + 1) ops i op e ∙ ap (λ n. Some (correction p seed step n op (store_of held (unsigned_abs op.imm)))) place

pub length-corrections : (p : Profile) (seed step : ℕ) (held : List Cell) (k : ℕ) (ops : List Op)
    → length (corrections_from p seed step held k ops) ≡ length ops
length-corrections p seed step held k [] = refl
length-corrections p seed step held k (o ∷ ops) = ap suc (length-corrections p seed step held (k + 1) ops)

pub some_nat : (n m : ℕ) → Some n ≡ Some m → n ≡ m
some_nat n m e = cc
