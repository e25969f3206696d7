-- Places: what stands at one place of a list, and what is read off the places after it.
use Rattle.std.proofs.Common.{ℕ, zero, suc, ◌+◌, ◌<◌, ◌≤◌, ◌≡◌, ℤ, pos, negsuc, Bool, Option, refl, sym, ap, ◌∙◌, true, false, cond, List, [], ◌∷◌, ◌++◌, length}
use Rattle.std.proofs.Common.{map, drop, take, set, slice_get, Some, None, arith, add-one, subst, drop-cons, eq-eqb, append_assoc}
use Rattle.std.specs.Prelude.{FitsSigned, unsigned_abs}
use Rattle.std.specs.Int.{w64}
use Rattle.std.proofs.Math.Seq.{take-suc-set}
use Rattle.std.proofs.lemmas.List.{append-nil, drop_all}
use Rattle.std.proofs.lemmas.Option.{get_or_from_slice_get, slice_get_within}
use Rattle.std.proofs.lemmas.Bool.{ne_eqb}
use Rattle.std.proofs.lemmas.Bool.Decides.{nat_tests}
use Rattle.vcp_base.specs.declared.ty.Ty.{Ty}
use Rattle.vcp_base.specs.declared.ty.Ty.TheVariants as ty
use Rattle.vcp_base.specs.Types.{fits}
use Rattle.vcp_base.specs.declared.kind.StopKind.TheVariants as stop
use Rattle.vcp_base.specs.declared.code.Profile.{Profile}
use Rattle.coded_unit.specs.declared.call.Answer.{Answer}
use Rattle.coded_unit.specs.Words.{modulo, value_part}
use Rattle.op_graph.specs.declared.op.Op.{Op}
use Rattle.op_graph.specs.declared.op.Outlet.{Outlet}
use Rattle.op_graph.specs.declared.op.Loaded.{Loaded}
use Rattle.op_graph.specs.declared.op.Cell.{Cell}
use Rattle.op_graph.specs.Lists.{joined}
use Rattle.signature_table.specs.Signatures.{Numbers, expected, correction, store_of, corrections_from}
use Rattle.coded_machine.specs.declared.cycle_end.CycleEnd.{CycleEnd}
use Rattle.coded_machine.specs.declared.cycle_end.CycleEnd.TheVariants as end
use Rattle.coded_machine.specs.Calls.{word_at}
use Rattle.coded_machine.specs.CycleEnds.{first_outside, first_refused}

-- what stands at a place, and after it
pub drop_at : {X : Type 0} (xs : List X) (k : ℕ) (x : X) → slice_get xs k ≡ Some x → drop k xs ≡ x ∷ drop (k + 1) xs
drop_at xs k x there =
    let within : k < length xs = slice_get_within xs k x there in
    rw add-one (drop-cons xs k x within ∙ ap (λ y. y ∷ drop (suc k) xs) (get_or_from_slice_get xs k x x there))

pub map_at : {X Y : Type 0} (f : X → Y) (xs : List X) (k : ℕ) (x : X) → slice_get xs k ≡ Some x → map f (drop k xs) ≡ f x ∷ map f (drop (k + 1) xs)
map_at f xs k x there = ap (map f) (drop_at xs k x there)

-- nothing is left to map
pub map_done : {X Y : Type 0} (f : X → Y) (xs : List X) (k n : ℕ) {ys whole : List Y} → whole ≡ ys ++ map f (drop k xs) → n ≡ length xs → n ≤ k → ys ≡ whole
map_done f xs k n {ys = ys} so_far all ends =
    sym (so_far ∙ ap (λ rest. ys ++ map f rest) (drop_all k xs (subst (λ m. m ≤ k) all ends)) ∙ append-nil ys)

pub get_there : {X : Type 0} (xs : List X) (i : ℕ) → i < length xs → (x : X) × (slice_get xs i ≡ Some x)
get_there [] i lt = absurd (omega arith)
get_there (x ∷ xs) zero lt = (x, refl)
get_there (x ∷ xs) (suc i) lt = get_there xs i (omega arith)

-- one more value at the front of a list that is being set
pub front_set : {X : Type 0} (xs : List X) (i : ℕ) (x : X) (rest : List X) → i < length xs → take i xs ++ x ∷ rest ≡ take (i + 1) (set xs i x) ++ rest
front_set xs i x rest h = rw (add-one, take-suc-set xs i x h, append_assoc) refl

-- ---- scans of outputs

pub outside_passed : (p : Profile) (answers : List Answer) (outputs : List Outlet) (i : ℕ) (o : Outlet) → slice_get outputs i ≡ Some o
    → fits o.ty (value_part p (word_at answers o.op)) ≡ true →
    first_outside p answers (drop i outputs) ≡ first_outside p answers (drop (i + 1) outputs)
outside_passed p answers outputs i o there e = ap (first_outside p answers) (drop_at outputs i o there) ∙ rw e refl

pub outside_here : (p : Profile) (answers : List Answer) (outputs : List Outlet) (i : ℕ) (o : Outlet) → slice_get outputs i ≡ Some o
    → fits o.ty (value_part p (word_at answers o.op)) ≡ false →
    first_outside p answers (drop i outputs) ≡ Some (end.Stopped o.op stop.Operand)
outside_here p answers outputs i o there e = ap (first_outside p answers) (drop_at outputs i o there) ∙ rw e refl

pub refused_passed : (p : Profile) (t : Numbers) (n : ℕ) (answers : List Answer) (outputs : List Outlet) (i : ℕ) (o : Outlet) → slice_get outputs i ≡ Some o
    → modulo p (word_at answers o.op) ≡ expected p t.seed t.step o.op n →
    first_refused p t n answers i (drop i outputs) ≡ first_refused p t n answers (i + 1) (drop (i + 1) outputs)
refused_passed p t n answers outputs i o there e =
    ap (first_refused p t n answers i) (drop_at outputs i o there) ∙ rw (eq-eqb _ _ e) refl
    ∙ ap (λ j. first_refused p t n answers j (drop (i + 1) outputs)) (sym (add-one i))

pub refused_here : (p : Profile) (t : Numbers) (n : ℕ) (answers : List Answer) (outputs : List Outlet) (i : ℕ) (o : Outlet) → slice_get outputs i ≡ Some o
    → (modulo p (word_at answers o.op) ≡ expected p t.seed t.step o.op n → ⊥) →
    first_refused p t n answers i (drop i outputs) ≡ Some (end.Refused i (modulo p (word_at answers o.op)) (expected p t.seed t.step o.op n))
refused_here p t n answers outputs i o there e =
    ap (first_refused p t n answers i) (drop_at outputs i o there) ∙ rw (ne_eqb (modulo p (word_at answers o.op)) (expected p t.seed t.step o.op n) e) refl

inside_case : (b : Bool) (x : CycleEnd) (later : Option CycleEnd) → cond b later (Some x) ≡ None → (b ≡ true) × (later ≡ None)
inside_case true x later e = (refl, e)
inside_case false x later e = cc

-- where no output is outside its type, this one isn't
pub outside_none : (p : Profile) (answers : List Answer) (outputs : List Outlet) (i : ℕ) (o : Outlet) → slice_get outputs i ≡ Some o
    → first_outside p answers (drop i outputs) ≡ None →
    (fits o.ty (value_part p (word_at answers o.op)) ≡ true) × (first_outside p answers (drop (i + 1) outputs) ≡ None)
outside_none p answers outputs i o there e = inside_case _ _ _ (sym (ap (first_outside p answers) (drop_at outputs i o there)) ∙ e)

-- values of the types have 64 bits
pub fits_64 : (t : Ty) (v : ℤ) → fits t v ≡ true → FitsSigned w64 v
fits_64 ty.Bool (pos n) h = grind (arith, nat_tests)
fits_64 ty.Bool (negsuc n) h = grind (arith, nat_tests)
fits_64 ty.Int (pos n) h = grind (arith, nat_tests)
fits_64 ty.Int (negsuc n) h = grind (arith, nat_tests)
fits_64 ty.Dint (pos n) h = grind (arith, nat_tests)
fits_64 ty.Dint (negsuc n) h = grind (arith, nat_tests)
fits_64 ty.Lint (pos n) h = grind (arith, nat_tests)
fits_64 ty.Lint (negsuc n) h = grind (arith, nat_tests)

-- ---- entries of a graph and of its table

-- a cell has its STORE in the list of them
pub store_at : (loads : List Loaded) (stores : List ℕ) (i : ℕ) (c : Cell) → slice_get (joined loads stores) i ≡ Some c → slice_get stores i ≡ Some c.store
store_at [] stores i c e = absurd cc
store_at (l ∷ loads) [] i c e = absurd cc
store_at (l ∷ loads) (n ∷ stores) zero c e =
    let first : Cell = record { name = l.name; ty = l.ty; init = l.init; load = l.load; store = n } in
    let same : first ≡ c = cc in
    ap (λ (d : Cell). Some d.store) same
store_at (l ∷ loads) (n ∷ stores) (suc i) c e = store_at loads stores i c e

pub length-corrections : (p : Profile) (seed step : ℕ) (held : List Cell) (k : ℕ) (ops : List Op)
    → length (corrections_from p seed step held k ops) ≡ length ops
length-corrections p seed step held k [] = refl
length-corrections p seed step held k (op ∷ ops) = ap suc (length-corrections p seed step held (k + 1) ops)

pub correction_at : (p : Profile) (seed step : ℕ) (held : List Cell) (k : ℕ) (ops : List Op) (i : ℕ) (op : Op) (r : ℕ) → slice_get ops i ≡ Some op
    → slice_get (corrections_from p seed step held k ops) i ≡ Some r →
    r ≡ correction p seed step (k + i) op (store_of held (unsigned_abs op.imm))
correction_at p seed step held k [] i op r there e = absurd cc
correction_at p seed step held k (x ∷ ops) zero op r there e =
    let same : x ≡ op = cc in
    let is : correction p seed step k x (store_of held (unsigned_abs x.imm)) ≡ r = cc in
    sym is ∙ ap (λ (o : Op). correction p seed step k o (store_of held (unsigned_abs o.imm))) same
    ∙ ap (λ j. correction p seed step j op (store_of held (unsigned_abs op.imm))) (omega arith)
correction_at p seed step held k (x ∷ ops) (suc i) op r there e =
    correction_at p seed step held (k + 1) ops i op r there e ∙ ap (λ j. correction p seed step j op (store_of held (unsigned_abs op.imm))) (omega arith)
