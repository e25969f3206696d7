-- Cycles: the values of a cycle are given by its operations in turn, and what holds of the cells in each cycle holds in all.
use Rattle.std.proofs.Common.{◌≡◌, ◌≢◌, ℕ, zero, suc, ◌+◌, ◌<◌, ◌≤◌, ℤ, pos, Bool, true, ◌&&◌, List, [], ◌∷◌, ◌++◌, length, take, slice_get, Option, Some, None, Ok, Err, IfSome, refl, sym, ap, subst, ◌∙◌, append_assoc, append-nil, length-append, arith, below_more, take_all}
use Rattle.std.specs.Prelude.{unsigned_abs}
use Rattle.std.specs.Option.{is_some}
use Rattle.std.proofs.lemmas.Bool.{and_parts}
use Rattle.std.proofs.lemmas.Bool.Decides.{Decides-int_eq}
use Rattle.std.proofs.lemmas.List.{take-append-le, length_push, get_or_push}
use Rattle.std.proofs.Math.ListN.{get_or-append}
use Rattle.std.proofs.lemmas.Option.{slice_get_within}
use Rattle.vcp_base.specs.declared.kind.Kind.{Kind}
use Rattle.vcp_base.specs.declared.kind.Kind.TheVariants as kind
use Rattle.vcp_base.specs.declared.kind.StopKind.{StopKind}
use Rattle.vcp_base.specs.declared.kind.StopKind.TheVariants as stop
use Rattle.vcp_base.specs.declared.ty.Ty.{Ty}
use Rattle.vcp_base.specs.declared.ty.Ty.TheVariants as ty
use Rattle.vcp_base.specs.Kinds.{Outcome}
use Rattle.vcp_base.specs.Types.{fits}
use Rattle.vcp_base.specs.Values.{at}
use Rattle.op_graph.specs.declared.op.Op.{Op}
use Rattle.op_graph.specs.declared.op.Var.{Var}
use Rattle.op_graph.specs.declared.rules.Entry.{Entry}
use Rattle.op_graph.specs.declared.rules.Place.{Place}
use Rattle.op_graph.specs.Lists.{Lists}
use Rattle.op_graph.specs.Laws.{OperandLaws, EntryLaws}
use Rattle.op_graph.specs.Rules.{IsGraph, scope, place_of, numbered, entry_of, kind_fits, from_fits, ty_fits, imm_fits, is_input, same_type}
use Rattle.op_graph.specs.GraphRun.{own, outcome_of, Cycle, after, cycle_from, cycle, initial, stored, Run, after_cycle, run_from, unless_stopped, cells_after, CellsFit}
use Rattle.range_walk.specs.declared.range.Range.{Range}
use Rattle.range_walk.specs.declared.range.Stops.{Stops}
use Rattle.range_audit.specs.Audit.{RowFits, RowsFit, RowsIn, IsAuditWithin}
use Rattle.range_walk.specs.Known.{KnownRanges, is_named}
use Rattle.range_walk.specs.Intervals.{RowIn}
use Rattle.range_audit.specs.Searching.{HeldAfter, IsHeld, Always, IsSound}
use Rattle.range_audit.proofs.Steps.{get_middle}
use Rattle.range_walk.specs.Walking.{Given, OwnFits}

-- ---- the values of a cycle

take_push : (values : List ℤ) (v : ℤ) (i : ℕ) → i ≤ length values → take i (values ++ v ∷ []) ≡ take i values
take_push values v i le = take-append-le i values (v ∷ []) le

at_push : (values : List ℤ) (v : ℤ) (i : ℕ) → i < length values → at (values ++ v ∷ []) i ≡ at values i
at_push values v i lt = get_or-append values (v ∷ []) (pos 0) i lt

at_last : (values : List ℤ) (v : ℤ) → at (values ++ v ∷ []) (length values) ≡ v
at_last values v = get_or_push values v (pos 0) (length values) refl

given_none : (ops : List Op) (held row : List ℤ) → Given ops held row []
given_none ops held row = record { few = omega arith; each = λ i op lt there. absurd (omega arith) }

given_more : (ops : List Op) (held row values : List ℤ) (op : Op) (v : ℤ) → Given ops held row values → slice_get ops (length values) ≡ Some op
    → outcome_of held row values op ≡ Ok v → Given ops held row (values ++ v ∷ [])
given_more ops held row values op v given there is =
    let within : length values < length ops = slice_get_within ops (length values) op there in
    let P : ℕ → Type 0 = λ i. (x : Op) → slice_get ops i ≡ Some x → outcome_of held row (take i (values ++ v ∷ [])) x ≡ Ok (at (values ++ v ∷ []) i) in
    let below : (i : ℕ) → i < length values → P i = λ i lt x e.
    rw (take_push values v i (omega (arith, lt)), at_push values v i lt) (given.each i x lt e) in
    let here : P (length values) = λ x e.
    let same : op ≡ x = cc in
    let le : length values ≤ length values = omega arith in
    rw (take_push values v (length values) le, take_all (length values) values le, at_last values v, ← same) is in
    let all : (i : ℕ) → i < length values + 1 → P i = below_more P (length values) below here in
    record { few = omega (arith, length_push values v); each = λ i x lt e. all i (omega (arith, length_push values v)) x e }

-- the values of a cycle are given; where it stops, the next operation gives why; else they are all
record IsCycle (ops : List Op) (held row : List ℤ) (c : Cycle) : Type 0 where
  given : Given ops held row c.values
  stopped : (why : StopKind) → c.stop ≡ Some why → (op : Op) × (slice_get ops (length c.values) ≡ Some op) × (outcome_of held row c.values op ≡ Err why)
  whole : c.stop ≡ None → length c.values ≡ length ops

is_after : (ops : List Op) (held row values : List ℤ) (op : Op) (next : ℤ → Cycle) (o : Outcome) → outcome_of held row values op ≡ o
    → slice_get ops (length values) ≡ Some op → Given ops held row values → ((v : ℤ) → o ≡ Ok v → IsCycle ops held row (next v))
    → IsCycle ops held row (after values next o)
is_after ops held row values op next (Ok v) e there given rest = rest v refl
is_after ops held row values op next (Err why) e there given rest =
    record { given = given; stopped = λ w is. let same : why ≡ w = cc in (op, there, e ∙ ap Err same); whole = λ is. absurd cc }

cycle_is : (held row values : List ℤ) (before ops : List Op) → Given (before ++ ops) held row values → length values ≡ length before
    → IsCycle (before ++ ops) held row (cycle_from held row values ops)
cycle_is held row values before [] given len = record {
  given = given;
  stopped = λ why is. absurd cc;
  whole = λ is. len ∙ ap length (sym (append-nil before));
}
cycle_is held row values before (op ∷ ops) given len =
    let there : slice_get (before ++ op ∷ ops) (length values) ≡ Some op = ap (slice_get (before ++ op ∷ ops)) len ∙ get_middle before op ops in
    is_after (before ++ op ∷ ops) held row values op (λ v. cycle_from held row (values ++ v ∷ []) ops) (outcome_of held row values op) refl there given
    (λ v is.
    let more : Given (before ++ op ∷ ops) held row (values ++ v ∷ []) = given_more (before ++ op ∷ ops) held row values op v given there is in
    let many : length (values ++ v ∷ []) ≡ length (before ++ op ∷ []) = simp length-append (omega arith) in
    subst (λ all. IsCycle all held row (cycle_from held row (values ++ v ∷ []) ops)) (append_assoc before (op ∷ []) ops)
    (cycle_is held row (values ++ v ∷ []) (before ++ op ∷ []) ops
    (subst (λ all. Given all held row (values ++ v ∷ [])) (sym (append_assoc before (op ∷ []) ops)) more) many))

of_cycle : (g : Lists) (held row : List ℤ) → IsCycle g.operations held row (cycle g held row)
of_cycle g held row = cycle_is held row [] [] g.operations (given_none g.operations held row) refl

-- a cycle without a stop gives each of its operations a value
pub whole_cycle : (g : Lists) (held row : List ℤ) → (cycle g held row).stop ≡ None
    → Given g.operations held row (cycle g held row).values × (length (cycle g held row).values ≡ length g.operations)
whole_cycle g held row whole = let c = of_cycle g held row in (c.given, c.whole whole)

-- ---- the cells

kept_after : (g : Lists) (inputs : List Range) (Kept : List ℤ → Type 0) → Kept (initial g)
    → ((held row : List ℤ) → Kept held → RowIn inputs row → (cycle g held row).stop ≡ None → Kept (stored g (cycle g held row).values))
    → (n : ℕ) (held : List ℤ) → HeldAfter g inputs n held → Kept held
kept_after g inputs Kept first next zero held is = subst Kept (sym is) first
kept_after g inputs Kept first next (suc n) held is =
    subst Kept (sym is.5) (next is.0 is.1 (kept_after g inputs Kept first next n is.0 is.2) is.3 is.4)

-- what holds of the cells at first, and stays so in a cycle that doesn't stop, always holds
pub always : (g : Lists) (inputs : List Range) (Kept : List ℤ → Type 0) → Kept (initial g)
    → ((held row : List ℤ) → Kept held → RowIn inputs row → (cycle g held row).stop ≡ None → Kept (stored g (cycle g held row).values))
    → Always g inputs Kept
always g inputs Kept first next held is = kept_after g inputs Kept first next is.0 held is.1

pub always_fit : (g : Lists) (inputs : List Range) → OperandLaws → IsGraph g → Always g inputs (CellsFit g)
always_fit g inputs laws graph =
    always g inputs (CellsFit g) (laws.cells_at_first g graph) (λ held row fit row_in whole. laws.cells_kept g held row graph fit whole)

unless : (P : List ℤ → Type 0) (held next : List ℤ) (later : List ℤ → List ℤ) (s : Option StopKind) → P held → (s ≡ None → P (later next))
    → P (unless_stopped held next later s)
unless P held next later None p q = q refl
unless P held next later (Some why) p q = p

held_more : (g : Lists) (inputs : List Range) (held row : List ℤ) → IsHeld g inputs held → RowIn inputs row → (cycle g held row).stop ≡ None
    → IsHeld g inputs (stored g (cycle g held row).values)
held_more g inputs held row is row_in whole = (suc is.0, (held, row, is.1, row_in, whole, refl))

held_rows : (g : Lists) (inputs : List Range) (held : List ℤ) → IsHeld g inputs held → (rows : List (List ℤ)) → RowsIn inputs rows
    → IsHeld g inputs (cells_after g held rows)
held_rows g inputs held is [] rows_in = is
held_rows g inputs held is (row ∷ rows) rows_in =
    unless (IsHeld g inputs) held (stored g (cycle g held row).values) (λ next. cells_after g next rows) (cycle g held row).stop is
    (λ whole. held_rows g inputs (stored g (cycle g held row).values) (held_more g inputs held row is (rows_in 0 row refl) whole) rows
    (λ n r e. rows_in (suc n) r e))

-- ---- inputs

same_fits : (s t : Ty) (v : ℤ) → same_type s t ≡ true → fits s v ≡ true → fits t v ≡ true
same_fits ty.Bool ty.Bool v same h = h
same_fits ty.Int ty.Int v same h = h
same_fits ty.Dint ty.Dint v same h = h
same_fits ty.Lint ty.Lint v same h = h
same_fits _ _ v same h = absurd cc

first_of_four : (a b c d : Bool) → (a && b && c && d) ≡ true → a ≡ true
first_of_four a b c d h = (and_parts a b (and_parts (a && b) c (and_parts (a && b && c) d h).0).0).0

no_entry : (o : Option Entry) → o ≡ None → is_some o ≡ true → ⊥
no_entry None is h = absurd cc
no_entry (Some x) is h = absurd cc

-- the value of an INPUT in a row that fits
input_value : (p : Place) (i : ℕ) (from to : Ty) (imm : ℤ) (row : List ℤ) (o : Option Var) → p.input ≡ numbered i o → is_some p.input ≡ true
    → from_fits p.input kind.Input from ≡ true → same_type from to ≡ true → imm_fits p.input kind.Input to imm ≡ true
    → ((v : Var) → o ≡ Some v → fits v.ty (at row i) ≡ true) → fits to (at row (unsigned_abs imm)) ≡ true
input_value p i from to imm row None is there types same number fit = absurd (no_entry p.input is there)
input_value p i from to imm row (Some v) is there types same number fit =
    let first : fits from (at row i) ≡ true =
    same_fits v.ty from (at row i) (subst (λ (e : Option Entry). from_fits e kind.Input from ≡ true) is types) (fit v refl) in
    let second : fits to (at row i) ≡ true = same_fits from to (at row i) same first in
    let place : imm ≡ pos i = (Decides-int_eq imm (pos i)).0 (subst (λ (e : Option Entry). imm_fits e kind.Input to imm ≡ true) is number) in
    subst (λ n. fits to (at row n) ≡ true) (sym (ap unsigned_abs place)) second

own_fits_by : (p : Place) (i : ℕ) (k : Kind) (from to : Ty) (imm : ℤ) (row : List ℤ) (o : Option Var) → p.input ≡ numbered i o → kind_fits p k ≡ true
    → from_fits (entry_of p k) k from ≡ true → ty_fits k from to ≡ true → imm_fits (entry_of p k) k to imm ≡ true
    → ((v : Var) → o ≡ Some v → fits v.ty (at row i) ≡ true) → is_input k ≡ true → fits to (own row k imm) ≡ true
own_fits_by p i kind.Input from to imm row o is there types same number fit input =
    input_value p i from to imm row o is (first_of_four (is_some p.input) _ _ _ there) types same number fit
own_fits_by p i _ from to imm row o is there types same number fit input = absurd cc

own_fits : (g : Lists) (row : List ℤ) (i : ℕ) (op : Op) → EntryLaws → IsGraph g → RowFits g row → slice_get g.operations i ≡ Some op → OwnFits row op
own_fits g row i op laws graph fit there =
    let rules = laws.operation g i op graph.part there in
    own_fits_by (place_of (scope g) i) i op.kind op.from op.ty op.imm row (slice_get g.inputs i) refl rules.kind rules.from rules.ty rules.imm
    (λ v e. fit i v e)

-- ---- the promises

named_after : (g : Lists) (stops : List Stops) (values : List ℤ) (next : List ℤ → Run) (s : Option StopKind)
    → ((why : StopKind) → s ≡ Some why → is_named why (slice_get stops (length values)) ≡ true)
    → (s ≡ None → IfSome (next (stored g values)).end (λ e. is_named e.kind (slice_get stops e.op) ≡ true))
    → IfSome (after_cycle g values next s).end (λ e. is_named e.kind (slice_get stops e.op) ≡ true)
named_after g stops values next None named rest = rest refl
named_after g stops values next (Some why) named rest = named why refl

module _ (g : Lists) (inputs : List Range) (a : KnownRanges) (laws : OperandLaws) (entries : EntryLaws) (graph : IsGraph g) (sound : IsSound g inputs a) where
  named_from : (held row : List ℤ) → IsHeld g inputs held → RowIn inputs row → RowFits g row → (why : StopKind) → (cycle g held row).stop ≡ Some why
      → is_named why (slice_get a.stops (length (cycle g held row).values)) ≡ true
  named_from held row is row_in row_fits why stops =
      let c = of_cycle g held row in
      let next = c.stopped why stops in
      let values = (cycle g held row).values in
      let no : why ≢ stop.Operand = λ e. laws.cycle g held row graph (always_fit g inputs laws graph held is) (stops ∙ ap Some e) in
      sound.found.names held row values next.0 why is row_in c.given next.1 (own_fits g row (length values) next.0 entries graph row_fits next.1) no next.2

  ends_from : (held : List ℤ) → IsHeld g inputs held → (rows : List (List ℤ)) → RowsIn inputs rows → RowsFit g rows
      → IfSome (run_from g held rows).end (λ e. is_named e.kind (slice_get a.stops e.op) ≡ true)
  ends_from held is [] rows_in rows_fit = tt
  ends_from held is (row ∷ rows) rows_in rows_fit =
      named_after g a.stops (cycle g held row).values (λ kept. run_from g kept rows) (cycle g held row).stop
      (λ why stops. named_from held row is (rows_in 0 row refl) (rows_fit 0 row refl) why stops)
      (λ whole. ends_from (stored g (cycle g held row).values) (held_more g inputs held row is (rows_in 0 row refl) whole) rows
      (λ n r e. rows_in (suc n) r e) (λ n r e. rows_fit (suc n) r e))

  -- what is found of each cycle is told of all runs
  pub audit : IsAuditWithin g inputs a
  audit = record {
    known = sound.known;
    stops = sound.stops;
    holds = λ rows row rows_in row_in.
        let held = cells_after g (initial g) rows in
        sound.found.fits held row (cycle g held row).values (held_rows g inputs (initial g) (0, refl) rows rows_in) row_in (of_cycle g held row).given;
    names = λ rows row why rows_in row_in row_fits stops.
        named_from (cells_after g (initial g) rows) row (held_rows g inputs (initial g) (0, refl) rows rows_in) row_in row_fits why stops;
    ends = λ rows rows_in rows_fit. ends_from (initial g) (0, refl) rows rows_in rows_fit;
    able = sound.able;
    types = sound.types;
  }
