use mir.Val.{Fits}
use Rattle.std.proofs.lemmas.Result.{IfOk-from_err}
use Rattle.std.proofs.Common.{ℕ, ◌<◌, ◌≤◌, ◌^◌, w32, ◌≡◌, ◌∙◌, sym, ap, subst, length, ◌∷◌, [], ◌++◌, Bool, Some, None, length-set, arith}
use Rattle.csv.specs.Records.{fields_of}
use Rattle.input_rows.specs.Cells.{trimmed}
use Rattle.input_rows.specs.Header.{place_of}
use Rattle.input_rows.proofs.Headers.{no_place, one_place, order-here, other_length, order_found}
use Rattle.input_rows.proofs.header.order.Goals as goal

-- the number of a column has 32 bits
small_place : {p n : ℕ} → p < n → n < 2 ^ 32 → Fits w32 p
small_place within few = record { fits = omega (arith, within, few) }

pub returns-in-None : goal.returns-in-None
returns-in-None c =
    let fields = fields_of c.args.header.now in
    let none : place_of c.args.columns.now c.fields.free.items (trimmed c.field.result.now) ≡ None = cc in
    sym (order-here c.args.columns.now fields (omega arith) ∙ no_place c.args.columns.now c.fields.free.items fields c.fields.places.items c.fields.j c.field.result.now _ c.fields.invariant.1 c.field.ensures none)

pub fields-preserved : goal.fields-preserved
fields-preserved c =
    let fields = fields_of c.args.header.now in
    let one : place_of c.args.columns.now c.fields.free.items (trimmed c.field.result.now) ≡ Some c.in-Some.place = cc in
    let push : c.push.new.self.items ≡ c.fields.places.items ++ c.in-Some.place ∷ [] = c.in_ok-push-in-Some.ensures.items in
    (omega (arith, length-set {A = Bool}, c.fields.invariant.0), rw push (one_place c.args.columns.now c.fields.free.items fields c.fields.places.items c.fields.j c.in-Some.place c.field.result.now _ c.fields.invariant.1 c.field.ensures one))

pub returns-in_err-free : goal.returns-in_err-free
returns-in_err-free c = IfOk-from_err c.from_residual.result _ c.from_residual.ensures.0

pub returns-in_err-push-in-Some : goal.returns-in_err-push-in-Some
returns-in_err-push-in-Some c = IfOk-from_err c.from_residual-in_err-push-in-Some.result _ c.from_residual-in_err-push-in-Some.ensures.0

pub overflow_cast-place : goal.overflow_cast-place
overflow_cast-place c = small_place c.in-Some.ensures.within c.requires

pub returns-then-len : goal.returns-then-len
returns-then-len c = other_length c.args.columns.now (fields_of c.args.header.now) c.len.ensures c.len-2.ensures c.if-len.true

pub free_place-requires : goal.free_place-requires
free_place-requires c = ap length c.deref.ensures.value ∙ c.fields.invariant.0

pub field-requires : goal.field-requires
field-requires c = subst (λ n. c.fields.j < n) c.len-j-end.ensures c.fields-test.true

pub returns : goal.returns
returns c =
    order_found c.args.columns.now (fields_of c.args.header.now) c.fields.free.items c.fields.places.items c.fields.j c.len.ensures c.len-2.ensures c.if-len.false
    (subst (λ n. n ≤ c.fields.j) c.len-j-end.ensures c.fields-test.false) c.fields.invariant.1
