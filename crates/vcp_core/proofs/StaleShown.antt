-- Where a stale operand shows.
use Rattle.std.proofs.Common.{◌≡◌, ◌≢◌, ℕ, zero, suc, ◌+◌, ◌==◌, Bool, true, false, cond, List, [], ◌∷◌, slice_get, Option, Some, refl, sym, subst, arith}
use Rattle.std.proofs.lemmas.Bool.Decides.{nat_tests}
use Rattle.vcp_base.specs.declared.code.Profile.{Profile}
use Rattle.coded_unit.specs.Words.{modulo}
use Rattle.op_graph.specs.declared.op.Op.{Op}
use Rattle.op_graph.specs.declared.op.Outlet.{Outlet}
use Rattle.op_graph.specs.Lists.{Lists}
use Rattle.signature_table.specs.Signatures.{Numbers, IsTableOf, expected}
use Rattle.fault_script.specs.declared.act.Act.TheVariants as act
use Rattle.fault_script.specs.declared.act.Fault.{Fault}
use Rattle.fault_script.specs.Changes.{Acts, acts_of}
use Rattle.fault_script.specs.Differences.{difference_at}
use Rattle.fault_injector.specs.Accepted.{RefusedAt, first_unaccepted, residue_under}
use Rattle.weight_audit.specs.ClosedForm.{StaleForm}
use Rattle.vcp_core.specs.StaleSeen.{StaleAt, shows_by}

not_zero : (m : ℕ) → m ≢ 0 → (m == 0) ≡ false
not_zero zero h = absurd (h refl)
not_zero (suc m) h = grind (arith, nat_tests)

-- there is this one, or a later one
found_or : (b : Bool) (r : RefusedAt) (later : Option RefusedAt) → (s : RefusedAt) × (later ≡ Some s) → (s : RefusedAt) × (cond b later (Some r) ≡ Some s)
found_or true r later found = found
found_or false r later found = (r, refl)

-- there is this one, where the test fails
found_here : (b : Bool) (r : RefusedAt) (later : Option RefusedAt) → b ≡ false → (s : RefusedAt) × (cond b later (Some r) ≡ Some s)
found_here b r later fails = (r, rw fails refl)

module _ (t : Numbers) (g : Lists) (acts : Acts) (n : ℕ) where
  -- the refusal of an output
  abbrev refusal : ℕ → Outlet → RefusedAt
  refusal number o =
      record { output = number; found = residue_under t g acts n o.op; expected = expected t.profile t.seed t.step o.op n }

  abbrev accepts : Outlet → Bool
  accepts o = modulo t.profile (difference_at t g acts n o.op) == 0

  -- where an output isn't accepted, there is a first one
  first_is : (count number : ℕ) (outputs : List Outlet) (o : Outlet) → slice_get outputs number ≡ Some o → accepts o ≡ false
      → (r : RefusedAt) × (first_unaccepted t g acts n count outputs ≡ Some r)
  first_is count number [] o there wrong = absurd cc
  first_is count zero (p ∷ outputs) o there wrong =
      let same : p ≡ o = cc in
      let fails : accepts p ≡ false = rw same wrong in
      found_here (accepts p) (refusal count p) (first_unaccepted t g acts n (suc count) outputs) fails
  first_is count (suc number) (p ∷ outputs) o there wrong =
      found_or (accepts p) (refusal count p) (first_unaccepted t g acts n (suc count) outputs) (first_is (suc count) number outputs o there wrong)

stale_is_refused : (t : Numbers) (g : Lists) → IsTableOf t g → StaleForm t g →
    (f : Fault) (op : Op) (j number : ℕ) (o : Outlet) (borders : ℕ) → slice_get g.operations f.op ≡ Some op → f.act ≡ act.OperandStale j →
    slice_get g.outputs number ≡ Some o → shows_by t g f op j o borders ≢ 0 →
    (r : RefusedAt) × (first_unaccepted t g (acts_of (f ∷ [])) (f.cycle + borders) 0 g.outputs ≡ Some r)
stale_is_refused t g table stale f op j number o borders there acts output weighs =
    let all : Acts = acts_of (f ∷ []) in
    let same : t.profile ≡ g.profile = table.0 in
    let P : Profile → Type 0 = λ p. modulo p (difference_at t g all (f.cycle + borders) o.op) ≡ 0 in
    let wrong : P t.profile → ⊥ = λ none. weighs ((stale f op j there acts o.op borders).0 (subst P same none)) in
    first_is t g all (f.cycle + borders) 0 number g.outputs o output (not_zero _ wrong)

pub stale_is_seen : (t : Numbers) (g : Lists) → IsTableOf t g → StaleForm t g →
    (f : Fault) (op : Op) (j number : ℕ) (o : Outlet) (borders : ℕ) → slice_get g.operations f.op ≡ Some op → f.act ≡ act.OperandStale j →
    slice_get g.outputs number ≡ Some o → StaleAt t g f op j o borders
stale_is_seen t g table stale f op j number o borders there acts output =
    let P : Profile → Type 0 = λ p. modulo p (difference_at t g (acts_of (f ∷ [])) (f.cycle + borders) o.op) ≡ 0 in
    let both = stale f op j there acts o.op borders in
    record {
      unseen = (λ accepted. both.0 (subst P table.0 accepted), λ zero. subst P (sym table.0) (both.1 zero));
      refused = λ weighs. stale_is_refused t g table stale f op j number o borders there acts output weighs;
    }
