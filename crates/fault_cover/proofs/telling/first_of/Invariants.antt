use Rattle.std.proofs.Common.{◌≡◌, ℕ, ◌<◌, slice_get, Some}
use Rattle.fault_cover.specs.declared.nearest.Nearest.{Nearest}
use Rattle.fault_cover.specs.declared.starts.Start.{Start}
use Rattle.fault_cover.specs.Walks.{further, kept, NotFurther}
use Rattle.fault_cover.proofs.telling.first_of.Given as goal

abbrev pub invariant-starts : goal.invariant-starts
invariant-starts l = record {
  reached : (n : Nearest) → l.first ≡ Some n → (i : ℕ) × (s : Start) × (slice_get l.starts i ≡ Some s) × (further (kept l.found s.op) s.borders ≡ Some n);
  least : (j : ℕ) (s : Start) → j < l.i → slice_get l.starts j ≡ Some s → NotFurther l.first (further (kept l.found s.op) s.borders);
}
