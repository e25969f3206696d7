use Rattle.std.proofs.Common.{length, sym, ap, subst, ◌∙◌}
use Rattle.pictures.specs.Depths.{AreBelowTheirNumber}
use Rattle.pictures.proofs.layout.layout_of.Goals as goal

pub places_by-requires : goal.places_by-requires
places_by-requires c = record {
  value = c.as_slice.ensures.value ∙ c.in_ok-depths.ensures.value;
  many = ap length c.as_slice.ensures.value ∙ c.in_ok-depths.ensures.many;
  low = subst AreBelowTheirNumber (sym c.as_slice.ensures.value) c.in_ok-depths.ensures.low;
}
