-- RestTelling: what is reported of the later readings of a word, where the first output refuses what they come to.
use Rattle.std.proofs.Common.{◌≡◌, ℕ, suc, ◌-◌, ◌<◌, true, List, drop, length, map, slice_get, slice_index_or, pos, Some, ap, sym, subst, ◌∙◌, refl, arith}
use Rattle.std.proofs.lemmas.List.{length-map}
use Rattle.coded_unit.specs.WordLaws.{WordLaws}
use Rattle.op_graph.specs.Laws.{EntryLaws}
use Rattle.op_graph.specs.Lists.{Lists}
use Rattle.op_graph.specs.Rules.{IsPart}
use Rattle.range_walk.specs.declared.range.Stops.{Stops}
use Rattle.signature_table.specs.Signatures.{Numbers}
use Rattle.weight_audit.specs.Superposition.{WeightsAreOfPaths}
use Rattle.fault_cover.specs.declared.nearest.Nearest.{Nearest}
use Rattle.fault_cover.specs.declared.rests.Rest.{Rest}
use Rattle.fault_cover.specs.declared.starts.Start.{Start}
use Rattle.fault_cover.specs.declared.effect.Effect.TheVariants as told
use Rattle.fault_cover.specs.declared.telling.Outlook.{Outlook}
use Rattle.fault_cover.specs.declared.telling.Outlook.TheVariants as outlook
use Rattle.fault_cover.specs.Beginnings.{start_at, starts_at}
use Rattle.fault_cover.specs.Firsts.{outlook_of}
use Rattle.fault_cover.specs.Sources.{Refuses, Source, as_source, comes, readings}
use Rattle.fault_cover.specs.Surveys.{IsMapped, IsRest, IsSurvey, Surveyed}
use Rattle.fault_cover.specs.Telling.{TellsOf, subject}
use Rattle.fault_cover.proofs.Dividing.{refuses_of}
use Rattle.fault_cover.proofs.Placing.{left_of}
use Rattle.fault_cover.proofs.Resting.{rest_behind}
use Rattle.fault_cover.proofs.Tellings.{is_out, outputs_first, told_at_outputs}

module _ (g : Lists) (v : Surveyed) (mapped : IsMapped g v) (k : ℕ) (starts : List Start) (there : slice_get v.readings k ≡ Some starts) where
  pub many_kept : length starts ≡ length (readings g k)
  many_kept =
      ap length (mapped.maps.readings.each k starts there) ∙ length-map (map as_source (readings g k)) (start_at g.profile)
      ∙ length-map (readings g k) as_source

  -- the starts that are left are those of the readings that are
  pub left_is : (right : ℕ) (left : List Start) → left ≡ drop right starts → left ≡ starts_at g.profile (map as_source (drop right (readings g k)))
  left_is right left is = is ∙ ap (drop right) (mapped.maps.readings.each k starts there) ∙ left_of g.profile right (readings g k)

  pub many_rests : (rests : List Rest) → slice_get v.rests k ≡ Some rests → length rests ≡ length (readings g k)
  many_rests rests that = (mapped.rests.each k starts rests there that).many ∙ many_kept

  -- what is kept of them
  pub rest_of_left : (right : ℕ) (left : List Start) (rests : List Rest) (x : Rest) → left ≡ drop right starts → slice_get v.rests k ≡ Some rests
      → right < length (readings g k) → slice_get rests (length rests - suc right) ≡ Some x → IsRest g v left x
  rest_of_left right left rests x is that inside at_it =
      let many = many_kept in
      subst (λ xs. IsRest g v xs x) (sym is)
      (rest_behind g v starts rests right x (mapped.rests.each k starts rests there that) (omega (arith, inside, many)) at_it)

module _ (g : Lists) (t : Numbers) (stops : List Stops) (v : Surveyed) (survey : IsSurvey (subject g t v.horizon stops) v) (from : List Source)
    (starts : List Start) (is : starts ≡ starts_at g.profile from) (x : Rest) (rest : IsRest g v starts x) (o : Outlook)
    (o_is : o ≡ outlook_of v.horizon x.output x.stop) (n : Nearest) (there : o ≡ outlook.Outputs n) (unreached : WeightsAreOfPaths g)
    (words : WordLaws g.profile) (entries : EntryLaws) (part : IsPart g) where
  pub sum_refused : Refuses g.profile true (pos x.sum) → TellsOf (subject g t v.horizon stops) true from (told.Refused n.borders)
  sum_refused refuses =
      let m = survey.mapped.maps in
      let first = outputs_first v.horizon x.output x.stop n (sym o_is ∙ there) in
      let out = is_out g v v.outputs starts x.output n m refl rest.output first.0 in
      let number : slice_index_or v.numbers n.op 0 ≡ out.0 = ap (λ q. slice_index_or v.numbers q 0) (sym out.3) ∙ m.numbers.each out.0 out.1 out.2 in
      let output = ap (slice_get g.outputs) number ∙ out.2 in
      let came = rest.sum n out.1 first.0 output first.1 from is in
      told_at_outputs g t stops v survey true from starts is v.outputs v.stops refl refl x.output x.stop rest.output rest.stop o o_is n there unreached words
      entries part (slice_index_or v.numbers n.op 0) refl (told.Refused n.borders) (
        refl,
        record {
          output = slice_index_or v.numbers n.op 0;
          outlet = out.1;
          there = output;
          refuses = refuses_of g.profile words true (comes g out.1.op n.borders from) (subst (λ r. Refuses g.profile true (pos r)) came refuses);
        },
      )
