-- Covers: what writing a cover gives.
use Rattle.std.proofs.Common.{◌≡◌, ℕ, List, Err, Bool, [], refl, subst, sym}
use Rattle.std.specs.Io.KnownBytes.{Appends}
use Rattle.vcp_outside.specs.Counts.{Rose}
use Rattle.vcp_outside.specs.Seen.{SinkSeen}
use Rattle.vcp_outside.specs.Written.{AppendsPart}
use Rattle.fault_cover.specs.declared.class.CoverClasses.{CoverClasses}
use Rattle.fault_cover.specs.Certain.{CertainAtOperation, CertainAtRest, CertainOfSameKind}
use Rattle.fault_cover.specs.declared.writing.Uncovered.{Uncovered}
use Rattle.fault_cover.specs.declared.writing.Uncovered.TheVariants as uncovered
use Rattle.fault_cover.specs.CoverText.{CoverOf}
use Rattle.fault_cover.specs.Surveys.{IsSurvey, IsSurveyOf, Surveyed}
use Rattle.fault_cover.specs.Telling.{Subject, subject}
use Rattle.fault_cover.specs.Writing.{WritesCover}
use Rattle.vcp_inputs.specs.declared.images.Image.{Image}
use Rattle.vcp_study_core.specs.Parts.{digits}
use Rattle.vcp_study_core.specs.Texts.{IsCover}
use Rattle.vcp_study_core.proofs.Facts.{appends-nothing}

-- a survey is one by the operations that are told to stop
pub as_survey : (i : Image) (horizon : ℕ) (v : Surveyed) (of : IsSurveyOf i.graph horizon v) → IsSurvey (subject i.graph i.table v.horizon of.stops) v
as_survey i horizon v of = record { horizon = refl; mapped = of.mapped; able_are = of.able_are }

-- the cover of an image
pub covered : (i : Image) (horizon : ℕ) (v : Surveyed) (of : IsSurveyOf i.graph horizon v) (classes : CoverClasses) (digest text : List ℕ) (found : Bool)
    → digest ≡ digits i → CertainAtOperation → CertainAtRest → CertainOfSameKind
    → CoverOf (subject i.graph i.table v.horizon of.stops) classes digest text found → IsCover i horizon classes text found
covered i horizon v of classes digest text found is certain at_rest same_kind cover = record {
  stops = of.stops;
  names = of.names;
  cover = subst (λ d. CoverOf (subject i.graph i.table horizon of.stops) classes d text found) is
      (subst (λ h. CoverOf (subject i.graph i.table h of.stops) classes digest text found) of.horizon_is cover);
  certain = certain;
  at_rest = at_rest;
  same_kind = same_kind;
}

-- a sink that is as it was has nothing more
pub nothing_appended : {old new : SinkSeen} → new ≡ old → Appends old.written new.written []
nothing_appended {old = old} same = subst (λ (s : SinkSeen). Appends old.written s.written []) (sym same) (appends-nothing old.written)

-- what is said of a cover that isn't written whole, by its cause
pub lacks_memory : (s : Subject) (classes : CoverClasses) (digest : List ℕ) (old new : SinkSeen) (why : Uncovered) → why ≡ uncovered.Memory
    → WritesCover s classes digest old new (Err why) → new ≡ old
lacks_memory s classes digest old new why is writes = subst (λ (u : Uncovered). WritesCover s classes digest old new (Err u)) is writes

pub fails_midway : (s : Subject) (classes : CoverClasses) (digest : List ℕ) (old new : SinkSeen) (why : Uncovered) → why ≡ uncovered.Failed
    → WritesCover s classes digest old new (Err why)
    → (text : List ℕ) × (left : Bool) × CoverOf s classes digest text left × AppendsPart old.written new.written text × Rose old.faults new.faults
fails_midway s classes digest old new why is writes = subst (λ (u : Uncovered). WritesCover s classes digest old new (Err u)) is writes
