use Rattle.std.proofs.Common.{refl}
use Rattle.fault_cover.specs.Telling.{subject}
use Rattle.vcp_study_core.specs.Texts.{IsCover, WritesOne}
use Rattle.vcp_study_core.proofs.Carrying.{broken, no_memory, whole}
use Rattle.vcp_study_core.proofs.Facts.{appends-nothing}
use Rattle.vcp_study_core.proofs.Covers.{as_survey, covered, fails_midway, lacks_memory, nothing_appended}
use Rattle.vcp_study_core.proofs.cover.write_survey.Goals as goal

pub returns-in-Ok-write_cover_text : goal.returns-in-Ok-write_cover_text
returns-in-Ok-write_cover_text g c =
    let i = c.args.image.now in
    let of = c.requires.survey in
    let w = c.in-Ok-write_cover_text.ensures of.stops (as_survey i c.args.horizon c.args.survey.now of) in
    whole (WritesOne (IsCover i c.args.horizon c.args.classes)) _ _ w.0 c.in-Ok-write_cover_text.found (
      w.0,
      c.in-Ok-write_cover_text.found,
      covered i c.args.horizon c.args.survey.now of c.args.classes c.in-Ok.digest w.0 c.in-Ok-write_cover_text.found c.in-Ok.ensures.digits
          c.what_is_told_is_certain.ensures.at_operation c.what_is_told_is_certain.ensures.at_rest c.what_is_told_is_certain.ensures.same_kind w.1,
      refl,
    ) w.2

pub returns-in-Err-Memory : goal.returns-in-Err-Memory
returns-in-Err-Memory g c =
    let i = c.args.image.now in
    let of = c.requires.survey in
    no_memory _ _ _
    (nothing_appended
    (lacks_memory (subject i.graph i.table c.args.survey.now.horizon of.stops) c.args.classes c.in-Ok.digest (g.O.Sink.seen c.args.out.now)
    (g.O.Sink.seen c.write_cover.new.out) c.in-Err-Memory.field-0 c.in-Err-Memory.field-0-is
    (c.in-Err-Memory.ensures of.stops (as_survey i c.args.horizon c.args.survey.now of))))

pub returns-in-Err-Failed : goal.returns-in-Err-Failed
returns-in-Err-Failed g c =
    let i = c.args.image.now in
    let of = c.requires.survey in
    let w =
    fails_midway (subject i.graph i.table c.args.survey.now.horizon of.stops) c.args.classes c.in-Ok.digest (g.O.Sink.seen c.args.out.now)
    (g.O.Sink.seen c.write_cover.new.out) c.in-Err-Failed.field-0 c.in-Err-Failed.field-0-is
    (c.in-Err-Failed.ensures of.stops (as_survey i c.args.horizon c.args.survey.now of)) in
    broken (WritesOne (IsCover i c.args.horizon c.args.classes)) _ _ w.0 w.1 (
      w.0,
      w.1,
      covered i c.args.horizon c.args.survey.now of c.args.classes c.in-Ok.digest w.0 w.1 c.in-Ok.ensures.digits
          c.what_is_told_is_certain.ensures.at_operation c.what_is_told_is_certain.ensures.at_rest c.what_is_told_is_certain.ensures.same_kind w.2,
      refl,
    ) w.3 w.4

pub returns-in-Err : goal.returns-in-Err
returns-in-Err g c = no_memory _ _ _ (appends-nothing _)
