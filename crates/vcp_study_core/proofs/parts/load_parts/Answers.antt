use Rattle.std.proofs.Common.{[], ◌∷◌, refl, ap, ◌∙◌, inl, inr, length, arith}
use Rattle.std.proofs.lemmas.List.{length-append}
use Rattle.std.proofs.lemmas.List.Elements.{All-nil, All-push}
use Rattle.verdict_tables.specs.Parts.{IsWhole, PartFits}
use Rattle.vcp_study_core.specs.Forms.{as_names, names_of}
use Rattle.vcp_study_core.specs.FromFiles.{fault_answer}
use Rattle.vcp_study_core.specs.Parts.{all_parts, parts_unmade}
use Rattle.vcp_study_core.proofs.Facts.{if_some_always, if_some_both, if_some_weaker}
use Rattle.vcp_study_core.proofs.Carrying.{loss_before}
use Rattle.vcp_study_core.proofs.PartsRead.{none_so_far, all_so_far, one_so_far, part_lost}
use Rattle.vcp_study_core.proofs.parts.load_parts.Goals as goal

pub parts-init : goal.parts-init
parts-init g c =
    rw c.new-parts.ensures
    (record {
      read = if_some_always (g.F.Files.seen c.args.files.now).held _ (λ h. none_so_far c.args.image.now h (names_of c.args.names.now));
      whole = All-nil IsWhole;
      fits = All-nil (PartFits c.args.image.now.graph);
      few = omega (arith, c.requires.few);
      held = refl;
      later = omega arith;
      broken_later = omega arith;
      ended = λ e. e;
    })

pub parts-preserved : goal.parts-preserved
parts-preserved g c =
    let i = c.parts.invariant in
    let before = g.F.Files.seen c.args.files.now in
    let mid = g.F.Files.seen c.parts.files in
    let f = c.in-Ok.ensures.fetches in
    record {
      read =
          if_some_both before.held mid.held _ _ _ i.held
          (λ h so part. one_so_far c.args.image.now h (names_of c.args.names.now) (names_of c.parts.left) (names_of c.next.new.self) c.parts.parts
          c.push.new.self (as_names c.in-Some.named) c.in-Ok.part c.in-Some.ensures.some c.in-Ok-push.ensures.ok _ _ part so) i.read f.reads;
      whole = rw c.in-Ok-push.ensures.ok (All-push IsWhole c.parts.parts c.in-Ok.part i.whole c.in-Ok.ensures.whole);
      fits = rw c.in-Ok-push.ensures.ok
          (All-push (PartFits c.args.image.now.graph) c.parts.parts c.in-Ok.part i.fits c.in-Ok.ensures.fits);
      few = rw c.in-Ok-push.ensures.ok (omega (arith, i.few, ap length c.in-Some.ensures.some, length-append c.parts.parts (c.in-Ok.part ∷ [])));
      held = f.held ∙ i.held;
      later = omega (arith, i.later, f.later);
      broken_later = omega (arith, i.broken_later, f.broken_later);
      ended = λ e. f.ends;
    }

pub returns-in-Err-push-clause-fetches : goal.returns-in-Err-push-clause-fetches
returns-in-Err-push-clause-fetches g c end =
    let i = c.parts.invariant in
    let f = c.in-Ok.ensures.fetches in
    record {
      reads = if_some_always (g.F.Files.seen c.args.files.now).held _ (λ h. parts_unmade);
      ends = record { nothing = refl; statuses = inr (inr (inl refl)); read = λ e. absurd (omega (arith, e)) };
      held = f.held ∙ i.held;
      later = omega (arith, i.later, f.later);
      broken_later = omega (arith, i.broken_later, f.broken_later);
    }

pub returns-in-Err-clause-fetches : goal.returns-in-Err-clause-fetches
returns-in-Err-clause-fetches g c end =
    let i = c.parts.invariant in
    let f = c.in-Err.ensures.fetches in
    let before = g.F.Files.seen c.args.files.now in
    let mid = g.F.Files.seen c.parts.files in
    let after = g.F.Files.seen c.load_part.new.files in
    record {
      reads =
          if_some_both before.held mid.held _ _ _ i.held
          (λ h so none. part_lost c.args.image.now h (names_of c.args.names.now) (names_of c.parts.left) (names_of c.next.new.self) c.parts.parts
          (as_names c.in-Some.named) before.broken mid.broken after.broken (fault_answer c.in-Err.why) c.in-Some.ensures.some i.broken_later none so) i.read
          f.reads;
      ends = loss_before before mid after (fault_answer c.in-Err.why) i.later f.ends;
      held = f.held ∙ i.held;
      later = omega (arith, i.later, f.later);
      broken_later = omega (arith, i.broken_later, f.broken_later);
    }

pub returns-clause-fetches : goal.returns-clause-fetches
returns-clause-fetches g c end =
    let i = c.parts.invariant in
    record {
      reads =
          if_some_weaker (g.F.Files.seen c.args.files.now).held _ _
          (λ h so. all_parts c.parts.parts (all_so_far c.args.image.now h (names_of c.args.names.now) (names_of c.parts.left) c.parts.parts
          c.in_default.ensures.none so)) i.read;
      ends = i.ended end;
      held = i.held;
      later = i.later;
      broken_later = i.broken_later;
    }

pub load_part-requires : goal.load_part-requires
load_part-requires g c = record { table = c.requires.table }

pub returns-clause-whole : goal.returns-clause-whole
returns-clause-whole g c = c.parts.invariant.whole

pub returns-clause-fits : goal.returns-clause-fits
returns-clause-fits g c = c.parts.invariant.fits
