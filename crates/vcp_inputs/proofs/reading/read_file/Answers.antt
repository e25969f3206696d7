use Rattle.std.proofs.Common.{◌≡◌, refl, ap, subst, Err}
use Rattle.vcp_outside.specs.ReadAll.{ReadsAll, Takes}
use Rattle.vcp_inputs.specs.declared.refusal.Refusal.TheVariants as refusal
use Rattle.vcp_inputs.specs.declared.refusal.NoInput.TheVariants as input
use Rattle.vcp_inputs.specs.Refusals.{unread}
use Rattle.vcp_inputs.proofs.Taken.{if_some_weaker, file_left, file_stays, file_unread}
use Rattle.vcp_inputs.proofs.RowsLoaded.{no_error}
use Rattle.vcp_inputs.proofs.reading.read_file.Goals as goal

pub returns-in-Err-clause-reads : goal.returns-in-Err-clause-reads
returns-in-Err-clause-reads g c =
    if_some_weaker (g.F.Files.seen c.args.files.now).held _ _
    (λ h read. rw c.from.ensures
    (file_unread h c.args.name.now c.args.limit (g.F.Files.seen c.args.files.now).broken (g.F.Files.seen c.read_all.new.files).broken _
    (subst (λ name. ReadsAll h name c.args.limit (g.F.Files.seen c.args.files.now).broken (g.F.Files.seen c.read_all.new.files).broken
    (Err c.in-Err.fault)) c.bytes.ensures read))) c.in-Err.ensures.reads

pub returns-in-Err-clause-left : goal.returns-in-Err-clause-left
returns-in-Err-clause-left g c = λ is.
    let why = c.in-Err.fault in
    let long : unread why ≡ input.Refused refusal.Bytes = cc (c.from.ensures) in
    let rest = (g.F.Files.seen c.read_all.new.files).rest in
    if_some_weaker (g.F.Files.seen c.args.files.now).held _ _
    (λ h takes. file_left h c.args.name.now c.args.limit rest why long (subst (λ name. Takes h name c.args.limit rest (Err why)) c.bytes.ensures takes))
    c.in-Err.ensures.taken

pub returns-in-Err-clause-stayed : goal.returns-in-Err-clause-stayed
returns-in-Err-clause-stayed g c = file_stays _ _ c.in-Err.fault _ _ refl (ap Err c.from.ensures) c.in-Err.ensures.stayed

pub returns-in-Ok-clause-stayed : goal.returns-in-Ok-clause-stayed
returns-in-Ok-clause-stayed g c = λ other. c.in-Ok.ensures.stayed no_error
