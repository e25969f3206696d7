use Rattle.std.proofs.Common.{◌≡◌, ◌∙◌, ap, sym, subst, cond, Bool, Err}
use Rattle.vcp_core.specs.ProgramsRead.{instruction_list, language_of, structured_text, Language, ProgramRead, ReadsProgramRows}
use Rattle.vcp_core.proofs.ProgramsRead.{program_lost}
use Rattle.vcp_core.proofs.Facts.{no_error, same_error}
use Rattle.vcp_core.proofs.program_rows.load_program.Goals as goal

abbrev either : Bool → Language
either list = cond list instruction_list structured_text

-- ---- an instruction list

pub returns-in-Ok : goal.returns-in-Ok
returns-in-Ok g c =
    let list : language_of c.args.run ≡ instruction_list = c.is_list.ensures ∙ ap either c.if-is_list.true in
    record {
      read = subst (λ (l : Language). ProgramRead l c.args.source.now (g.F.Files.seen c.args.files.now) (g.F.Files.seen c.load_il.new.files) c.in-Ok.program)
          (sym list)
          (record {
            loads = c.in-Ok.ensures.loads;
            ended = c.in-Ok.ensures.ended;
            faults = c.in-Ok.ensures.stayed no_error;
            broken = c.load_il.ensures.broken_later;
            held = c.load_il.ensures.held;
          });
      unread = tt;
    }

pub returns-in-Err : goal.returns-in-Err
returns-in-Err g c =
    let list : language_of c.args.run ≡ instruction_list = c.is_list.ensures ∙ ap either c.if-is_list.true in
    record {
      read = tt;
      unread = λ rows f here reads.
          rw c.bytes.ensures
          (program_lost c.lists_are_told.ensures.columns c.args.source.now (g.F.Files.seen c.args.files.now) (g.F.Files.seen c.load_il.new.files)
          c.load_il.ensures.held c.in-Err.input (λ r is. c.in-Err.ensures.whole r (ap Err is))
          (λ is. c.in-Err.ensures.unread (ap Err is)) (λ no. c.in-Err.ensures.stayed (λ e. no (same_error e))) c.in-Err.ensures.caused rows here
          instruction_list f (subst (λ (l : Language). ReadsProgramRows c.args.source.now rows l f) list reads) c.in-Err.ensures.loads
          (λ is. c.in-Err.ensures.left (ap Err is)));
    }

-- ---- a source

pub returns-in-Ok-load_typed : goal.returns-in-Ok-load_typed
returns-in-Ok-load_typed g c =
    let none : language_of c.args.run ≡ structured_text = c.is_list.ensures ∙ ap either c.if-is_list.false in
    record {
      read = subst (λ (l : Language). ProgramRead l c.args.source.now (g.F.Files.seen c.args.files.now) (g.F.Files.seen c.load_typed.new.files)
          c.in-Ok-load_typed.program)
          (sym none)
          (record {
            loads = c.in-Ok-load_typed.ensures.loads;
            ended = c.in-Ok-load_typed.ensures.ended;
            faults = c.in-Ok-load_typed.ensures.stayed no_error;
            broken = c.load_typed.ensures.broken_later;
            held = c.load_typed.ensures.held;
          });
      unread = tt;
    }

pub returns-in-Err-load_typed : goal.returns-in-Err-load_typed
returns-in-Err-load_typed g c =
    let none : language_of c.args.run ≡ structured_text = c.is_list.ensures ∙ ap either c.if-is_list.false in
    let lost = c.in-Err-load_typed in
    record {
      read = tt;
      unread = λ rows f here reads.
          rw c.bytes-in-Err-load_typed.ensures
          (program_lost c.lists_are_told.ensures.columns c.args.source.now (g.F.Files.seen c.args.files.now) (g.F.Files.seen c.load_typed.new.files)
          c.load_typed.ensures.held lost.input (λ r is. lost.ensures.whole r (ap Err is))
          (λ is. lost.ensures.unread (ap Err is)) (λ no. lost.ensures.stayed (λ e. no (same_error e))) lost.ensures.caused rows here
          structured_text f (subst (λ (l : Language). ReadsProgramRows c.args.source.now rows l f) none reads) lost.ensures.loads
          (λ is. lost.ensures.left (ap Err is)));
    }
