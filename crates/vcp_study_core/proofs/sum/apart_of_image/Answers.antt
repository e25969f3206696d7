use Rattle.vcp_study_core.proofs.Carrying.{goes_on, lost, then_writes}
use Rattle.vcp_study_core.proofs.sum.apart_of_image.Goals as goal

pub returns-in-Ok-load_parts : goal.returns-in-Ok-load_parts
returns-in-Ok-load_parts g c end m =
    let f = c.in-Ok.ensures.fetches end in
    goes_on f (then_writes (c.in-Ok-load_parts.ensures.fetches f.ends) (λ h b n. c.write_tables_apart.ensures))

pub returns-in-Ok : goal.returns-in-Ok
returns-in-Ok g c end m =
    let f = c.in-Ok.ensures.fetches end in goes_on f (lost (c.in-Err-load_parts.ensures.fetches f.ends))

pub returns : goal.returns
returns g c end m = lost (c.in-Err.ensures.fetches end)

pub write_tables_apart-requires : goal.write_tables_apart-requires
write_tables_apart-requires g c = record {
  table = c.requires.table;
  width = c.in-Ok.ensures.width;
  few_rows = c.in-Ok.ensures.few;
  whole = c.in-Ok-load_parts.ensures.whole;
  fits = c.in-Ok-load_parts.ensures.fits;
  few = c.in-Ok-load_parts.ensures.few;
}
