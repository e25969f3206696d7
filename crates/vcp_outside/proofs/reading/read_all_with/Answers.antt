use Rattle.vcp_outside.proofs.reading.read_all_with.Goals as goal

pub returns : goal.returns
returns g c =
    let e = c.read_all_counting.ensures in
    record {
      reads = e.reads;
      within = e.within;
      failed = e.failed;
      stayed = e.stayed;
      ended = e.ended;
      taken = e.taken;
      held = e.held;
      later = e.later;
      capped = e.capped;
      broken_later = e.broken_later;
      broken_capped = e.broken_capped;
    }
