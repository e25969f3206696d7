use Rattle.std.proofs.Common.{◌<◌, ℕ, sym, subst}
use Rattle.vcp_outside.proofs.reading.read_counted.Goals as goal

pub returns : goal.returns
returns g c =
    let e = c.read.ensures in
    record {
      held = e.held;
      bound = e.bound;
      bytes = e.bytes;
      cause = e.cause;
      broken_later = e.broken_later;
      broken_capped = e.broken_capped;
      only_broken = e.only_broken;
      counted = c.tick.ensures;
      room = subst (λ (n : ℕ). 0 < n) (sym c.read.auto.buf) c.requires;
    }
