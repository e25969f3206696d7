-- Growing: logs that grow by calls one after another.
use Rattle.std.proofs.Common.{sym, List, [], ◌++◌, Option, Some, None, append_assoc, append-nil}
use Rattle.coded_unit.specs.Log.{Entry, GrowsBy}

pub grows_on : (x y z : Option (List Entry)) (es fs : List Entry) → GrowsBy x y es → GrowsBy y z fs → GrowsBy x z (es ++ fs)
grows_on (Some x) (Some y) (Some z) es fs h k = rw (k, h) (append_assoc x es fs)
grows_on (Some x) (Some y) None es fs h k = tt
grows_on (Some x) None None es fs h k = tt
grows_on None None None es fs h k = tt
grows_on None None (Some z) es fs h k = absurd k
grows_on None (Some y) z es fs h k = absurd h
grows_on (Some x) None (Some z) es fs h k = absurd k

pub grows_by_none : (x : Option (List Entry)) → GrowsBy x x []
grows_by_none (Some es) = sym (append-nil es)
grows_by_none None = tt
