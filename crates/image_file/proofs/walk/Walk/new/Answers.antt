use Rattle.std.proofs.Common.{sym}
use Rattle.image_file.specs.Views.{scope_of}
use Rattle.image_file.proofs.walk.Walk.new.Goals as goal

pub returns : goal.returns
returns c =
    let s = scope_of c.args.s.now in
    record {
      out = sym (c.entries_are_found_by_one_walk.ensures.out_begins s.outputs);
      load = sym (c.entries_are_found_by_one_walk.ensures.load_begins s.loads);
      store = sym (c.entries_are_found_by_one_walk.ensures.store_begins s.stores);
    }
