use Rattle.std.proofs.Common.{[], refl}
use Rattle.fault_cover.proofs.counting.count_class.Goals as goal

pub returns : goal.returns
returns c = λ stops survey.
    let passes = c.then_class_faults.ensures stops survey in
    record { heard = passes.heard; are = passes.are; class_is = refl; counts = passes.kept c.new.result [] c.new.ensures }
