use Rattle.std.proofs.Common.{[], ◌∷◌, map, ap, sym}
use Rattle.std.specs.Option.{option_to_list}
use Rattle.fault_cover.specs.Classes.{fault_at}
use Rattle.fault_cover.proofs.Going.{passes_none, passes_one, passes_same}
use Rattle.fault_cover.proofs.faults.then_fault.Goals as goal

pub returns-in-Some : goal.returns-in-Some
returns-in-Some g c = λ stops survey.
    passes_same (fault_at c.args.k c.in-Some.disturbance ∷ []) (map (fault_at c.args.k) (option_to_list c.args.fault))
    (passes_one c.args.k c.in-Some.disturbance c.tell-told.result (c.tell-told.ensures stops survey) c.hear.ensures)
    (ap (λ d. map (fault_at c.args.k) (option_to_list d)) (sym c.in-Some.is))

pub returns-in-None : goal.returns-in-None
returns-in-None g c = λ stops survey.
    passes_same [] (map (fault_at c.args.k) (option_to_list c.args.fault)) passes_none
    (ap (λ d. map (fault_at c.args.k) (option_to_list d)) (sym c.in-None.is))
