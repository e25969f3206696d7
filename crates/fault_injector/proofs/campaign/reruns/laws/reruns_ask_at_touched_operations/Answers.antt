use Rattle.fault_injector.proofs.Asking.{asks_at_touched, keeps_untouched}
use Rattle.fault_injector.proofs.campaign.reruns.laws.reruns_ask_at_touched_operations.Goals as goal

pub returns : goal.returns
returns c = record { calls = asks_at_touched; kept = keeps_untouched }
