-- Asked: which calls a unit may be asked to do.
use Rattle.std.specs.Prelude.{◌≡◌, ◌<◌, ◌≤◌, true}
use Rattle.vcp_base.specs.Code.{modulus, admits}
use Rattle.vcp_base.specs.Limits.{most_stamp}
use Rattle.coded_unit.specs.declared.call.Call.{Call}

-- the correction is a residue of the call's code, the stamp is that of a cycle that a run may have, and the code has words of
-- both types
pub record Asked (call : Call) : Type 0 where
  pub corr : call.corr < modulus call.profile
  pub stamp : call.stamp ≤ most_stamp
  pub from : admits call.profile call.from ≡ true
  pub ty : admits call.profile call.ty ≡ true
