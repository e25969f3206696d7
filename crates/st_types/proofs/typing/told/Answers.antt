use Rattle.st_types.proofs.SingleNodes.{least-as}
use Rattle.st_types.specs.Typing.{FaultAt}
use Rattle.st_types.proofs.typing.told.Goals as goal

pub returns-in-Duplicate : goal.returns-in-Duplicate
returns-in-Duplicate c = λ p h. least-as (FaultAt p) c.args.fault _ c.in-Duplicate.is h

pub returns-in-Unknown : goal.returns-in-Unknown
returns-in-Unknown c = λ p h. least-as (FaultAt p) c.args.fault _ c.in-Unknown.is h

pub returns-in-Mismatch : goal.returns-in-Mismatch
returns-in-Mismatch c = λ p h. least-as (FaultAt p) c.args.fault _ c.in-Mismatch.is h

pub returns-in-Assign : goal.returns-in-Assign
returns-in-Assign c = λ p h. least-as (FaultAt p) c.args.fault _ c.in-Assign.is h

pub returns-in-Bound : goal.returns-in-Bound
returns-in-Bound c = λ p h. least-as (FaultAt p) c.args.fault _ c.in-Bound.is h

pub returns-in-Label : goal.returns-in-Label
returns-in-Label c = λ p h. least-as (FaultAt p) c.args.fault _ c.in-Label.is h

pub returns-in-Call : goal.returns-in-Call
returns-in-Call c = λ p h. least-as (FaultAt p) c.args.fault _ c.in-Call.is h

pub returns-in-Literal : goal.returns-in-Literal
returns-in-Literal c = λ p h. least-as (FaultAt p) c.args.fault _ c.in-Literal.is h
