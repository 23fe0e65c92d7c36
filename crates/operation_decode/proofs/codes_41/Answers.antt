use Rattle.operation.specs.declared.Code.TheVariants.{Unlisted}
use Rattle.operation_decode.specs.Code.Columns.{singles, under}
use Rattle.operation_decode.proofs.Codes.{tables, missing}
use Rattle.operation_decode.proofs.codes_41.Goals as goal

pub returns-in-28 : goal.returns-in-28
unfolding tables
returns-in-28 c = rw c.in-28.is

pub returns-in-19 : goal.returns-in-19
unfolding tables
returns-in-19 c = rw c.in-19.is

pub returns-in_default : goal.returns-in_default
unfolding tables
returns-in_default c = (missing (under 0x41 singles) _ Unlisted _ c.in_default.in_default-own.rest).1
