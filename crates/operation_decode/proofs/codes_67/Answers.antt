use Rattle.operation.specs.declared.Code.TheVariants.{Unlisted}
use Rattle.operation_decode.specs.Code.Columns.{singles, under}
use Rattle.operation_decode.proofs.Codes.{tables, missing}
use Rattle.operation_decode.proofs.codes_67.Goals as goal

pub returns-in-24 : goal.returns-in-24
unfolding tables
returns-in-24 c = rw c.in-24.is

pub returns-in-16 : goal.returns-in-16
unfolding tables
returns-in-16 c = rw c.in-16.is

pub returns-in_default : goal.returns-in_default
unfolding tables
returns-in_default c = (missing (under 0x67 singles) _ Unlisted _ c.in_default.in_default-own.rest).1
