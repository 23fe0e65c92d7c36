use Rattle.operation.specs.declared.Code.TheVariants.{Unlisted}
use Rattle.operation_decode.specs.Code.Columns.{singles, under}
use Rattle.operation_decode.proofs.Codes.{tables, missing}
use Rattle.operation_decode.proofs.codes_77.Goals as goal

pub returns-in-40 : goal.returns-in-40
unfolding tables
returns-in-40 c = rw c.in-40.is

pub returns-in-32 : goal.returns-in-32
unfolding tables
returns-in-32 c = rw c.in-32.is

pub returns-in_default : goal.returns-in_default
unfolding tables
returns-in_default c = (missing (under 0x77 singles) _ Unlisted _ c.in_default.in_default-own.rest).1
