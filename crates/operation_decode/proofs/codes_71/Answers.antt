use Rattle.operation.specs.declared.Code.TheVariants.{Unlisted}
use Rattle.operation_decode.specs.Code.Columns.{singles, under}
use Rattle.operation_decode.proofs.Codes.{tables, missing}
use Rattle.operation_decode.proofs.codes_71.Goals as goal

pub returns-in-25 : goal.returns-in-25
unfolding tables
returns-in-25 c = rw c.in-25.is

pub returns-in-22 : goal.returns-in-22
unfolding tables
returns-in-22 c = rw c.in-22.is

pub returns-in-17 : goal.returns-in-17
unfolding tables
returns-in-17 c = rw c.in-17.is

pub returns-in-20 : goal.returns-in-20
unfolding tables
returns-in-20 c = rw c.in-20.is

pub returns-in-27 : goal.returns-in-27
unfolding tables
returns-in-27 c = rw c.in-27.is

pub returns-in-38 : goal.returns-in-38
unfolding tables
returns-in-38 c = rw c.in-38.is

pub returns-in-57 : goal.returns-in-57
unfolding tables
returns-in-57 c = rw c.in-57.is

pub returns-in_default : goal.returns-in_default
unfolding tables
returns-in_default c = (missing (under 0x71 singles) _ Unlisted _ c.in_default.in_default-own.rest).1
