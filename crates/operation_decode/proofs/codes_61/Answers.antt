use Rattle.operation.specs.declared.Code.TheVariants.{Unlisted}
use Rattle.operation_decode.specs.Code.Columns.{singles, under}
use Rattle.operation_decode.proofs.Codes.{tables, missing}
use Rattle.operation_decode.proofs.codes_61.Goals as goal

pub returns-in-10 : goal.returns-in-10
unfolding tables
returns-in-10 c = rw c.in-10.is

pub returns-in-8 : goal.returns-in-8
unfolding tables
returns-in-8 c = rw c.in-8.is

pub returns-in-31 : goal.returns-in-31
unfolding tables
returns-in-31 c = rw c.in-31.is

pub returns-in-16 : goal.returns-in-16
unfolding tables
returns-in-16 c = rw c.in-16.is

pub returns-in-48 : goal.returns-in-48
unfolding tables
returns-in-48 c = rw c.in-48.is

pub returns-in-47 : goal.returns-in-47
unfolding tables
returns-in-47 c = rw c.in-47.is

pub returns-in_default : goal.returns-in_default
unfolding tables
returns-in_default c = (missing (under 0x61 singles) _ Unlisted _ c.in_default.in_default-own.rest).1
