use Rattle.operation.specs.declared.Code.TheVariants.{Unlisted}
use Rattle.operation_decode.specs.Code.Columns.{privileged_lines, privileged_of}
use Rattle.operation_decode.proofs.Codes.{tables, missing}
use Rattle.operation_decode.proofs.privileged_code.Goals as goal

pub returns-in-1792 : goal.returns-in-1792
unfolding tables privileged_of
returns-in-1792 c = rw c.in-1792.is

pub returns-in-13825 : goal.returns-in-13825
unfolding tables privileged_of
returns-in-13825 c = rw c.in-13825.is

pub returns-in-14080 : goal.returns-in-14080
unfolding tables privileged_of
returns-in-14080 c = rw c.in-14080.is

pub returns-in-15231 : goal.returns-in-15231
unfolding tables privileged_of
returns-in-15231 c = rw c.in-15231.is

pub returns-in-15360 : goal.returns-in-15360
unfolding tables privileged_of
returns-in-15360 c = rw c.in-15360.is

pub returns-in-18944 : goal.returns-in-18944
unfolding tables privileged_of
returns-in-18944 c = rw c.in-18944.is

pub returns-in-22272 : goal.returns-in-22272
unfolding tables privileged_of
returns-in-22272 c = rw c.in-22272.is

pub returns-in-22528 : goal.returns-in-22528
unfolding tables privileged_of
returns-in-22528 c = rw c.in-22528.is

pub returns-in-30208 : goal.returns-in-30208
unfolding tables privileged_of
returns-in-30208 c = rw c.in-30208.is

pub returns-in-34560 : goal.returns-in-34560
unfolding tables privileged_of
returns-in-34560 c = rw c.in-34560.is

pub returns-in-34561 : goal.returns-in-34561
unfolding tables privileged_of
returns-in-34561 c = rw c.in-34561.is

pub returns-in-39168 : goal.returns-in-39168
unfolding tables privileged_of
returns-in-39168 c = rw c.in-39168.is

pub returns-in-39169 : goal.returns-in-39169
unfolding tables privileged_of
returns-in-39169 c = rw c.in-39169.is

pub returns-in-39170 : goal.returns-in-39170
unfolding tables privileged_of
returns-in-39170 c = rw c.in-39170.is

pub returns-in-39171 : goal.returns-in-39171
unfolding tables privileged_of
returns-in-39171 c = rw c.in-39171.is

pub returns-in-46848 : goal.returns-in-46848
unfolding tables privileged_of
returns-in-46848 c = rw c.in-46848.is

pub returns-in-51456 : goal.returns-in-51456
unfolding tables privileged_of
returns-in-51456 c = rw c.in-51456.is

pub returns-in-55040 : goal.returns-in-55040
unfolding tables privileged_of
returns-in-55040 c = rw c.in-55040.is

pub returns-in-57614 : goal.returns-in-57614
unfolding tables privileged_of
returns-in-57614 c = rw c.in-57614.is

pub returns-in-57631 : goal.returns-in-57631
unfolding tables privileged_of
returns-in-57631 c = rw c.in-57631.is

pub returns-in-59141 : goal.returns-in-59141
unfolding tables privileged_of
returns-in-59141 c = rw c.in-59141.is

pub returns-in-59142 : goal.returns-in-59142
unfolding tables privileged_of
returns-in-59142 c = rw c.in-59142.is

pub returns-in-59143 : goal.returns-in-59143
unfolding tables privileged_of
returns-in-59143 c = rw c.in-59143.is

pub returns-in-59775 : goal.returns-in-59775
unfolding tables privileged_of
returns-in-59775 c = rw c.in-59775.is

pub returns-in-60416 : goal.returns-in-60416
unfolding tables privileged_of
returns-in-60416 c = rw c.in-60416.is

pub returns-in-61697 : goal.returns-in-61697
unfolding tables privileged_of
returns-in-61697 c = rw c.in-61697.is

pub returns-in-61709 : goal.returns-in-61709
unfolding tables privileged_of
returns-in-61709 c = rw c.in-61709.is

pub returns-in_default : goal.returns-in_default
unfolding tables privileged_of
returns-in_default c = (missing privileged_lines _ Unlisted _ c.in_default.in_default-own.rest).1
