use mathlib.Core.Path.{refl, sym, ◌∙◌}
use Prim.Native.Nat.{◌/◌}
use mathlib.Core.Logic.{inl, inr, ⊎_elim}
use native.Mathlib.Omega.{arith}
use Rattle.operation_decode.proofs.Codes.{tables, lefts, alone, among, apart, column, Away, by_key, by_range, no_column}
use Rattle.operation_decode.proofs.decode.Goals as goal

pub returns-in-0 : goal.returns-in-0
unfolding tables
returns-in-0 c = c.only.ensures ∙ sym (column _ 0x00 c.in-0.is)

pub returns-in-9 : goal.returns-in-9
unfolding tables
returns-in-9 c = c.only-in-9.ensures ∙ sym (column _ 0x09 c.in-9.is)

pub returns-in-25 : goal.returns-in-25
unfolding tables
returns-in-25 c = c.quit_code.ensures ∙ sym (column _ 0x19 c.in-25.is)

pub returns-in-56 : goal.returns-in-56
unfolding tables
returns-in-56 c = sym (column _ 0x38 c.in-56.is)

pub returns-in-57 : goal.returns-in-57
unfolding tables
returns-in-57 c = sym (column _ 0x39 c.in-57.is)

pub returns-in-65 : goal.returns-in-65
returns-in-65 c = c.codes_41.ensures ∙ sym (column _ 0x41 c.in-65.is)

pub returns-in-97 : goal.returns-in-97
returns-in-97 c = c.codes_61.ensures ∙ sym (column _ 0x61 c.in-97.is)

pub returns-in-103 : goal.returns-in-103
returns-in-103 c = c.codes_67.ensures ∙ sym (column _ 0x67 c.in-103.is)

pub returns-in-108 : goal.returns-in-108
unfolding tables
returns-in-108 c = c.data_code.ensures ∙ sym (column _ 0x6C c.in-108.is)

pub returns-in-113 : goal.returns-in-113
returns-in-113 c = c.codes_71.ensures ∙ sym (column _ 0x71 c.in-113.is)

pub returns-in-114 : goal.returns-in-114
unfolding tables
returns-in-114 c = c.only-in-114.ensures ∙ sym (column _ 0x72 c.in-114.is)

pub returns-in-115 : goal.returns-in-115
unfolding tables
returns-in-115 c = c.only-in-115.ensures ∙ sym (column _ 0x73 c.in-115.is)

pub returns-in-119 : goal.returns-in-119
returns-in-119 c = c.codes_77.ensures ∙ sym (column _ 0x77 c.in-119.is)

pub returns-in-121 : goal.returns-in-121
unfolding tables
returns-in-121 c = c.call_code.ensures ∙ sym (column _ 0x79 c.in-121.is)

pub returns-in-124 : goal.returns-in-124
unfolding tables
returns-in-124 c = c.data_code-in-124.ensures ∙ sym (column _ 0x7C c.in-124.is)

pub returns-in-127 : goal.returns-in-127
unfolding tables
returns-in-127 c = c.only-in-127.ensures ∙ sym (column _ 0x7F c.in-127.is)

pub returns-in-188 : goal.returns-in-188
unfolding tables
returns-in-188 c = c.data_code-in-188.ensures ∙ sym (column _ 0xBC c.in-188.is)

pub returns-in-252 : goal.returns-in-252
unfolding tables
returns-in-252 c = c.data_code-in-252.ensures ∙ sym (column _ 0xFC c.in-252.is)

pub returns-in_default : goal.returns-in_default
unfolding lefts alone
returns-in_default c =
    let f0 = c.in_default.if-high-lt54-own.true in
    let a0 : Away (c.args.code / 256) 0x36 = inl (omega arith) in
    let a1 : Away (c.args.code / 256) 0x3B = inl (omega arith) in
    let a2 : Away (c.args.code / 256) 0x57 = inl (omega arith) in
    no_column c.args.code c.in_default.in_default-own.rest a0 a1 a2

pub returns-in_default-2 : goal.returns-in_default-2
unfolding lefts alone
returns-in_default-2 c =
    let f0 = c.in_default.if-high-lt59-own.true in
    let f1 = c.in_default.if-high-lt56-own.false in
    let a0 : Away (c.args.code / 256) 0x36 = inr (omega arith) in
    let a1 : Away (c.args.code / 256) 0x3B = inl (omega arith) in
    let a2 : Away (c.args.code / 256) 0x57 = inl (omega arith) in
    no_column c.args.code c.in_default.in_default-own.rest a0 a1 a2

pub returns-in_default-3 : goal.returns-in_default-3
unfolding lefts alone
returns-in_default-3 c =
    let f0 = c.in_default.if-high-lt87-own.true in
    let f1 = c.in_default.if-high-lt61-own.false in
    let a0 : Away (c.args.code / 256) 0x36 = inr (omega arith) in
    let a1 : Away (c.args.code / 256) 0x3B = inr (omega arith) in
    let a2 : Away (c.args.code / 256) 0x57 = inl (omega arith) in
    no_column c.args.code c.in_default.in_default-own.rest a0 a1 a2

pub returns-in_default-4 : goal.returns-in_default-4
unfolding lefts alone
returns-in_default-4 c =
    let f0 = c.in_default.if-high-lt89-own.false in
    let f1 = c.in_default.if-high-lt87-own.false in
    let a0 : Away (c.args.code / 256) 0x36 = inr (omega arith) in
    let a1 : Away (c.args.code / 256) 0x3B = inr (omega arith) in
    let a2 : Away (c.args.code / 256) 0x57 = inr (omega arith) in
    no_column c.args.code c.in_default.in_default-own.rest a0 a1 a2

pub returns-in-7 : goal.returns-in-7
unfolding lefts alone apart among
returns-in-7 c =
    c.privileged_code.ensures
    ∙ sym (⊎_elim (λ w. by_key c.args.code w.in-7-1.keys19)
    (⊎_elim (λ w. by_range c.args.code 0x36 refl (omega arith) (omega arith))
    (⊎_elim (λ w. by_range c.args.code 0x3B refl (omega arith) (omega arith))
    (λ w. by_range c.args.code 0x57 refl (omega arith) (omega arith)))) c.in-7-1.branch-raw)
