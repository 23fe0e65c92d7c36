use Rattle.std.proofs.Common.{◌≡◌, true, false}
use Rattle.window.specs.Windows.{register_window, program_window, data_word_window}
use Rattle.step.specs.Soundness.{ends_in, row_ends_in}
use Rattle.step_fields.proofs.row_ends_in.Goals as goal
use Rattle.step_fields.proofs.row_ends_in.Goals.{then-ends_in, else-ends_in}

pub returns-then-ends_in-2 : goal.returns-then-ends_in-2
unfolding row_ends_in
returns-then-ends_in-2 c =
    let r = c.args.row in
    elim c.if-ends_in.branch [
      | then-ends_in w ↦
          let registers : ends_in (register_window r) c.args.registers ≡ true = cc in
          let program : ends_in (program_window r) c.args.program ≡ true = cc in
          let words : c.ends_in-then-ends_in-2.result ≡ ends_in (data_word_window r) c.args.data_words = cc in
          simp (registers, program, words)
      | else-ends_in w ↦ cc
    ]

pub returns-else-ends_in-2 : goal.returns-else-ends_in-2
unfolding row_ends_in
returns-else-ends_in-2 c =
    let r = c.args.row in
    elim c.if-ends_in.branch [
      | then-ends_in w ↦
          let registers : ends_in (register_window r) c.args.registers ≡ true = cc in
          let program : ends_in (program_window r) c.args.program ≡ false = cc in
          simp (registers, program, c.if-ends_in-2.false)
      | else-ends_in w ↦
          let registers : ends_in (register_window r) c.args.registers ≡ false = cc in
          simp (registers, c.if-ends_in-2.false)
    ]
