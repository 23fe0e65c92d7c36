use native.Mathlib.Omega.{arith}
use Rattle.image_write.proofs.Answers.{small, counted, image_size, refuses_7, writes}
use Rattle.image_write.proofs.write_sound.Goals as goal

pub size-requires : goal.size-requires
size-requires c =
    let a = c.args in
    let seven = c.well_formed.0.1.1.0.1.0.1 in
    let z = small a.rows a.table a.constant_tags.now a.constant_words.now a.register_tags.now a.register_words.now a.program.now a.data_tags.now a.data_words.now a.n seven c.requires in
    (z.rows, (rw (counted a.rows a.table a.constant_tags.now a.constant_words.now a.register_tags.now a.register_words.now a.program.now a.data_tags.now a.data_words.now a.n seven c.requires) z.processes, (z.constants, (z.registers, (z.program, z.data_words)))))

pub returns-then-output-size : goal.returns-then-output-size
returns-then-output-size c =
    let a = c.args in
    let seven = c.well_formed.0.1.1.0.1.0.1 in
    refuses_7 _ _ _ c.requires (omega (arith, c.if-output-size.true, c.size.ensures, image_size a.rows a.table a.constant_tags.now a.constant_words.now a.register_tags.now a.register_words.now a.program.now a.data_tags.now a.data_words.now a.n seven c.requires _ (counted a.rows a.table a.constant_tags.now a.constant_words.now a.register_tags.now a.register_words.now a.program.now a.data_tags.now a.data_words.now a.n seven c.requires)))

pub put_state-end-requires : goal.put_state-end-requires
put_state-end-requires c =
    let a = c.args in
    let seven = c.well_formed.0.1.1.0.1.0.1 in
    (c.requires, omega (arith, c.if-output-size.false, c.size.ensures, image_size a.rows a.table a.constant_tags.now a.constant_words.now a.register_tags.now a.register_words.now a.program.now a.data_tags.now a.data_words.now a.n seven c.requires _ (counted a.rows a.table a.constant_tags.now a.constant_words.now a.register_tags.now a.register_words.now a.program.now a.data_tags.now a.data_words.now a.n seven c.requires)))

pub returns : goal.returns
returns c =
    let a = c.args in
    let seven = c.well_formed.0.1.1.0.1.0.1 in
    let i = c.put_state-end.ensures in
    writes _ _ _ c.requires (omega (arith, c.if-output-size.false, c.size.ensures, image_size a.rows a.table a.constant_tags.now a.constant_words.now a.register_tags.now a.register_words.now a.program.now a.data_tags.now a.data_words.now a.n seven c.requires _ (counted a.rows a.table a.constant_tags.now a.constant_words.now a.register_tags.now a.register_words.now a.program.now a.data_tags.now a.data_words.now a.n seven c.requires))) i.value i.output_after
