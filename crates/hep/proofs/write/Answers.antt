use Rattle.library.specs.Held.{lent_buffers}
use Rattle.hep.specs.Laws.Write.{write_lent}
use Rattle.hep.proofs.write.Goals as goal

-- of the first seven rows, which are loaded and stored, and so of the slice
pub returns : goal.returns
returns c =
    let a = c.args in
    let r = c.write in
    write_lent (lent_buffers a.rows.now a.table.now a.constant_tags.now a.constant_words.now a.register_tags.now a.register_words.now a.program.now a.data_tags.now a.data_words.now) a.n a.output.now r.result c.load_rows-v.result r.new.output c.load_rows-v.ensures r.ensures
