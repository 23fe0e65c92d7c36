use Rattle.library.specs.Held.{lent_buffers}
use Rattle.library.specs.Code.HeldRows.{held_rows}
use Rattle.hep.specs.Laws.Read.{read_lent}
use Rattle.hep.proofs.read.Goals as goal

-- of the first seven rows, which are loaded and stored, and so of the slice
pub returns : goal.returns
returns c =
    let a = c.args in
    let r = c.read-after in
    read_lent (lent_buffers a.rows.now a.table.now a.constant_tags.now a.constant_words.now a.register_tags.now a.register_words.now a.program.now a.data_tags.now a.data_words.now) a.image.now r.result.answer c.load_rows-v.result r.result.rows c.store_rows.new.rows
    (lent_buffers (held_rows r.result.rows) r.result.table r.new.constant_tags r.new.constant_words r.new.register_tags r.new.register_words r.new.program r.new.data_tags r.new.data_words)
    c.load_rows-v.ensures r.ensures c.store_rows.ensures
