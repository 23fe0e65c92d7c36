use Rattle.library.specs.Held.{lent_buffers}
use Rattle.library.specs.Code.HeldRows.{held_rows}
use Rattle.hep.specs.Laws.Step.{step_lent}
use Rattle.hep.proofs.step.Goals as goal

-- of the first seven rows, which are loaded and stored, and so of the slice
pub returns : goal.returns
returns c =
    let a = c.args in
    let r = c.step-after in
    step_lent (lent_buffers a.rows.now a.table.now a.constant_tags.now a.constant_words.now a.register_tags.now a.register_words.now a.program.now a.data_tags.now a.data_words.now) a.n a.task r.result.answer c.load_rows-v.result r.result.rows c.unwrap_or-place.result _ c.store_rows.new.rows
    (lent_buffers (held_rows r.result.rows) r.result.table a.constant_tags.now a.constant_words.now r.new.register_tags r.new.register_words a.program.now r.new.data_tags r.new.data_words)
    c.load_rows-v.ensures (rw c.find_row.ensures at c.unwrap_or-place.ensures) r.ensures c.store_rows.ensures
