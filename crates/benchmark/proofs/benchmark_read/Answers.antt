use mathlib.Core.Path.{ap, ◌∙◌}
use Rattle.library.specs.Buffers.{Buffers, room_of}
use Rattle.library.specs.Calls.{read_answer, read_leaves}
use Rattle.library.specs.Promises.{read_answered}
use Rattle.benchmark.specs.Calls.{is_read}
use Rattle.benchmark.proofs.Own.{own, beside}
use Rattle.benchmark.proofs.benchmark_read.Goals as goal

pub returns : goal.returns
returns c = let a = c.args in let o = own a.constant_tags.now a.constant_words.now a.register_tags.now a.register_words.now a.program.now a.data_tags.now a.data_words.now c.own_rows.ensures c.no_processes.ensures in let p = c.read-left.ensures.0 in record { value = c.is_read.ensures ∙ ap is_read (p.answer ∙ ap (λ (b : Buffers). read_answered (read_answer (room_of b) a.image.now)) o); data_words_after = beside _ _ _ _ _ _ _ (p.leaves ∙ ap (λ (b : Buffers). read_leaves b a.image.now) o) }
