use mathlib.Core.Path.{ap, ◌∙◌}
use lib.ListN.{length}
use Rattle.library.specs.Buffers.{Buffers}
use Rattle.library.specs.Calls.{write_answer, write_leaves}
use Rattle.library.specs.Promises.{write_answered}
use Rattle.image_write.specs.Code.Lengths.{length_written}
use Rattle.benchmark.specs.Calls.{memory_sizes}
use Rattle.benchmark.proofs.Own.{own}
use Rattle.benchmark.proofs.benchmark_write.Goals as goal

pub returns : goal.returns
unfolding memory_sizes
returns c = let a = c.args in let o = own a.constant_tags.now a.constant_words.now a.register_tags.now a.register_words.now a.program.now a.data_tags.now a.data_words.now c.own_rows.ensures c.no_processes.ensures in let n = memory_sizes (length a.constant_words.now) (length a.register_words.now) (length a.program.now) (length a.data_words.now) in let p = c.write-answer.ensures in record { value = c.length_written.ensures ∙ ap length_written (p.answer ∙ ap (λ (b : Buffers). write_answered (write_answer n b (length a.output.now))) o); output_after = p.leaves ∙ ap (λ (b : Buffers). write_leaves n b a.output.now) o }
