-- The definitions up to the run at once, for trials that compute.
use Rattle.std.specs.Prelude.{ℕ}
use Rattle.refusal.specs.Numbers.{number_of}
use Rattle.step.proofs.Laws.Opened.{opened as below}
use Rattle.run.specs.Run.{run_by, plus, counts_of, counted, summed, own_counts, tallied, run}
use Rattle.run.specs.Schedule.{item_sound, schedule_refusal, accepts, schedule_sound}
use Rattle.run.specs.Compared.{cut, memory_in}
use Rattle.run.proofs.Laws.AloneTest.{unmet, alone_from, alone_in, alone}

-- naming this opens all of them
unfoldable pub opened : ℕ
unfolding below run_by plus counts_of counted summed own_counts tallied run number_of item_sound schedule_refusal accepts schedule_sound cut memory_in unmet alone_from alone_in alone
opened = 0
