use Rattle.step.specs.Queues.{ring, list_of, live_pts, live_counts, live_total}
use Rattle.library.specs.Empty.{empty_queue, no_processes}
use Rattle.library.proofs.no_processes.Goals as goal

pub returns : goal.returns
unfolding no_processes empty_queue live_counts live_total live_pts list_of ring
returns c = simp c.empty_queue-queue.ensures
