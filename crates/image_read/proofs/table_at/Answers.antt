use Rattle.image_bytes.specs.Code.Reading.{number_at}
use Rattle.image_read.proofs.Table.{queues_fit}
use Rattle.image_read.proofs.table_at.Goals as goal

pub returns : goal.returns
unfolding number_at
returns c = rw (c.live_counts-live.ensures (queues_fit _ _ _ _ c.queues_at-queues.ensures c.requires.1), c.queues_at-queues.ensures, c.psws_at-psw.ensures, c.number_at-flag.ensures.value)
