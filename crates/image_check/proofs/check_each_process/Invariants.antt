use Prim.Native.Nat.{◌-◌, ◌≤◌}
use mathlib.Core.Path.{◌≡◌}
use lib.ListN.{length}
use Rattle.std.specs.Prelude.{Ok}
use Rattle.image.specs.Codec.{dec_many}
use Rattle.image.specs.Image.{process_codec, queue_after}
use Rattle.image_bytes.specs.Code.Scanning.{scan}
use Rattle.image_check.specs.Code.Places.{rows_at}
use Rattle.image_check.proofs.check_each_process.Given as goal

abbrev pub invariant-loop : goal.invariant-loop
invariant-loop l = record {
  inside : l.at ≤ length l.s;
  so_far : scan (dec_many (process_codec (rows_at l.n l.s)) queue_after 0 l.m) l.s (Ok l.first) ≡ scan (dec_many (process_codec (rows_at l.n l.s)) queue_after l.before (l.m - l.counter)) l.s (Ok l.at);
}
