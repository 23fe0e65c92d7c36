use Prim.Native.Nat.{◌-◌, ◌≤◌}
use mathlib.Core.Path.{◌≡◌}
use lib.ListN.{length}
use Rattle.std.specs.Prelude.{Ok}
use Rattle.image.specs.Codec.{dec_many}
use Rattle.image.specs.Image.{row_codec, row_task}
use Rattle.image_bytes.specs.Code.Scanning.{scan}
use Rattle.image_check.proofs.check_rows.Given as goal

abbrev pub invariant-loop : goal.invariant-loop
invariant-loop l = record {
  inside : l.at ≤ length l.s;
  so_far : scan (dec_many row_codec row_task 0 l.n) l.s (Ok l.first) ≡ scan (dec_many row_codec row_task l.before (l.n - l.counter)) l.s (Ok l.at);
}
