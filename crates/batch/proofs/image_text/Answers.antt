use Prim.Native.Nat.{ℕ}
use mathlib.Core.Path.{ap}
use native.Mathlib.Omega.{arith}
use lib.ListN.{length, length-replicate}
use Rattle.image_bytes.specs.Laws.Fields.{all_bytes}
use Rattle.library.specs.Empty.{no_rows}
use Rattle.batch.specs.Laws.Readings.{read_refused, read_text}
use Rattle.batch.specs.Laws.Texts.{promised_as}
use Rattle.batch.proofs.image_text.Goals as goal

pub returns-in-Err : goal.returns-in-Err
unfolding no_rows
returns-in-Err c = let k = length-replicate {A = ℕ} 8192 0 in promised_as _ _ _ _ _ (read_refused _ c.requires _ _ (record { rows = ap length c.no_rows.ensures; constant_tags = k; constant_words = k; register_tags = k; register_words = k; program = k; data_tags = k; data_words = k }) _ c.read_owned-x.ensures.0 _ _ c.in-Err.is) c.refusal_text.ensures

pub returns-in-Ok : goal.returns-in-Ok
unfolding no_rows
returns-in-Ok c = let k = length-replicate {A = ℕ} 8192 0 in promised_as _ _ _ _ _ (read_text _ c.requires _ _ (record { rows = ap length c.no_rows.ensures; constant_tags = k; constant_words = k; register_tags = k; register_words = k; program = k; data_tags = k; data_words = k }) _ c.read_owned-x.ensures.0 _ _ (all_bytes _ (λ i. omega (arith, c.shared_slice_known-2-1.given i))) c.in-Ok.is) c.run_text.ensures
