use Rattle.batch.specs.Laws.Input.{input_too_long, count_missing, items_missing, schedule_whole}
use Rattle.batch.specs.Laws.Texts.{promised_as}
use Rattle.image_bytes.specs.Code.Reading.{number_at}
use Rattle.image.specs.Codec.{field}
use native.Mathlib.Omega.{arith}
use mathlib.Core.Path.{◌≡◌, sym}
use Rattle.batch.proofs.output.Goals as goal

pub returns-then-input-gt-MOST_INPUT : goal.returns-then-input-gt-MOST_INPUT
returns-then-input-gt-MOST_INPUT c = promised_as _ _ _ _ _ (sym (input_too_long _ c.if-input-gt-MOST_INPUT.true)) c.refusal_text.ensures

pub returns-then-input-lt2 : goal.returns-then-input-lt2
returns-then-input-lt2 c = promised_as _ _ _ _ _ (sym (count_missing _ c.if-input-gt-MOST_INPUT.false c.if-input-lt2.true)) c.refusal_text-then-input-lt2.ensures

pub returns-then-input-items : goal.returns-then-input-items
unfolding number_at
returns-then-input-items c = let s = c.args.input.now in let e : c.number_at-items.result ≡ field 2 s = c.number_at-items.ensures.value in promised_as _ _ _ _ _ (sym (items_missing s c.if-input-gt-MOST_INPUT.false c.if-input-lt2.false (omega (arith, c.number_at-items.ensures.below)) (omega (arith, c.if-input-items.true)))) c.refusal_text-then-input-items.ensures

pub returns : goal.returns
unfolding number_at
returns c = let s = c.args.input.now in promised_as _ _ _ _ _ (schedule_whole s _ c.number_at-items.ensures.value c.if-input-gt-MOST_INPUT.false c.if-input-lt2.false (omega (arith, c.number_at-items.ensures.below)) (omega (arith, c.if-input-items.false))) c.image_text.ensures
