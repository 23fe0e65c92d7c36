use mathlib.Core.Path.{ap, ◌∙◌}
use native.Mathlib.Omega.{arith}
use lib.ListN.{length}
use Rattle.image_bytes.specs.Laws.Fields.{all_bytes}
use Rattle.library.specs.Empty.{no_rows}
use Rattle.hep_c.specs.Laws.Numbers.{found_good}
use Rattle.hep_c.specs.Laws.Promised.{counts_roomy}
use Rattle.hep_c.specs.Laws.Results.{all_left}
use Rattle.hep_c.proofs.run_accepted.Goals as goal

pub put_counts-requires : goal.put_counts-requires
put_counts-requires c = counts_roomy _ _ _ _ c.requires.fine

pub shape_of-constant_tags : goal.shape_of-constant_tags
shape_of-constant_tags c = c.read_owned-x.auto.constant_tags

pub shape_of-constant_words : goal.shape_of-constant_words
shape_of-constant_words c = c.read_owned-x.auto.constant_words

pub shape_of-register_tags : goal.shape_of-register_tags
shape_of-register_tags c = c.run_owned-y.auto.register_tags ∙ c.read_owned-x.auto.register_tags

pub shape_of-register_words : goal.shape_of-register_words
shape_of-register_words c = c.run_owned-y.auto.register_words ∙ c.read_owned-x.auto.register_words

pub shape_of-program : goal.shape_of-program
shape_of-program c = c.read_owned-x.auto.program

pub shape_of-data_tags : goal.shape_of-data_tags
shape_of-data_tags c = c.run_owned-y.auto.data_tags ∙ c.read_owned-x.auto.data_tags

pub shape_of-data_words : goal.shape_of-data_words
shape_of-data_words c = c.run_owned-y.auto.data_words ∙ c.read_owned-x.auto.data_words

pub returns : goal.returns
unfolding no_rows
returns c = let a = c.args in let f = found_good _ _ c.requires.found in let v = c.no_rows.ensures in let x = c.read_owned-x.ensures.0 in let y = c.run_owned-y.ensures.0 in all_left a.image.now a.schedule.now f.image a.n (all_bytes _ (λ i. omega (arith, c.shared_slice_known-1.given i))) f.is f.sizes _ _ (ap length v) _ _ _ _ _ _ _ _ _ _ c.requires.fine _ _ _ _ _ _ _ _ _ _ _ _ _ _ _ _ x _ y _ _ c.write_owned-w.ensures _ c.counts_answered-c.ensures _ c.length_written.ensures _ _ c.report_text-k.ensures _ c.put_counts.ensures
