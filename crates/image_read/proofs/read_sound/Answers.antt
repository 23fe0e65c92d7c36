use Prim.Native.Nat.{min}
use mathlib.Core.Path.{◌≡◌, refl, sym, ◌∙◌}
use mathlib.Core.Bool.{false}
use lib.ListN.{length}
use Rattle.library.specs.Buffers.{fits}
use Rattle.library.specs.Held.{room_from}
use Rattle.image_check.specs.Laws.Found.{found}
use Rattle.image_read.specs.Laws.Read.{read_short}
use Rattle.image_read.proofs.read_sound.Goals as goal

pub returns-then-not-fits : goal.returns-then-not-fits
returns-then-not-fits c = let a = c.args in let seven = c.well_formed.0.1.1.0.1.0.1 in let q : fits a.n (room_from (min a.rows.n 7) (length a.constant_tags.now) (length a.constant_words.now) (length a.register_tags.now) (length a.register_words.now) (length a.program.now) (length a.data_tags.now) (length a.data_words.now)) ≡ false = rw (← c.row_count.ensures) (sym c.fits.ensures ∙ c.if-not-fits.true) in rw c.refused.ensures (read_short a.rows a.table a.constant_tags.now a.constant_words.now a.register_tags.now a.register_words.now a.program.now a.data_tags.now a.data_words.now a.image.now a.n seven (found a.image.now a.n c.requires) q, record { count = refl; places = seven; beyond = refl })

pub returns : goal.returns
returns c = c.read_fitting.ensures c.args.table
