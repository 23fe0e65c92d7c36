use mathlib.Core.Path.{refl}
use Rattle.window.specs.Windows.{window_of, register_window, program_window, data_window}
use Rattle.run_rings.specs.Code.Spans.{window_numbers}
use Rattle.run_rings.proofs.span.Goals as goal

pub returns : goal.returns
unfolding window_numbers register_window program_window data_window window_of
returns c = rw (c.low.ensures, c.low-2.ensures, c.low-3.ensures, c.low-4.ensures, c.low-5.ensures, c.low-6.ensures, c.end_of-end.ensures, c.end_of-program_end.ensures, c.end_of-data_end.ensures) refl
