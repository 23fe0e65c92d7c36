use Prim.Native.Nat.{ℕ, ◌+◌}
use mathlib.Core.Path.{sym, ap}
use Rattle.image_write.proofs.Sections.{cells_size, cells_put}
use Rattle.image_write.proofs.put_cells.Goals as goal

pub returns : goal.returns
returns c =
    let a = c.args in
    record { value = ap (λ (n : ℕ). a.at + n) (sym (cells_size a.w a.words.now a.tags.now c.requires.0)); output_after = cells_put _ _ _ c.requires.0 _ _ c.requires.1 c.put_number.ensures c.put_cells.ensures }
