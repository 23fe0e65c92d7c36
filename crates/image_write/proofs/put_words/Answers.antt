use Prim.Native.Nat.{ℕ, ◌+◌}
use mathlib.Core.Path.{sym, ap}
use Rattle.image_write.proofs.Sections.{words_size, words_put}
use Rattle.image_write.proofs.put_words.Goals as goal

pub returns : goal.returns
returns c =
    let a = c.args in
    record { value = ap (λ (n : ℕ). a.at + n) (sym (words_size a.w a.words.now)); output_after = words_put _ _ _ _ c.requires c.put_number.ensures c.put_words.ensures }
