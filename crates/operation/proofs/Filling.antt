-- Every part that an address specifies has a width that divides 64: 64, 32, 16 or 8 bits. So the laws of word / AnyWidth hold of it.
use Rattle.std.proofs.Common.{Some}
use Rattle.std.specs.Prelude.{ℕ, ◌+◌, ◌*◌, ◌%◌, ◌^◌, ◌≤◌, ◌<◌, ◌≡◌, ◌≢◌}
use Rattle.word.specs.declared.Part.{Part}
use Rattle.word.specs.Parts.{part_at, extracted, placed, Fills}
use Rattle.word.proofs.AnyWidth.{part_again, bits_stay, others_stay}
use Rattle.operation.specs.Specified.{specified_part}
use Rattle.operation.proofs.Laws.Filling.{fills}

module _ (low e : ℕ) (part : Part) (told : specified_part low e ≡ Some part) where
  pub specified_fills : Fills part
  specified_fills = fills low e part told

  module _ (register word : ℕ) where
    -- a part stored is loaded again
    pub specified_again : extracted part (placed part register word) ≡ register % 2 ^ part.width
    specified_again = part_again part specified_fills register word

    -- every bit outside it stays
    pub specified_bits : (i : ℕ) → i < 64 → (part.width * part.place ≤ i → i < part.width * part.place + part.width → ⊥)
        → extracted (part_at 1 i) (placed part register word) ≡ extracted (part_at 1 i) word
    specified_bits i h outside = bits_stay part specified_fills register word i h outside

    -- every other part of its width stays
    pub specified_others : (q : ℕ) → q < specified_fills.count → part.place ≢ q
        → extracted (part_at part.width q) (placed part register word) ≡ extracted (part_at part.width q) word
    specified_others q h other = others_stay part specified_fills register word q h other
