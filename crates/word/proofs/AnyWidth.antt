-- A part placed is extracted again and all else stays, for any width that divides 64.
use Rattle.std.specs.Prelude.{◌≡◌, ℕ, ◌+◌, ◌*◌, ◌%◌, ◌^◌, ◌<◌, ◌≤◌, ◌≢◌}
use Rattle.word.specs.declared.Part.{Part}
use Rattle.word.specs.Parts.{part_at, extracted, placed, Fills}
use Rattle.word.proofs.Laws.Parts.{extracted_lt, placed_again, bits_kept, others_kept, word_kept}

-- zeros stand before a part that is extracted, for any width and place
pub zeros_before : (part : Part) (word : ℕ) → extracted part word < 2 ^ part.width
zeros_before part word = extracted_lt part word

module _ (part : Part) (fills : Fills part) (register word : ℕ) where
  -- a part placed is extracted again
  pub part_again : extracted part (placed part register word) ≡ register % 2 ^ part.width
  part_again = placed_again part register word

  -- every bit outside the part stays; bit i is the part of one bit at place i
  pub bits_stay : (i : ℕ) → i < 64 → (part.width * part.place ≤ i → i < part.width * part.place + part.width → ⊥)
      → extracted (part_at 1 i) (placed part register word) ≡ extracted (part_at 1 i) word
  bits_stay i h outside = bits_kept part fills register word i h outside

  -- every other part of that width stays
  pub others_stay : (q : ℕ) → q < fills.count → part.place ≢ q
      → extracted (part_at part.width q) (placed part register word) ≡ extracted (part_at part.width q) word
  others_stay q h other = others_kept part fills register word q h other

  -- the word has 64 bits
  pub word_stays : word < 2 ^ 64 → placed part register word < 2 ^ 64
  word_stays h = word_kept part fills register word h
