-- The parts that an address specifies, as code works them out from B and the low three address bits.
use Rattle.std.specs.Prelude.{ℕ, zero, suc, ◌/◌, ◌%◌, ◌<◌, ◌≡◌, Bool, not, ◌&&◌, Some, None}
use Rattle.std.proofs.Common.{mod-lt, arith, ◌∙◌}
use Rattle.std.proofs.Math.Path.{refl, ap}
use Rattle.std.proofs.Math.Bool.{true, false, cond, true≢false}
use Rattle.std.proofs.Math.Dec.{eqb}
use Rattle.std.proofs.Math.ListN.{get_or}
use borrow.Author.Tests.{eqb-true, eq-eqb, ne_eqb}
use Rattle.word.specs.Parts.{part_at}
use Rattle.operation.specs.Roles.{b_of}
use Rattle.operation.specs.Specified.{byte, word_parts, specified_part}
use Rattle.operation_data.specs.Code.Reached.{whole_word}

-- B = 1
pub byte_specified : (low e : ℕ) → b_of low ≡ 1 → specified_part low e ≡ Some (part_at 8 (e % 8))
unfolding specified_part
byte_specified low e b = rw (eq-eqb (b_of low) 1 b)

-- B = 0, by the line of the low three address bits
line_specified : (low e : ℕ) → (b_of low ≡ 1 → ⊥) → specified_part low e ≡ get_or word_parts (e % 8) None
unfolding specified_part
line_specified low e b = rw (ne_eqb (b_of low) 1 b)

-- odd bits are those of a quarter
odd_line : (n : ℕ) → n < 8 → n % 2 ≡ 1 → get_or word_parts n None ≡ Some (part_at 16 (n / 2))
unfolding word_parts
odd_line (suc zero) l h = refl
odd_line (suc (suc (suc zero))) l h = refl
odd_line (suc (suc (suc (suc (suc zero))))) l h = refl
odd_line (suc (suc (suc (suc (suc (suc (suc zero))))))) l h = refl
odd_line zero l h = let z : ⊥ = omega arith in absurd z
odd_line (suc (suc zero)) l h = let z : ⊥ = omega arith in absurd z
odd_line (suc (suc (suc (suc zero)))) l h = let z : ⊥ = omega arith in absurd z
odd_line (suc (suc (suc (suc (suc (suc zero)))))) l h = let z : ⊥ = omega arith in absurd z
odd_line (suc (suc (suc (suc (suc (suc (suc (suc n)))))))) l h = let z : ⊥ = omega arith in absurd z

-- other even bits than 0 and 4 those of a half
even_line : (n : ℕ) → n < 8 → (n % 2 ≡ 1 → ⊥) → (n ≡ 0 → ⊥) → (n ≡ 4 → ⊥) → get_or word_parts n None ≡ Some (part_at 32 (n / 4))
unfolding word_parts
even_line (suc (suc zero)) l h z f = refl
even_line (suc (suc (suc (suc (suc (suc zero)))))) l h z f = refl
even_line zero l h z f = absurd (z refl)
even_line (suc zero) l h z f = absurd (h refl)
even_line (suc (suc (suc zero))) l h z f = absurd (h refl)
even_line (suc (suc (suc (suc zero)))) l h z f = absurd (f refl)
even_line (suc (suc (suc (suc (suc zero))))) l h z f = absurd (h refl)
even_line (suc (suc (suc (suc (suc (suc (suc zero))))))) l h z f = absurd (h refl)
even_line (suc (suc (suc (suc (suc (suc (suc (suc n)))))))) l h z f = let x : ⊥ = omega arith in absurd x

module _ (low e : ℕ) where
  pub whole_specified : whole_word low e ≡ true → specified_part low e ≡ Some (part_at 64 0)
  unfolding whole_word specified_part word_parts
  whole_specified = go (eqb (b_of low) 1) (eqb (e % 8) 0) refl
    where
      go : (b z : Bool) → eqb (e % 8) 0 ≡ z → (not b && z) ≡ true → cond b (byte (e % 8)) (get_or word_parts (e % 8) None) ≡ Some (part_at 64 0)
      go true z q h = let x : true ≡ false = cc in absurd (true≢false x)
      go false false q h = let x : true ≡ false = cc in absurd (true≢false x)
      go false true q h = ap (λ (n : ℕ). get_or word_parts n None) (eqb-true (e % 8) 0 q)

  module _ (b : b_of low ≡ 1 → ⊥) where
    pub quarter_specified : e % 8 % 2 ≡ 1 → specified_part low e ≡ Some (part_at 16 (e % 8 / 2))
    quarter_specified h = line_specified low e b ∙ odd_line (e % 8) (mod-lt e (omega arith)) h

    pub none_specified : e % 8 ≡ 4 → specified_part low e ≡ None
    unfolding word_parts
    none_specified h = line_specified low e b ∙ ap (λ (n : ℕ). get_or word_parts n None) h

    -- where the word is not specified whole
    pub half_specified : whole_word low e ≡ false → (e % 8 % 2 ≡ 1 → ⊥) → (e % 8 ≡ 4 → ⊥) → specified_part low e ≡ Some (part_at 32 (e % 8 / 4))
    unfolding whole_word
    half_specified w h f = line_specified low e b ∙ even_line (e % 8) (mod-lt e (omega arith)) h zero_not f
      where
        zero_not : e % 8 ≡ 0 → ⊥
        zero_not z = true≢false (rw (ne_eqb (b_of low) 1 b, eq-eqb (e % 8) 0 z) at w)
