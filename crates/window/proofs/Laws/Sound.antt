-- Sound words and tags as orders.
use Rattle.std.specs.Prelude.{◌≡◌, Bool, true, false, ◌&&◌, ◌||◌, ℕ, ◌+◌, ◌%◌, ◌^◌, ◌≤◌, ◌<◌, leb}
use Rattle.std.proofs.Common.{ap, arith, le-leb, leb-true, lt-ltb, ltb-true}
use Rattle.window.specs.Sound.{bits, word_sound, quality_sound, tag_sound}
use Rattle.word.proofs.Laws.Bools.{Le?, below, above, le?, and_left, and_right, and_both, or_right}

pub word_sound_lem : (w : ℕ) → w < 2 ^ 64 → word_sound w ≡ true
unfolding word_sound bits
word_sound_lem w h = lt-ltb w (2 ^ 64) h

pub sound_word : (w : ℕ) → word_sound w ≡ true → w < 2 ^ 64
unfolding word_sound bits
sound_word w e = ltb-true w (2 ^ 64) e

-- full with the quality q
pub full_sound : (q : ℕ) → q ≤ 6 → tag_sound q ≡ true
unfolding tag_sound
full_sound q h = ap (λ (b : Bool). b || (leb 8 q && leb q 14)) (le-leb q 6 h)

-- the tag of a constant is that of a full register
pub quality_tag : (q : ℕ) → quality_sound q ≡ true → tag_sound (q % 8) ≡ true
unfolding quality_sound
quality_tag q e = full_sound (q % 8) (omega (arith, leb-true q 6 e))

-- empty with the quality q
pub empty_sound : (q : ℕ) → q ≤ 6 → tag_sound (q + 8) ≡ true
unfolding tag_sound
empty_sound q h =
    or_right (leb (q + 8) 6) (leb 8 (q + 8) && leb (q + 8) 14)
    (and_both (leb 8 (q + 8)) (leb (q + 8) 14) (le-leb 8 (q + 8) (omega arith)) (le-leb (q + 8) 14 (omega arith)))

-- the quality of a sound tag
pub quality_sound_lem : (t : ℕ) → tag_sound t ≡ true → t % 8 ≤ 6
unfolding tag_sound
quality_sound_lem t e = go (leb t 6) (le? t 6) e
  where
    go : (b : Bool) → Le? t 6 b → b || (leb 8 t && leb t 14) ≡ true → t % 8 ≤ 6
    go true (below p) e = omega arith
    go false (above p) e = omega (arith, leb-true 8 t (and_left (leb 8 t) (leb t 14) e), leb-true t 14 (and_right (leb 8 t) (leb t 14) e))
