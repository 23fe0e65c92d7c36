-- The loop over the tags of cells: a turn, and how many tags there are.
use Prim.Native.Nat.{ℕ, suc, ◌+◌, ◌-◌, ◌*◌, ◌/◌, ◌%◌, ◌≤◌, ◌<◌}
use Rattle.std.specs.Prelude.{min, Ok, Err}
use Rattle.std.specs.Int.{div_ceil}
use Rattle.std.proofs.Math.Nat.{min-eq_left, min-eq_right, min-le_right}
use Rattle.std.proofs.Math.Decide.{dec_lt}
use mathlib.Core.Path.{◌≡◌, ap, ◌∙◌}
use mathlib.Core.Bool.{Bool, true, false, cond, ◌&&◌}
use mathlib.Core.List.{List, ◌∷◌}
use native.Mathlib.Omega.{arith}
use lib.ListN.{length, get_or, drop}
use Rattle.refusal.specs.declared.Refusal.{Refusal}
use Rattle.refusal.specs.declared.Refusal.TheVariants.{InputEnds}
use Rattle.image.specs.Codec.{dec_many, no_state}
use Rattle.image.specs.Image.{cell_codec, cell_length, word_length}
use Rattle.word.proofs.Laws.Conjunctions.{and_assoc}
use Rattle.step.specs.Soundness.{every}
use Rattle.image.proofs.Laws.Conjoined.{and_true}
use Rattle.image_bytes.specs.Code.Reading.{listed, tags_at}
use Rattle.image_bytes.specs.Code.Scanning.{Scan, scanned}
use Rattle.image_bytes.specs.Laws.Cells.{cells_whole, cells_short}
use Rattle.image_bytes.specs.Laws.Fields.{byte_at}

module _ (f : ℕ → Bool) where
  pub tags_step : (s : List ℕ) (p n i : ℕ) (good : Bool) {q : ℕ} → q ≡ p + cell_length → i < n → ((good && f (get_or s p 0)) && every f (tags_at (n - (i + 1)) q s)) ≡ (good && every f (tags_at (n - i) p s))
  unfolding tags_at listed every
  tags_step s p n i good b h =
      let e : n - i ≡ suc (n - (i + 1)) = omega arith in
      let c : tags_at (n - i) p s ≡ get_or s p 0 ∷ tags_at (n - (i + 1)) (p + cell_length) s = ap (λ (j : ℕ). tags_at j p s) e ∙ rw (byte_at p s) in
      rw (b, c) (and_assoc good _ _)

  pub tags_end : (s : List ℕ) (p n i : ℕ) (good : Bool) → n ≤ i → (good && every f (tags_at (n - i) p s)) ≡ good
  unfolding tags_at listed every
  tags_end s p n i good h = let e : n - i ≡ 0 = omega arith in rw e (and_true good)

-- ---- how many of n cells have their tag among the bytes that are left

round_up : (left : ℕ) → div_ceil left cell_length ≡ (left + word_length) / cell_length
round_up left = go (dec_lt (left % cell_length) 1)
  where
    go : Dec (left % cell_length < 1) → div_ceil left cell_length ≡ (left + word_length) / cell_length
    go (yes h) = let m : min 1 (left % cell_length) ≡ left % cell_length = min-eq_right (omega arith) in omega (arith, m)
    go (no h) = let m : min 1 (left % cell_length) ≡ 1 = min-eq_left (omega arith) in omega (arith, m)

module _ (n left : ℕ) where
  pub all_tags : cell_length * n ≤ left → min n (div_ceil left cell_length) ≡ n
  all_tags h = let r = round_up left in min-eq_left (omega (arith, r))

  pub some_tags : left < cell_length * n → min n (div_ceil left cell_length) ≡ (left + word_length) / cell_length
  some_tags h = let r = round_up left in min-eq_right (omega (arith, r)) ∙ r

  -- the last of them begins there
  pub tags_begin : cell_length * min n (div_ceil left cell_length) ≤ left + word_length
  tags_begin = let r = round_up left in let m = min-le_right n (div_ceil left cell_length) in omega (arith, r, m)

-- ---- what the check of n cells finds, where the tags that are there were tested

module _ (x : Refusal) (f : ℕ → Bool) (s : List ℕ) (n p : ℕ) {left : ℕ} (rest : left ≡ length s - p) {tags : ℕ} (there : tags ≡ min n (div_ceil left cell_length)) {ok : Bool}
    (tested : ok ≡ every f (tags_at tags p s)) where
  abbrev cells : Scan
  cells = scanned (length s) (dec_many (λ _. cell_codec x f) no_state tt n (drop p s))

  of_all : cell_length * n ≤ left → cells ≡ cond ok (Ok (length s - (left - cell_length * n))) (Err x)
  of_all h = cells_whole x f s n p rest h (tested ∙ ap (λ (k : ℕ). every f (tags_at k p s)) (there ∙ all_tags n left h))

  of_some : left < cell_length * n → cells ≡ cond ok (Err InputEnds) (Err x)
  of_some h = cells_short x f s n p rest h (tested ∙ ap (λ (k : ℕ). every f (tags_at k p s)) (there ∙ some_tags n left h))

  pub tag_bad : ok ≡ false → cells ≡ Err x
  tag_bad g = go (dec_lt left (cell_length * n))
    where
      go : Dec (left < cell_length * n) → cells ≡ Err x
      go (yes h) = of_some h ∙ rw g
      go (no h) = of_all (omega arith) ∙ rw g

  pub tags_short : ok ≡ true → left / cell_length < n → cells ≡ Err InputEnds
  tags_short g h = of_some (omega arith) ∙ rw g

  pub tags_whole : ok ≡ true → n ≤ left / cell_length → cells ≡ Ok (length s - (left - cell_length * n))
  tags_whole g h = of_all (omega arith) ∙ rw g
