-- The input before the image: a count of 2 bytes and as many items, or 1 where it ends before.
use Rattle.std.specs.Prelude.{ℕ, zero, suc, ◌+◌, ◌-◌, ◌*◌, ◌≤◌, ◌<◌, ◌≡◌, refl, List, [], ◌∷◌, length}
use Rattle.std.proofs.Common.{sym, ap, ◌∙◌}
use native.Mathlib.Omega.{arith}
use Rattle.std.proofs.Math.ListN.{take, drop, length-drop}
use Rattle.std.proofs.Math.Seq.{take_all, drop-drop}
use borrow.Author.Tests.{lt-ltb, le-ltb, le-leb}
use Rattle.run.specs.Schedule.{most_items}
use Rattle.refusal.specs.declared.Refusal.TheVariants.{InputEnds, InputTooLong}
use Rattle.image.specs.Codec.{Result, refused, accepted, bind, number, field, num, count, via, dec_many, section, no_header, list_section, no_state, uniform_section}
use Rattle.image.specs.Image.{decode}
use Rattle.report.specs.Report.{most_input, refusal_line, item_codec, schedule_codec, output_read, output_scheduled, output_of}

-- ---- items: one byte each

abbrev items_from : (n : ℕ) → List ℕ → Result (List ℕ)
items_from n b = dec_many (λ _. item_codec) no_state tt n b

item_read : (x : ℕ) (b : List ℕ) → item_codec.dec (x ∷ b) ≡ accepted x b
unfolding item_codec num field number
item_read x b = let e : 0 * 256 + x ≡ x = omega arith in rw (le-ltb (suc (length b)) 1 (omega arith), e)

items_whole : (n : ℕ) (b : List ℕ) → n ≤ length b → items_from n b ≡ accepted (take n b) (drop n b)
unfolding dec_many bind
items_whole zero b h = refl
items_whole (suc n) [] h = absurd (omega arith)
items_whole (suc n) (x ∷ b) h = rw (item_read x b, items_whole n b (omega arith))

items_short : (n : ℕ) (b : List ℕ) → length b < n → items_from n b ≡ refused InputEnds
unfolding dec_many bind item_codec num
items_short zero b h = absurd (omega arith)
items_short (suc n) [] h = refl
items_short (suc n) (x ∷ b) h = rw (item_read x b, items_short n b (omega arith))

-- ---- the schedule

module _ (s : List ℕ) where
  schedule_of : (x : Result (List ℕ)) → 2 ≤ length s → field 2 s ≤ most_items → items_from (field 2 s) (drop 2 s) ≡ x → schedule_codec.dec s ≡ x
  unfolding schedule_codec uniform_section list_section via section no_header count num bind
  schedule_of (refused e) h k i = rw (le-ltb (length s) 2 h, le-leb (field 2 s) most_items k, i)
  schedule_of (accepted l r) h k i = rw (le-ltb (length s) 2 h, le-leb (field 2 s) most_items k, i)

  no_count : length s < 2 → schedule_codec.dec s ≡ refused InputEnds
  unfolding schedule_codec uniform_section list_section via section count num bind
  no_count h = rw (lt-ltb (length s) 2 h)

  -- ---- the output

  pub input_too_long : most_input < length s → output_of s ≡ refusal_line InputTooLong
  unfolding output_of
  input_too_long h = rw (lt-ltb most_input (length s) h)

  output_scheduled_lem : (x : Result (List ℕ)) → length s ≤ most_input → schedule_codec.dec s ≡ x → output_of s ≡ output_scheduled x
  unfolding output_of
  output_scheduled_lem x h e = rw (le-ltb most_input (length s) h, e)

  pub count_missing : length s ≤ most_input → length s < 2 → output_of s ≡ refusal_line InputEnds
  unfolding output_scheduled
  count_missing h k = output_scheduled_lem (refused InputEnds) h (no_count k)

  pub items_missing : length s ≤ most_input → 2 ≤ length s → field 2 s ≤ most_items → length s - 2 < field 2 s → output_of s ≡ refusal_line InputEnds
  unfolding output_scheduled
  items_missing h k f m =
      output_scheduled_lem (refused InputEnds) h (schedule_of _ k f (items_short (field 2 s) (drop 2 s) (omega (arith, length-drop 2 s))))

  -- the items, and the image behind them
  pub schedule_whole : (n : ℕ) → n ≡ field 2 s → length s ≤ most_input → 2 ≤ length s → n ≤ most_items → n ≤ length s - 2
      → output_read (take (2 + n - 2) (drop 2 s)) (decode (take (length s - (2 + n)) (drop (2 + n) s))) ≡ output_of s
  unfolding output_scheduled
  schedule_whole n e h k f m =
      let items : 2 + n - 2 ≡ n = omega arith in
      let image : take (length s - (2 + n)) (drop (2 + n) s) ≡ drop (2 + n) s =
      take_all (length s - (2 + n)) (drop (2 + n) s) (omega (arith, length-drop (2 + n) s)) in
      let whole : items_from n (drop 2 s) ≡ accepted (take n (drop 2 s)) (drop n (drop 2 s)) = items_whole n (drop 2 s) (omega (arith, length-drop 2 s)) in
      let read = output_scheduled_lem (accepted _ _) h (schedule_of _ k (omega arith) (ap (λ (j : ℕ). items_from j (drop 2 s)) (sym e) ∙ whole)) in
      rw (items, image, ← drop-drop n 2 s) (sym read)
