-- The three ends of a reading, each as the library's definitions have it.
use Rattle.std.specs.Prelude.{ℕ, min, ◌≤◌, ◌≡◌, refl, true, false, List, length, take, drop, Result, Ok, Err}
use Rattle.std.proofs.Common.{sym, ap, ◌∙◌, arith, length-append, length-drop}
use Rattle.std.proofs.Math.Seq.{drop-append_seam}
use Rattle.refusal.specs.declared.Refusal.{Refusal}
use Rattle.refusal.specs.declared.Refusal.TheVariants.{ShortBuffer}
use Rattle.window.specs.declared.Row.{Row}
use Rattle.step.specs.declared.ProcessTable.{ProcessTable}
use Rattle.image.specs.Image.{Image, Decoded, bad, good, state_of, decode, row_length}
use Rattle.image.specs.Fields.{over}
use Rattle.image_bytes.specs.Laws.Listed.{length_listed}
use Rattle.library.specs.declared.Sizes.{Sizes}
use Rattle.library.specs.declared.Rows.{Rows}
use Rattle.library.specs.Buffers.{Buffers, room_of, fits, sizes_of, holding}
use Rattle.library.specs.Calls.{unless, leaving, check_answer, decoded_refusal, decoded_answer, read_answer, decoded_leaves, read_leaves}
use Rattle.library.specs.Held.{lent_buffers}
use Rattle.library.specs.Code.HeldRows.{held_rows, SamePlaces}
use Rattle.library.specs.Promises.{read_answered, ReadPromise}
use Rattle.library.proofs.Laws.Places.{fitting, take_over, drop_later}
use Rattle.library.proofs.Laws.Held.{before, lengths, room_held}
use Rattle.library.proofs.Laws.Numbers.{read_promise}
use Rattle.image_check.specs.Code.Places.{row_at, rows_at, image_at}
use Rattle.image_check.specs.Laws.Sections.{sizes_image}
use Rattle.image_check.specs.Laws.Found.{Found}

-- what is promised where decoding gives this
decoded_promise : (b : Buffers) (bytes : List ℕ) (d : Decoded) (r : Result Sizes Refusal) (a : Buffers) → decode bytes ≡ d
    → r ≡ read_answered (decoded_answer (room_of b) d) → a ≡ decoded_leaves b d → ReadPromise b bytes r a
unfolding read_answer read_leaves
decoded_promise b bytes d r a q e k =
    read_promise (e ∙ ap (λ (x : Decoded). read_answered (decoded_answer (room_of b) x)) (sym q)) (k ∙ ap (decoded_leaves b) (sym q))

-- the image's refusals
pub read_refused : (b : Buffers) (bytes : List ℕ) (e : Refusal) → read_answered (check_answer (decode bytes)) ≡ Err e → ReadPromise b bytes (Err e) b
unfolding read_answered check_answer decoded_answer decoded_leaves
read_refused b bytes e h = go (decode bytes) refl h
  where
    go : (d : Decoded) → decode bytes ≡ d → read_answered (check_answer d) ≡ Err e → ReadPromise b bytes (Err e) b
    go (bad x) q h = decoded_promise b bytes (bad x) (Err e) b q (sym h) refl
    go (good i) q h = let z : ◌≡◌ {A = ℕ} 0 1 = cc in absurd (omega arith)

module _ (v : Rows) (table : ProcessTable) (constant_tags constant_words register_tags register_words program data_tags data_words : List ℕ) (bytes : List ℕ) (n : Sizes)
    (seven : length v.at ≡ 7) (found : Found n bytes) where
  abbrev held : Buffers
  held = before v table constant_tags constant_words register_tags register_words program data_tags data_words

  abbrev image : Image
  image = image_at n bytes

  -- the room for the image is that for its sizes
  room : fits (sizes_of (state_of image)) (room_of held) ≡ fits n (lengths v table constant_tags constant_words register_tags register_words program data_tags data_words)
  room = rw (sizes_image n bytes, room_held v table constant_tags constant_words register_tags register_words program data_tags data_words seven)

  -- 7
  pub read_short : fits n (lengths v table constant_tags constant_words register_tags register_words program data_tags data_words) ≡ false → ReadPromise held bytes (Err ShortBuffer) held
  unfolding read_answered decoded_answer decoded_refusal decoded_leaves unless leaving
  read_short e = decoded_promise held bytes (good image) (Err ShortBuffer) held found.accepts (rw (room, e)) (rw (room, e))

  -- the rows of the image over the first of those that are held
  module _ (fitted : fits n (lengths v table constant_tags constant_words register_tags register_words program data_tags data_words) ≡ true) where
    few : n.rows ≤ min v.n 7
    few = (fitting n (lengths v table constant_tags constant_words register_tags register_words program data_tags data_words) fitted).rows

    rows_length : length (rows_at n.rows bytes) ≡ n.rows
    unfolding rows_at
    rows_length = length_listed row_length (λ p. row_at p bytes) n.rows 1

    rows_held : take v.n (over (rows_at n.rows bytes) v.at) ≡ over (rows_at n.rows bytes) (take v.n v.at)
    rows_held = take_over (rows_at n.rows bytes) v.at v.n (omega (arith, rows_length, few)) (omega (arith, rows_length, few, seven))

    pub same_places : {at : List Row} → at ≡ over (rows_at n.rows bytes) v.at → SamePlaces v (record { at = at; n = v.n })
    same_places e = record {
      count = refl;
      places =
          ap length e ∙ length-append (rows_at n.rows bytes) _ ∙ omega (arith, rows_length, few, seven, length-drop (length (rows_at n.rows bytes)) v.at);
      beyond =
          ap (drop v.n) e
          ∙ drop_later (length (rows_at n.rows bytes)) v.n v.at (over (rows_at n.rows bytes) v.at) (omega (arith, rows_length, few)) (drop-append_seam (rows_at n.rows bytes) _);
    }

    pub read_image : {at : List Row} {t : ProcessTable} {constant_tags' constant_words' register_tags' register_words' program' data_tags' data_words' : List ℕ} → at ≡ over (rows_at n.rows bytes) v.at
        → t ≡ (state_of image).table
        → ((rows : List Row) (t : ProcessTable) → lent_buffers (over image.rows rows) (state_of image).table constant_tags' constant_words' register_tags' register_words' program' data_tags' data_words'
        ≡ holding (state_of image) (lent_buffers rows t constant_tags constant_words register_tags register_words program data_tags data_words))
        → ReadPromise held bytes (Ok n) (lent_buffers (held_rows (record { at = at; n = v.n })) t constant_tags' constant_words' register_tags' register_words' program' data_tags' data_words')
    unfolding read_answered decoded_answer decoded_refusal decoded_leaves unless leaving held_rows image_at
    read_image e k f =
        decoded_promise held bytes (good image) (Ok n) _ found.accepts (rw (room, fitted, sizes_image n bytes))
        (rw (room, fitted, e, rows_held, k) (f (held_rows v) table))
