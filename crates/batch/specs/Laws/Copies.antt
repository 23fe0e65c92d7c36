-- What goes into a buffer: a text straight, or a copy of one.
use Rattle.std.specs.Prelude.{ℕ, ◌≤◌, ◌<◌, ◌≡◌, refl, List, ◌++◌, length, take, drop}
use Rattle.std.proofs.Common.{ap, ◌∙◌, arith, lt-ltb, le-ltb, length-take, take_at}
use Rattle.report_text.specs.Texts.{report_room, TextPromise}
use Rattle.report_text.specs.Laws.Texts.{put_whole}
use Rattle.batch.specs.Output.{bytes_copied, copied_into}

module _ (text buffer : List ℕ) where
  -- a buffer that is shorter stays as it is
  pub none_copied : length buffer < length text → (0 ≡ bytes_copied text buffer) × (buffer ≡ copied_into text buffer)
  unfolding bytes_copied copied_into
  none_copied h = rw (lt-ltb (length buffer) (length text) h) (refl, refl)

  pub all_copied : (n : ℕ) (after : List ℕ) → n ≡ length text → after ≡ text ++ drop (length text) buffer → length text ≤ length buffer
      → (n ≡ bytes_copied text buffer) × (after ≡ copied_into text buffer)
  unfolding bytes_copied copied_into
  all_copied n after e is h = rw (le-ltb (length buffer) (length text) h) (e, is)

  module _ (n : ℕ) (after : List ℕ) (p : TextPromise text buffer n after) where
    pub at_most : n ≤ length buffer
    at_most = omega (arith, p.answer, length-take (length buffer) text)

    -- a text that goes straight into a buffer with room for every text
    pub put_straight : report_room ≤ length buffer → (n ≡ bytes_copied text buffer) × ((after ≡ copied_into text buffer) × (length text ≤ report_room))
    put_straight h =
        let w = put_whole text buffer n after p h in
        let c = all_copied n after w.0 w.1 (omega (arith, p.short)) in
        (c.0, (c.1, omega (arith, p.short)))

    -- a copy of what such a buffer holds
    pub copied_held : report_room ≤ length buffer → (out : List ℕ) (r : ℕ) (left : List ℕ) → (r ≡ bytes_copied (take n after) out) × (left ≡ copied_into (take n after) out)
        → (r ≡ bytes_copied text out) × ((left ≡ copied_into text out) × (length text ≤ report_room))
    copied_held h out r left c =
        let w = put_whole text buffer n after p h in
        let e : take n after ≡ text = rw (w.0, w.1) (take_at text (drop (length text) buffer) (length text) refl) in
        (c.0 ∙ ap (λ (l : List ℕ). bytes_copied l out) e, (c.1 ∙ ap (λ (l : List ℕ). copied_into l out) e, omega (arith, p.short)))
