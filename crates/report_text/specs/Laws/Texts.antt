-- Bytes put behind a text.
use Rattle.std.specs.Prelude.{ℕ, suc, ◌+◌, ◌≤◌, ◌<◌, ◌≡◌, refl, List, [], ◌∷◌, ◌++◌, length, take, set}
use Rattle.std.proofs.Common.{ap, sym, ◌∙◌, arith, lt-ltb, le-ltb, length-append, take_all}
use Rattle.std.proofs.lemmas.List.{set_at}
use Rattle.std.proofs.Math.Seq.{append_snoc}
use Rattle.std.specs.Borrow.{MutBor}
use Rattle.image.specs.Fields.{over}
use Rattle.report_text.specs.declared.Text.{Text as LentText}
use Rattle.report_text.specs.Texts.{report_room, longest_report, TextPromise}
use Rattle.report_text.specs.Code.Pushes.{Text, written, pushed, appended, Adds}

-- two pieces one after the other are one piece
pub appended_twice : (t : Text) (a b : List ℕ) → appended (appended t a) b ≡ appended t (a ++ b)
unfolding appended
appended_twice t [] b = refl
appended_twice t (x ∷ a) b = appended_twice (pushed t x) a b

pub appended_none : (t : Text) → t ≡ appended t []
unfolding appended
appended_none t = refl

-- one byte more, and none where there is no room
pub pushed_within : (n : ℕ) (bytes : List ℕ) (b : ℕ) → n < length bytes → written (n + 1) (set bytes n b) ≡ appended (written n bytes) (b ∷ [])
unfolding appended pushed written
pushed_within n bytes b h = rw (lt-ltb n (length bytes) h)

pub full : (n : ℕ) (bytes : List ℕ) → length bytes ≤ n → (text : List ℕ) → written n bytes ≡ appended (written n bytes) text
unfolding appended pushed written
full n bytes h [] = refl
full n bytes h (b ∷ text) = rw (le-ltb n (length bytes) h) (full n bytes h text)

-- ---- a text as a whole

-- a byte between what is there and the rest
placed_one : (before rest : List ℕ) (x b : ℕ) → pushed (written (length before) (before ++ (x ∷ rest))) b ≡ written (length (before ++ (b ∷ []))) ((before ++ (b ∷ [])) ++ rest)
unfolding pushed written
placed_one before rest x b =
    rw (
      lt-ltb (length before) (length (before ++ (x ∷ rest))) (omega (arith, length-append before (x ∷ rest))),
      set_at before x rest b (length before) refl,
      append_snoc,
      length-append,
    )

-- behind what is there come as many bytes as the rest has places
placed : (before rest text : List ℕ) → appended (written (length before) (before ++ rest)) text ≡ written (length before + length (take (length rest) text)) (before ++ over (take (length rest) text) rest)
unfolding appended
placed before [] text =
    let same : length before + 0 ≡ length before = omega arith in
    rw same (sym (full (length before) (before ++ []) (omega (arith, length-append before [])) text))
placed before (x ∷ rest) [] = let same : length before + 0 ≡ length before = omega arith in rw same
placed before (x ∷ rest) (b ∷ text) =
    let n : length (before ++ (b ∷ [])) + length (take (length rest) text) ≡ length before + suc (length (take (length rest) text)) = omega (arith, length-append before (b ∷ [])) in
    let moved : written (length (before ++ (b ∷ [])) + length (take (length rest) text)) ((before ++ (b ∷ [])) ++ over (take (length rest) text) rest) ≡ written (length before + suc (length (take (length rest) text))) (before ++ (b ∷ over (take (length rest) text) rest)) =
    rw (n, append_snoc before b (over (take (length rest) text) rest)) in
    ap (λ (t : Text). appended t text) (placed_one before rest x b) ∙ (placed (before ++ (b ∷ [])) rest text ∙ moved)

-- from an empty text on
pub promised : (text buffer : List ℕ) (r : ℕ) (after : List ℕ) → written r after ≡ appended (written 0 buffer) text → length text ≤ longest_report → TextPromise text buffer r after
unfolding written
promised text buffer r after e h =
    let p = e ∙ placed [] buffer text in
    record { answer = omega (arith, ap (λ (t : Text). t.len) p); leaves = ap (λ (t : Text). t.bytes) p; short = h }

-- where there is room for every text nothing is left out
pub put_whole : (text buffer : List ℕ) (r : ℕ) (after : List ℕ) → TextPromise text buffer r after → report_room ≤ length buffer → (r ≡ length text) × (after ≡ over text buffer)
put_whole text buffer r after p h =
    let whole : take (length buffer) text ≡ text = take_all (length buffer) text (omega (arith, p.short)) in
    (p.answer ∙ ap length whole, p.leaves ∙ ap (λ (l : List ℕ). over l buffer) whole)

-- ---- a text that goes on

pub adds_none : (t : LentText) → Adds t t []
adds_none t = record { same_buffer = refl; bytes = appended_none (written t.len t.out.now) }

-- one piece, and then another
pub adds_both : {t u v : LentText} {a b : List ℕ} → Adds t u a → Adds u v b → Adds t v (a ++ b)
adds_both first next = record { same_buffer = next.same_buffer ∙ first.same_buffer; bytes = simp (next.bytes, first.bytes, appended_twice) }

-- from an empty text on
pub promised_by : {out : MutBor (List ℕ)} {after : LentText} {text left : List ℕ} → Adds (record { out = out; len = 0 }) after text → left ≡ after.out.now
    → length text ≤ longest_report → TextPromise text out.now after.len left
promised_by {out} {after} {text} adds kept short = rw kept (promised text out.now after.len after.out.now adds.bytes short)
