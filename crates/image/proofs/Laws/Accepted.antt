-- What an accepted image passes; it is written as its bytes, and what passes is read as it was written.
use Rattle.std.specs.Prelude.{ℕ, ◌≡◌, refl, Bool, true, false, cond, ◌&&◌, not, List, [], ◌∷◌, map, length}
use Rattle.std.proofs.Common.{sym, ap, ◌∙◌, subst, append-nil, arith}
use Rattle.word.proofs.Laws.Conjunctions.{also, both}
use Rattle.step.specs.Soundness.{distinct, windows_sound, total_sound}
use Rattle.refusal.specs.declared.Refusal.TheVariants.{WindowPastMemory, ProcessesClash}
use Rattle.image.specs.Codec.{Bytes, Result, refused, accepted}
use Rattle.image.specs.Image.{Image, good, bad, pt_of, after_sections, decode, image_codec}
use Rattle.image.proofs.Laws.Formats.{image_lawful}
use Rattle.image.proofs.Laws.Passed.{PassedImage, image_passes, passes_image}

-- the tests after the last section
pub record PassedAfter (i : Image) : Type 0 where
  pub windows : windows_sound (length i.registers) (length i.program) (length i.data_words) i.rows ≡ true
  pub once : distinct (map pt_of i.processes) ≡ true
  pub room : total_sound (length i.processes) i.flag ≡ true

-- an image that passes them is read
good_after : (i : Image) → PassedAfter i → after_sections (accepted i []) ≡ good i
unfolding after_sections
good_after i p =
    let b : distinct (map pt_of i.processes) && total_sound (length i.processes) i.flag ≡ true = also p.once p.room in
    rw (p.windows, b)

-- what is read leaves nothing and passes these tests
pub after_good : (x : Result Image) (i : Image) → after_sections x ≡ good i → (x ≡ accepted i []) × PassedAfter i
unfolding after_sections
after_good (refused e) i h = let z : ◌≡◌ {A = ℕ} 0 1 = cc in absurd (omega arith)
after_good (accepted j (x ∷ r)) i h = let z : ◌≡◌ {A = ℕ} 0 1 = cc in absurd (omega arith)
after_good (accepted j []) i h = go _ _ refl refl h
  where
    go : (w p : Bool) → windows_sound (length j.registers) (length j.program) (length j.data_words) j.rows ≡ w
        → distinct (map pt_of j.processes) && total_sound (length j.processes) j.flag ≡ p
        → cond (not w) (bad WindowPastMemory) (cond (not p) (bad ProcessesClash) (good j)) ≡ good i → (accepted j [] ≡ accepted i []) × PassedAfter i
    go false p a b k = let z : ◌≡◌ {A = ℕ} 0 1 = cc in absurd (omega arith)
    go true false a b k = let z : ◌≡◌ {A = ℕ} 0 1 = cc in absurd (omega arith)
    go true true a b k =
        let e : j ≡ i = cc in
        let u = both (λ x. x) (λ x. x) b in
        (ap (λ (y : Image). accepted y []) e, subst PassedAfter e (record { windows = a; once = u.0; room = u.1 }))

-- an image that passes every test
pub record Accepted (i : Image) : Type 0 where
  pub fields : PassedImage i
  pub after : PassedAfter i

pub decode_accepted : (b : List ℕ) → Bytes b → (i : Image) → decode b ≡ good i → Accepted i × (image_codec.enc i ≡ b)
unfolding decode
decode_accepted b hb i h =
    let u = after_good (image_codec.dec b) i h in
    let v = image_lawful.back b hb i [] u.0 in
    (record { fields = image_passes i v.0; after = u.1 }, sym (append-nil (image_codec.enc i)) ∙ v.2)

pub accepted_decode : (i : Image) → Accepted i → decode (image_codec.enc i) ≡ good i
unfolding decode
accepted_decode i a =
    ap (λ (b : List ℕ). after_sections (image_codec.dec b)) (sym (append-nil (image_codec.enc i)))
    ∙ ap after_sections (image_lawful.there i (passes_image i a.fields) [])
    ∙ good_after i a.after
