-- Formats made of lawful formats are lawful: one law for each way to make a format.
use Prim.Native.Nat.{ℕ, zero, suc, ◌^◌}
use Rattle.std.proofs.Math.Path.{◌≡◌, refl, ap}
use Rattle.std.proofs.Common.{◌∙◌, arith, length-append, take-append-drop, take_at, length-take-le}
use Rattle.std.specs.Prelude.{Bool, cond, ◌&&◌, length, take, drop, leb}
use Rattle.std.proofs.Math.Bool.{true, false}
use mathlib.Core.List.{List, [], ◌∷◌, ◌++◌, append_assoc}
use Rattle.std.proofs.Math.Seq.{drop_at}
use Rattle.std.proofs.Math.Dec.{ltb}
use borrow.Author.Tests.{ltb-true, ltb-false, le-ltb, lt-ltb}
use Rattle.refusal.specs.declared.Refusal.{Refusal}
use Rattle.refusal.specs.declared.Refusal.TheVariants.{InputEnds, CountOverLimit}
use Rattle.image.specs.Codec.{Bytes, Result, refused, accepted, bind, number, digits, field, Codec, num, count, seq, via, dec_many, enc_many, ok_many, section}
use Rattle.image.specs.Codec.{no_header, list_section, no_state, uniform_section}
use Rattle.word.proofs.Laws.Conjunctions.{also, both}
use Rattle.image.proofs.Laws.Numbers.{bytes_append, bytes_drop, length_digits, bytes_digits, number_digits, field_lt, field_digits}

pub record Lawful {A : Type 0} (c : Codec A) : Type 0 where
  -- reading accepts only values of the format and leaves bytes; what was read is written as the bytes that were read
  pub back : (b : List ℕ) → Bytes b → (a : A) (r : List ℕ) → c.dec b ≡ accepted a r → (c.ok a ≡ true) × Bytes r × (c.enc a ++ r ≡ b)
  -- a value of the format that was written is read, whatever follows it
  pub there : (a : A) → c.ok a ≡ true → (r : List ℕ) → c.dec (c.enc a ++ r) ≡ accepted a r
  -- what is written is bytes
  pub bytes : (a : A) → Bytes (c.enc a)

-- a `bind` that accepts has an accepted first part
pub bind_elim {ℓ} : {A B : Type 0} (P : Type ℓ) (m : Result A) (f : A → List ℕ → Result B) {x : B} {r : List ℕ} → bind m f ≡ accepted x r
    → ((a : A) (s : List ℕ) → m ≡ accepted a s → f a s ≡ accepted x r → P) → P
unfolding bind
bind_elim P (refused n) f h k = let z : ◌≡◌ {A = ℕ} 0 1 = cc in absurd (omega arith)
bind_elim P (accepted a s) f h k = k a s refl h

-- ---- numbers

module _ (w : ℕ) (e : Refusal) (good : ℕ → Bool) where
  num_back : (b : List ℕ) (short fine : Bool) → Bytes b → ltb (length b) w ≡ short → good (field w b) ≡ fine → (a : ℕ) (r : List ℕ)
      → cond short (refused InputEnds) (cond fine (accepted (field w b) (drop w b)) (refused e)) ≡ accepted a r
      → (ltb a (256 ^ w) && good a ≡ true) × Bytes r × (digits w a ++ r ≡ b)
  num_back b true fine hb s g a r h = let z : ◌≡◌ {A = ℕ} 0 1 = cc in absurd (omega arith)
  num_back b false false hb s g a r h = let z : ◌≡◌ {A = ℕ} 0 1 = cc in absurd (omega arith)
  num_back b false true hb s g a r h =
      let v : field w b ≡ a = cc in
      let q : drop w b ≡ r = cc in
      let l : length (take w b) ≡ w = length-take-le w b (ltb-false _ _ s) in
      rw (← v, ← q) (also (lt-ltb _ _ (field_lt w b hb l)) g, bytes_drop w b hb, rw (field_digits w b hb l, take-append-drop))

  num_accepted : (b : List ℕ) → Bytes b → (a : ℕ) (r : List ℕ) → (num w e good).dec b ≡ accepted a r
      → ((num w e good).ok a ≡ true) × Bytes r × ((num w e good).enc a ++ r ≡ b)
  unfolding num
  num_accepted b hb a r h = num_back b (ltb (length b) w) (good (field w b)) hb refl refl a r h

  num_there : (v : ℕ) → (num w e good).ok v ≡ true → (r : List ℕ) → (num w e good).dec ((num w e good).enc v ++ r) ≡ accepted v r
  unfolding num field
  num_there v h r =
      let u = both (ltb-true v (256 ^ w)) (λ g. g) h in
      let l : ltb (length (digits w v ++ r)) w ≡ false = le-ltb (length (digits w v ++ r)) w (rw (length-append, length_digits) (omega arith)) in
      let f : number 0 (take w (digits w v ++ r)) ≡ v = rw (take_at (digits w v) r w (length_digits w v), number_digits w v u.0) in
      let g : good v ≡ true = u.1 in
      rw (l, f, g, drop_at (digits w v) r w (length_digits w v))

  pub num_lawful : Lawful (num w e good)
  unfolding num
  num_lawful = record {
    back = num_accepted;
    there = num_there;
    bytes = bytes_digits w;
  }

count_lawful : (w most : ℕ) → Lawful (count w most)
unfolding count
count_lawful w most = num_lawful w CountOverLimit (λ n. leb n most)

-- ---- one format after another, and the same fields as other values

pub seq_lawful : {A B : Type 0} {c : Codec A} {d : A → Codec B} → Lawful c → ((a : A) → Lawful (d a)) → Lawful (seq c d)
unfolding seq bind
seq_lawful {A} {B} {c} {d} lc ld = record {
  back = λ b hb p rest h.
      bind_elim _ (c.dec b) _ h λ a s i k.
      bind_elim _ ((d a).dec s) _ k λ x r j l.
      let e : ◌≡◌ {A = A × B} (a, x) p = cc in
      let q : r ≡ rest = cc in
      let u = lc.back b hb a s i in
      let v = (ld a).back s u.1 x r j in
      rw (← e, ← q) (also u.0 v.0, v.1, rw (append_assoc, v.2) u.2);
  there = λ p h r.
      let u = both (λ k. k) (λ k. k) h in
      rw (append_assoc, lc.there p.0 u.0 ((d p.0).enc p.1 ++ r), (ld p.0).there p.1 u.1 r);
  bytes = λ p. bytes_append (c.enc p.0) ((d p.0).enc p.1) (lc.bytes p.0) ((ld p.0).bytes p.1);
}

pub via_lawful : {A B : Type 0} (to : A → B) (from : B → A) {c : Codec A} → ((a : A) → from (to a) ≡ a) → ((x : B) → to (from x) ≡ x) → Lawful c
    → Lawful (via to from c)
unfolding via bind
via_lawful {A} to from {c} inv inv' lc = record {
  back = λ b hb y rest h.
      bind_elim _ (c.dec b) _ h λ a s i k.
      let e : to a ≡ y = cc in
      let q : s ≡ rest = cc in
      let u = lc.back b hb a s i in
      rw (← e, ← q) (ap c.ok (inv a) ∙ u.0, u.1, ap (λ (z : A). c.enc z ++ s) (inv a) ∙ u.2);
  there = λ x h r. rw (lc.there (from x) h r, inv' x);
  bytes = λ x. lc.bytes (from x);
}

-- ---- many values, and a section of them

module _ {S A : Type 0} {c : S → Codec A} (next : S → A → S) (lc : (s : S) → Lawful (c s)) where
  many_back : (s : S) (n : ℕ) (b : List ℕ) → Bytes b → (xs : List A) (rest : List ℕ) → dec_many c next s n b ≡ accepted xs rest
      → (ok_many c next s xs ≡ true) × Bytes rest × (enc_many c next s xs ++ rest ≡ b) × (length xs ≡ n)
  unfolding dec_many enc_many ok_many
  many_back s zero b hb xs rest h =
      let e : [] ≡ xs = cc in
      let r : b ≡ rest = cc in
      rw (← e, ← r) (refl, hb, refl, refl)
  many_back s (suc n) b hb xs rest h =
      bind_elim _ ((c s).dec b) _ h λ a t i k.
      bind_elim _ (dec_many c next (next s a) n t) _ k λ ys r j l.
      let e : (a ∷ ys) ≡ xs = cc in
      let q : r ≡ rest = cc in
      let u = (lc s).back b hb a t i in
      let v = many_back (next s a) n t u.1 ys r j in
      rw (← e, ← q) (also u.0 v.0, v.1, rw (append_assoc, v.2) u.2, ap suc v.3)

  many_there : (s : S) (xs : List A) → ok_many c next s xs ≡ true → (r : List ℕ) → dec_many c next s (length xs) (enc_many c next s xs ++ r) ≡ accepted xs r
  unfolding dec_many enc_many ok_many bind
  many_there s [] h r = refl
  many_there s (x ∷ xs) h r =
      let u = both (λ k. k) (λ k. k) h in
      rw (append_assoc, (lc s).there x u.0 (enc_many c next (next s x) xs ++ r), many_there (next s x) xs u.1 r)

  many_bytes : (s : S) (xs : List A) → Bytes (enc_many c next s xs)
  unfolding enc_many Bytes
  many_bytes s [] = tt
  many_bytes s (x ∷ xs) = bytes_append ((c s).enc x) (enc_many c next (next s x) xs) ((lc s).bytes x) (many_bytes (next s x) xs)

  pub section_lawful : {H : Type 0} {head : Codec H} → Lawful head → (w most : ℕ) (s : S) → Lawful (section head c next w most s)
  unfolding section bind
  section_lawful {H} {head} lh w most s =
      let ln = count_lawful w most in
      record {
        back = λ b hb p rest h.
            bind_elim _ ((count w most).dec b) _ h λ n r i k.
            bind_elim _ (head.dec r) _ k λ x r' j l.
            bind_elim _ (dec_many c next s n r') _ l λ xs r'' m o.
            let e : ◌≡◌ {A = H × List A} (x, xs) p = cc in
            let q : r'' ≡ rest = cc in
            let u = ln.back b hb n r i in
            let v = lh.back r u.1 x r' j in
            let y = many_back s n r' v.1 xs r'' m in
            rw (← e, ← q, y.3) (also u.0 (also v.0 y.0), y.1, rw (append_assoc, append_assoc, y.2, v.2) u.2);
        there = λ p h r.
            let u = both (λ k. k) (both (λ k. k) (λ k. k)) h in
            rw (
              append_assoc,
              append_assoc,
              ln.there (length p.1) u.0 (head.enc p.0 ++ (enc_many c next s p.1 ++ r)),
              lh.there p.0 u.1.0 (enc_many c next s p.1 ++ r),
              many_there s p.1 u.1.1 r,
            );
        bytes = λ p.
            bytes_append ((count w most).enc (length p.1)) _ (ln.bytes (length p.1))
            (bytes_append (head.enc p.0) (enc_many c next s p.1) (lh.bytes p.0) (many_bytes s p.1));
      }

no_header_lawful : Lawful no_header
unfolding no_header Bytes
no_header_lawful = record {
  back = λ b hb a r h. let q : b ≡ r = cc in (refl, rw (← q) hb, rw q);
  there = λ a h r. refl;
  bytes = λ a. tt;
}

pub list_section_lawful : {S A : Type 0} {c : S → Codec A} (next : S → A → S) → ((s : S) → Lawful (c s)) → (w most : ℕ) (s : S) → Lawful (list_section c next w most s)
unfolding list_section
list_section_lawful next lc w most s = via_lawful (λ p. p.1) (λ xs. (tt, xs)) (λ p. refl) (λ xs. refl) (section_lawful next lc no_header_lawful w most s)

pub uniform_lawful : {A : Type 0} {c : Codec A} → Lawful c → (w most : ℕ) → Lawful (uniform_section c w most)
unfolding uniform_section
uniform_lawful lc w most = list_section_lawful no_state (λ _. lc) w most tt
