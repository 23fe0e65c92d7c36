-- Numbers as big-endian bytes, of any width: what is written is bytes and is read as the number, and what is read is written as its bytes.
use Rattle.std.specs.Prelude.{ℕ, zero, suc, ◌+◌, ◌*◌, ◌/◌, ◌%◌, ◌^◌, ◌<◌, ◌≡◌, refl, List, [], ◌∷◌, ◌++◌, length, take, drop}
use Rattle.std.proofs.Common.{◌∙◌, append_assoc, append-nil, zero-add, add-zero, add-suc, suc-add, pow-suc, arith, length-append}
use Rattle.std.proofs.Math.Nat.{pow-zero}
use Rattle.image.specs.Codec.{Bytes, number, digits, field}

-- ---- bytes

pub bytes_append : (xs ys : List ℕ) → Bytes xs → Bytes ys → Bytes (xs ++ ys)
unfolding Bytes
bytes_append [] ys h k = k
bytes_append (x ∷ xs) ys h k = (h.0, bytes_append xs ys h.1 k)

pub bytes_take : (n : ℕ) (xs : List ℕ) → Bytes xs → Bytes (take n xs)
unfolding Bytes
bytes_take zero xs h = tt
bytes_take (suc n) [] h = tt
bytes_take (suc n) (x ∷ xs) h = (h.0, bytes_take n xs h.1)

pub bytes_drop : (n : ℕ) (xs : List ℕ) → Bytes xs → Bytes (drop n xs)
unfolding Bytes
bytes_drop zero xs h = h
bytes_drop (suc n) [] h = tt
bytes_drop (suc n) (x ∷ xs) h = bytes_drop n xs h.1

-- ---- digits

pub length_digits : (w v : ℕ) → length (digits w v) ≡ w
unfolding digits
length_digits zero v = refl
length_digits (suc w) v = simp (length-append, length_digits w (v / 256)) (omega arith)

number_snoc : (acc : ℕ) (xs : List ℕ) (d : ℕ) → number acc (xs ++ (d ∷ [])) ≡ number acc xs * 256 + d
unfolding number
number_snoc acc [] d = refl
number_snoc acc (x ∷ xs) d = number_snoc (acc * 256 + x) xs d

-- a number that was written is read
pub number_digits : (w v : ℕ) → v < 256 ^ w → number 0 (digits w v) ≡ v
unfolding number digits
number_digits zero v h = let e = pow-zero 256 in omega arith
number_digits (suc w) v h =
    let e = pow-suc 256 w in
    let i : number 0 (digits w (v / 256)) ≡ v / 256 = number_digits w (v / 256) (omega arith) in
    rw (number_snoc 0 (digits w (v / 256)) (v % 256), i) (omega arith)

pub bytes_digits : (w v : ℕ) → Bytes (digits w v)
unfolding digits Bytes
bytes_digits zero v = tt
bytes_digits (suc w) v = bytes_append (digits w (v / 256)) (v % 256 ∷ []) (bytes_digits w (v / 256)) (omega arith, tt)

-- ---- the first bytes

-- the number of n bytes more than a number of k bytes is one of k + n
number_lt : (k acc : ℕ) (xs : List ℕ) → Bytes xs → acc < 256 ^ k → number acc xs < 256 ^ (k + length xs)
unfolding number Bytes
number_lt k acc [] h lt = rw add-zero lt
number_lt k acc (x ∷ xs) h lt = rw (add-suc, ← suc-add) (number_lt (suc k) (acc * 256 + x) xs h.1 (let b = h.0 in rw pow-suc (omega arith)))

pub field_lt : (w : ℕ) (b : List ℕ) → Bytes b → length (take w b) ≡ w → field w b < 256 ^ w
unfolding field
field_lt w b hb l = rw l at (rw zero-add at (number_lt 0 0 (take w b) (bytes_take w b hb) (omega arith)))

digits_number : (k acc : ℕ) (xs : List ℕ) → Bytes xs → digits (k + length xs) (number acc xs) ≡ digits k acc ++ xs
unfolding number digits Bytes
digits_number k acc [] h = rw (add-zero, append-nil)
digits_number k acc (x ∷ xs) h =
    let b = h.0 in
    let q : (acc * 256 + x) / 256 ≡ acc = omega arith in
    let r : (acc * 256 + x) % 256 ≡ x = omega arith in
    let e : k + suc (length xs) ≡ suc k + length xs = omega arith in
    rw e (digits_number (suc k) (acc * 256 + x) xs h.1 ∙ rw (q, r, append_assoc))

-- a number that was read is written as its bytes
pub field_digits : (w : ℕ) (b : List ℕ) → Bytes b → length (take w b) ≡ w → digits w (field w b) ≡ take w b
unfolding field digits
field_digits w b hb l = rw l at (rw zero-add at (digits_number 0 0 (take w b) (bytes_take w b hb)))
