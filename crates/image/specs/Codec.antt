-- Formats: how the bytes of a value are read and written, and which values there are; and ways to make a format.
use Rattle.std.specs.Prelude.{ℕ, zero, suc, ◌+◌, ◌*◌, ◌/◌, ◌%◌, ◌^◌, ◌<◌, Bool, true, cond, ◌&&◌, List, [], ◌∷◌, ◌++◌, length, take, drop, ltb, leb}
use Rattle.refusal.specs.declared.Refusal.{Refusal}
use Rattle.refusal.specs.declared.Refusal.TheVariants.{InputEnds, CountOverLimit}

-- every element is a byte
unfoldable pub Bytes : List ℕ → Type 0
Bytes [] = Unit {0}
Bytes (x ∷ xs) = (x < 256) × Bytes xs

-- what reading gives: a refusal, or a value with the bytes after it
pub data Result (A : Type 0) : Type 0 where
  refused : Refusal → Result A
  accepted : A → List ℕ → Result A

unfoldable pub bind : {A B : Type 0} → Result A → (A → List ℕ → Result B) → Result B
bind (refused e) f = refused e
bind (accepted a r) f = f a r

-- the number whose base-256 digits, the highest first, are acc and then the bytes
unfoldable pub number : ℕ → List ℕ → ℕ
number acc [] = acc
number acc (x ∷ xs) = number (acc * 256 + x) xs

-- the w lowest base-256 digits of v, the highest first: big-endian
unfoldable pub digits : (w v : ℕ) → List ℕ
digits zero v = []
digits (suc w) v = digits w (v / 256) ++ (v % 256 ∷ [])

-- the number that the first w bytes are
unfoldable pub field : (w : ℕ) → List ℕ → ℕ
field w b = number 0 (take w b)

pub record Codec (A : Type 0) : Type 0 where
  -- what the bytes give
  pub dec : List ℕ → Result A
  -- the bytes of a value
  pub enc : A → List ℕ
  -- a value of the format
  pub ok : A → Bool

-- a number of w bytes: 1 where they are not all there, else e where the number is not allowed
unfoldable pub num : (w : ℕ) (e : Refusal) (allowed : ℕ → Bool) → Codec ℕ
num w e allowed = record {
  dec = λ b. cond (ltb (length b) w) (refused InputEnds) (cond (allowed (field w b)) (accepted (field w b) (drop w b)) (refused e));
  enc = digits w;
  ok = λ v. ltb v (256 ^ w) && allowed v;
}

-- a count of w bytes: 2 where it is above `most`
unfoldable pub count : (w most : ℕ) → Codec ℕ
count w most = num w CountOverLimit (λ n. leb n most)

-- one format, then another that may depend on the first value
unfoldable pub seq : {A B : Type 0} → Codec A → (A → Codec B) → Codec (A × B)
seq c d = record {
  dec = λ b. bind (c.dec b) (λ a r. bind ((d a).dec r) (λ x r'. accepted (a, x) r'));
  enc = λ p. c.enc p.0 ++ (d p.0).enc p.1;
  ok = λ p. c.ok p.0 && (d p.0).ok p.1;
}

-- a format of other values that are the same fields
unfoldable pub via : {A B : Type 0} → (A → B) → (B → A) → Codec A → Codec B
via to from c = record {
  dec = λ b. bind (c.dec b) (λ a r. accepted (to a) r);
  enc = λ x. c.enc (from x);
  ok = λ x. c.ok (from x);
}

-- n values, each of a format that may depend on a state that the values before it have led to
module _ {S A : Type 0} (c : S → Codec A) (next : S → A → S) where
  unfoldable pub dec_many : S → ℕ → List ℕ → Result (List A)
  dec_many s zero b = accepted [] b
  dec_many s (suc n) b = bind ((c s).dec b) (λ a r. bind (dec_many (next s a) n r) (λ xs r'. accepted (a ∷ xs) r'))

  unfoldable pub enc_many : S → List A → List ℕ
  enc_many s [] = []
  enc_many s (a ∷ xs) = (c s).enc a ++ enc_many (next s a) xs

  unfoldable pub ok_many : S → List A → Bool
  ok_many s [] = true
  ok_many s (a ∷ xs) = (c s).ok a && ok_many (next s a) xs

-- a section: its count, a header, and as many values as the count says
module _ {H S A : Type 0} (head : Codec H) (c : S → Codec A) (next : S → A → S) where
  unfoldable pub section : (w most : ℕ) → S → Codec (H × List A)
  section w most s = record {
    dec = λ b. bind ((count w most).dec b) (λ n r. bind (head.dec r) (λ h r'. bind (dec_many c next s n r') (λ xs r''. accepted (h, xs) r'')));
    enc = λ p. (count w most).enc (length p.1) ++ (head.enc p.0 ++ enc_many c next s p.1);
    ok = λ p. (count w most).ok (length p.1) && (head.ok p.0 && ok_many c next s p.1);
  }

-- no bytes
unfoldable pub no_header : Codec (Unit {0})
no_header = record { dec = λ b. accepted tt b; enc = λ u. []; ok = λ u. true }

-- a section with no header
unfoldable pub list_section : {S A : Type 0} → (S → Codec A) → (S → A → S) → (w most : ℕ) → S → Codec (List A)
list_section c next w most s = via (λ p. p.1) (λ xs. (tt, xs)) (section no_header c next w most s)

-- a section with no header whose values all have one format, whatever stands before them
abbrev pub no_state : {A : Type 0} → Unit {0} → A → Unit {0}
no_state u x = u

unfoldable pub uniform_section : {A : Type 0} → Codec A → (w most : ℕ) → Codec (List A)
uniform_section c w most = list_section (λ _. c) no_state w most tt
