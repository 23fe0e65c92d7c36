-- What an accepted value is and how long its bytes are, as functions of the bytes: one law for each way to make a format.
use Prim.Native.Nat.{ℕ, zero, suc, ◌+◌, ◌-◌, ◌*◌, ◌≤◌}
use Rattle.std.specs.Prelude.{◌≡◌, refl, Bool, true, false, cond, ltb}
use Rattle.std.proofs.Math.Path.{sym, ap, ap₂}
use Rattle.std.proofs.Common.{◌∙◌, subst, mul-zero, add-zero, zero-add, ltb-false}
use mathlib.Core.List.{List, [], ◌∷◌}
use Rattle.std.proofs.Math.Nat.{mul-suc}
use native.Mathlib.Omega.{arith}
use Rattle.std.proofs.Math.ListN.{length, drop, length-drop}
use Rattle.std.proofs.Math.Seq.{drop-drop}
use Rattle.refusal.specs.declared.Refusal.{Refusal}
use Rattle.refusal.specs.declared.Refusal.TheVariants.{InputEnds, CountOverLimit}
use Rattle.image.specs.Codec.{Result, refused, accepted, bind, field, Codec, num, count, seq, via, dec_many, section, no_header, list_section}
use Rattle.image.proofs.Laws.Codec.{bind_elim}
use Rattle.image_bytes.specs.Code.Reading.{listed}
use Rattle.image_bytes.specs.Laws.Listed.{shifted}

-- what `read` accepts at b is value b, of size b bytes
pub record Reads {A : Type 0} (read : List ℕ → Result A) (value : List ℕ → A) (size : List ℕ → ℕ) : Type 0 where
  pub is : (b : List ℕ) (a : A) (r : List ℕ) → read b ≡ accepted a r → a ≡ value b
  pub rest : (b : List ℕ) (a : A) (r : List ℕ) → read b ≡ accepted a r → r ≡ drop (size b) b
  pub there : (b : List ℕ) (a : A) (r : List ℕ) → read b ≡ accepted a r → size b ≤ length b

-- a format that does
pub record Spans {A : Type 0} (c : Codec A) (value : List ℕ → A) (size : List ℕ → ℕ) : Type 0 where
  pub reads : Reads c.dec value size

-- the same value, said otherwise
pub spans_as : {A : Type 0} {c : Codec A} {v : List ℕ → A} {k : List ℕ → ℕ} {u : List ℕ → A} → Spans c v k → ((b : List ℕ) → v b ≡ u b) → Spans c u k
spans_as sc e = record { reads = record { is = λ b a r h. sc.reads.is b a r h ∙ e b; rest = sc.reads.rest; there = sc.reads.there } }

-- ---- numbers

record Number (w : ℕ) (b : List ℕ) (a : ℕ) (r : List ℕ) : Type 0 where
  is : a ≡ field w b
  rest : r ≡ drop w b
  there : w ≤ length b

number_read_lem : (w : ℕ) (e : Refusal) (b : List ℕ) (short fine : Bool) (a : ℕ) (r : List ℕ) → ltb (length b) w ≡ short
    → cond short (refused InputEnds) (cond fine (accepted (field w b) (drop w b)) (refused e)) ≡ accepted a r → Number w b a r
number_read_lem w e b true fine a r s h = let z : ◌≡◌ {A = ℕ} 0 1 = cc in absurd (omega arith)
number_read_lem w e b false false a r s h = let z : ◌≡◌ {A = ℕ} 0 1 = cc in absurd (omega arith)
number_read_lem w e b false true a r s h = record { is = cc; rest = cc; there = ltb-false _ _ s }

pub num_spans : (w : ℕ) (e : Refusal) (good : ℕ → Bool) → Spans (num w e good) (field w) (λ _. w)
unfolding num
num_spans w e good =
    let read : (b : List ℕ) (a : ℕ) (r : List ℕ) → (num w e good).dec b ≡ accepted a r → Number w b a r = λ b a r h. number_read_lem w e b (ltb (length b) w) (good (field w b)) a r refl h in
    record { reads = record { is = λ b a r h. (read b a r h).is; rest = λ b a r h. (read b a r h).rest; there = λ b a r h. (read b a r h).there } }

-- ---- one part after another

module _ {A B : Type 0} {f : List ℕ → Result A} {v : List ℕ → A} {k : List ℕ → ℕ} (sf : Reads f v k) where
  map_reads : (to : A → B) → Reads (λ b. bind (f b) (λ a r. accepted (to a) r)) (λ b. to (v b)) k
  map_reads to = record {
    is = λ b x r h.
        bind_elim _ (f b) _ h λ a t i j.
        let e : to a ≡ x = cc in
        sym e ∙ ap to (sf.is b a t i);
    rest = λ b x r h.
        bind_elim _ (f b) _ h λ a t i j.
        let e : t ≡ r = cc in
        sym e ∙ sf.rest b a t i;
    there = λ b x r h. bind_elim _ (f b) _ h λ a t i j. sf.there b a t i;
  }

  module _ {g : A → List ℕ → Result B} {u : A → List ℕ → B} {l : A → List ℕ → ℕ} (sg : (a : A) → Reads (g a) (u a) (l a)) where
    bind_reads : Reads (λ b. bind (f b) g) (λ b. u (v b) (drop (k b) b)) (λ b. k b + l (v b) (drop (k b) b))
    bind_reads = record {
      is = λ b x r h.
          bind_elim _ (f b) _ h λ a t i j.
          (sg a).is t x r j ∙ ap₂ u (sf.is b a t i) (sf.rest b a t i);
      rest = λ b x r h.
          bind_elim _ (f b) _ h λ a t i j.
          (sg a).rest t x r j
          ∙ ap₂ (λ (a : A) (t : List ℕ). drop (l a t) t) (sf.is b a t i) (sf.rest b a t i)
          ∙ drop-drop (l (v b) (drop (k b) b)) (k b) b;
      there = λ b x r h.
          bind_elim _ (f b) _ h λ a t i j.
          let n : l (v b) (drop (k b) b) ≤ length (drop (k b) b) =
          subst (λ (t : List ℕ). l (v b) t ≤ length t) (sf.rest b a t i) (subst (λ (a : A). l a t ≤ length t) (sf.is b a t i) ((sg a).there t x r j)) in
          let m = length-drop (k b) b in
          omega (arith, sf.there b a t i);
    }

pub seq_spans : {A B : Type 0} {c : Codec A} {d : A → Codec B} {v : List ℕ → A} {k : List ℕ → ℕ} {u : A → List ℕ → B} {l : A → List ℕ → ℕ}
    → Spans c v k → ((a : A) → Spans (d a) (u a) (l a))
    → Spans (seq c d) (λ b. (v b, u (v b) (drop (k b) b))) (λ b. k b + l (v b) (drop (k b) b))
unfolding seq
seq_spans sc sd = record { reads = bind_reads sc.reads (λ a. map_reads (sd a).reads (λ x. (a, x))) }

pub via_spans : {A B : Type 0} (to : A → B) (from : B → A) {c : Codec A} {v : List ℕ → A} {k : List ℕ → ℕ}
    → Spans c v k → Spans (via to from c) (λ b. to (v b)) k
unfolding via
via_spans to from sc = record { reads = map_reads sc.reads to }

-- ---- many values of one size, whose value does not depend on those before

module _ {S A : Type 0} {c : S → Codec A} (next : S → A → S) {v : List ℕ → A} {k : ℕ} (sc : (s : S) → Spans (c s) v (λ _. k)) where
  pub many_reads : (s : S) (n : ℕ) → Reads (dec_many c next s n) (λ b. listed k (λ p. v (drop p b)) n 0) (λ _. k * n)
  unfolding dec_many listed
  many_reads s zero = record {
    is = λ b xs r h. let e : [] ≡ xs = cc in sym e;
    rest = λ b xs r h. let e : b ≡ r = cc in sym e ∙ rw (mul-zero k);
    there = λ b xs r h. rw (mul-zero k) (omega arith);
  }
  many_reads s (suc n) = record {
    is = λ b xs r h.
        bind_elim _ ((c s).dec b) _ h λ a t i j.
        bind_elim _ (dec_many c next (next s a) n t) _ j λ ys q m o.
        let e : (a ∷ ys) ≡ xs = cc in
        sym e
        ∙ ap₂ ◌∷◌ ((sc s).reads.is b a t i)
        ((many_reads (next s a) n).is t ys q m
        ∙ shifted k (λ p. v (drop p t)) (λ p. v (drop p b)) k (λ p. ap v (ap (drop p) ((sc s).reads.rest b a t i) ∙ drop-drop p k b)) n 0
        ∙ ap (listed k (λ p. v (drop p b)) n) (add-zero k ∙ sym (zero-add k)));
    rest = λ b xs r h.
        bind_elim _ ((c s).dec b) _ h λ a t i j.
        bind_elim _ (dec_many c next (next s a) n t) _ j λ ys q m o.
        let e : q ≡ r = cc in
        let w : k + k * n ≡ k * suc n = rw mul-suc (omega arith) in
        sym e ∙ (many_reads (next s a) n).rest t ys q m ∙ ap (drop (k * n)) ((sc s).reads.rest b a t i) ∙ drop-drop (k * n) k b ∙ ap (λ (z : ℕ). drop z b) w;
    there = λ b xs r h.
        bind_elim _ ((c s).dec b) _ h λ a t i j.
        bind_elim _ (dec_many c next (next s a) n t) _ j λ ys q m o.
        let w : k + k * n ≡ k * suc n = rw mul-suc (omega arith) in
        let l : length t ≡ length b - k = ap length ((sc s).reads.rest b a t i) ∙ length-drop k b in
        omega (arith, (sc s).reads.there b a t i, (many_reads (next s a) n).there t ys q m);
  }

  -- a section: its count of w bytes, a header of h bytes, and then the values
  pub section_spans : {H : Type 0} {head : Codec H} {u : List ℕ → H} {h : ℕ} → Spans head u (λ _. h) → (w most : ℕ) (s : S)
      → Spans (section head c next w most s) (λ b. (u (drop w b), listed k (λ p. v (drop p b)) (field w b) (w + h))) (λ b. w + h + k * field w b)
  unfolding section count
  section_spans {H} {head} {u} {h} sh w most s =
      let whole = bind_reads {B = H × List A} (num_spans w CountOverLimit _).reads (λ n. bind_reads {B = H × List A} sh.reads (λ x. map_reads (many_reads s n) (λ xs. (x, xs)))) in
      record {
        reads = record {
          is = λ b p r e. whole.is b p r e ∙ ap (λ (l : List A). (u (drop w b), l))
              (ap (λ (t : List ℕ). listed k (λ p. v (drop p t)) (field w b) 0) (drop-drop h w b)
              ∙ shifted k (λ p. v (drop p (drop (w + h) b))) (λ p. v (drop p b)) (w + h) (λ p. ap v (drop-drop p (w + h) b)) (field w b) 0
              ∙ ap (listed k (λ p. v (drop p b)) (field w b)) (add-zero (w + h)));
          rest = λ b p r e. let z : w + (h + k * field w b) ≡ w + h + k * field w b = omega arith in whole.rest b p r e ∙ ap (λ (z : ℕ). drop z b) z;
          there = λ b p r e. let t = whole.there b p r e in omega arith;
        };
      }

-- a section with no header
pub no_header_spans : Spans no_header (λ _. tt) (λ _. 0)
unfolding no_header
no_header_spans = record {
  reads = record {
    is = λ b a r h. refl;
    rest = λ b a r h. let e : b ≡ r = cc in sym e;
    there = λ b a r h. omega arith;
  };
}

pub list_section_spans : {S A : Type 0} {c : S → Codec A} (next : S → A → S) {v : List ℕ → A} {k : ℕ} → ((s : S) → Spans (c s) v (λ _. k)) → (w most : ℕ) (s : S)
    → Spans (list_section c next w most s) (λ b. listed k (λ p. v (drop p b)) (field w b) w) (λ b. w + k * field w b)
unfolding list_section
list_section_spans next {v} {k} sc w most s =
    let whole = (via_spans (λ p. p.1) (λ xs. (tt, xs)) (section_spans next sc no_header_spans w most s)).reads in
    record {
      reads = record {
        is = λ b xs r e. whole.is b xs r e ∙ ap (listed k (λ p. v (drop p b)) (field w b)) (add-zero w);
        rest = λ b xs r e. let z : w + 0 + k * field w b ≡ w + k * field w b = omega arith in whole.rest b xs r e ∙ ap (λ (z : ℕ). drop z b) z;
        there = λ b xs r e. let t = whole.there b xs r e in omega arith;
      };
    }
