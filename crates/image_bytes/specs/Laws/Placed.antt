-- A format at a place of the input: which value it accepts there, and where the value ends.
use Rattle.std.specs.Prelude.{ℕ, ◌+◌, ◌≤◌, ◌≡◌, List, length, drop}
use Rattle.std.proofs.Common.{sym, ap, ap₂, ◌∙◌, arith, length-drop, drop-drop}
use Rattle.image.specs.Codec.{Codec, accepted, seq, via}
use Rattle.image.proofs.Laws.Codec.{bind_elim}
use Rattle.image_bytes.specs.Laws.Spans.{Spans}

-- at p only v is accepted, and what follows it stands at q
pub record Placed {A : Type 0} (s : List ℕ) (c : Codec A) (p : ℕ) (v : A) (q : ℕ) : Type 0 where
  pub is : (a : A) (r : List ℕ) → c.dec (drop p s) ≡ accepted a r → a ≡ v
  pub rest : (a : A) (r : List ℕ) → c.dec (drop p s) ≡ accepted a r → r ≡ drop q s
  pub there : (a : A) (r : List ℕ) → c.dec (drop p s) ≡ accepted a r → p ≤ length s → q ≤ length s

pub placed : {A : Type 0} {c : Codec A} {v : List ℕ → A} {k : List ℕ → ℕ} → Spans c v k → (s : List ℕ) (p : ℕ) {x : A} {q : ℕ} → v (drop p s) ≡ x → p + k (drop p s) ≡ q
    → Placed s c p x q
placed {k = k} sc s p e f = record {
  is = λ a r h. sc.reads.is (drop p s) a r h ∙ e;
  rest = λ a r h. sc.reads.rest (drop p s) a r h ∙ drop-drop (k (drop p s)) p s ∙ ap (λ (z : ℕ). drop z s) f;
  there = λ a r h l. let n = length-drop p s in omega (arith, sc.reads.there (drop p s) a r h);
}

pub seq_placed : {A B : Type 0} {s : List ℕ} {c : Codec A} {d : A → Codec B} {p q t : ℕ} {v : A} {x : B} → Placed s c p v q → ((a : A) → Placed s (d a) q x t)
    → Placed s (seq c d) p (v, x) t
unfolding seq
seq_placed {A} {B} {s} {c} {d} {p} {q} pc pd =
    let behind : (a : A) (b : List ℕ) → c.dec (drop p s) ≡ accepted a b → (d a).dec (drop q s) ≡ (d a).dec b = λ a b i. ap (d a).dec (sym (pc.rest a b i)) in
    record {
      is = λ y r h.
          bind_elim _ (c.dec (drop p s)) _ h λ a b i j.
          bind_elim _ ((d a).dec b) _ j λ z o k l.
          let e : ◌≡◌ {A = A × B} (a, z) y = cc in
          sym e ∙ ap₂ (λ (a : A) (z : B). (a, z)) (pc.is a b i) ((pd a).is z o (behind a b i ∙ k));
      rest = λ y r h.
          bind_elim _ (c.dec (drop p s)) _ h λ a b i j.
          bind_elim _ ((d a).dec b) _ j λ z o k l.
          let e : o ≡ r = cc in
          sym e ∙ (pd a).rest z o (behind a b i ∙ k);
      there = λ y r h n.
          bind_elim _ (c.dec (drop p s)) _ h λ a b i j.
          bind_elim _ ((d a).dec b) _ j λ z o k l.
          (pd a).there z o (behind a b i ∙ k) (pc.there a b i n);
    }

pub via_placed : {A B : Type 0} {s : List ℕ} (to : A → B) (from : B → A) {c : Codec A} {p q : ℕ} {v : A} → Placed s c p v q → Placed s (via to from c) p (to v) q
unfolding via
via_placed {s = s} to from {c} {p} pc = record {
  is = λ y r h.
      bind_elim _ (c.dec (drop p s)) _ h λ a b i j.
      let e : to a ≡ y = cc in
      sym e ∙ ap to (pc.is a b i);
  rest = λ y r h.
      bind_elim _ (c.dec (drop p s)) _ h λ a b i j.
      let e : b ≡ r = cc in
      sym e ∙ pc.rest a b i;
  there = λ y r h n. bind_elim _ (c.dec (drop p s)) _ h λ a b i j. pc.there a b i n;
}
