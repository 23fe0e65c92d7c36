-- A check that goes on: the format of two parts is checked by the first part, and then by the second.
use Rattle.std.specs.Prelude.{ℕ, zero, suc, ◌+◌, ◌-◌, ◌≤◌, ◌<◌, ◌≡◌, Bool, length, drop, leb, Ok, Err}
use Rattle.std.proofs.Math.Path.{refl, ap}
use Rattle.std.proofs.Common.{sym, ◌∙◌, add-zero, length-drop, drop-drop}
use mathlib.Core.List.{List, [], ◌∷◌}
use native.Mathlib.Omega.{arith}
use borrow.Author.Tests.{le-leb}
use Rattle.refusal.specs.declared.Refusal.{Refusal}
use Rattle.refusal.specs.declared.Refusal.TheVariants.{CountOverLimit}
use Rattle.image.specs.Codec.{Result, refused, accepted, bind, Codec, num, count, seq, via, dec_many, section, no_header, list_section}
use Rattle.image_bytes.specs.Code.Reading.{number_at}
use Rattle.image_bytes.specs.Code.Scanning.{Scan, scanned, scan, Within, value_at}
use Rattle.image_bytes.specs.Laws.Spans.{Reads, Spans, num_spans, no_header_spans}

-- a check that was refused stays so, and one at a place reads there
pub stays : {A : Type 0} (read : List ℕ → Result A) (s : List ℕ) (x : Scan) {e : Refusal} → x ≡ Err e → x ≡ scan read s x
unfolding scan
stays read s x q = rw q

pub at_place : {A : Type 0} (read : List ℕ → Result A) (s : List ℕ) (x : Scan) {y : Scan} (p : ℕ) → x ≡ Ok p → scanned (length s) (read (drop p s)) ≡ y → y ≡ scan read s x
unfolding scan
at_place read s x p q h = rw q (sym h)

-- the number at a place is the value there
pub value_here : (w p : ℕ) (s : List ℕ) {v : ℕ} → v ≡ number_at w p s → v ≡ value_at 0 w s (Ok p)
unfolding value_at
value_here w p s e = rw add-zero e

-- what was accepted does not show in a check
pub scanned_map : {A B : Type 0} (n : ℕ) (m : Result A) (to : A → B) → scanned n (bind m (λ a r. accepted (to a) r)) ≡ scanned n m
unfolding scanned bind
scanned_map n (refused e) to = refl
scanned_map n (accepted a r) to = refl

-- a part at the end is found by its length
pub drop_back : (q : ℕ) (s : List ℕ) → drop (length s - length (drop q s)) s ≡ drop q s
drop_back zero s = let e : length s - length s ≡ 0 = omega arith in rw e
drop_back (suc q) [] = refl
drop_back (suc q) (x ∷ s) =
    let l : length (drop q s) ≡ length s - q = length-drop q s in
    let e : suc (length s) - length (drop q s) ≡ suc (length s - length (drop q s)) = omega arith in
    rw e (drop_back q s)

module _ {A : Type 0} {f : List ℕ → Result A} {v : List ℕ → A} {k : List ℕ → ℕ} (rf : Reads f v k) (s : List ℕ) where
  -- the bytes after a value stand at the place that its check comes to
  pub rest_at : (p : ℕ) (a : A) (r : List ℕ) → f (drop p s) ≡ accepted a r → drop (length s - length r) s ≡ r
  rest_at p a r h =
      let e : r ≡ drop (p + k (drop p s)) s = rf.rest (drop p s) a r h ∙ drop-drop (k (drop p s)) p s in
      rw e (drop_back (p + k (drop p s)) s)

  module _ {B C : Type 0} (g : A → List ℕ → Result B) (g' : List ℕ → Result C) where
    bind_scanned : (p : ℕ) (m : Result A) → f (drop p s) ≡ m
        → ((a : A) (r : List ℕ) → f (drop p s) ≡ accepted a r → scanned (length s) (g a r) ≡ scanned (length s) (g' r))
        → scanned (length s) (bind m g) ≡ scan g' s (scanned (length s) m)
    unfolding scan scanned bind
    bind_scanned p (refused e) q h = refl
    bind_scanned p (accepted a r) q h = h a r q ∙ ap (λ (b : List ℕ). scanned (length s) (g' b)) (sym (rest_at p a r q))

    -- where what follows an accepted value shows as g' does
    pub bind_scan : (x : Scan) → ((p : ℕ) (a : A) (r : List ℕ) → x ≡ Ok p → f (drop p s) ≡ accepted a r → scanned (length s) (g a r) ≡ scanned (length s) (g' r))
        → scan (λ b. bind (f b) g) s x ≡ scan g' s (scan f s x)
    unfolding scan
    bind_scan (Err e) h = refl
    bind_scan (Ok p) h = bind_scanned p (f (drop p s)) refl (λ a r q. h p a r refl q)

-- ---- places

scanned_within : {A : Type 0} (s : List ℕ) (m : Result A) → Within s (scanned (length s) m)
unfolding Within scanned
scanned_within s (refused e) = tt
scanned_within s (accepted a r) = omega arith

-- what was scanned is not past the end
pub within : {A : Type 0} (read : List ℕ → Result A) (s : List ℕ) (x : Scan) {y : Scan} → y ≡ scan read s x → Within s y
unfolding scan Within
within read s x e = rw e (go x)
  where
    go : (x : Scan) → Within s (scan read s x)
    go (Err e) = tt
    go (Ok p) = scanned_within s (read (drop p s))

-- reading nothing leaves a check where it is
nothing_scan : {A : Type 0} (a : A) (s : List ℕ) (x : Scan) → Within s x → scan (λ b. accepted a b) s x ≡ x
unfolding Within scan scanned
nothing_scan a s (Err e) h = refl
nothing_scan a s (Ok p) h =
    let l : length (drop p s) ≡ length s - p = length-drop p s in
    let e : length s - length (drop p s) ≡ p = omega arith in
    ap Ok e

-- ---- numbers

module _ (w : ℕ) (e : Refusal) (good : ℕ → Bool) (small : w ≤ 8) (s : List ℕ) where
  value_is : (x : Scan) (p a : ℕ) (r : List ℕ) → x ≡ Ok p → (num w e good).dec (drop p s) ≡ accepted a r → value_at 0 w s x ≡ a
  unfolding value_at number_at
  value_is x p a r q h = rw (q, le-leb w 8 small, add-zero) (sym ((num_spans w e good).reads.is (drop p s) a r h))

  -- a number is good by its value
  num_value : (x : Scan) → scan (num w e good).dec s x ≡ scan (num w e (λ _. good (value_at 0 w s x))).dec s x
  unfolding scan num value_at number_at
  num_value (Err e) = refl
  num_value (Ok p) = rw (le-leb w 8 small, add-zero)

  module _ (x : Scan) {y : Scan} {v : ℕ} {ok : Bool} (value : v ≡ value_at 0 w s x) (test : ok ≡ good v) (checked : y ≡ scan (num w e (λ _. ok)).dec s x) where
    -- a number alone
    pub number_scan : scan (num w e good).dec s x ≡ y
    number_scan = num_value x ∙ ap (λ (b : Bool). scan (num w e (λ _. b)).dec s x) (sym (test ∙ ap good value)) ∙ sym checked

    -- a number before the rest
    pub field_scan : {B : Type 0} (d : ℕ → Codec B) → scan (seq (num w e good) d).dec s x ≡ scan (d v).dec s y
    unfolding seq
    field_scan d =
        bind_scan (num_spans w e good).reads s _ (d v).dec x
        (λ p a r q h. scanned_map (length s) ((d a).dec r) (λ z. (a, z)) ∙ ap (λ (n : ℕ). scanned (length s) ((d n).dec r)) (sym (value ∙ value_is x p a r q h)))
        ∙ ap (scan (d v).dec s) number_scan

-- a format before the rest: where the rest depends on the value, and where not
module _ {A B : Type 0} {c : Codec A} {v : List ℕ → A} {k : List ℕ → ℕ} (sc : Spans c v k) (s : List ℕ) (x : Scan) {y : Scan} (checked : y ≡ scan c.dec s x) where
  pub seq_scan : (d : A → Codec B) (a : A) → ((p : ℕ) → x ≡ Ok p → v (drop p s) ≡ a) → scan (seq c d).dec s x ≡ scan (d a).dec s y
  unfolding seq
  seq_scan d a e =
      bind_scan sc.reads s _ (d a).dec x
      (λ p z r q h. scanned_map (length s) ((d z).dec r) (λ b. (z, b)) ∙ ap (λ (z : A). scanned (length s) ((d z).dec r)) (sc.reads.is (drop p s) z r h ∙ e p q))
      ∙ ap (scan (d a).dec s) (sym checked)

  pub then_scan : (d : Codec B) → scan (seq c (λ _. d)).dec s x ≡ scan d.dec s y
  unfolding seq
  then_scan d =
      bind_scan sc.reads s _ d.dec x (λ p z r q h. scanned_map (length s) (d.dec r) (λ b. (z, b))) ∙ ap (scan d.dec s) (sym checked)

-- the same fields as another value
pub via_scan : {A B : Type 0} (to : A → B) (from : B → A) (c : Codec A) (s : List ℕ) (x : Scan) → scan (via to from c).dec s x ≡ scan c.dec s x
unfolding via scan
via_scan to from c s (Err e) = refl
via_scan to from c s (Ok p) = scanned_map (length s) (c.dec (drop p s)) to

-- ---- many values, and a section of them

module _ {S A : Type 0} (c : S → Codec A) (next : S → A → S) (s : List ℕ) where
  -- one of them, and then the others from the state that it leads to
  module _ {v : List ℕ → A} {k : List ℕ → ℕ} (st : S) (sc : Spans (c st) v k) (st' : S) (x : Scan) (leads : (p : ℕ) → x ≡ Ok p → next st (v (drop p s)) ≡ st') where
    many_step : (m : ℕ) → scan (dec_many c next st (suc m)) s x ≡ scan (dec_many c next st' m) s (scan (c st).dec s x)
    unfolding dec_many
    many_step m =
        bind_scan sc.reads s _ (dec_many c next st' m) x
        (λ p a r q h. scanned_map (length s) (dec_many c next (next st a) m r) (λ xs. a ∷ xs)
        ∙ ap (λ (t : S). scanned (length s) (dec_many c next t m r)) (ap (next st) (sc.reads.is (drop p s) a r h) ∙ leads p q))

    pub many_scan : {y : Scan} (n : ℕ) → 0 < n → y ≡ scan (c st).dec s x → scan (dec_many c next st n) s x ≡ scan (dec_many c next st' (n - 1)) s y
    many_scan n more checked =
        let e : n ≡ suc (n - 1) = omega arith in
        ap (λ (m : ℕ). scan (dec_many c next st m) s x) e ∙ many_step (n - 1) ∙ ap (scan (dec_many c next st' (n - 1)) s) (sym checked)

  pub many_none : (st : S) (x : Scan) (n : ℕ) → n ≤ 0 → Within s x → scan (dec_many c next st n) s x ≡ x
  unfolding dec_many
  many_none st x n none h = let e : n ≡ 0 = omega arith in rw e (nothing_scan [] s x h)

  -- a section after its count of m
  abbrev body : {H : Type 0} → Codec H → S → (m : ℕ) → List ℕ → Result (H × List A)
  body head st m b = bind (head.dec b) (λ h r. bind (dec_many c next st m r) (λ xs r'. accepted (h, xs) r'))

  body_scan : {H : Type 0} {head : Codec H} {u : List ℕ → H} {h : List ℕ → ℕ} → Spans head u h → (st : S) (m : ℕ) (x : Scan)
      → scan (body head st m) s x ≡ scan (dec_many c next st m) s (scan head.dec s x)
  body_scan sh st m x = bind_scan sh.reads s _ (dec_many c next st m) x (λ p a r q i. scanned_map (length s) (dec_many c next st m r) (λ xs. (a, xs)))

  -- the count, the header and the values
  module _ (w most : ℕ) (small : w ≤ 8) (x : Scan) {y : Scan} {n : ℕ} {few : Bool} (value : n ≡ value_at 0 w s x) (test : few ≡ leb n most)
      (counted : y ≡ scan (num w CountOverLimit (λ _. few)).dec s x) where
    pub section_scan : {H : Type 0} {head : Codec H} {u : List ℕ → H} {h : List ℕ → ℕ} → Spans head u h → (st : S)
        → scan (section head c next w most st).dec s x ≡ scan (dec_many c next st n) s (scan head.dec s y)
    unfolding section count
    section_scan {head = head} sh st =
        bind_scan (num_spans w CountOverLimit _).reads s _ (body head st n) x
        (λ p a r q i. ap (λ (m : ℕ). scanned (length s) (body head st m r)) (sym (value ∙ value_is w CountOverLimit _ small s x p a r q i)))
        ∙ body_scan sh st n _
        ∙ ap (λ (z : Scan). scan (dec_many c next st n) s (scan head.dec s z)) (number_scan w CountOverLimit _ small s x value test counted)

    pub list_section_scan : (st : S) → scan (list_section c next w most st).dec s x ≡ scan (dec_many c next st n) s y
    unfolding list_section no_header
    list_section_scan st =
        via_scan _ _ (section no_header c next w most st) s x
        ∙ section_scan no_header_spans st
        ∙ ap (scan (dec_many c next st n) s) (nothing_scan tt s _ (within _ s x counted))
