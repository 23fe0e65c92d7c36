-- The tables of codes, by their left byte and then by their right byte.
use mathlib.Core.Path.{◌≡◌, refl, sym, ap, ◌∙◌}
use mathlib.Core.Logic.{◌≢◌, ◌⊎◌, inl, inr, ⊎_elim}
use mathlib.Core.Bool.{Bool, true, false, cond, not, ◌&&◌, ◌||◌}
use mathlib.Core.List.{List, [], ◌∷◌, ◌++◌, map}
use Prim.Native.Nat.{ℕ, suc, ◌/◌, ◌%◌, ◌≤◌, ◌<◌}
use native.Mathlib.Omega.{arith}
use lib.Dec.{eqb}
use types.Run.{OneOf}
use borrow.Author.Tests.{ne_eqb, eq-eqb}
use Rattle.word.proofs.Laws.Bools.{Eq?, same, differ, eq?, and_left, and_right, clash}
use Rattle.operation.specs.declared.Code.{Code}
use Rattle.operation.specs.declared.Code.TheVariants.{Privileged, Simulated, Unlisted}
use Rattle.operation.specs.Codes.{Line, line, find, privileged, simulated, single_codes, families, family_of, single_of, code_of}
use Rattle.operation_decode.specs.Code.Columns.{privileged_lines, singles, kept, under, column_of, privileged_of}

-- naming this opens the tables
unfoldable pub tables : ℕ
unfolding column_of under kept find singles privileged_lines privileged simulated single_codes families
tables = 0

-- x is none of the keys, as the default of a `match` has it
abbrev pub Others : List ℕ → ℕ → Type 0 → Type 0
Others [] x N = N
Others (k ∷ ks) x N = Others ks x (N × (x ≡ k → ⊥))

abbrev pub keys : List Line → List ℕ
keys ls = map (λ l. l.key) ls

pub missing : (ls : List Line) (x : ℕ) (d : Code) (N : Type 0) → Others (keys ls) x N → N × (d ≡ find ls x d)
unfolding find
missing [] x d N o = (o, refl)
missing (l ∷ ls) x d N o = let r = missing ls x d (N × (x ≡ l.key → ⊥)) o in (r.0.0, rw (ne_eqb x l.key r.0.1) r.1)

-- two tables, one after the other
joined : (ls ms : List Line) (x : ℕ) (d : Code) → find (ls ++ ms) x d ≡ find ls x (find ms x d)
unfolding find
joined [] ms x d = refl
joined (l ∷ ls) ms x d = ap (λ (r : Code). cond (eqb x l.key) l.meaning r) (joined ls ms x d)

by_tables : (x : ℕ) → code_of x ≡ find singles x (family_of x)
unfolding code_of single_of singles privileged_lines
by_tables x =
    let p = map (λ k. line k Privileged) privileged in
    let s = map (λ k. line k Simulated) simulated in
    sym (joined p (s ++ single_codes) x (family_of x) ∙ ap (find p x) (joined s single_codes x (family_of x)))

-- a table, and its lines under the left byte
by_bytes : (x k : ℕ) → x / 256 ≡ k / 256 → x % 256 ≡ k % 256 → x ≡ k
by_bytes x k e f = omega arith

same_key : (x k : ℕ) → x / 256 ≡ k / 256 → eqb x k ≡ eqb (x % 256) (k % 256)
same_key x k e = go (eqb x k) (eq? x k)
  where
    go : (b : Bool) → Eq? x k b → b ≡ eqb (x % 256) (k % 256)
    go true (same q) = sym (eq-eqb _ _ (ap (λ (n : ℕ). n % 256) q))
    go false (differ q) = sym (ne_eqb _ _ (λ r. q (by_bytes x k e r)))

in_column : (ls : List Line) (x h : ℕ) (d : Code) → x / 256 ≡ h → find ls x d ≡ find (under h ls) (x % 256) d
unfolding find under kept
in_column [] x h d e = refl
in_column (l ∷ ls) x h d e = go (eqb (l.key / 256) h) (eq? (l.key / 256) h) (in_column ls x h d e)
  where
    go : (b : Bool) → Eq? (l.key / 256) h b → find ls x d ≡ find (under h ls) (x % 256) d
        → cond (eqb x l.key) l.meaning (find ls x d) ≡ find (kept b (line (l.key % 256) l.meaning) (under h ls)) (x % 256) d
    go true (same q) r = rw (same_key x l.key (e ∙ sym q)) (ap (λ (m : Code). cond (eqb (x % 256) (l.key % 256)) l.meaning m) r)
    go false (differ q) r = rw (ne_eqb x l.key (λ s. q (sym (ap (λ (n : ℕ). n / 256) s) ∙ e))) r

pub column : (x h : ℕ) → x / 256 ≡ h → code_of x ≡ column_of h (x % 256)
unfolding column_of family_of
column x h e =
    by_tables x ∙ in_column singles x h (family_of x) e
    ∙ ap (λ (n : ℕ). find (under h singles) (x % 256) (find (families (x % 256)) n Unlisted)) e

-- the left bytes of the codes that are not privileged, in the order of `decode`
unfoldable pub lefts : List ℕ
lefts =
    0x00 ∷ 0x09 ∷ 0x19 ∷ 0x38 ∷ 0x39 ∷ 0x41 ∷ 0x61 ∷ 0x67 ∷ 0x6C ∷ 0x71 ∷ 0x72 ∷ 0x73 ∷ 0x77 ∷
    0x79 ∷ 0x7C ∷ 0x7F ∷ 0xBC ∷ 0xFC ∷ []

-- the left bytes of the privileged codes: those of the arm's keys, and the first of each two that follow each other, which a `match` tests as a range
unfoldable pub alone : List ℕ
alone = 0x07 ∷ 0x4A ∷ 0x76 ∷ 0x87 ∷ 0x99 ∷ 0xB7 ∷ 0xC9 ∷ 0xD7 ∷ 0xE1 ∷ 0xE7 ∷ 0xE9 ∷ 0xEC ∷ 0xF1 ∷ []

unfoldable pub privileged_lefts : List ℕ
privileged_lefts = 0x36 ∷ 0x37 ∷ 0x3B ∷ 0x3C ∷ 0x57 ∷ 0x58 ∷ alone

unfoldable pub among : ℕ → List ℕ → Bool
among x [] = false
among x (k ∷ ks) = eqb x k || among x ks

absent : (ks : List ℕ) (x : ℕ) (N : Type 0) → Others ks x N → N × (among x ks ≡ false)
unfolding among
absent [] x N o = (o, refl)
absent (k ∷ ks) x N o = let r = absent ks x (N × (x ≡ k → ⊥)) o in (r.0.0, rw (ne_eqb x k r.0.1) r.1)

-- the left byte of each key, or the key where it is a left byte itself, is among them
unfoldable pub covered : (ℕ → ℕ) → List ℕ → List Line → Bool
covered f ks [] = true
covered f ks (l ∷ ls) = among (f l.key) ks && covered f ks ls

outside : (f : ℕ → ℕ) (ks : List ℕ) (ls : List Line) (x : ℕ) (d : Code) → covered f ks ls ≡ true → among (f x) ks ≡ false → find ls x d ≡ d
unfolding find covered
outside f ks [] x d t n = refl
outside f ks (l ∷ ls) x d t n = go (eqb x l.key) (eq? x l.key) (outside f ks ls x d (and_right (among (f l.key) ks) (covered f ks ls) t) n)
  where
    go : (b : Bool) → Eq? x l.key b → find ls x d ≡ d → cond b l.meaning (find ls x d) ≡ d
    go true (same q) r = clash (among (f x) ks) (ap (λ (k : ℕ). among (f k) ks) q ∙ and_left (among (f l.key) ks) (covered f ks ls) t) n
    go false (differ q) r = r

-- where only privileged codes can stand
by_privileged : (x : ℕ) → among (x / 256) lefts ≡ false → code_of x ≡ privileged_of x
unfolding tables code_of single_of family_of privileged_of covered among lefts
by_privileged x n =
    ap (find privileged_lines x)
    (outside (λ k. k / 256) lefts (map (λ k. line k Simulated) simulated) x (find single_codes x (family_of x)) refl n
    ∙ outside (λ k. k / 256) lefts single_codes x (family_of x) refl n
    ∙ outside (λ k. k) lefts (families (x % 256)) (x / 256) Unlisted refl n)

-- no number is in both lists
unfoldable pub apart : List ℕ → List ℕ → Bool
apart [] ls = true
apart (k ∷ ks) ls = not (among k ls) && apart ks ls

not_among : (b : Bool) → not b ≡ true → b ≡ false
not_among true e = clash true refl (sym e)
not_among false e = refl

-- x is a key of an arm, or none of its keys
elsewhere : (ks ls : List ℕ) (x : ℕ) → apart ks ls ≡ true → OneOf ks x → among x ls ≡ false
unfolding apart
elsewhere [] ls x a o = absurd o
elsewhere (k ∷ []) ls x a e = ap (λ (n : ℕ). among n ls) e ∙ not_among (among k ls) (and_left (not (among k ls)) true a)
elsewhere (k ∷ j ∷ ks) ls x a o =
    ⊎_elim
    (λ e. ap (λ (n : ℕ). among n ls) e ∙ not_among (among k ls) (and_left (not (among k ls)) (apart (j ∷ ks) ls) a))
    (elsewhere (j ∷ ks) ls x (and_right (not (among k ls)) (apart (j ∷ ks) ls) a))
    o

no_key : (ks : List ℕ) (x : ℕ) → (OneOf ks x → ⊥) → among x ks ≡ false
unfolding among
no_key [] x n = refl
no_key (k ∷ []) x n = rw (ne_eqb x k n) refl
no_key (k ∷ j ∷ ks) x n = rw (ne_eqb x k (λ e. n (inl e))) (no_key (j ∷ ks) x (λ o. n (inr o)))

-- the two numbers of a range, and the numbers beside it
second : (n k : ℕ) → k ≤ n → n ≤ suc k → n ≢ k → n ≡ suc k
second n k l h q = omega arith

near : (n k : ℕ) → k ≤ n → n ≤ suc k → OneOf (k ∷ suc k ∷ []) n
near n k l h = go (eqb n k) (eq? n k)
  where
    go : (b : Bool) → Eq? n k b → OneOf (k ∷ suc k ∷ []) n
    go true (same q) = inl q
    go false (differ q) = inr (second n k l h q)

abbrev pub Away : ℕ → ℕ → Type 0
Away n k = (n < k) ⊎ (suc k < n)

beyond : (n k : ℕ) (ks : List ℕ) → Away n k → among n ks ≡ false → among n (k ∷ suc k ∷ ks) ≡ false
unfolding among
beyond n k ks a e = rw (ne_eqb n k (apart_from n k a), ne_eqb n (suc k) (apart_next n k a)) e
  where
    apart_from : (n k : ℕ) → Away n k → n ≢ k
    apart_from n k a q = ⊎_elim (λ (l : n < k). omega arith) (λ (l : suc k < n). omega arith) a

    apart_next : (n k : ℕ) → Away n k → n ≢ suc k
    apart_next n k a q = ⊎_elim (λ (l : n < k). omega arith) (λ (l : suc k < n). omega arith) a

pub by_key : (x : ℕ) → OneOf alone (x / 256) → code_of x ≡ privileged_of x
unfolding lefts alone apart among
by_key x o = by_privileged x (elsewhere alone lefts (x / 256) refl o)

pub by_range : (x k : ℕ) → apart (k ∷ suc k ∷ []) lefts ≡ true → k ≤ x / 256 → x / 256 ≤ suc k → code_of x ≡ privileged_of x
by_range x k a l h = by_privileged x (elsewhere (k ∷ suc k ∷ []) lefts (x / 256) a (near (x / 256) k l h))

-- a code with another left byte is illegal
pub no_column : (x : ℕ) → Others lefts (x / 256) Unit × (OneOf alone (x / 256) → ⊥) → Away (x / 256) 0x36 → Away (x / 256) 0x3B → Away (x / 256) 0x57 → Unlisted ≡ code_of x
unfolding tables privileged_of covered among lefts privileged_lefts alone
no_column x o a b c =
    let n = (absent lefts (x / 256) Unit o.0).1 in
    let p = beyond (x / 256) 0x36 (0x3B ∷ 0x3C ∷ 0x57 ∷ 0x58 ∷ alone) a (beyond (x / 256) 0x3B (0x57 ∷ 0x58 ∷ alone) b (beyond (x / 256) 0x57 alone c (no_key alone (x / 256) o.1))) in
    sym (by_privileged x n ∙ outside (λ k. k / 256) privileged_lefts privileged_lines x Unlisted refl p)
