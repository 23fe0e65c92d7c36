-- Operands by numbers against what the definitions say of them, for any role.
use Rattle.std.specs.Prelude.{ℕ, ◌+◌, ◌/◌, ◌%◌, ◌^◌, ◌<◌, ◌≡◌, Bool, ◌||◌, ◌&&◌, List, eqb, get_or, Some, None}
use Rattle.std.proofs.Math.Path.{refl, sym, ap, subst}
use Rattle.std.proofs.Common.{◌∙◌, arith, eqb-true, lt-ltb}
use Rattle.std.proofs.Math.Bool.{true, false, cond}
use Rattle.std.proofs.Math.ListN.{set}
use Rattle.std.proofs.Math.Seq.{set-get_or}
use Rattle.std.proofs.lemmas.Bool.{lt-leb}
use Rattle.word.specs.Tests.{tests, holds_of}
use Rattle.word.proofs.Laws.Bools.{Eq?, same, differ, eq?, and_left, and_right}
use Rattle.window.specs.declared.Row.{Row}
use Rattle.window.specs.declared.Cell.{Cell}
use Rattle.window.specs.declared.Window.{Window}
use Rattle.window.specs.Windows.{inside, register_window}
use Rattle.window.specs.Memories.{Memory, memory, cell, cell_at, constant_at, quality_in, stored, stored_one, tag_of, word_of}
use Rattle.operand.specs.declared.Role.{Role}
use Rattle.operand.specs.declared.Role.TheVariants.{Unused, Free, Destination, Source}
use Rattle.operand.specs.declared.Operand.{Operand}
use Rattle.operand.specs.declared.Operand.TheVariants.{Register, Constant, Absent}
use Rattle.operand.specs.Field.{constant_of, access_of, lookup_of}
use Rattle.operand.specs.Access.{access_codes, code_line, source_waits, destination_waits, waits_of, masked_of, emptying, source_left, destination_tag}
use Rattle.operand.specs.Code.Cells.{operand_cell, held_cell, source_tag}
use Rattle.operand.specs.Laws.Access.{source_emptied_by}
use Rattle.operand.specs.Code.Spans.{number_in, released}
use Rattle.operand.specs.Laws.Spans.{destination_register, destination_inside, source_constant, source_plain, source_register, source_inside}
use Rattle.operation_checks.specs.declared.FoundSource.{FoundSource}
use Rattle.operation_checks.specs.declared.FoundDestination.{FoundDestination}
use Rattle.operation_checks.specs.Code.Operands.{Destined, Sourced, DestinationFound, SourceFound, destination_at, source_at, tag_in, waits_in, masked_in, left_in}

pub waits_in_lem : (r : Role) (ac tag : ℕ) → waits_of r ac tag ≡ waits_in r ac tag
unfolding waits_of
waits_in_lem Unused ac tag = refl
waits_in_lem Free ac tag = refl
waits_in_lem Destination ac tag = refl
waits_in_lem Source ac tag = refl

pub masked_in_lem : (r : Role) (psw tag : ℕ) → masked_of r psw tag ≡ masked_in r psw tag
unfolding masked_of
masked_in_lem Unused psw tag = refl
masked_in_lem Free psw tag = refl
masked_in_lem Destination psw tag = refl
masked_in_lem Source psw tag = refl

-- two tests and none
pub or_none : (a : Bool) → a ≡ a || false
or_none true = refl
or_none false = refl

pub or_one : (f t g x : ℕ) (w : Bool) → w ≡ waits_of Destination (access_of f) t || waits_of Source (access_of g) x
    → w ≡ waits_of Destination (access_of f) t || (waits_of Source (access_of g) x || false)
or_one f t g x w e = rw (← or_none (waits_of Source (access_of g) x)) e

-- ---- no access code
abbrev plainly : ℕ → Bool
plainly f = eqb (f / 2 ^ 11 % 2 ^ 3) 0

pub plain_access : (f : ℕ) → eqb (f / 2 ^ 11 % 2 ^ 3) 0 ≡ true → access_of f ≡ 0
unfolding access_of
plain_access f e = go (constant_of f) (f / 2 ^ 11 % 2 ^ 3) (eqb-true _ _ e)
  where
    go : (t : Bool) (n : ℕ) → n ≡ 0 → cond t 0 n ≡ 0
    go true n q = refl
    go false n q = q

-- no test, nothing to set empty, the quality alone in the tag
no_wait : (r : Role) (ac tag : ℕ) → ac ≡ 0 → waits_in r ac tag ≡ false
unfolding waits_of source_waits destination_waits code_line access_codes
no_wait Unused ac tag e = refl
no_wait Free ac tag e = refl
no_wait Destination ac tag e = rw e
no_wait Source ac tag e = rw e

not_released : (f a x : ℕ) (l : List ℕ) → access_of f ≡ 0 → released f a x l ≡ l
unfolding released
not_released f a x l e = rw e

full_tag_lem : (f q : ℕ) → access_of f ≡ 0 → q % 8 ≡ destination_tag (access_of f) q
unfolding destination_tag code_line access_codes
full_tag_lem f q e = rw e

module _ (f g : ℕ) (e : eqb (f / 2 ^ 11 % 2 ^ 3) 0 && eqb (g / 2 ^ 11 % 2 ^ 3) 0 ≡ true) where
  first_plain : access_of f ≡ 0
  first_plain = plain_access f (and_left (plainly f) (plainly g) e)

  second_plain : access_of g ≡ 0
  second_plain = plain_access g (and_right (plainly f) (plainly g) e)

  pub two_wait : (r s : Role) (x y : ℕ) → false ≡ waits_in r (access_of f) x || waits_in s (access_of g) y
  two_wait r s x y = rw (no_wait r (access_of f) x first_plain, no_wait s (access_of g) y second_plain)

  pub two_released : (a x b y : ℕ) (l : List ℕ) → l ≡ released g b y (released f a x l)
  two_released a x b y l = rw (not_released f a x l first_plain, not_released g b y l second_plain)

  pub two_left : (q a x : ℕ) (l : List ℕ) → (q % 8 ≡ destination_tag (access_of f) q) × (l ≡ released g a x l)
  two_left q a x l = (full_tag_lem f q first_plain, sym (not_released g a x l second_plain))

module _ (f g h : ℕ) (e : eqb (f / 2 ^ 11 % 2 ^ 3) 0 && (eqb (g / 2 ^ 11 % 2 ^ 3) 0 && eqb (h / 2 ^ 11 % 2 ^ 3) 0) ≡ true) where
  rest : plainly g && plainly h ≡ true
  rest = and_right (plainly f) (plainly g && plainly h) e

  pub three_wait : (r s t : Role) (x y z : ℕ) → false ≡ waits_in r (access_of f) x || (waits_in s (access_of g) y || waits_in t (access_of h) z)
  three_wait r s t x y z =
      rw (no_wait r (access_of f) x (plain_access f (and_left (plainly f) (plainly g && plainly h) e)), ← two_wait g h rest s t y z)

  pub three_left : (q a x b y : ℕ) (l : List ℕ) → (q % 8 ≡ destination_tag (access_of f) q) × (l ≡ released h b y (released g a x l))
  three_left q a x b y l = (full_tag_lem f q (plain_access f (and_left (plainly f) (plainly g && plainly h) e)), two_released g h rest a x b y l)

-- what is told in parts
pub tag_told : (n m f q : ℕ) → n ≡ destination_tag m q → m ≡ access_of f → n ≡ destination_tag (access_of f) q
tag_told n m f q e g = e ∙ ap (λ k. destination_tag k q) g

pub released_told : (f a x g b y : ℕ) (l m n : List ℕ) → n ≡ released g b y m → m ≡ released f a x l → n ≡ released g b y (released f a x l)
released_told f a x g b y l m n e k = e ∙ ap (released g b y) k

pub put_told : (d t u : ℕ) (l m n : List ℕ) → n ≡ set m d t → m ≡ l → t ≡ u → n ≡ set l d u
put_told d t u l m n e f g = rw (← f, ← g) e

-- ---- the tag that code holds of a source, and its tag before the step: they differ where it is a constant

-- a constant has no access code
constant_access : (f : ℕ) → constant_of f ≡ true → access_of f ≡ 0
unfolding access_of
constant_access f e = rw e

-- one that has an access code is no constant
tag_tested : (f a x : ℕ) (q : List ℕ) → (access_of f ≡ 0 → ⊥) → source_tag f a x q ≡ x
unfolding source_tag
tag_tested f a x q n = go (constant_of f) refl
  where
    go : (b : Bool) → constant_of f ≡ b → cond b (quality_in (get_or q a 0)) x ≡ x
    go true e = absurd (n (constant_access f e))
    go false e = refl

held_waits : (f a x : ℕ) (q : List ℕ) → waits_of Source (access_of f) (source_tag f a x q) ≡ waits_of Source (access_of f) x
unfolding source_tag waits_of source_waits code_line access_codes
held_waits f a x q = go (constant_of f) refl
  where
    go : (b : Bool) → constant_of f ≡ b → waits_of Source (access_of f) (cond b (quality_in (get_or q a 0)) x) ≡ waits_of Source (access_of f) x
    go true e = rw (constant_access f e)
    go false e = refl

-- a test sees of a tag only whether it is full
full_alike : (c w t u psw : ℕ) → t < 8 → u < 8 → holds_of c w t psw ≡ holds_of c w u psw
unfolding holds_of tests
full_alike c w t u psw h k = rw (lt-leb 8 t h, lt-leb 8 u k, lt-ltb t 8 h, lt-ltb u 8 k)

tested_alike : (f a x : ℕ) (q : List ℕ) → (constant_of f ≡ true → x ≡ 0) → (c w psw : ℕ) → holds_of c w x psw ≡ holds_of c w (source_tag f a x q) psw
unfolding source_tag
tested_alike f a x q h c w psw = go (constant_of f) refl
  where
    go : (b : Bool) → constant_of f ≡ b → holds_of c w x psw ≡ holds_of c w (cond b (quality_in (get_or q a 0)) x) psw
    go true e = full_alike c w x (get_or q a 0 % 8) psw (omega (arith, h e)) (omega arith)
    go false e = refl

-- ---- an operand of any role: its cell, and the tags and words once it is let go
pub record Operated (row : Row) (tags words : List ℕ) (constants : Memory) (role : Role) (f : ℕ) (o : Operand) (a x s : ℕ) : Type 0 where
  pub holds : operand_cell (memory tags words) constants o ≡ cell (tag_in role f a x constants.tags) s
  pub waits : waits_in role (access_of f) (tag_in role f a x constants.tags) ≡ waits_in role (access_of f) x
  pub tags_left : (l : List ℕ) → stored_one tag_of (register_window row) (source_left role (access_of f) o (cell (tag_in role f a x constants.tags) s)) l ≡ left_in role f a x l
  pub words_left : stored_one word_of (register_window row) (source_left role (access_of f) o (cell (tag_in role f a x constants.tags) s)) words ≡ words

empties : (f : Cell → ℕ) (w : Window) (o : Operand) (a : ℕ) (c : Cell) (l : List ℕ) → o ≡ Register a → inside w a ≡ true
    → stored_one f w (emptying o c) l ≡ set l a (f (cell (c.tag % 8 + 8) c.word))
unfolding emptying stored_one stored
empties f w o a c l e i = rw (e, i)

module _ (row : Row) (tags words : List ℕ) (constants : Memory) (f : ℕ) where
  pub unused_operated : Operated row tags words constants Unused f Absent 0 0 0
  unfolding operand_cell source_left stored_one
  unused_operated = record { holds = refl; waits = refl; tags_left = λ l. refl; words_left = refl }

  pub free_operated : Operated row tags words constants Free f Absent 0 0 0
  unfolding operand_cell source_left stored_one
  free_operated = record { holds = refl; waits = refl; tags_left = λ l. refl; words_left = refl }

  pub destination_operated : (o : Operand) (d : ℕ) → Destined row o d → Operated row tags words constants Destination f o d (get_or tags d 0) (get_or words d 0)
  unfolding operand_cell cell_at source_left stored_one
  destination_operated o d p = record { holds = rw p.register; waits = refl; tags_left = λ l. refl; words_left = refl }

  module _ (o : Operand) (a x s : ℕ) (p : Sourced row tags words constants f o a x s) where
    -- its tag before the step
    abbrev held : ℕ
    held = source_tag f a x constants.tags

    -- the word that stands there is the word that is written
    its_word : access_of f ≡ 2 → s ≡ get_or words a 0
    unfolding operand_cell cell_at
    its_word e =
        let h : operand_cell (memory tags words) constants (Register a) ≡ cell held s = subst (λ (z : Operand). operand_cell (memory tags words) constants z ≡ cell held s) (p.register e) p.holds in
        sym (ap (λ (c : Cell). c.word) h)

    tags_left_lem : (l : List ℕ) → stored_one tag_of (register_window row) (source_left Source (access_of f) o (cell held s)) l ≡ released f a x l
    unfolding source_left released stored_one
    tags_left_lem l = rw (source_emptied_by (access_of f)) (go (eqb (access_of f) 2) (eq? (access_of f) 2))
      where
        go : (t : Bool) → Eq? (access_of f) 2 t
            → stored_one tag_of (register_window row) (cond t (emptying o (cell held s)) None) l ≡ cond t (set l a (x % 8 + 8)) l
        go true (same e) = empties tag_of (register_window row) o a (cell held s) l (p.register e) (p.within e) ∙ ap (λ (t : ℕ). set l a (t % 8 + 8)) (tag_tested f a x constants.tags (λ z. omega (arith, e, z)))
        go false (differ h) = refl

    words_left_lem : stored_one word_of (register_window row) (source_left Source (access_of f) o (cell held s)) words ≡ words
    unfolding source_left stored_one
    words_left_lem = rw (source_emptied_by (access_of f)) (go (eqb (access_of f) 2) (eq? (access_of f) 2))
      where
        go : (t : Bool) → Eq? (access_of f) 2 t → stored_one word_of (register_window row) (cond t (emptying o (cell held s)) None) words ≡ words
        go true (same e) =
            empties word_of (register_window row) o a (cell held s) words (p.register e) (p.within e) ∙ ap (set words a) (its_word e) ∙ set-get_or words a 0
        go false (differ h) = refl

    pub source_operated : Operated row tags words constants Source f o a x s
    source_operated = record { holds = p.holds; waits = held_waits f a x constants.tags; tags_left = tags_left_lem; words_left = words_left_lem }

    -- every test sees a constant as full
    pub held_test : (c w psw : ℕ) → holds_of c w x psw ≡ holds_of c w held psw
    held_test c w psw = tested_alike f a x constants.tags p.full c w psw

-- ---- what a lookup finds
pub destined : (row : Row) (psw f : ℕ) (o : Operand) (d : ℕ) → lookup_of Destination row psw f ≡ Some o → d ≡ number_in o → Destined row o d
destined row psw f o d e k =
    let r : o ≡ Register d = destination_register row psw f o e ∙ ap Register (sym k) in
    record { register = r; within = destination_inside row psw f o d e r }

pub sourced : (row : Row) (tags words : List ℕ) (constants : Memory) (psw f : ℕ) (o : Operand) (c : Cell) (a : ℕ) → lookup_of Source row psw f ≡ Some o
    → c ≡ held_cell (memory tags words) constants.words o → a ≡ number_in o → Sourced row tags words constants f o a c.tag c.word
unfolding operand_cell held_cell constant_at source_tag
sourced row tags words constants psw f o c a e h k = record {
  register = λ two. source_register row psw f o e two ∙ ap Register (sym k);
  within = λ two. source_inside row psw f o a e (source_register row psw f o e two ∙ ap Register (sym k));
  full = λ z. ap (λ (y : Cell). y.tag) (h ∙ ap (held_cell (memory tags words) constants.words) (source_constant row psw f o e z));
  holds = go (constant_of f) refl;
}
  where
    go : (b : Bool) → constant_of f ≡ b → operand_cell (memory tags words) constants o ≡ cell (cond b (quality_in (get_or constants.tags a 0)) c.tag) c.word
    go true z =
        let q : o ≡ Constant a = source_constant row psw f o e z ∙ ap Constant (sym k) in
        ap (operand_cell (memory tags words) constants) q
        ∙ ap (cell (quality_in (get_or constants.tags a 0))) (sym (ap (λ (y : Cell). y.word) (h ∙ ap (held_cell (memory tags words) constants.words) q)))
    go false z =
        let q : o ≡ Register a = source_plain row psw f o e z ∙ ap Register (sym k) in
        ap (operand_cell (memory tags words) constants) q ∙ sym (h ∙ ap (held_cell (memory tags words) constants.words) q)

-- the operands as code holds them
pub destination_field : (f : ℕ) (o : Operand) (d : FoundDestination) → d ≡ destination_at f o → d.field ≡ f
unfolding destination_at
destination_field f o d e = ap (λ (x : FoundDestination). x.field) e

pub source_field : (m : Memory) (l : List ℕ) (f : ℕ) (o : Operand) (s : FoundSource) → s ≡ source_at m l f o → s.field ≡ f
unfolding source_at
source_field m l f o s e = ap (λ (x : FoundSource). x.field) e

pub destination_found : (row : Row) (psw f : ℕ) (o : Operand) (d : FoundDestination) → lookup_of Destination row psw f ≡ Some o → d ≡ destination_at f o → DestinationFound row o d
unfolding destination_at
destination_found row psw f o d e k = destined row psw f o d.place e (ap (λ (x : FoundDestination). x.place) k)

pub source_found : (row : Row) (tags words : List ℕ) (constants : Memory) (psw f : ℕ) (o : Operand) (s : FoundSource) → lookup_of Source row psw f ≡ Some o
    → s ≡ source_at (memory tags words) constants.words f o → SourceFound row tags words constants o s
unfolding source_at
source_found row tags words constants psw f o s e k =
    subst (λ (x : FoundSource). SourceFound row tags words constants o x) (sym k)
    (sourced row tags words constants psw f o (held_cell (memory tags words) constants.words o) (number_in o) e refl refl)

-- two tests, one of which is told
pub or_told : (r a b x : Bool) → r ≡ a || x → a ≡ b → r ≡ b || x
or_told r a b x e k = e ∙ ap (λ (t : Bool). t || x) k
