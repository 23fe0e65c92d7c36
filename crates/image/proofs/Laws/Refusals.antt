-- By which refusals a format refuses: one law for each way to make a format, then the formats of the sections.
use Prim.Native.Nat.{ℕ, zero, suc}
use Rattle.std.specs.Prelude.{◌≡◌, Bool, false, cond, List, ◌⊎◌, length, drop, ltb}
use Rattle.std.proofs.Math.Path.{refl}
use Rattle.std.proofs.Common.{ap, subst, true≢false, ⊎_elim, arith}
use Rattle.std.proofs.Math.Bool.{true}
use Rattle.std.proofs.Math.Logic.{inl, inr}
use Rattle.std.proofs.Math.Dec.{leb}
use Rattle.window.specs.declared.Row.{Row}
use Rattle.refusal.specs.declared.Refusal.{Refusal}
use Rattle.refusal.specs.declared.Refusal.TheVariants.{InputEnds, CountOverLimit, TaskField, ProcessField, CellField}
use Rattle.refusal.specs.Numbers.{number_of}
use Rattle.image.specs.Codec.{Result, refused, accepted, bind, field, Codec, num, count, seq, via, dec_many, section, no_header, list_section, no_state, uniform_section}
use Rattle.image.specs.Image.{to_row, from_row, row_codec, row_task, tasks_codec, to_process, from_process, process_codec, queue_after, processes_codec}
use Rattle.image.specs.Image.{word_codec, words_codec, to_cell, from_cell, cell_codec, cells_codec}
use Rattle.window.specs.Limits.{tasks}
use Rattle.step.specs.Queues.{pt_count}

-- a `bind` that is refused has a refused part
bind_refused : {A B : Type 0} (P : Refusal → Type 0) (m : Result A) (f : A → List ℕ → Result B) (e : Refusal) → bind m f ≡ refused e → (m ≡ refused e → P e)
    → ((a : A) (r : List ℕ) → f a r ≡ refused e → P e) → P e
unfolding bind
bind_refused P (refused x) f e h k l = let q : x ≡ e = cc in k (ap refused q)
bind_refused P (accepted a r) f e h k l = l a r h

accepted_refused : {A : Type 0} (a : A) (r : List ℕ) (e : Refusal) → accepted a r ≡ refused e → ⊥
accepted_refused a r e h = let z : ◌≡◌ {A = ℕ} 0 1 = cc in absurd (omega arith)

-- all refusals of a format are such
pub record Refuses {A : Type 0} (P : Refusal → Type 0) (c : Codec A) : Type 0 where
  pub such : (b : List ℕ) (e : Refusal) → c.dec b ≡ refused e → P e

num_cases : (P : Refusal → Type 0) (short fine : Bool) (v : ℕ) (r : List ℕ) (x e : Refusal) → P InputEnds → (fine ≡ false → P x)
    → cond short (refused InputEnds) (cond fine (accepted v r) (refused x)) ≡ refused e → P e
num_cases P true fine v r x e p q h = let i : InputEnds ≡ e = cc in subst P i p
num_cases P false true v r x e p q h = absurd (accepted_refused v r e h)
num_cases P false false v r x e p q h = let i : x ≡ e = cc in subst P i (q refl)

module _ {P : Refusal → Type 0} where
  -- a number that may be refused for its value
  num_refuses : (w : ℕ) (x : Refusal) (allowed : ℕ → Bool) → P InputEnds → P x → Refuses P (num w x allowed)
  unfolding num
  num_refuses w x allowed p q = record {
    such = λ b e h. num_cases P (ltb (length b) w) (allowed (field w b)) (field w b) (drop w b) x e p (λ _. q) h;
  }

  -- one that never is
  any_refuses : (w : ℕ) (x : Refusal) → P InputEnds → Refuses P (num w x (λ _. true))
  unfolding num
  any_refuses w x p = record {
    such = λ b e h. num_cases P (ltb (length b) w) true (field w b) (drop w b) x e p (λ z. absurd (true≢false z)) h;
  }

  seq_refuses : {A B : Type 0} {c : Codec A} {d : A → Codec B} → Refuses P c → ((a : A) → Refuses P (d a)) → Refuses P (seq c d)
  unfolding seq
  seq_refuses {A} {B} {c} {d} f g = record {
    such = λ b e h.
        bind_refused P (c.dec b) _ e h (f.such b e) λ a r i.
        bind_refused P ((d a).dec r) _ e i ((g a).such r e) λ x s j. absurd (accepted_refused _ _ e j);
  }

  via_refuses : {A B : Type 0} (to : A → B) (from : B → A) {c : Codec A} → Refuses P c → Refuses P (via to from c)
  unfolding via
  via_refuses to from {c} f = record {
    such = λ b e h. bind_refused P (c.dec b) _ e h (f.such b e) λ a r i. absurd (accepted_refused _ _ e i);
  }

  many_refuses : {S A : Type 0} {c : S → Codec A} (next : S → A → S) → ((s : S) → Refuses P (c s)) → (s : S) (n : ℕ) (b : List ℕ) (e : Refusal)
      → dec_many c next s n b ≡ refused e → P e
  unfolding dec_many
  many_refuses next f s zero b e h = absurd (accepted_refused _ _ e h)
  many_refuses {S} {A} {c} next f s (suc n) b e h =
      bind_refused P ((c s).dec b) _ e h ((f s).such b e) λ a r i.
      bind_refused P (dec_many c next (next s a) n r) _ e i (many_refuses next f (next s a) n r e) λ xs r' j. absurd (accepted_refused _ _ e j)

  section_refuses : {H S A : Type 0} {head : Codec H} {c : S → Codec A} (next : S → A → S) (w most : ℕ) (s : S) → P InputEnds → P CountOverLimit → Refuses P head
      → ((s : S) → Refuses P (c s)) → Refuses P (section head c next w most s)
  unfolding section count
  section_refuses {H} {S} {A} {head} {c} next w most s p q f g =
      let k : Refuses P (num w CountOverLimit (λ n. leb n most)) = num_refuses w CountOverLimit (λ n. leb n most) p q in
      record {
        such = λ b e h.
            bind_refused P ((num w CountOverLimit (λ n. leb n most)).dec b) _ e h (k.such b e) λ n r i.
            bind_refused P (head.dec r) _ e i (f.such r e) λ x r' j.
            bind_refused P (dec_many c next s n r') _ e j (many_refuses next g s n r' e) λ xs r'' l. absurd (accepted_refused _ _ e l);
      }

  none_refuses : Refuses P no_header
  unfolding no_header
  none_refuses = record { such = λ b e h. absurd (accepted_refused _ _ e h) }

  list_refuses : {S A : Type 0} {c : S → Codec A} (next : S → A → S) (w most : ℕ) (s : S) → P InputEnds → P CountOverLimit → ((s : S) → Refuses P (c s))
      → Refuses P (list_section c next w most s)
  unfolding list_section
  list_refuses next w most s p q g = via_refuses _ _ (section_refuses next w most s p q none_refuses g)

  uniform_refuses : {A : Type 0} {c : Codec A} (w most : ℕ) → P InputEnds → P CountOverLimit → Refuses P c → Refuses P (uniform_section c w most)
  unfolding uniform_section
  uniform_refuses w most p q f = list_refuses no_state w most tt p q (λ _. f)

-- ---- the sections

-- the bytes end, a count is over its limit, or this field's refusal
unfoldable pub Only : Refusal → Refusal → Type 0
Only x e = (e ≡ InputEnds) ⊎ ((e ≡ CountOverLimit) ⊎ (e ≡ x))

module _ (x : Refusal) where
  input_ends : Only x InputEnds
  unfolding Only
  input_ends = inl refl

  count_over : Only x CountOverLimit
  unfolding Only
  count_over = inr (inl refl)

  -- a field of w bytes
  fielded : (w : ℕ) (allowed : ℕ → Bool) → Refuses (Only x) (num w x allowed)
  unfolding Only
  fielded w allowed = num_refuses w x allowed (inl refl) (inr (inr refl))

pub tasks_refuse : Refuses (Only TaskField) tasks_codec
unfolding tasks_codec row_codec
tasks_refuse =
    let f = fielded TaskField in
    list_refuses row_task 1 tasks 0 (input_ends TaskField) (count_over TaskField) λ _.
    via_refuses to_row from_row
    (seq_refuses (f 1 _) λ _. seq_refuses (f 2 _) λ _. seq_refuses (f 2 _) λ _. seq_refuses (f 2 _) λ _. seq_refuses (f 2 _) λ _. seq_refuses (f 2 _) λ _.
    seq_refuses (f 4 _) λ _. seq_refuses (f 4 _) λ _. seq_refuses (f 1 _) λ _. f 8 _)

pub processes_refuse : (rows : List Row) → Refuses (Only ProcessField) (processes_codec rows)
unfolding processes_codec process_codec
processes_refuse rows =
    let f = fielded ProcessField in
    section_refuses queue_after 1 pt_count 0 (input_ends ProcessField) (count_over ProcessField) (f 1 _) λ _.
    via_refuses to_process from_process (seq_refuses (f 1 _) λ _. seq_refuses (f 1 _) λ _. f 8 _)

-- words are never refused for their value
pub words_refuse : (w most : ℕ) → Refuses (Only InputEnds) (words_codec w most)
unfolding words_codec word_codec
words_refuse w most = uniform_refuses w most (input_ends InputEnds) (count_over InputEnds) (any_refuses 8 CellField (input_ends InputEnds))

pub cells_refuse : (x : Refusal) (allowed : ℕ → Bool) (w most : ℕ) → Refuses (Only x) (cells_codec x allowed w most)
unfolding cells_codec cell_codec word_codec
cells_refuse x allowed w most =
    uniform_refuses w most (input_ends x) (count_over x)
    (via_refuses to_cell from_cell (seq_refuses (fielded x 1 allowed) λ _. any_refuses 8 _ (input_ends x)))

-- ---- their numbers

pub only_numbers : (x e : Refusal) → Only x e → (number_of e ≡ 1) ⊎ ((number_of e ≡ 2) ⊎ (number_of e ≡ number_of x))
unfolding Only number_of
only_numbers x e = ⊎_elim (λ i. inl (rw i)) (⊎_elim (λ i. inr (inl (rw i))) (λ i. inr (inr (ap number_of i))))
