-- Where reading stops is why it is refused; and from the number to the section and back.
use Rattle.std.specs.Prelude.{ℕ, ◌≤◌, ◌<◌, refl, Bool, true, false, cond, not, ◌&&◌, List, [], ◌∷◌, map, ◌⊎◌, ◌↔◌, length}
use Rattle.std.proofs.Math.Path.{◌≡◌, sym, ap}
use Rattle.std.proofs.Common.{◌∙◌, subst, arith}
use Rattle.std.proofs.Math.Logic.{inl, inr, ⊎_elim}
use Rattle.window.specs.Sound.{quality_sound, tag_sound, state_sound}
use Rattle.window.specs.Limits.{most_constants, most_registers, most_program, most_data}
use Rattle.step.specs.Soundness.{distinct, total_sound, windows_sound}
use Rattle.refusal.specs.declared.Refusal.{Refusal}
use Rattle.refusal.specs.declared.Refusal.TheVariants.{InputEnds, TaskField, ProcessField, ConstantField, CellField, BytesLeftOver, WindowPastMemory, ProcessesClash}
use Rattle.refusal.specs.Numbers.{number_of}
use Rattle.image.specs.Codec.{Codec, Result, refused, accepted, bind, seq, via}
use Rattle.image.specs.Image.{Image, bad, good, pt_of, after_sections, decode, cells_codec, image_codec}
use Rattle.image.specs.Sections.{Section, Tasks, Processes, Constants, Registers, Program, DataWords, Stop, inside, behind, reads, stop_of}
use Rattle.image.proofs.Laws.Refusals.{Only, tasks_refuse, processes_refuse, words_refuse, cells_refuse}

-- ---- where reading stops

-- a stop is that of a result
Stops : {A : Type 0} → Result A → Stop → Type 0
Stops (refused e) (inside s x) = e ≡ x
Stops (refused e) behind = ⊥
Stops (accepted a r) (inside s x) = ⊥
Stops (accepted a r) behind = Unit {0}

-- what a field of a section is refused with; the words of the program never are
field_of : Section → Refusal
field_of Tasks = TaskField
field_of Processes = ProcessField
field_of Constants = ConstantField
field_of Registers = CellField
field_of Program = InputEnds
field_of DataWords = CellField

-- the refusals of a section
Own : Section → Refusal → Type 0
Own s = Only (field_of s)

Owned : Stop → Type 0
Owned (inside s e) = Own s e
Owned behind = Unit {0}

-- a value put in another's place changes no stop
kept_stops : {A B : Type 0} (m : Result A) (to : A → B) (t : Stop) → Stops m t → Stops (bind m (λ a r. accepted (to a) r)) t
unfolding Stops bind
kept_stops (refused e) to (inside s x) h = h
kept_stops (refused e) to behind h = h
kept_stops (accepted a r) to (inside s x) h = h
kept_stops (accepted a r) to behind h = h

-- a section before others
first_stops : {A B : Type 0} (s : Section) (m : Result A) (f : A → List ℕ → Result B) (next : A → List ℕ → Stop) → ((a : A) (r : List ℕ) → Stops (f a r) (next a r))
    → Stops (bind m f) (reads s m next)
unfolding Stops bind reads
first_stops s (refused e) f next h = refl
first_stops s (accepted a r) f next h = h a r

seq_stops : {A B : Type 0} (s : Section) (c : Codec A) (d : A → Codec B) (next : A → List ℕ → Stop) → ((a : A) (r : List ℕ) → Stops ((d a).dec r) (next a r))
    → (b : List ℕ) → Stops ((seq c d).dec b) (reads s (c.dec b) next)
unfolding seq
seq_stops s c d next h b = first_stops s (c.dec b) _ next (λ a r. kept_stops ((d a).dec r) _ (next a r) (h a r))

-- the last section
last_stops : {A : Type 0} (s : Section) (m : Result A) → Stops m (reads s m (λ a r. behind))
unfolding Stops reads
last_stops s (refused e) = refl
last_stops s (accepted a r) = tt

image_stops : (b : List ℕ) → Stops (image_codec.dec b) (stop_of b)
unfolding image_codec stop_of via
image_stops b =
    kept_stops _ _ (stop_of b)
    (seq_stops Tasks _ _ _ (λ rows r₁.
    seq_stops Processes _ _ _ (λ processes r₂.
    seq_stops Constants _ _ _ (λ constants r₃.
    seq_stops Registers _ _ _ (λ registers r₄.
    seq_stops Program _ _ _ (λ program r₅.
    last_stops DataWords ((cells_codec CellField state_sound 4 most_data).dec r₅)) r₄) r₃) r₂) r₁) b)

reads_owned : {A : Type 0} (s : Section) (m : Result A) (next : A → List ℕ → Stop) → ((e : Refusal) → m ≡ refused e → Own s e) → ((a : A) (r : List ℕ) → Owned (next a r))
    → Owned (reads s m next)
unfolding Own Owned reads
reads_owned s (refused e) next f g = f e refl
reads_owned s (accepted a r) next f g = g a r

stop_owned : (b : List ℕ) → Owned (stop_of b)
unfolding field_of Own Owned stop_of
stop_owned b =
    reads_owned Tasks _ _ (tasks_refuse.such b) λ rows r₁.
    reads_owned Processes _ _ ((processes_refuse rows).such r₁) λ processes r₂.
    reads_owned Constants _ _ ((cells_refuse ConstantField quality_sound 2 most_constants).such r₂) λ constants r₃.
    reads_owned Registers _ _ ((cells_refuse CellField tag_sound 2 most_registers).such r₃) λ registers r₄.
    reads_owned Program _ _ ((words_refuse 4 most_program).such r₄) λ program r₅.
    reads_owned DataWords _ _ ((cells_refuse CellField state_sound 4 most_data).such r₅) λ data_words r₆. tt

-- ---- from the number to the section, and back

-- behind the last section: 4, 5 or 6
after_number : (i : Image) (r : List ℕ) (e : Refusal) → after_sections (accepted i r) ≡ bad e → (4 ≤ number_of e) × (number_of e ≤ 6)
unfolding after_sections number_of
after_number i (x ∷ r) e h = let q : BytesLeftOver ≡ e = cc in rw (← q) (omega arith, omega arith)
after_number i [] e h =
    go (not (windows_sound (length i.registers) (length i.program) (length i.data_words) i.rows))
    (not (distinct (map pt_of i.processes) && total_sound (length i.processes) i.flag)) h
  where
    go : (past clash : Bool) → cond past (bad WindowPastMemory) (cond clash (bad ProcessesClash) (good i)) ≡ bad e → (4 ≤ number_of e) × (number_of e ≤ 6)
    go true clash h = let q : WindowPastMemory ≡ e = cc in rw (← q) (omega arith, omega arith)
    go false true h = let q : ProcessesClash ≡ e = cc in rw (← q) (omega arith, omega arith)
    go false false h = let z : ◌≡◌ {A = ℕ} 0 1 = cc in absurd (omega arith)

-- reading stops in a section, with one of its refusals
record Inside (t : Stop) (e : Refusal) : Type 0 where
  section : Section
  is : t ≡ inside section e
  own : Own section e

Behind : Stop → Refusal → Type 0
Behind t e = (t ≡ behind) × ((4 ≤ number_of e) × (number_of e ≤ 6))

refused_why : (m : Result Image) (t : Stop) (e : Refusal) → Stops m t → Owned t → after_sections m ≡ bad e → Inside t e ⊎ Behind t e
unfolding Stops Owned Behind after_sections
refused_why (refused x) (inside s y) e h o d =
    let q : x ≡ e = cc in
    let p : y ≡ e = sym h ∙ q in
    inl (record { section = s; is = ap (inside s) p; own = subst (Own s) p o })
refused_why (refused x) behind e h o d = absurd h
refused_why (accepted i r) (inside s y) e h o d = absurd h
refused_why (accepted i r) behind e h o d = inr (refl, after_number i r e d)

why : (b : List ℕ) (e : Refusal) → decode b ≡ bad e → Inside (stop_of b) e ⊎ Behind (stop_of b) e
unfolding decode
why b e d = refused_why (image_codec.dec b) (stop_of b) e (image_stops b) (stop_owned b) d

-- a refusal of a section that is neither 1 nor 2 is for a field
own_is_lem : (s : Section) (e : Refusal) → Own s e → 2 < number_of e → e ≡ field_of s
unfolding Own Only number_of
own_is_lem s e o h = ⊎_elim (λ i. absurd (omega (arith, h, ap number_of i))) (⊎_elim (λ i. absurd (omega (arith, h, ap number_of i))) (λ i. i)) o

in_tasks : (s : Section) → number_of (field_of s) ≡ 3 → s ≡ Tasks
unfolding field_of number_of
in_tasks Tasks h = refl
in_tasks Processes h = absurd (omega arith)
in_tasks Constants h = absurd (omega arith)
in_tasks Registers h = absurd (omega arith)
in_tasks Program h = absurd (omega arith)
in_tasks DataWords h = absurd (omega arith)

in_processes : (s : Section) → number_of (field_of s) ≡ 12 → s ≡ Processes
unfolding field_of number_of
in_processes Tasks h = absurd (omega arith)
in_processes Processes h = refl
in_processes Constants h = absurd (omega arith)
in_processes Registers h = absurd (omega arith)
in_processes Program h = absurd (omega arith)
in_processes DataWords h = absurd (omega arith)

in_constants : (s : Section) → number_of (field_of s) ≡ 14 → s ≡ Constants
unfolding field_of number_of
in_constants Tasks h = absurd (omega arith)
in_constants Processes h = absurd (omega arith)
in_constants Constants h = refl
in_constants Registers h = absurd (omega arith)
in_constants Program h = absurd (omega arith)
in_constants DataWords h = absurd (omega arith)

in_cells : (s : Section) → number_of (field_of s) ≡ 13 → (s ≡ Registers) ⊎ (s ≡ DataWords)
unfolding field_of number_of
in_cells Tasks h = absurd (omega arith)
in_cells Processes h = absurd (omega arith)
in_cells Constants h = absurd (omega arith)
in_cells Registers h = inl refl
in_cells Program h = absurd (omega arith)
in_cells DataWords h = inr refl

module _ (b : List ℕ) (e : Refusal) (d : decode b ≡ bad e) where
  -- 3, or a number above 6: the stop is at a field of its section
  field_stop : {P : Type 0} → (number_of e ≡ 3) ⊎ (6 < number_of e) → ((s : Section) → stop_of b ≡ inside s (field_of s) → number_of (field_of s) ≡ number_of e → P) → P
  unfolding Behind
  field_stop h k =
      let m : 2 < number_of e = ⊎_elim (λ i. omega (arith, i)) (λ i. omega (arith, i)) h in
      ⊎_elim
      (λ w. let i : e ≡ field_of w.section = own_is_lem w.section e w.own m in k w.section (w.is ∙ ap (inside w.section) i) (ap number_of (sym i)))
      (λ w. absurd (⊎_elim (λ i. omega (arith, i, w.1.0)) (λ i. omega (arith, i, w.1.1)) h)) (why b e d)

  -- the refusal at a stop is the refusal of the image
  stop_is : (s : Section) (x : Refusal) → stop_of b ≡ inside s x → e ≡ x
  unfolding Behind
  stop_is s x h =
      ⊎_elim (λ w. let q : inside w.section e ≡ inside s x = sym w.is ∙ h in cc)
      (λ w. let q : behind ≡ inside s x = sym w.0 ∙ h in let z : ◌≡◌ {A = ℕ} 0 1 = cc in absurd (omega arith)) (why b e d)

  pub three : (number_of e ≡ 3) ↔ (stop_of b ≡ inside Tasks TaskField)
  unfolding field_of number_of
  three = (
    λ h. field_stop (inl h) λ s i j. i ∙ ap (λ (s : Section). inside s (field_of s)) (in_tasks s (j ∙ h)),
    λ h. ap number_of (stop_is Tasks TaskField h),
  )

  pub twelve : (number_of e ≡ 12) ↔ (stop_of b ≡ inside Processes ProcessField)
  unfolding field_of number_of
  twelve = (
    λ h. field_stop (inr (omega (arith, h))) λ s i j. i ∙ ap (λ (s : Section). inside s (field_of s)) (in_processes s (j ∙ h)),
    λ h. ap number_of (stop_is Processes ProcessField h),
  )

  pub fourteen : (number_of e ≡ 14) ↔ (stop_of b ≡ inside Constants ConstantField)
  unfolding field_of number_of
  fourteen = (
    λ h. field_stop (inr (omega (arith, h))) λ s i j. i ∙ ap (λ (s : Section). inside s (field_of s)) (in_constants s (j ∙ h)),
    λ h. ap number_of (stop_is Constants ConstantField h),
  )

  pub thirteen : (number_of e ≡ 13) ↔ ((stop_of b ≡ inside Registers CellField) ⊎ (stop_of b ≡ inside DataWords CellField))
  unfolding field_of number_of
  thirteen = (
    λ h. field_stop (inr (omega (arith, h))) λ s i j.
        ⊎_elim (λ q. inl (i ∙ ap (λ (s : Section). inside s (field_of s)) q)) (λ q. inr (i ∙ ap (λ (s : Section). inside s (field_of s)) q)) (in_cells s (j ∙ h)),
    ⊎_elim (λ h. ap number_of (stop_is Registers CellField h)) (λ h. ap number_of (stop_is DataWords CellField h)),
  )
