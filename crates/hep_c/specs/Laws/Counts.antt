-- The counts of a run and of its tasks, put one behind the other.
use Rattle.std.specs.Prelude.{ℕ, suc, ◌+◌, ◌*◌, ◌-◌, ◌≤◌, ◌<◌, ◌≡◌, length, drop}
use Rattle.std.proofs.Math.Path.{refl, ap}
use Rattle.std.proofs.Common.{sym, ◌∙◌, arith, length-append, drop_of_length-le, length-take-le, take_all, take-suc, take_at, drop_at, drop-drop}
use mathlib.Core.List.{List, [], ◌∷◌, ◌++◌, append_assoc}
use Rattle.std.proofs.Math.Numerals.{add-one}
use Rattle.std.proofs.Math.ListN.{get_or, take, length-drop}
use Rattle.std.proofs.Math.Seq.{get_or-drop}
use Rattle.run.specs.declared.Counts.{Counts}
use Rattle.run.specs.Run.{Tally}
use Rattle.image.specs.Fields.{over}
use Rattle.hep_c.specs.Answers.{count_kinds, run_numbers, kinds_listed, own_listed, counts_listed}

-- ---- numbers behind numbers

append-nil : (xs : List ℕ) → xs ++ [] ≡ xs
append-nil [] = refl
append-nil (x ∷ xs) = ap (λ (l : List ℕ). x ∷ l) (append-nil xs)

module _ (xs ys start now last : List ℕ) (a : ℕ) (is : now ≡ over xs start) (long : length xs ≡ a) (fits : a ≤ length now) where
  -- what lies from a on
  rest_is : take (length now - a) (drop a now) ≡ drop a start
  rest_is =
      take_all (length now - a) (drop a now) (omega (arith, length-drop a now))
      ∙ ap (drop a) is ∙ drop_at xs (drop (length xs) start) a long ∙ ap (λ (n : ℕ). drop n start) long

  none_behind : drop (length now - a) (drop a now) ≡ []
  none_behind = let h : length (drop a now) ≤ length now - a = omega (arith, length-drop a now) in drop_of_length-le (drop a now) h

  -- ys go to the front of what lies behind xs
  pub put_behind : last ≡ over ys (take (length now - a) (drop a now))
      → take a now ++ (last ++ drop (length now - a) (drop a now)) ≡ over (xs ++ ys) start
  put_behind e =
      let front : take a now ≡ xs = ap (take a) is ∙ take_at xs (drop (length xs) start) a long in
      let back : last ++ drop (length now - a) (drop a now) ≡ ys ++ drop (a + length ys) start =
      ap (λ (l : List ℕ). last ++ l) none_behind ∙ append-nil last ∙ e ∙ ap (over ys) rest_is
      ∙ ap (λ (l : List ℕ). ys ++ l) (drop-drop (length ys) a start) in
      let whole : a + length ys ≡ length (xs ++ ys) = omega (arith, length-append xs ys, long) in
      ap (λ (l : List ℕ). l ++ (last ++ drop (length now - a) (drop a now))) front
      ∙ ap (λ (l : List ℕ). xs ++ l) back
      ∙ ap (λ (n : ℕ). xs ++ (ys ++ drop n start)) whole
      ∙ sym (append_assoc xs ys (drop (length (xs ++ ys)) start))

-- ---- the counts of tasks

own_append : (cs ds : List Counts) → own_listed (cs ++ ds) ≡ own_listed cs ++ own_listed ds
unfolding own_listed
own_append [] ds = refl
own_append (c ∷ cs) ds = ap (λ (l : List ℕ). kinds_listed c ++ l) (own_append cs ds) ∙ sym (append_assoc (kinds_listed c) (own_listed cs) (own_listed ds))

pub length_own : (cs : List Counts) → length (own_listed cs) ≡ length cs * count_kinds
unfolding own_listed kinds_listed
length_own [] = refl
length_own (c ∷ cs) = omega (arith, length_own cs)

-- i tasks are listed: from the slice at the start to the slice now
pub record Listing (own : List Counts) (start now : List ℕ) (i : ℕ) : Type 0 where
  pub listed : i < length own
  pub room : (length own - 1) * count_kinds ≤ length start
  pub is : now ≡ over (own_listed (take i (drop 1 own))) start

module _ (own : List Counts) (start : List ℕ) where
  pub begins : 1 ≤ length own → (length own - 1) * count_kinds ≤ length start → Listing own start start 0
  unfolding own_listed
  begins h r = record { listed = h; room = r; is = refl }

  module _ (now : List ℕ) (i : ℕ) (g : Listing own start now i) where
    few : length (own_listed (take i (drop 1 own))) ≡ i * count_kinds
    few =
        length_own (take i (drop 1 own))
        ∙ ap (λ (n : ℕ). n * count_kinds) (length-take-le i (drop 1 own) (omega (arith, length-drop 1 own, g.listed)))

    pub kept_length : length now ≡ length start
    kept_length =
        let x = own_listed (take i (drop 1 own)) in
        omega (arith, ap length g.is, length-append x (drop (length x) start), length-drop (length x) start, few, g.listed, g.room)

    pub goes : (c d : Counts) (last : List ℕ) → suc i < length own → get_or own (i + 1) d ≡ c
        → last ≡ over (kinds_listed c) (take (length now - i * count_kinds) (drop (i * count_kinds) now))
        → Listing own start (take (i * count_kinds) now ++ (last ++ drop (length now - i * count_kinds) (drop (i * count_kinds) now))) (i + 1)
    unfolding own_listed
    goes c d last h e p =
        let at : get_or (drop 1 own) i d ≡ c = get_or-drop 1 own i d ∙ ap (λ (n : ℕ). get_or own n d) (omega arith) ∙ e in
        let more : take (i + 1) (drop 1 own) ≡ take i (drop 1 own) ++ (c ∷ []) =
        rw add-one (take-suc (drop 1 own) i d (omega (arith, length-drop 1 own)) ∙ ap (λ (x : Counts). take i (drop 1 own) ++ (x ∷ [])) at) in
        let own_more : own_listed (take (i + 1) (drop 1 own)) ≡ own_listed (take i (drop 1 own)) ++ kinds_listed c =
        ap own_listed more ∙ own_append (take i (drop 1 own)) (c ∷ [])
        ∙ ap (λ (l : List ℕ). own_listed (take i (drop 1 own)) ++ l) (append-nil (kinds_listed c)) in
        record {
          listed = omega (arith, h);
          room = g.room;
          is =
              put_behind (own_listed (take i (drop 1 own))) (kinds_listed c) start now last (i * count_kinds) g.is few
              (omega (arith, kept_length, g.room, g.listed)) p
              ∙ ap (λ (l : List ℕ). over l start) (sym own_more);
        }

    pub ends : length own ≤ i + 1 → now ≡ over (own_listed (drop 1 own)) start
    ends h = g.is ∙ ap (λ (l : List Counts). over (own_listed l) start) (take_all i (drop 1 own) (omega (arith, length-drop 1 own)))

-- ---- all numbers of a run

-- a slice behind whose first a numbers others were put
abbrev behind : (a : ℕ) (now last : List ℕ) → List ℕ
behind a now last = take a now ++ (last ++ drop (length now - a) (drop a now))

pub all_listed : (n : Tally) (image report : ℕ) (start now last own : List ℕ) → now ≡ over (kinds_listed n.counts) start
    → last ≡ over (image ∷ report ∷ []) (take (length now - count_kinds) (drop count_kinds now))
    → own ≡ over (own_listed (drop 1 n.own))
    (take (length (behind count_kinds now last) - run_numbers) (drop run_numbers (behind count_kinds now last)))
    → behind run_numbers (behind count_kinds now last) own ≡ over (counts_listed n image report) start
unfolding counts_listed kinds_listed
all_listed n image report start now last own e f g =
    let five : List ℕ = kinds_listed n.counts in
    let lengths : List ℕ = image ∷ report ∷ [] in
    let m : behind count_kinds now last ≡ over (five ++ lengths) start =
    put_behind five lengths start now last count_kinds e refl (omega (arith, ap length e, length-append five (drop count_kinds start))) f in
    put_behind (five ++ lengths) (own_listed (drop 1 n.own)) start (behind count_kinds now last) own run_numbers m refl
    (omega (arith, ap length m, length-append (five ++ lengths) (drop run_numbers start))) g
