-- What a check finds is what decoding gives; numbers that have room.
use Rattle.std.specs.Prelude.{ℕ, ◌≤◌, ◌<◌, ◌≡◌, refl, List, Ok, Err, length, Option, None, Some, Result}
use Rattle.std.proofs.Common.{ap, arith, lt-ltb, le-ltb}
use Rattle.refusal.specs.declared.Refusal.{Refusal}
use Rattle.refusal.specs.declared.Refusal.TheVariants.{InputEnds, CountOverLimit, TaskField, ProcessField, ConstantField, CellField, BytesLeftOver, WindowPastMemory, ProcessesClash, ShortBuffer, UnsoundState, ListTooLong, ItemOutOfRange, InputTooLong, BadJobs, NoTries}
use Rattle.refusal.specs.Numbers.{number_of}
use Rattle.filling.specs.declared.Filling.{Filling}
use Rattle.run.specs.Run.{Ran}
use Rattle.image.specs.Image.{Image, Decoded, bad, good, state_of}
use Rattle.image.specs.Fields.{over}
use Rattle.library.specs.declared.Sizes.{Sizes}
use Rattle.library.specs.Buffers.{sizes_of}
use Rattle.library.specs.Calls.{Answer, refuses, answers, unless, check_answer}
use Rattle.library.specs.Promises.{read_answered}
use Rattle.library.specs.Numbers.{numbered}
use Rattle.hep_c.specs.Answers.{number_answered, listed_answer, listed_left, sizes_listed, sizes_answer, filling_listed, filling_answer, Slices, image_run_left, unless_refused}

-- ---- what a check finds

pub found_bad : (d : Decoded) (e : Refusal) → read_answered (check_answer d) ≡ Err e → d ≡ bad e
unfolding check_answer read_answered
found_bad (bad x) e h = let q : x ≡ e = cc in ap bad q
found_bad (good i) e h = let z : ◌≡◌ {A = ℕ} 0 1 = cc in absurd (omega arith)

-- an image whose state has these sizes
pub record FoundGood (d : Decoded) (z : Sizes) : Type 0 where
  pub image : Image
  pub is : d ≡ good image
  pub sizes : sizes_of (state_of image) ≡ z

pub found_good : (d : Decoded) (z : Sizes) → read_answered (check_answer d) ≡ Ok z → FoundGood d z
unfolding check_answer read_answered
found_good (bad x) z h = let n : ◌≡◌ {A = ℕ} 0 1 = cc in absurd (omega arith)
found_good (good i) z h = let q : sizes_of (state_of i) ≡ z = cc in record { image = i; is = refl; sizes = q }

-- ---- the numbers

pub check_refused : (d : Decoded) (e : Refusal) → read_answered (check_answer d) ≡ Err e → number_of e ≡ number_answered (check_answer d)
unfolding check_answer number_answered
check_refused d e h = rw (found_bad d e h)

pub check_fine : (d : Decoded) (z : Sizes) → read_answered (check_answer d) ≡ Ok z → 0 ≡ number_answered (check_answer d)
unfolding check_answer number_answered
check_fine d z h = rw (found_good d z h).is

pub numbered_unless : {A : Type 0} (o : Option Refusal) (a : A) → numbered o ≡ number_answered (unless o a)
unfolding numbered number_answered unless
numbered_unless None a = refl
numbered_unless (Some e) a = refl

-- a check that refuses, and one that doesn't
pub refused_by : (o : Option Refusal) (e : Refusal) → unless_refused o ≡ Err e → o ≡ Some e
unfolding unless_refused
refused_by None e h = let z : ◌≡◌ {A = ℕ} 0 1 = cc in absurd (omega arith)
refused_by (Some x) e h = let q : x ≡ e = cc in ap Some q

pub passed_by : (o : Option Refusal) (u : Unit) → unless_refused o ≡ Ok u → o ≡ None
unfolding unless_refused
passed_by None u h = refl
passed_by (Some x) u h = let z : ◌≡◌ {A = ℕ} 0 1 = cc in absurd (omega arith)

-- every refusal has a number above 0
above_0 : (e : Refusal) → number_of e ≡ 0 → ⊥
unfolding number_of
above_0 InputEnds h = omega arith
above_0 CountOverLimit h = omega arith
above_0 TaskField h = omega arith
above_0 ProcessField h = omega arith
above_0 ConstantField h = omega arith
above_0 CellField h = omega arith
above_0 BytesLeftOver h = omega arith
above_0 WindowPastMemory h = omega arith
above_0 ProcessesClash h = omega arith
above_0 ShortBuffer h = omega arith
above_0 UnsoundState h = omega arith
above_0 ListTooLong h = omega arith
above_0 ItemOutOfRange h = omega arith
above_0 InputTooLong h = omega arith
above_0 BadJobs h = omega arith
above_0 NoTries h = omega arith

pub none_numbered : (o : Option Refusal) → numbered o ≡ 0 → o ≡ None
unfolding numbered
none_numbered None h = refl
none_numbered (Some e) h = absurd (above_0 e h)

pub refused_stays : (o : Option Refusal) (r : Ran) (l : Slices) → (numbered o ≡ 0 → ⊥) → l ≡ image_run_left (unless o r) l
unfolding numbered image_run_left unless
refused_stays None r l h = absurd (h refl)
refused_stays (Some e) r l h = refl

-- ---- numbers where they have room

listed_short : (slots : ℕ) (numbers : List ℕ) → slots < length numbers → listed_answer slots numbers ≡ refuses ShortBuffer
unfolding listed_answer unless
listed_short slots numbers h = rw (lt-ltb slots (length numbers) h)

listed_fit : (slots : ℕ) (numbers : List ℕ) → length numbers ≤ slots → listed_answer slots numbers ≡ answers numbers
unfolding listed_answer unless
listed_fit slots numbers h = rw (le-ltb slots (length numbers) h)

module _ (slice : List ℕ) where
  -- what a call that answers numbers promises
  abbrev Put : (a : Answer (List ℕ)) (r : ℕ) (out : List ℕ) → Type 0
  Put a r out = (r ≡ number_answered a) × (out ≡ listed_left a slice)

  -- no room: 7, and all stays
  pub put_short : (numbers : List ℕ) (r : ℕ) → length slice < length numbers → r ≡ number_of ShortBuffer → Put (listed_answer (length slice) numbers) r slice
  unfolding number_answered listed_left
  put_short numbers r h k = rw (listed_short (length slice) numbers h) (k, refl)

  pub put_all : (numbers out : List ℕ) → length numbers ≤ length slice → out ≡ over numbers slice → Put (listed_answer (length slice) numbers) 0 out
  unfolding number_answered listed_left
  put_all numbers out h k = rw (listed_fit (length slice) numbers h) (refl, k)

  pub sizes_refused : (d : Decoded) (e : Refusal) (r : ℕ) → read_answered (check_answer d) ≡ Err e → r ≡ number_of e → Put (sizes_answer (length slice) d) r slice
  unfolding sizes_answer number_answered listed_left
  sizes_refused d e r h k = rw (found_bad d e h) (k, refl)

  pub sizes_found : (d : Decoded) (z : Sizes) (r : ℕ) (out : List ℕ) → read_answered (check_answer d) ≡ Ok z
      → Put (listed_answer (length slice) (sizes_listed z)) r out → Put (sizes_answer (length slice) d) r out
  unfolding sizes_answer
  sizes_found d z r out h k = let f = found_good d z h in rw (f.is, f.sizes) k

  pub filling_refused : (a : Result Filling Refusal) (e : Refusal) (r : ℕ) → a ≡ Err e → r ≡ number_of e → Put (filling_answer (length slice) a) r slice
  unfolding filling_answer number_answered listed_left
  filling_refused a e r h k = rw h (k, refl)

  pub filling_found : (a : Result Filling Refusal) (f : Filling) (r : ℕ) (out : List ℕ) → a ≡ Ok f
      → Put (listed_answer (length slice) (filling_listed f)) r out → Put (filling_answer (length slice) a) r out
  unfolding filling_answer
  filling_found a f r out h k = rw h k
