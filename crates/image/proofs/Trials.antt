-- Bad fields, as instances that compute: the number tells the section, and the first bad byte decides.
use Rattle.std.specs.Prelude.{ℕ, ◌≡◌, refl, List, [], ◌∷◌, ◌++◌, replicate}
use Rattle.refusal.specs.Numbers.{number_of}
use Rattle.step.specs.Queues.{list_of}
use Rattle.step.specs.State.{queue_in}
use Rattle.image.specs.Image.{state_of, Decoded, bad, good, decode}
use Rattle.image.proofs.Laws.Opened.{opened}

-- the number of the refusal, 0 where the image is accepted
unfoldable pub number_read : Decoded → ℕ
number_read (bad e) = number_of e
number_read (good i) = 0

-- a row of task t with empty windows, no trap, and this trapped PSW
unfoldable pub row_bytes : (t psw : ℕ) → List ℕ
row_bytes t psw = (t ∷ 0 ∷ 0 ∷ 0 ∷ 1 ∷ 0 ∷ 0 ∷ 0 ∷ 1 ∷ 0 ∷ 0 ∷ 0 ∷ 0 ∷ 0 ∷ 1 ∷ 0 ∷ 0 ∷ 0 ∷ 0 ∷ 255 ∷ []) ++ (replicate 7 0 ++ (psw ∷ []))

-- one row of task t, one process with these bytes, one constant with this quality, one register with this tag, one data word with this state
unfoldable pub image_with : (t trapped flag pt task psw quality tag state : ℕ) → List ℕ
image_with t trapped flag pt task psw quality tag state =
    (1 ∷ row_bytes t trapped) ++ ((1 ∷ flag ∷ pt ∷ task ∷ psw ∷ replicate 7 0) ++ ((0 ∷ 1 ∷ quality ∷ replicate 8 0) ++ ((0 ∷ 1 ∷ tag ∷ replicate 8 0)
    ++ (replicate 4 0 ++ (0 ∷ 0 ∷ 0 ∷ 1 ∷ state ∷ replicate 8 0)))))

-- tasks 1 and 2, and two processes with these task bytes
unfoldable pub two_processes : (first second : ℕ) → List ℕ
two_processes first second =
    (2 ∷ row_bytes 1 0) ++ (row_bytes 2 0 ++ ((2 ∷ 0 ∷ 5 ∷ first ∷ replicate 8 0) ++ ((6 ∷ second ∷ replicate 8 0) ++ replicate 12 0)))

-- the PTs in the queue with number k
unfoldable pub pts_read : (k : ℕ) → Decoded → List ℕ
pts_read k (bad e) = []
pts_read k (good i) = list_of (queue_in (state_of i).table.users.queues k)

pub record SectionTrials : Type 0 where
  pub fine : number_read (decode (image_with 1 0 0 0 1 0 0 0 0)) ≡ 0
  -- first and last field of each section
  pub task : number_read (decode (image_with 8 0 0 0 1 0 0 0 0)) ≡ 3
  pub trapped : number_read (decode (image_with 1 1 0 0 1 0 0 0 0)) ≡ 3
  pub flag : number_read (decode (image_with 1 0 2 0 1 0 0 0 0)) ≡ 12
  pub psw : number_read (decode (image_with 1 0 0 0 1 255 0 0 0)) ≡ 12
  pub quality : number_read (decode (image_with 1 0 0 0 1 0 7 0 0)) ≡ 14
  pub tag : number_read (decode (image_with 1 0 0 0 1 0 0 7 0)) ≡ 13
  pub state : number_read (decode (image_with 1 0 0 0 1 0 0 0 2)) ≡ 13
  -- PT and task byte of a process
  pub pt : number_read (decode (image_with 1 0 0 64 1 0 0 0 0)) ≡ 12
  pub unlisted : number_read (decode (image_with 1 0 0 0 2 0 0 0 0)) ≡ 12
  pub nine : number_read (decode (image_with 1 0 0 0 9 0 0 0 0)) ≡ 12
  -- hex 10 more in the SFU queue: of the listed task; of no task, of an unlisted one, of 8, of 9, and hex 10 twice
  pub sfu : number_read (decode (image_with 1 0 0 0 0x11 0 0 0 0)) ≡ 0
  pub sfu_0 : number_read (decode (image_with 1 0 0 0 0x10 0 0 0 0)) ≡ 12
  pub sfu_2 : number_read (decode (image_with 1 0 0 0 0x12 0 0 0 0)) ≡ 12
  pub sfu_8 : number_read (decode (image_with 1 0 0 0 0x18 0 0 0 0)) ≡ 12
  pub sfu_9 : number_read (decode (image_with 1 0 0 0 0x19 0 0 0 0)) ≡ 12
  pub sfu_twice : number_read (decode (image_with 1 0 0 0 0x21 0 0 0 0)) ≡ 12
  -- the SFU queue follows its task's queue, before the next task
  pub sfu_order : number_read (decode (two_processes 1 0x11)) ≡ 0
  pub sfu_pair : number_read (decode (two_processes 0x11 0x11)) ≡ 0
  pub sfu_first : number_read (decode (two_processes 0x11 1)) ≡ 12
  pub sfu_next : number_read (decode (two_processes 0x11 2)) ≡ 0
  pub sfu_late : number_read (decode (two_processes 2 0x11)) ≡ 12
  -- the processes that were read, in the queue and in the SFU queue of task 1
  pub sfu_beside : pts_read 2 (decode (two_processes 1 0x11)) ≡ 5 ∷ []
  pub sfu_inside : pts_read 3 (decode (two_processes 1 0x11)) ≡ 6 ∷ []
  -- two bad fields: the first decides
  pub first : number_read (decode (image_with 1 1 2 0 1 0 0 7 0)) ≡ 3
  pub second : number_read (decode (image_with 1 0 2 0 1 0 7 7 0)) ≡ 12
  pub third : number_read (decode (image_with 1 0 0 0 1 0 7 7 0)) ≡ 14
  -- the last quality that is accepted
  pub six : number_read (decode (image_with 1 0 0 0 1 0 6 0 0)) ≡ 0
  -- bytes that end at the quality: 1; behind it: 14
  pub missing : number_read (decode (0 ∷ 0 ∷ 0 ∷ 0 ∷ 1 ∷ [])) ≡ 1
  pub there : number_read (decode (0 ∷ 0 ∷ 0 ∷ 0 ∷ 1 ∷ 7 ∷ [])) ≡ 14
  -- bytes that end at the tag: 1; behind it: 13
  pub cut : number_read (decode (0 ∷ 0 ∷ 0 ∷ 0 ∷ 0 ∷ 0 ∷ 1 ∷ [])) ≡ 1
  pub whole : number_read (decode (0 ∷ 0 ∷ 0 ∷ 0 ∷ 0 ∷ 0 ∷ 1 ∷ 7 ∷ [])) ≡ 13

pub section_trials : SectionTrials
unfolding opened number_read row_bytes image_with two_processes pts_read
section_trials = record {
  fine = refl;
  task = refl;
  trapped = refl;
  flag = refl;
  psw = refl;
  quality = refl;
  tag = refl;
  state = refl;
  pt = refl;
  unlisted = refl;
  nine = refl;
  sfu = refl;
  sfu_0 = refl;
  sfu_2 = refl;
  sfu_8 = refl;
  sfu_9 = refl;
  sfu_twice = refl;
  sfu_order = refl;
  sfu_pair = refl;
  sfu_first = refl;
  sfu_next = refl;
  sfu_late = refl;
  sfu_beside = refl;
  sfu_inside = refl;
  first = refl;
  second = refl;
  third = refl;
  six = refl;
  missing = refl;
  there = refl;
  cut = refl;
  whole = refl;
}
