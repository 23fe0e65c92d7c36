-- Refusals 1, 2, 4, 5 and 6 at both sides of their boundaries, the trap kinds, 5 before 6, and the order of a queue, as instances that compute.
use Rattle.std.specs.Prelude.{ℕ, zero, suc, ◌*◌, ◌≡◌, refl, List, [], ◌∷◌, ◌++◌, map, replicate}
use Rattle.step.specs.declared.Queue.{Queue}
use Rattle.image.specs.Image.{decode, pt_of, processes_from, cell_length}
use Rattle.image.proofs.Trials.{number_read}
use Rattle.image.proofs.Laws.Opened.{opened}

-- a row of task 1 with registers 0 and 1 and this trap kind, all its other windows empty
unfoldable pub row_of : (kind : ℕ) → List ℕ
row_of kind = (1 ∷ 0 ∷ 0 ∷ 0 ∷ 0 ∷ 0 ∷ 0 ∷ 0 ∷ 1 ∷ 0 ∷ 0 ∷ 0 ∷ 0 ∷ 0 ∷ 1 ∷ 0 ∷ 0 ∷ 0 ∷ 0 ∷ kind ∷ []) ++ replicate 8 0

-- processes of task 1 with PSW 0
unfoldable pub processes_of : (pts : List ℕ) → List ℕ
processes_of [] = []
processes_of (pt ∷ pts) = (pt ∷ 1 ∷ replicate 8 0) ++ processes_of pts

unfoldable pub count_down : ℕ → List ℕ
count_down zero = []
count_down (suc n) = n ∷ count_down n

-- with these processes, n of them, and so many registers of tag 0 and word 0
unfoldable pub ending : (kind n flag : ℕ) → (pts : List ℕ) → (registers : ℕ) → List ℕ
ending kind n flag pts registers =
    (1 ∷ row_of kind) ++ ((n ∷ flag ∷ processes_of pts) ++ ((0 ∷ 0 ∷ 0 ∷ registers ∷ replicate (cell_length * registers) 0) ++ replicate 8 0))

-- the number that an image is refused by, 0 where it is accepted
unfoldable pub refused_by : List ℕ → ℕ
refused_by bytes = number_read (decode bytes)

-- no rows, processes, constants ..: the bytes of an image up to the count of a section
unfoldable pub up_to : (zeros : ℕ) → (count : List ℕ) → List ℕ
up_to zeros count = replicate zeros 0 ++ count

-- the processes 3 and 5, the head in the last place of the array
unfoldable pub round : Queue
round = record { pts = 5 ∷ replicate 62 0 ++ (3 ∷ []); head = 63; len = 2 }

pub record ImageTrials : Type 0 where
  -- no byte of the last count is missing, one is: 1
  pub least : refused_by (replicate 15 0) ≡ 0
  pub cut : refused_by (replicate 14 0) ≡ 1
  -- each count at its limit, with nothing behind it: 1; above it: 2
  pub rows : refused_by (7 ∷ []) ≡ 1
  pub rows_over : refused_by (8 ∷ []) ≡ 2
  pub processes : refused_by (up_to 1 (64 ∷ [])) ≡ 1
  pub processes_over : refused_by (up_to 1 (65 ∷ [])) ≡ 2
  pub constants : refused_by (up_to 3 (0x10 ∷ 0x00 ∷ [])) ≡ 1
  pub constants_over : refused_by (up_to 3 (0x10 ∷ 0x01 ∷ [])) ≡ 2
  pub registers : refused_by (up_to 5 (0x08 ∷ 0x00 ∷ [])) ≡ 1
  pub registers_over : refused_by (up_to 5 (0x08 ∷ 0x01 ∷ [])) ≡ 2
  pub program : refused_by (up_to 7 (0x00 ∷ 0x10 ∷ 0x00 ∷ 0x00 ∷ [])) ≡ 1
  pub program_over : refused_by (up_to 7 (0x00 ∷ 0x10 ∷ 0x00 ∷ 0x01 ∷ [])) ≡ 2
  pub data_words : refused_by (up_to 11 (0x00 ∷ 0x10 ∷ 0x00 ∷ 0x00 ∷ [])) ≡ 1
  pub data_words_over : refused_by (up_to 11 (0x00 ∷ 0x10 ∷ 0x00 ∷ 0x01 ∷ [])) ≡ 2
  -- a byte more: 4
  pub whole : refused_by (ending 255 2 0 (3 ∷ 4 ∷ []) 2) ≡ 0
  pub left : refused_by (ending 255 2 0 (3 ∷ 4 ∷ []) 2 ++ (0 ∷ [])) ≡ 4
  -- a window that ends past its memory: 5; a PT twice: 6; both: 5; a byte more: 4
  pub past : refused_by (ending 255 2 0 (3 ∷ 4 ∷ []) 1) ≡ 5
  pub twice : refused_by (ending 255 2 0 (3 ∷ 3 ∷ []) 2) ≡ 6
  pub first : refused_by (ending 255 2 0 (3 ∷ 3 ∷ []) 1) ≡ 5
  pub before : refused_by (ending 255 2 0 (3 ∷ 3 ∷ []) 1 ++ (0 ∷ [])) ≡ 4
  -- 63 processes, and 64 with the create fault flag up and down: 6
  pub sixty_three : refused_by (ending 255 63 0 (count_down 63) 2) ≡ 0
  pub up : refused_by (ending 255 64 1 (count_down 64) 2) ≡ 0
  pub down : refused_by (ending 255 64 0 (count_down 64) 2) ≡ 6
  -- the trap kinds, and numbers beside them: 3
  pub kinds : map (λ kind. refused_by (ending kind 0 0 [] 2)) (0x00 ∷ 0x12 ∷ 0x14 ∷ 0x16 ∷ 0x1A ∷ 0x1C ∷ 0x1E ∷ 0xFF ∷ []) ≡ replicate 8 0
  pub others : map (λ kind. refused_by (ending kind 0 0 [] 2)) (0x01 ∷ 0x10 ∷ 0x13 ∷ 0x18 ∷ 0x1F ∷ 0x20 ∷ 0xFE ∷ []) ≡ replicate 7 3
  -- written from the head on, round the array's end
  pub queue : map pt_of (processes_from (replicate 64 0) 1 (round ∷ [])) ≡ 3 ∷ 5 ∷ []

pub image_trials : ImageTrials
unfolding opened number_read row_of processes_of count_down ending refused_by up_to round
image_trials = record {
  least = refl;
  cut = refl;
  rows = refl;
  rows_over = refl;
  processes = refl;
  processes_over = refl;
  constants = refl;
  constants_over = refl;
  registers = refl;
  registers_over = refl;
  program = refl;
  program_over = refl;
  data_words = refl;
  data_words_over = refl;
  whole = refl;
  left = refl;
  past = refl;
  twice = refl;
  first = refl;
  before = refl;
  sixty_three = refl;
  up = refl;
  down = refl;
  kinds = refl;
  others = refl;
  queue = refl;
}
