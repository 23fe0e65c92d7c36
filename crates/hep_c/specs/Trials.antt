-- The calls on an image of one task, and the filling of three jobs: refusals at both sides of their boundaries, and what a call leaves.
use Rattle.std.specs.Prelude.{◌≡◌, refl, List, [], ◌∷◌, ◌++◌, ℕ, ◌-◌, take, replicate}
use Rattle.image.specs.Image.{decode}
use Rattle.report.proofs.Laws.Opened.{opened}
use Rattle.refusal.specs.Numbers.{number_of}
use Rattle.run.specs.Run.{counts as counted}
use Rattle.library.specs.Calls.{unless, check_answer}
use Rattle.library.proofs.Trials.{trial_bytes, trialled}
use Rattle.filling.specs.Filling.{fill_answer}
use Rattle.filling.proofs.Laws.Opened.{opened as filling}
use Rattle.hep_c.specs.Answers.{number_answered, listed_answer, listed_left, sizes_listed, sizes_answer, filling_listed, filling_answer, Slices, slices, results_fit, lengths_refusal, image_run_refusal, image_run_answer, kinds_listed, own_listed, counts_listed, image_run_left}
use Rattle.report_text.specs.Texts.{report_room, tally}

abbrev zeros : ℕ → List ℕ
zeros n = replicate n 0

-- slices that are just long enough, each shorter by so many
unfoldable pub slices_less : (constant_tags constant_words register_tags register_words program data_tags data_words output counts report : ℕ) → Slices
slices_less constant_tags constant_words register_tags register_words program data_tags data_words output counts report =
    slices (zeros (1 - constant_tags)) (zeros (1 - constant_words)) (zeros (2 - register_tags)) (zeros (2 - register_words)) (zeros (16 - program)) (zeros (1 - data_tags)) (zeros (1 - data_words))
    (zeros (857 - output)) (zeros (42 - counts)) (zeros (report_room - report))

unfoldable pub exact_slices : Slices
exact_slices = slices_less 0 0 0 0 0 0 0 0 0 0

-- the number that a run of a schedule answers, and what it leaves
unfoldable pub image_run_number : (image schedule : List ℕ) → Slices → ℕ
image_run_number image schedule l = number_answered (image_run_answer image schedule l (decode image))

unfoldable pub left_by_schedule : (schedule : List ℕ) → Slices → Slices
left_by_schedule schedule l = image_run_left (image_run_answer trial_bytes schedule l (decode trial_bytes)) l

pub record SizesTrials : Type 0 where
  pub accepted : number_answered (check_answer (decode trial_bytes)) ≡ 0
  pub ends : number_answered (check_answer (decode (take 40 trial_bytes))) ≡ 1
  pub short : number_answered (sizes_answer 4 (decode trial_bytes)) ≡ 7
  pub first : number_answered (sizes_answer 4 (decode (take 40 trial_bytes))) ≡ 1
  pub listed : listed_left (sizes_answer 6 (decode trial_bytes)) (replicate 6 9) ≡ 1 ∷ 1 ∷ 2 ∷ 16 ∷ 1 ∷ 9 ∷ []
  pub left : listed_left (sizes_answer 4 (decode trial_bytes)) (replicate 4 9) ≡ replicate 4 9

-- what a filling of jobs of 2,000, 40 and 1,000 answers, and what it leaves in so many places that held 9
unfoldable pub filled_number : (needs : List ℕ) (tries slots : ℕ) → ℕ
filled_number needs tries slots = number_answered (filling_answer slots (fill_answer needs tries))

unfoldable pub filled_left : (needs : List ℕ) (tries slots : ℕ) → List ℕ
filled_left needs tries slots = listed_left (filling_answer slots (fill_answer needs tries)) (replicate slots 9)

pub record FillTrials : Type 0 where
  pub filled : filled_number (2000 ∷ 40 ∷ 1000 ∷ []) 100 4 ≡ 0
  pub listed : filled_left (2000 ∷ 40 ∷ 1000 ∷ []) 100 5 ≡ 3 ∷ 2040 ∷ 8 ∷ 2048 ∷ 9 ∷ []
  -- 17 comes before 18, and 18 before 7
  pub short : filled_number (2000 ∷ 40 ∷ 1000 ∷ []) 100 3 ≡ 7
  pub tries : filled_number (2000 ∷ 40 ∷ 1000 ∷ []) 0 3 ≡ 18
  pub jobs : filled_number (2000 ∷ 41 ∷ 1000 ∷ []) 0 3 ≡ 17
  -- refused: nothing is touched
  pub left_short : filled_left (2000 ∷ 40 ∷ 1000 ∷ []) 100 3 ≡ replicate 3 9
  pub left_tries : filled_left (2000 ∷ 40 ∷ 1000 ∷ []) 0 4 ≡ replicate 4 9
  pub left_jobs : filled_left (2000 ∷ 41 ∷ 1000 ∷ []) 1 4 ≡ replicate 4 9

pub record ImageRunTrials : Type 0 where
  -- just enough room, and one place short of it in each slice: 7
  pub enough : image_run_number trial_bytes (2 ∷ []) exact_slices ≡ 0
  pub constant_tags : image_run_number trial_bytes (2 ∷ []) (slices_less 1 0 0 0 0 0 0 0 0 0) ≡ 7
  pub constant_words : image_run_number trial_bytes (2 ∷ []) (slices_less 0 1 0 0 0 0 0 0 0 0) ≡ 7
  pub register_tags : image_run_number trial_bytes (2 ∷ []) (slices_less 0 0 1 0 0 0 0 0 0 0) ≡ 7
  pub register_words : image_run_number trial_bytes (2 ∷ []) (slices_less 0 0 0 1 0 0 0 0 0 0) ≡ 7
  pub program : image_run_number trial_bytes (2 ∷ []) (slices_less 0 0 0 0 1 0 0 0 0 0) ≡ 7
  pub data_tags : image_run_number trial_bytes (2 ∷ []) (slices_less 0 0 0 0 0 1 0 0 0 0) ≡ 7
  pub data_words : image_run_number trial_bytes (2 ∷ []) (slices_less 0 0 0 0 0 0 1 0 0 0) ≡ 7
  pub output : image_run_number trial_bytes (2 ∷ []) (slices_less 0 0 0 0 0 0 0 1 0 0) ≡ 7
  pub counts : image_run_number trial_bytes (2 ∷ []) (slices_less 0 0 0 0 0 0 0 0 1 0) ≡ 7
  pub report : image_run_number trial_bytes (2 ∷ []) (slices_less 0 0 0 0 0 0 0 0 0 1) ≡ 7
  -- 1 comes before 7, and 7 before 10
  pub first : image_run_number (take 40 trial_bytes) (0 ∷ []) (slices_less 1 1 1 1 1 1 1 1 1 1) ≡ 1
  pub second : image_run_number trial_bytes (0 ∷ []) (slices_less 0 0 0 0 0 0 0 0 1 0) ≡ 7
  pub item : image_run_number trial_bytes (2 ∷ 0 ∷ []) exact_slices ≡ 10
  -- a NOP, and a step of a task that has no row: each under its task's number
  pub ran : (left_by_schedule (2 ∷ 3 ∷ []) exact_slices).counts
      ≡ (1 ∷ 0 ∷ 0 ∷ 1 ∷ 0 ∷ 217 ∷ 47 ∷ []) ++ zeros 5 ++ (1 ∷ 0 ∷ 0 ∷ 0 ∷ 0 ∷ []) ++ (0 ∷ 0 ∷ 0 ∷ 1 ∷ 0 ∷ []) ++ zeros 20
  pub listed : counts_listed (tally (counted 1 2 3 4 5) (counted 9 9 9 9 9 ∷ counted 8 9 10 11 12 ∷ counted 13 14 15 16 17 ∷ [])) 6 7
      ≡ 1 ∷ 2 ∷ 3 ∷ 4 ∷ 5 ∷ 6 ∷ 7 ∷ 8 ∷ 9 ∷ 10 ∷ 11 ∷ 12 ∷ 13 ∷ 14 ∷ 15 ∷ 16 ∷ 17 ∷ []
  -- refused: nothing is touched
  pub left : left_by_schedule (2 ∷ 0 ∷ []) exact_slices ≡ exact_slices

pub sizes_trials : SizesTrials
unfolding trialled number_answered check_answer sizes_listed listed_answer sizes_answer listed_left
sizes_trials = record { accepted = refl; ends = refl; short = refl; first = refl; listed = refl; left = refl }

pub fill_trials : FillTrials
unfolding filling number_of number_answered listed_answer listed_left unless filling_listed filling_answer filled_number filled_left
fill_trials = record { filled = refl; listed = refl; short = refl; tries = refl; jobs = refl; left_short = refl; left_tries = refl; left_jobs = refl }

pub image_run_trials : ImageRunTrials
unfolding trialled opened number_answered results_fit lengths_refusal image_run_refusal image_run_answer kinds_listed own_listed counts_listed image_run_left slices_less exact_slices image_run_number left_by_schedule
image_run_trials = record {
  enough = refl;
  constant_tags = refl;
  constant_words = refl;
  register_tags = refl;
  register_words = refl;
  program = refl;
  data_tags = refl;
  data_words = refl;
  output = refl;
  counts = refl;
  report = refl;
  first = refl;
  second = refl;
  item = refl;
  ran = refl;
  listed = refl;
  left = refl;
}
