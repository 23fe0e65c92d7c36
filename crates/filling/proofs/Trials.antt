-- Fillings as instances that compute: choice, sum, tries, ceiling.
use Rattle.std.specs.Prelude.{Result, Ok, Err, ◌≡◌, refl, [], ◌∷◌, ◌++◌, ℕ, replicate}
use Rattle.refusal.specs.declared.Refusal.{Refusal}
use Rattle.refusal.specs.declared.Refusal.TheVariants.{BadJobs, NoTries}
use Rattle.filling.specs.declared.Filling.{Filling}
use Rattle.filling.specs.Filling.{fill_answer}
use Rattle.filling.proofs.Laws.Opened.{opened}

abbrev pub filled : (choice sum tries ceiling : ℕ) → Result Filling Refusal
filled choice sum tries ceiling = Ok (record { choice = choice; sum = sum; tries = tries; ceiling = ceiling })

pub record FillTrials : Type 0 where
  -- no jobs: choice 0, sum 0, one try, ceiling 0
  pub none : fill_answer [] 5 ≡ filled 0 0 1 0
  -- job 1 is the lowest bit; all eight choices are tried, no more
  pub lowest_bit : fill_answer (2000 ∷ 40 ∷ 1000 ∷ []) 100 ≡ filled 3 2040 8 2048
  pub highest_bit : fill_answer (1000 ∷ 50 ∷ 2000 ∷ []) 8 ≡ filled 4 2000 8 2048
  -- of two of the best, jobs 1 and 2 and jobs 1 and 3, the lower number
  pub first : fill_answer (1000 ∷ 1048 ∷ 1048 ∷ []) 8 ≡ filled 3 2048 8 2048
  -- so many tries: the choices 0, 1, 2, then 3 too; the choice 0 alone
  pub three : fill_answer (2 ∷ 6 ∷ 2000 ∷ []) 3 ≡ filled 2 6 3 2008
  pub four : fill_answer (2 ∷ 6 ∷ 2000 ∷ []) 4 ≡ filled 3 8 4 2008
  pub one : fill_answer (2 ∷ 6 ∷ 2000 ∷ []) 1 ≡ filled 0 0 1 2008
  -- choices that break a rule count as tries: 7, all three jobs, is the eighth
  pub broken : fill_answer (1024 ∷ 1024 ∷ 1024 ∷ []) 8 ≡ filled 3 2048 8 2048
  -- at most seven of eight jobs, and the ceiling of the seven largest, whatever their order
  pub seven : fill_answer (2 ∷ 4 ∷ 6 ∷ 8 ∷ 10 ∷ 12 ∷ 14 ∷ 16 ∷ []) 256 ≡ filled 254 70 256 70
  pub unordered : fill_answer (16 ∷ 2 ∷ 14 ∷ 4 ∷ 12 ∷ 6 ∷ 10 ∷ 8 ∷ []) 256 ≡ filled 253 70 256 70
  -- a sum of 2,048 keeps the rules, one of 2,050 does not
  pub full : fill_answer (1024 ∷ 1024 ∷ []) 4 ≡ filled 3 2048 4 2048
  pub over : fill_answer (1026 ∷ 1024 ∷ []) 4 ≡ filled 1 1026 4 2048

pub record RefusalTrials : Type 0 where
  -- 15 jobs, 16
  pub most : fill_answer (replicate 15 2) 1 ≡ filled 0 0 1 14
  pub more : fill_answer (replicate 16 2) 1 ≡ Err BadJobs
  -- needs of 2 and 2,048, and those beside them; a bad need in any place
  pub smallest : fill_answer (2 ∷ []) 2 ≡ filled 1 2 2 2
  pub nothing : fill_answer (0 ∷ 2 ∷ []) 1 ≡ Err BadJobs
  pub odd : fill_answer (2 ∷ 3 ∷ []) 1 ≡ Err BadJobs
  pub largest : fill_answer (2048 ∷ []) 2 ≡ filled 1 2048 2 2048
  pub larger : fill_answer (replicate 14 2 ++ (2050 ∷ [])) 1 ≡ Err BadJobs
  -- zero tries; a bad need and more than 15 jobs come before it
  pub no_tries : fill_answer (2048 ∷ []) 0 ≡ Err NoTries
  pub none : fill_answer [] 0 ≡ Err NoTries
  pub need_first : fill_answer (2 ∷ 0 ∷ []) 0 ≡ Err BadJobs
  pub jobs_first : fill_answer (replicate 16 2) 0 ≡ Err BadJobs

pub fill_trials : FillTrials
unfolding opened
fill_trials = record {
  none = refl;
  lowest_bit = refl;
  highest_bit = refl;
  first = refl;
  three = refl;
  four = refl;
  one = refl;
  broken = refl;
  seven = refl;
  unordered = refl;
  full = refl;
  over = refl;
}

pub refusal_trials : RefusalTrials
unfolding opened
refusal_trials = record {
  most = refl;
  more = refl;
  smallest = refl;
  nothing = refl;
  odd = refl;
  largest = refl;
  larger = refl;
  no_tries = refl;
  none = refl;
  need_first = refl;
  jobs_first = refl;
}
