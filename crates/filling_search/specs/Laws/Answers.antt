-- The answer, from what each part of the code promises.
use Rattle.std.specs.Prelude.{ℕ, ◌^◌, min, ◌≡◌, refl, true, false, List, length, Ok, Err}
use Rattle.std.proofs.Common.{eq-eqb, ne_eqb}
use Rattle.refusal.specs.declared.Refusal.TheVariants.{BadJobs, NoTries}
use Rattle.filling.specs.declared.Best.{Best}
use Rattle.filling.specs.Filling.{jobs_sound, best_of, tries_of, ceiling_of, filling_of, fill_answer}

pub bad_answer : (needs : List ℕ) (tries : ℕ) → jobs_sound needs ≡ false → Err BadJobs ≡ fill_answer needs tries
unfolding fill_answer
bad_answer needs tries e = rw e refl

pub none_answer : (needs : List ℕ) (tries : ℕ) → jobs_sound needs ≡ true → tries ≡ 0 → Err NoTries ≡ fill_answer needs tries
unfolding fill_answer
none_answer needs tries e z = rw (e, eq-eqb tries 0 z) refl

pub filled_answer : (needs : List ℕ) (tries made ceiling : ℕ) (b : Best) → jobs_sound needs ≡ true → (tries ≡ 0 → ⊥) → made ≡ min tries (2 ^ length needs)
    → b ≡ best_of needs made → ceiling ≡ ceiling_of needs
    → Ok (record { choice = b.choice; sum = b.sum; tries = made; ceiling = ceiling }) ≡ fill_answer needs tries
unfolding fill_answer filling_of tries_of
filled_answer needs tries made ceiling b e z m f c = rw (e, ne_eqb tries 0 z, f, c, m) refl
