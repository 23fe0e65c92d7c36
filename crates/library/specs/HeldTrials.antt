-- Every lent slice stands in its own place.
use Rattle.std.specs.Prelude.{◌≡◌, refl, [], ◌∷◌}
use Rattle.step.specs.declared.ProcessTable.{ProcessTable}
use Rattle.library.specs.Held.{lent_buffers, room_from}

pub record HeldTrials (table : ProcessTable) : Type 0 where
  pub buffers : lent_buffers [] table (1 ∷ []) (2 ∷ []) (3 ∷ []) (4 ∷ []) (5 ∷ []) (6 ∷ []) (7 ∷ [])
      ≡ record {
        rows = [];
        table = table;
        constant_tags = 1 ∷ [];
        constant_words = 2 ∷ [];
        register_tags = 3 ∷ [];
        register_words = 4 ∷ [];
        program = 5 ∷ [];
        data_tags = 6 ∷ [];
        data_words = 7 ∷ [];
      }
  pub room : room_from 0 1 2 3 4 5 6 7
      ≡ record { rows = 0; constant_tags = 1; constant_words = 2; register_tags = 3; register_words = 4; program = 5; data_tags = 6; data_words = 7 }

pub held_trials : (table : ProcessTable) → HeldTrials table
held_trials table = record { buffers = refl; room = refl }
