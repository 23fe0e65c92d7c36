-- Demand 3: isolation, one claim about two whole runs.
use Rattle.std.specs.Prelude.{◌≡◌, List, ℕ}
use Rattle.step.proofs.Laws.Sound.{inv_of}
use Rattle.run.specs.Run.{own_counts, run}
use Rattle.run.specs.Compared.{Compared}
use Rattle.run.proofs.Laws.Isolation.{isolation, own_isolation}
use Rattle.image.specs.Image.{Image, state_of}
use Rattle.image.specs.Demand3.{WholeRun, Agreed}
use Rattle.image.proofs.Laws.DecodeSound.{decode_sound}

-- then that task's registers, data, processes in queue order (numbers aside, the SFU queue too) and trap record are equal after both
pub demand_3 : (t : ℕ) (bytes bytes' schedule schedule' : List ℕ) (i i' : Image)
    → WholeRun bytes schedule i → WholeRun bytes' schedule' i' → Agreed t schedule schedule' i i'
    → Compared t (run schedule (state_of i)).state (run schedule' (state_of i')).state
demand_3 t b b' ts us i i' r r' a =
    isolation t ts us (state_of i) (state_of i')
    (inv_of (state_of i) (decode_sound b r.string i r.accepted)) (inv_of (state_of i') (decode_sound b' r'.string i' r'.accepted))
    a.alone a.alone' a.task a.program a.constants a.items r.down r'.down

-- and so are its own counts
pub demand_3_counts : (t : ℕ) (bytes bytes' schedule schedule' : List ℕ) (i i' : Image)
    → WholeRun bytes schedule i → WholeRun bytes' schedule' i' → Agreed t schedule schedule' i i'
    → own_counts t (run schedule (state_of i)).notes ≡ own_counts t (run schedule' (state_of i')).notes
demand_3_counts t b b' ts us i i' r r' a =
    own_isolation t ts us (state_of i) (state_of i')
    (inv_of (state_of i) (decode_sound b r.string i r.accepted)) (inv_of (state_of i') (decode_sound b' r'.string i' r'.accepted))
    a.alone a.alone' a.task a.program a.constants a.items r.down r'.down
