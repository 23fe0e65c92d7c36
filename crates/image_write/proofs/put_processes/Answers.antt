use native.Mathlib.Omega.{arith}
use Rattle.image_write.proofs.Parts.{processes_length_lem, from_length}
use Rattle.image.specs.Image.{processes_from}
use Rattle.image_write.proofs.Sections.{processes_size, processes_put}
use Rattle.image_write.proofs.put_processes.Goals as goal

pub returns : goal.returns
returns c =
    let t = c.args.users in
    let e = c.put_queues.ensures in
    record { value = omega (arith, e.value, c.requires, processes_size t.psw t.flag t.queues t.count c.requires.0, processes_length_lem (processes_from t.psw 0 t.queues), from_length t.psw 0 t.queues); output_after = processes_put _ _ _ _ c.requires.0 _ _ c.requires.1 c.put_number.ensures (rw c.from.ensures at c.put_number-2.ensures) e.output_after }
