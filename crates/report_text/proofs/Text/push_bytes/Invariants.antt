use Rattle.std.proofs.Common.{take}
use Rattle.report_text.specs.Code.Pushes.{Adds}
use Rattle.report_text.proofs.Text.push_bytes.Given as goal

abbrev pub invariant-loop-byte : goal.invariant-loop-byte
invariant-loop-byte l = Adds l.initial.self l.self (take l.byte-index l.bytes)
