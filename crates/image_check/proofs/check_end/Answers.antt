use mathlib.Core.Path.{sym, ◌∙◌}
use Rattle.image_check.specs.Code.Places.{sizes_in}
use Rattle.image_check.proofs.Ends.{left_over_lem, window_past, processes_clash, all_sound}
use Rattle.image_check.proofs.check_end.Goals as goal

pub returns-then-end-s : goal.returns-then-end-s
returns-then-end-s c =
    let args = c.args in
    left_over_lem (sizes_in args.s.now) args.s.now args.end c.if-end-s.true

pub returns-then-not-windows_sound : goal.returns-then-not-windows_sound
returns-then-not-windows_sound c =
    let args = c.args in
    let if1 = c.if-end-s in
    let windows-sound = c.windows_sound in
    rw (← c.sizes-n.ensures.value) (window_past c.sizes-n.result args.s.now args.end if1.false
    (sym windows-sound.ensures ∙ c.if-not-windows_sound.true))

pub returns-then-not-processes_sound : goal.returns-then-not-processes_sound
returns-then-not-processes_sound c =
    let args = c.args in
    let if1 = c.if-end-s in
    let windows-sound = c.windows_sound in
    let if2 = c.if-not-windows_sound in
    let processes-sound = c.processes_sound in
    rw (← c.sizes-n.ensures.value)
    (processes_clash c.sizes-n.result args.s.now args.end if1.false (sym windows-sound.ensures ∙ if2.false)
    (sym processes-sound.ensures ∙ c.if-not-processes_sound.true))

pub returns : goal.returns
returns c =
    let args = c.args in
    let if1 = c.if-end-s in
    let windows-sound = c.windows_sound in
    let if2 = c.if-not-windows_sound in
    let processes-sound = c.processes_sound in
    rw (← c.sizes-n.ensures.value)
    (all_sound c.sizes-n.result args.s.now args.end if1.false (sym windows-sound.ensures ∙ if2.false)
    (sym processes-sound.ensures ∙ c.if-not-processes_sound.false))
