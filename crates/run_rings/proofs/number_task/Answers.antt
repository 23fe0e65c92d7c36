use Rattle.std.proofs.Common.{ℕ, ◌*◌, List, refl, sym, ap, ◌∙◌, length, get_or, set, arith}
use Rattle.std.proofs.Math.Seq.{paste}
use Rattle.window.specs.declared.Row.{Row}
use Rattle.run_rings.specs.Code.Spans.{window_numbers}
use Rattle.run_rings.specs.Code.Laid.{task_numbers, row_laid}
use Rattle.run_rings.specs.Laws.Places.{stands, unfound}
use Rattle.run_rings.proofs.number_task.Goals as goal

-- outside of the array: what the copy of an element names
abbrev outside : Row
outside = record { task = 0; cb = 0; rb = 0; rl = 0; pb = 0; pl = 0; db = 0; dl = 0; kind = 0; psw = 0 }

pub returns-in_default : goal.returns-in_default
unfolding row_laid
returns-in_default c = let a = c.args in rw (unfound a.t a.n a.rows (sym c.in_default.is ∙ c.find.ensures)) refl

pub offset_bounds-rows-i : goal.offset_bounds-rows-i
offset_bounds-rows-i c = let a = c.args in omega (arith, (stands a.t a.n a.rows c.in-Some.i (sym c.in-Some.is ∙ c.find.ensures)).inside)

pub bounds-rows-i : goal.bounds-rows-i
bounds-rows-i c = let a = c.args in omega (arith, (stands a.t a.n a.rows c.in-Some.i (sym c.in-Some.is ∙ c.find.ensures)).inside)

pub returns : goal.returns
unfolding row_laid window_numbers
returns c =
    let a = c.args in
    let j = c.in-Some.i in
    let x = get_or a.rows j outside in
    let old = a.tasks.now in
    rw ((stands a.t a.n a.rows j (sym c.in-Some.is ∙ c.find.ensures)).finds outside)
    (ap (task_numbers (set old.kinds a.t x.kind) (set old.stored a.t x.psw))
    (c.lay.ensures ∙ ap (λ (w : List ℕ). paste old.spans (length w * a.t) w (length w)) c.span.ensures))
