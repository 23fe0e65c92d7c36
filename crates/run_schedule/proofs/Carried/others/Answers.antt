use mathlib.Core.Path.{refl}
use Rattle.run_next.specs.Laws.Settled.{parks_others, quits_others, creates_others, traps_rest}
use Rattle.run_schedule.specs.Code.Carried.{lines_of}
use Rattle.run_schedule.specs.Laws.Queued.{acts_of}
use Rattle.run_schedule.proofs.Carried.others.Goals as goal

pub parks-requires : goal.parks-requires
parks-requires c = acts_of _ _ _ c.args.self.now c.requires.1

pub quits-requires : goal.quits-requires
quits-requires c = let g = c.requires.1.given c.in-Quits.is in (acts_of _ _ _ c.args.self.now c.requires.1, g.0, g.1, g.2)

pub creates-requires : goal.creates-requires
creates-requires c = let g = c.requires.1.taken c.in-Creates.is in (acts_of _ _ _ c.args.self.now c.requires.1, g.0, g.1, g.2, g.3)

pub returns-in-WaitsForData : goal.returns-in-WaitsForData
returns-in-WaitsForData c = (λ p. parks_others _ _ _ _ _ (lines_of c.args.self.now) _ c.in-WaitsForData.is c.parks.ensures.0 c.parks.ensures.1 refl refl refl refl refl refl, record { kinds = refl; stored = refl; tally = refl })

pub returns-in-Quits : goal.returns-in-Quits
returns-in-Quits c =
    let e = c.quits.ensures in
    let k = e.4 in
    (λ p. quits_others _ _ _ _ _ (lines_of c.args.self.now) _ c.in-Quits.is e.5 e.6 k.kinds k.stored e.3 e.0 e.1 e.2, k)

pub returns-in-Creates : goal.returns-in-Creates
returns-in-Creates c =
    let e = c.creates.ensures in
    let k = e.3 in
    (λ p. creates_others _ _ _ _ (lines_of c.args.self.now) _ c.requires.1.small k.kinds k.stored e.0 e.1 e.2 _ c.in-Creates.is e.4, k)

pub returns-in_default : goal.returns-in_default
returns-in_default c =
    let d = c.in_default in
    (λ p. traps_rest _ _ p _ (lines_of c.args.self.now) c.requires.0 d.not-WaitsForData d.not-Quits d.not-Creates, record { kinds = refl; stored = refl; tally = refl })
