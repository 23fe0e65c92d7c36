use mathlib.Core.Path.{refl, sym, ap, ◌∙◌, ◌≡◌}
use Rattle.std.specs.Prelude.{List, Option, Some, None, eqb}
use Rattle.operation.specs.Environment.{kind_of}
use Rattle.run_rings.specs.declared.Rings.{Rings}
use Rattle.run_next.specs.declared.Next.{Next}
use Rattle.run_next.specs.Code.Next.{next_at, had_in}
use Rattle.run_next.specs.Laws.Next.{acts_alone, stays_alone, put_as}
use Rattle.run_next.specs.Laws.Settled.{going_by, going_lt, trap_settles}
use Rattle.run_schedule.specs.Code.Carried.{lines_of}
use Rattle.run_schedule.specs.Laws.Queued.{acts_of}
use Rattle.run_schedule.proofs.Carried.settle.Goals as goal

pub returns-in-Alone : goal.returns-in-Alone
returns-in-Alone c =
    let q = c.requires in
    let s = c.args.self.now in
    let r = s.queued.rings in
    let o = acts_alone c.args.t s.queued.next c.args.next r.pts r.heads r.lens q.small q.next q.acting c.in-Alone.is in
    let g = stays_alone c.args.t s.queued.next c.args.next q.small q.next c.in-Some.place (had_in c.args.t r.lens) (eqb c.in-Some.place 8) r.pts r.heads r.lens o in
    (going_by _ _ _ _ c.in-Some.place _ (lines_of s) (lines_of s) (sym c.going.ensures ∙ c.in-Some.is) g.0 g.1 refl refl refl refl refl refl, refl)

pub moves_on-requires : goal.moves_on-requires
moves_on-requires c = (acts_of _ _ _ c.args.self.now c.requires, going_lt _ _ (sym c.going.ensures ∙ c.in-Some.is))

pub returns-in-Some : goal.returns-in-Some
returns-in-Some c =
    (going_by _ _ _ _ c.in-Some.place _ (lines_of c.args.self.now) _ (sym c.going.ensures ∙ c.in-Some.is) c.moves_on.ensures.0 c.moves_on.ensures.1 refl refl refl refl refl refl, refl)

pub returns-in-Some-others : goal.returns-in-Some-others
returns-in-Some-others c = let e = c.others.ensures in ((e.0 c.args.p).settled _ c.in-Some-others.is, e.1.tally)

pub trap-requires : goal.trap-requires
trap-requires c =
    let q = c.requires in
    let e = (c.others.ensures.0 c.args.p).traps c.in_default-others.is in
    (q.small, ap (λ (l : List (Option Next)). next_at l c.args.t) e.1 ∙ q.next)

pub returns : goal.returns
returns c =
    let q = c.requires in
    let o = c.others.ensures in
    let e = (o.0 c.args.p).traps c.in_default-others.is in
    let m = c.trap.ensures in
    let y = c.others.new.self in
    let h : next_at y.queued.next c.args.t ≡ Some c.args.next = ap (λ (l : List (Option Next)). next_at l c.args.t) e.1 ∙ q.next in (
      trap_settles _ _ _ _ _ _ _ (lines_of c.args.self.now) (lines_of y) (lines_of c.trap.new.self) (o.0 c.args.p) c.in_default-others.is
          (c.kind.ensures ∙ ap kind_of c.trap_by.ensures) m.0 m.1 m.2 (put_as c.args.t y.queued.next _ c.args.next None h m.3) o.1.kinds o.1.stored
          (ap (λ (r : Rings). r.pts) m.4) (ap (λ (r : Rings). r.heads) m.4) (ap (λ (r : Rings). r.lens) m.4) m.6 m.7 m.8 m.5,
      m.9 ∙ o.1.tally,
    )
