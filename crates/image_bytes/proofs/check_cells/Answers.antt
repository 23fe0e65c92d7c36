use mathlib.Core.Path.{◌≡◌, ap, ◌∙◌}
use Rattle.std.specs.Prelude.{min}
use Rattle.std.specs.Int.{div_ceil}
use Rattle.image.specs.Image.{cell_length}
use Rattle.image_bytes.specs.Code.Scanning.{tag_test, tag_refusal}
use Rattle.image_bytes.specs.Laws.Scans.{stays, at_place}
use Rattle.image_bytes.proofs.Testing.{tags_begin, tag_bad, tags_short, tags_whole}
use Rattle.image_bytes.proofs.check_cells.Goals as goal

pub cell_tags_ok-requires : goal.cell_tags_ok-requires
cell_tags_ok-requires c = rw (c.min-tags.ensures, c.div_ceil.ensures, ← c.saturating_sub-left.ensures) (tags_begin c.args.n c.saturating_sub-left.result)

pub returns-in_default : goal.returns-in_default
returns-in_default c = stays _ c.args.s.now c.args.c c.in_default.is

pub returns-then-not-cell_tags_ok : goal.returns-then-not-cell_tags_ok
returns-then-not-cell_tags_ok c =
    let a = c.args in
    let x = c.in-Ok in
    let tags : c.min-tags.result ≡ min a.n (div_ceil c.saturating_sub-left.result cell_length) = c.min-tags.ensures ∙ ap (min a.n) c.div_ceil.ensures in
    rw c.tag_refusal.ensures (at_place _ a.s.now a.c x.at x.is (tag_bad (tag_refusal a.kind) (tag_test a.kind) a.s.now a.n x.at c.saturating_sub-left.ensures tags c.cell_tags_ok.ensures c.if-not-cell_tags_ok.true))

pub returns-then-left-n : goal.returns-then-left-n
returns-then-left-n c =
    let a = c.args in
    let x = c.in-Ok in
    let tags : c.min-tags.result ≡ min a.n (div_ceil c.saturating_sub-left.result cell_length) = c.min-tags.ensures ∙ ap (min a.n) c.div_ceil.ensures in
    at_place _ a.s.now a.c x.at x.is (tags_short (tag_refusal a.kind) (tag_test a.kind) a.s.now a.n x.at c.saturating_sub-left.ensures tags c.cell_tags_ok.ensures c.if-not-cell_tags_ok.false c.if-left-n.true)

pub returns : goal.returns
returns c =
    let a = c.args in
    let x = c.in-Ok in
    let tags : c.min-tags.result ≡ min a.n (div_ceil c.saturating_sub-left.result cell_length) = c.min-tags.ensures ∙ ap (min a.n) c.div_ceil.ensures in
    at_place _ a.s.now a.c x.at x.is (tags_whole (tag_refusal a.kind) (tag_test a.kind) a.s.now a.n x.at c.saturating_sub-left.ensures tags c.cell_tags_ok.ensures c.if-not-cell_tags_ok.false c.if-left-n.false)
