use mathlib.Core.Path.{sym, ◌∙◌}
use Prim.Native.Nat.{◌+◌, ◌*◌}
use Rattle.image.specs.Image.{cell_length}
use Rattle.image_bytes.specs.Code.Scanning.{tag_test}
use Rattle.image_bytes.proofs.Testing.{tags_step, tags_end}
use native.Mathlib.Omega.{arith}
use Rattle.image_bytes.proofs.cell_tags_ok.Goals as goal

pub loop-i-preserved : goal.loop-i-preserved
loop-i-preserved c =
    let l = c.loop-i in
    let a = c.args in
    record {
      inside = omega (arith, l.invariant.inside, c.loop-i-test.true);
      so_far = rw c.tag_ok-good.ensures (tags_step (tag_test a.kind) a.s.now (a.at + cell_length * l.i) a.n l.i l.good (omega arith) c.loop-i-test.true ∙ l.invariant.so_far);
    }

pub returns : goal.returns
returns c = sym (tags_end _ _ _ _ _ _ c.loop-i-test.false) ∙ c.loop-i.invariant.so_far
