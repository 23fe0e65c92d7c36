-- Values at every so many bytes: those from the kth on.
use Prim.Native.Nat.{ℕ, ◌+◌, ◌-◌, ◌*◌, ◌<◌}
use mathlib.Core.Path.{◌≡◌, ap₂, ◌∙◌}
use mathlib.Core.List.{List, ◌∷◌}
use native.Mathlib.Nat.{mul-suc}
use native.Mathlib.Numerals.{add-one}
use native.Mathlib.Omega.{arith}
use Rattle.image_bytes.specs.Code.Reading.{listed}
use Rattle.image_bytes.specs.Laws.Listed.{listed_cons}

pub listed_from : {A : Type 0} (stride : ℕ) (f : ℕ → A) (n at k : ℕ) → k < n
    → listed stride f (n - k) (at + stride * k) ≡ f (at + stride * k) ∷ listed stride f (n - (k + 1)) (at + stride * (k + 1))
listed_from {A} stride f n at k h =
    let m : n - k - 1 ≡ n - (k + 1) = omega arith in
    let p : at + stride * k + stride ≡ at + stride * (k + 1) = rw (add-one k, mul-suc) (omega arith) in
    listed_cons stride f (n - k) (at + stride * k) (omega arith)
    ∙ ap₂ {C = List A} (λ j q. f (at + stride * k) ∷ listed stride f j q) m p
