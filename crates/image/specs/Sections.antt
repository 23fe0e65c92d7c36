-- The section at which reading stops.
use Rattle.std.specs.Prelude.{ℕ, List}
use Rattle.refusal.specs.declared.Refusal.{Refusal}
use Rattle.image.specs.Codec.{Result, refused, accepted}
use Rattle.image.specs.Image.{tasks_codec, processes_codec, constants_codec, registers_codec, program_codec, data_codec}

-- the sections, in byte order
pub data Section : Type 0 where
  Tasks : Section
  Processes : Section
  Constants : Section
  Registers : Section
  Program : Section
  DataWords : Section

-- reading stops in a section, with a refusal, or behind the last one
pub data Stop : Type 0 where
  inside : Section → Refusal → Stop
  behind : Stop

-- a section, and where it is accepted those behind it
unfoldable pub reads : {A : Type 0} → Section → Result A → (A → List ℕ → Stop) → Stop
reads s (refused e) next = inside s e
reads s (accepted a r) next = next a r

unfoldable pub stop_of : List ℕ → Stop
stop_of b =
    reads Tasks (tasks_codec.dec b) (λ rows r₁.
    reads Processes ((processes_codec rows).dec r₁) (λ processes r₂.
    reads Constants (constants_codec.dec r₂) (λ constants r₃.
    reads Registers (registers_codec.dec r₃) (λ registers r₄.
    reads Program (program_codec.dec r₄) (λ program r₅.
    reads DataWords (data_codec.dec r₅) (λ data_words r₆. behind))))))
