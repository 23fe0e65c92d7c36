-- The codes by their left eight bits: what each stands for by its right eight bits.
use Rattle.std.specs.Prelude.{ℕ, ◌/◌, ◌%◌, Bool, true, false, List, [], ◌∷◌, ◌++◌, map, eqb}
use Rattle.operation.specs.declared.Code.{Code}
use Rattle.operation.specs.declared.Code.TheVariants.{Privileged, Simulated, Unlisted}
use Rattle.operation.specs.Codes.{Line, line, find, privileged, simulated, single_codes, families}

-- the privileged codes by themselves
unfoldable pub privileged_lines : List Line
privileged_lines = map (λ k. line k Privileged) privileged

-- the codes that stand for themselves
unfoldable pub singles : List Line
singles = privileged_lines ++ (map (λ k. line k Simulated) simulated ++ single_codes)

-- a line before the others, where the flag holds
unfoldable pub kept : Bool → Line → List Line → List Line
kept true l ls = l ∷ ls
kept false l ls = ls

-- the lines with the left byte h, by their right byte
unfoldable pub under : ℕ → List Line → List Line
under h [] = []
under h (l ∷ ls) = kept (eqb (l.key / 256) h) (line (l.key % 256) l.meaning) (under h ls)

unfoldable pub column_of : ℕ → ℕ → Code
column_of h low = find (under h singles) low (find (families low) h Unlisted)

unfoldable pub privileged_of : ℕ → Code
privileged_of code = find privileged_lines code Unlisted
