-- Trap records in numbers by task: of task t the kind at kinds[t], the PSW at stored[t].
use Rattle.std.specs.Prelude.{List, [], ◌∷◌, ◌++◌, ℕ, get_or, set, take, drop}
use Rattle.window.specs.declared.Row.{Row}
use Rattle.operation.specs.Environment.{kind_of}
use Rattle.step.specs.declared.Ending.{Ending}
use Rattle.step.specs.declared.Ending.TheVariants.{Executed, Waved, Trapped, Idle}

-- the row with this trap record
abbrev pub with_record : Row → (kind psw : ℕ) → Row
with_record r k p = record { task = r.task; cb = r.cb; rb = r.rb; rl = r.rl; pb = r.pb; pl = r.pl; db = r.db; dl = r.dl; kind = k; psw = p }

abbrev pub row_in : (kinds stored : List ℕ) → Row → Row
row_in ks ss r = with_record r (get_or ks r.task 0) (get_or ss r.task 0)

-- the rows with their records
unfoldable pub rows_in : (kinds stored : List ℕ) → List Row → List Row
rows_in ks ss [] = []
rows_in ks ss (r ∷ rs) = row_in ks ss r ∷ rows_in ks ss rs

-- the first n rows of an array with their records
unfoldable pub rows_with : (kinds stored : List ℕ) → List Row → (n : ℕ) → List Row
rows_with ks ss rows n = rows_in ks ss (take n rows) ++ drop n rows

-- the records after a step of task t that ends so: only a trap stores
unfoldable pub kinds_after : Ending → (t : ℕ) → List ℕ → List ℕ
kinds_after Executed t ks = ks
kinds_after Waved t ks = ks
kinds_after (Trapped k p) t ks = set ks t (kind_of k)
kinds_after Idle t ks = ks

unfoldable pub stored_after : Ending → (t : ℕ) → List ℕ → List ℕ
stored_after Executed t ss = ss
stored_after Waved t ss = ss
stored_after (Trapped k p) t ss = set ss t p
stored_after Idle t ss = ss
