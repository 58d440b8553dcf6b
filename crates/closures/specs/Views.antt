-- The closures of the code as a ledger.
use Rattle.std.specs.Prelude.{ℕ}
use Rattle.closures.specs.declared.states.Analysis.{Analysis}
use Rattle.closures.specs.declared.states.State.{State}
use Rattle.closures.specs.declared.states.State.TheVariants.{Open, Preset, Analysed}
use Rattle.closures.specs.declared.table.Closures.{Closures}
use Rattle.closures.specs.Keeping.{state_in}
use Rattle.closures.specs.Ledger.{Stage, fresh, preset, analysed, Ledger}
use Rattle.waits.specs.Table.{waits_by}

abbrev pub stage_of : State → Stage Analysis
stage_of Open = fresh
stage_of (Preset k) = preset k
stage_of (Analysed a) = analysed a

abbrev pub ledger : Closures → Ledger Analysis
ledger t = record { stage = λ c. stage_of (state_in t.states c); waits = waits_by t.waits }

-- how many closures there are, and how many rows of the capture table their captures fill
abbrev pub count_of : Closures → ℕ
count_of t = t.count

abbrev pub filled_of : Closures → ℕ
filled_of t = t.filled

abbrev pub rows_at : Stage Analysis → ℕ
rows_at fresh = 0
rows_at (preset k) = 0
rows_at (analysed a) = a.count
