-- How the states of closures tell of rows of the capture table.
use Rattle.std.specs.Prelude.{ℕ, zero, suc, ◌+◌, ◌≤◌, List, slice_index_or}
use Rattle.closures.specs.declared.states.State.{State}
use Rattle.closures.specs.declared.states.State.TheVariants.{Open, Preset, Analysed}

-- the state of a closure by its number; every other number is open
abbrev pub state_in : List State → ℕ → State
state_in ss zero = Open
state_in ss (suc i) = slice_index_or ss i Open

-- how many rows a state has, and behind which row they end
abbrev pub rows : State → ℕ
rows Open = 0
rows (Preset k) = 0
rows (Analysed a) = a.count

abbrev pub end : State → ℕ
end Open = 0
end (Preset k) = 0
end (Analysed a) = a.from + a.count

abbrev pub rows_kept : List State → ℕ → ℕ
rows_kept ss c = rows (state_in ss c)

abbrev pub Below : ℕ → List State → Type 0
Below filled ss = (c : ℕ) → end (state_in ss c) ≤ filled

-- the sum over the closures 1 to n
abbrev pub total : (ℕ → ℕ) → ℕ → ℕ
total f zero = 0
total f (suc n) = total f n + f (suc n)
