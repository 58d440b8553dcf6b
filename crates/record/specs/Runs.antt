-- Runs: lists of calls, each with its answer.
use Rattle.std.specs.Prelude.{◌≡◌, List, [], ◌∷◌}
use Rattle.record.specs.declared.calls.Asked.{Asked}
use Rattle.record.specs.History.{Grounds, History, Called}

-- the calls lead from the history h to the history m, by the answers that they have
abbrev pub Runs : Grounds → History → List Asked → History → Type 0
Runs g h [] m = m ≡ h
Runs g h (a ∷ as') m = (k : History) × Called g h a.call a.answer k × Runs g k as' m
