-- What the record of the code keeps, and when it agrees with a history.
use Rattle.std.specs.Prelude.{◌≡◌, ℕ, length}
use Rattle.world.specs.Meaning.{Meaning}
use Rattle.body.specs.Bodies.{body_of}
use Rattle.scene.specs.Scenes.{Setting, looked_at}
use Rattle.closures.specs.Ledger.{Ledger, kept_by}
use Rattle.closures.specs.Views.{ledger}
use Rattle.record.specs.declared.records.Record.{Record}
use Rattle.record.specs.History.{Grounds, History, Kept, kept, told}
use Rattle.record.specs.Reads.{read}

abbrev pub view : {W : Type 0} → Record W → Ledger Kept
view r = kept_by (read r.table.rows.now) (ledger r.closures)

-- states, kinds with their sites, waits, captures with their order and sites, and Copy are the history's
abbrev pub Agrees : {W : Type 0} → Record W → History → Type 0
Agrees r h = view r ≡ kept_by kept h

-- with a use table of so many rows
abbrev pub grounds : {W : Type 0} → (W → Meaning) → Record W → ℕ → Grounds
grounds means r uses = record { means = means r.world.now; body = body_of r.body.now; uses = uses; rows = length r.table.rows.now }

-- what an analysis of the closure c goes by
abbrev pub setting : {W : Type 0} → (W → Meaning) → Record W → ℕ → Setting
setting means r c = looked_at (means r.world.now) (body_of r.body.now) c (told (view r))
