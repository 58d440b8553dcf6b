-- What a walk does, in order: uses that it records and a refusal that ends it; and what a table of a fixed length makes of that.
use Rattle.std.specs.Prelude.{◌≡◌, ℕ, ◌≤◌, cond, List, [], ◌∷◌, ◌++◌, map, length, take, Ok, Err, Result, MatchResult, nat_lt}
use Rattle.scale.specs.declared.modes.Mode.{Mode}
use Rattle.place.specs.declared.uses.Use.{Use}
use Rattle.narrow.specs.Narrowing.{Used}
use Rattle.narrow.specs.Views.{view}
use Rattle.scene.specs.declared.faults.WalkFault.{WalkFault}
use Rattle.scene.specs.declared.faults.WalkFault.TheVariants.{NoRow}
use Rattle.world.specs.Meaning.{Meaning}
use Rattle.scene.specs.Inner.{Told}
use Rattle.scene.specs.Scenes.{Setting, setting}
use Rattle.events.specs.declared.recorder.Recorder.{Recorder}

pub data Event : Type 0 where
  puts : Used → Event
  stops : WalkFault → Event

-- The uses in a table of so many rows after the events, and the answer: the first refusal ends it, and a use that finds
-- no row left is one.
abbrev pub play : ℕ → List Event → List Used → List Used × Result (Unit {0}) WalkFault
play rows [] us = (us, Ok tt)
play rows (stops f ∷ es) us = (us, Err f)
play rows (puts u ∷ es) us = cond (nat_lt (length us) rows) (play rows es (us ++ u ∷ [])) (us, Err NoRow)

-- the uses that a recorder holds
abbrev pub uses_in : {W I : Type 0} → Recorder W I → List Used
uses_in a = map view (take a.len a.uses.now)

-- from the recorder a the events lead to the recorder b and the answer r
pub record Ran {W I : Type 0} (es : List Event) (a b : Recorder W I) (r : Result (Unit {0}) WalkFault) : Type 0 where
  pub scene : b.scene ≡ a.scene
  pub kept : b.uses.ghost_name ≡ a.uses.ghost_name
  pub same : length b.uses.now ≡ length a.uses.now
  pub plays : play (length a.uses.now) es (uses_in a) ≡ (uses_in b, r)

-- the same of events that are given of what the walk looks at
abbrev pub Records : {W I : Type 0} → (W → Meaning) → (I → Told) → (Setting → List Event) → Recorder W I → Recorder W I → Result (Unit {0}) WalkFault → Type 0
Records means tells es a b r = Ran (es (setting means tells a.scene.now)) a b r

abbrev pub Outcome : List Used × Result (Unit {0}) WalkFault → List (Use Mode) → Result ℕ WalkFault → Type 0
Outcome p table r = MatchResult r (λ n. (p.1 ≡ Ok tt) × (p.0 ≡ map view (take n table)) × (n ≤ length table)) (λ f. p.1 ≡ Err f)

-- the same of a table that was empty, where the answer is how many rows are written
pub record Recorded (es : List Event) (before after : List (Use Mode)) (r : Result ℕ WalkFault) : Type 0 where
  pub same : length after ≡ length before
  pub plays : Outcome (play (length before) es []) after r
