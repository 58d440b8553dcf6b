-- What a cover answers, and what it leaves of the caller's table.
use Rattle.std.specs.Prelude.{◌≡◌, ℕ, ◌+◌, cond, List, map, length, take, drop, Ok, Err, Result, nat_le}
use Rattle.place.specs.Places.{Spot}
use Rattle.place.specs.declared.uses.Capture.{Capture}
use Rattle.cover.specs.Cover.{Captured}
use Rattle.cover.specs.Views.{captured}
use Rattle.cover.specs.declared.full.Full.{Full}

-- how many rows are written; a refusal, where more are needed than there is room for
abbrev pub answer : ℕ → ℕ → Result ℕ Full
answer needed room = cond (nat_le needed room) (Ok needed) (Err (record { needed = needed }))

-- the captures cs stand behind the filled rows, and all other rows are as they were
pub record Written {S : Type 0} (cs : List (Captured Spot S)) (filled : ℕ) (old new : List (Capture S)) : Type 0 where
  pub rows : map captured (take (length cs) (drop filled new)) ≡ cs
  pub front : take filled new ≡ take filled old
  pub behind : drop (filled + length cs) new ≡ drop (filled + length cs) old

-- a refusal leaves the table as it was
abbrev pub Leaves : {S : Type 0} → List (Captured Spot S) → ℕ → List (Capture S) → List (Capture S) → Result ℕ Full → Type 0
Leaves cs filled old new (Ok n) = Written cs filled old new
Leaves cs filled old new (Err e) = new ≡ old
