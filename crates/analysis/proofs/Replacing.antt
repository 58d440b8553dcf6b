-- A table whose rows are replaced one by one, each by what it comes to.
use Rattle.std.proofs.Common.{ℕ, List, ◌++◌, map, take, drop, Option}
use Rattle.std.specs.Option.{option_map}
use Rattle.analysis.specs.Findings.{each}

module _ {X V : Type 0} (v : X → V) where
  -- what a table comes to, if its first i rows are replaced already
  abbrev pub replacing : (V → Option V) → List X → ℕ → Option (List V)
  replacing f xs i = option_map (λ ys. map v (take i xs) ++ ys) (each f (map v (drop i xs)))

  abbrev pub mapping : (V → V) → List X → ℕ → List V
  mapping f xs i = map v (take i xs) ++ map f (map v (drop i xs))
