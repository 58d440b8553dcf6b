-- Recursion over the number of a node, one step at a time.
use Rattle.std.proofs.Common.{◌≡◌, ℕ, zero, suc, ◌<◌, arith}
use Rattle.scene.specs.Recursion.{by_depth, by_number, Local}

module _ {X : Type 0} (none : X) (step : ℕ → (ℕ → X) → X) (local : Local step) where
  -- any depth above the number will do
  agree : (j k n : ℕ) → n < j → n < k → by_depth none step j n ≡ by_depth none step k n
  agree zero k n g h = absurd (omega arith)
  agree (suc j) zero n g h = absurd (omega arith)
  agree (suc j) (suc k) n g h = local n (by_depth none step j) (by_depth none step k) (λ c l. agree j k c (omega arith) (omega arith))

  pub number_at : (n : ℕ) → by_number none step n ≡ step n (by_number none step)
  unfolding by_number
  number_at n = local n (by_depth none step n) (by_number none step) (λ c l. agree n (suc c) c l (omega arith))
