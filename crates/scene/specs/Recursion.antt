-- Recursion over the number of a node, whose children have lower numbers.
use Rattle.std.specs.Prelude.{◌≡◌, ℕ, zero, suc, ◌<◌}

-- What a node means, of what the nodes mean, looked at so many levels deep.
abbrev pub by_depth : {X : Type 0} → X → (ℕ → (ℕ → X) → X) → ℕ → ℕ → X
by_depth none step zero n = none
by_depth none step (suc k) n = step n (by_depth none step k)

-- What a node means, of what its children mean: a node lies less deep than its number.
unfoldable pub by_number : {X : Type 0} → X → (ℕ → (ℕ → X) → X) → ℕ → X
by_number none step n = by_depth none step (suc n) n

-- a step that looks at lower numbers only
abbrev pub Local : {X : Type 0} → (ℕ → (ℕ → X) → X) → Type 0
Local {X} step = (n : ℕ) (e f : ℕ → X) → ((c : ℕ) → c < n → e c ≡ f c) → step n e ≡ step n f
