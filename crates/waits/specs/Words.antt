-- A set of closures, which are numbered from 1, as a word: closure k stands at bit k - 1.
use Rattle.std.specs.Prelude.{ℕ, zero, suc, ◌+◌, ◌/◌, ◌%◌, ◌^◌, Bool, false, cond, List, ◌==◌, slice_index}

unfoldable pub bit : ℕ → ℕ → Bool
bit w j = (w / 2 ^ j) % 2 == 1

abbrev pub has : ℕ → ℕ → Bool
has w zero = false
has w (suc j) = bit w j

-- the word of a closure, in a table with a word for each
abbrev pub word : List ℕ → ℕ → ℕ
word ws zero = 0
word ws (suc i) = slice_index ws i

-- whether a closure waits on another, by such a table
abbrev pub waits_in : List ℕ → ℕ → ℕ → Bool
waits_in ws c d = has (word ws c) d

-- how many of the closures 1 to k pass a test
unfoldable pub how_many : (ℕ → Bool) → ℕ → ℕ
how_many f zero = 0
how_many f (suc k) = how_many f k + cond (f (suc k)) 1 0
