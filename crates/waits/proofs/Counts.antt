-- The count of ones of a word is how many closures its set has.
use Rattle.std.proofs.Common.{◌≡◌, ℕ, zero, suc, ◌+◌, ◌-◌, ◌/◌, ◌%◌, ◌^◌, ◌<◌, ◌≤◌, Bool, cond, eqb, sym, refl, ap, ◌∙◌, pow-suc, arith}
use lib.Count.{ones, ones_cat, ones-ones}
use Rattle.std.proofs.lemmas.Nat.{pow_pos, mod_below, div_below, field_of, mod-pow-add, mod-mul-add, shr_split}
use Rattle.waits.specs.Words.{bit, has, how_many}

-- the lowest bit of a remainder
low : (x m : ℕ) → x % 2 ^ (m + 1) % 2 ≡ x % 2
low x m = ap (λ (n : ℕ). n % 2) (mod-pow-add x m 1) ∙ mod-mul-add (x / 2 ^ 1 % 2 ^ m) 2 (x % 2) (mod_below x 2 (omega arith))

bit_low : (w k j : ℕ) → j < k → bit (w % 2 ^ k) j ≡ bit w j
unfolding bit
bit_low w k j l =
    let m : ℕ = k - j - 1 in
    let e : k ≡ m + 1 + j = omega arith in
    ap (λ (n : ℕ). eqb (w % 2 ^ n / 2 ^ j % 2) 1) e ∙ ap (λ (n : ℕ). eqb (n % 2) 1) (field_of w (m + 1) j) ∙ ap (λ (n : ℕ). eqb n 1) (low (w / 2 ^ j) m)

same_many : (f g : ℕ → Bool) (k : ℕ) → ((j : ℕ) → j ≤ k → f j ≡ g j) → how_many f k ≡ how_many g k
unfolding how_many
same_many f g zero h = refl
same_many f g (suc k) h = λ i. same_many f g k (λ j l. h j (omega arith)) i + cond (h (suc k) (omega arith) i) 1 0

has_low : (w k j : ℕ) → j ≤ k → has (w % 2 ^ k) j ≡ has w j
has_low w k zero l = refl
has_low w k (suc j) l = bit_low w k j (omega arith)

one_bit : (a : ℕ) → a < 2 → ones a ≡ cond (eqb (a % 2) 1) 1 0
one_bit zero l = ones-ones 0
one_bit (suc zero) l = ones-ones 1
one_bit (suc (suc a)) l = absurd (omega arith)

top_bit : (w k : ℕ) → w < 2 ^ suc k → ones (w / 2 ^ k) ≡ cond (bit w k) 1 0
unfolding bit
top_bit w k l = one_bit (w / 2 ^ k) (div_below w (2 ^ k) 2 (pow_pos k) (omega (arith, pow-suc 2 k)))

pub ones_many : (k w : ℕ) → w < 2 ^ k → ones w ≡ how_many (has w) k
unfolding how_many
ones_many zero w l = ap ones (zero_of w l) ∙ ones-ones 0
  where
    zero_of : (n : ℕ) → n < 2 ^ zero → n ≡ 0
    zero_of n h = omega arith
ones_many (suc k) w l =
    ap ones (sym (shr_split w k)) ∙ ones_cat k (w / 2 ^ k) (w % 2 ^ k) (mod_below w (2 ^ k) (pow_pos k))
    ∙ swap (ones (w / 2 ^ k)) (ones (w % 2 ^ k))
    ∙ (λ i. (ones_many k (w % 2 ^ k) (mod_below w (2 ^ k) (pow_pos k)) ∙ same_many (has (w % 2 ^ k)) (has w) k (has_low w k)) i + top_bit w k l i)
  where
    swap : (x y : ℕ) → x + y ≡ y + x
    swap x y = omega arith
