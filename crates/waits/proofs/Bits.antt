-- Bits of words.
use Rattle.std.proofs.Common.{◌≡◌, ℕ, zero, suc, ◌+◌, ◌-◌, ◌*◌, ◌/◌, ◌%◌, ◌^◌, ◌<◌, ◌≤◌, Bool, false, ◌||◌, eqb, sym, refl, ap, ◌∙◌, ⊎_elim, one-mul, arith}
use lib.Bits.{bit_and, bit_or, or_shr, or_mod, or_add_and, and_le_r, and_mask, shifted_even}
use Rattle.std.proofs.lemmas.Nat.{pow-add, pow_pos, mod_below, one_shl, pow_below, div_below, shl-shr}
use Rattle.std.proofs.Math.Dec.{eqb-suc-suc, eqb-zero-suc}
use Rattle.std.proofs.lemmas.Bool.{eq-eqb, ne_eqb, cases_order}
use Rattle.waits.specs.Words.{bit, has}

or_small : (x y : ℕ) → x < 2 → y < 2 → eqb (bit_or x y) 1 ≡ (eqb x 1 || eqb y 1)
or_small zero zero a b = refl
or_small zero (suc zero) a b = refl
or_small (suc zero) zero a b = refl
or_small (suc zero) (suc zero) a b = refl
or_small zero (suc (suc y)) a b = absurd (omega arith)
or_small (suc zero) (suc (suc y)) a b = absurd (omega arith)
or_small (suc (suc x)) y a b = absurd (omega arith)

pub bit-bit_or : (a b j : ℕ) → bit (bit_or a b) j ≡ (bit a j || bit b j)
unfolding bit
bit-bit_or a b j = ap (λ (n : ℕ). eqb (n % 2) 1) (or_shr a b j) ∙ ap (λ (n : ℕ). eqb n 1) (or_mod (a / 2 ^ j) (b / 2 ^ j) 1) ∙ or_small (a / 2 ^ j % 2) (b / 2 ^ j % 2) (mod_below _ 2 (omega arith)) (mod_below _ 2 (omega arith))

pub has_or : (a b d : ℕ) → has (bit_or a b) d ≡ (has a d || has b d)
has_or a b zero = refl
has_or a b (suc j) = bit-bit_or a b j

pub or_rises : (a b : ℕ) → a ≤ bit_or a b
or_rises a b = omega (arith, or_add_and a b, and_le_r a b)

-- a quotient of powers
even : (i j : ℕ) → j < i → 2 ^ i / 2 ^ j % 2 ≡ 0
even i j l =
    let m : ℕ = i - j - 1 in
    let e : i ≡ suc m + j = omega arith in
    ap (λ (n : ℕ). 2 ^ n / 2 ^ j % 2) e ∙ ap (λ (n : ℕ). n / 2 ^ j % 2) (pow-add 2 (suc m) j)
    ∙ ap (λ (n : ℕ). n % 2) (shl-shr (2 ^ suc m) j)
    ∙ ap (λ (n : ℕ). n % 2) (sym (one-mul (2 ^ suc m))) ∙ shifted_even 1 m

small : (n j : ℕ) → n < 2 ^ j → n / 2 ^ j ≡ 0
small n j l = omega (arith, div_below n (2 ^ j) 1 (pow_pos j) (rw one-mul l))

pub bit_none : (j : ℕ) → bit 0 j ≡ false
unfolding bit
bit_none j = ap (λ (n : ℕ). eqb (n % 2) 1) (small 0 j (pow_pos j))

pub has_none : (d : ℕ) → has 0 d ≡ false
has_none zero = refl
has_none (suc j) = bit_none j

pub bit_one : (i j : ℕ) → bit (2 ^ i) j ≡ eqb j i
unfolding bit
bit_one i j = ⊎_elim
    (λ (e : j ≡ i).
    ap (λ (n : ℕ). eqb (2 ^ i / 2 ^ n % 2) 1) e
    ∙ ap (λ (n : ℕ). eqb (n / 2 ^ i % 2) 1) (sym (one-mul (2 ^ i)))
    ∙ ap (λ (n : ℕ). eqb (n % 2) 1) (shl-shr 1 i) ∙ sym (eq-eqb j i e))
    (⊎_elim
    (λ (l : j < i). ap (λ (n : ℕ). eqb n 1) (even i j l) ∙ sym (ne_eqb j i (λ (e : j ≡ i). omega arith)))
    (λ (l : i < j). ap (λ (n : ℕ). eqb (n % 2) 1) (small (2 ^ i) j (pow_below i j l)) ∙ sym (ne_eqb j i (λ (e : j ≡ i). omega arith))))
    (cases_order j i)

pub bit_test : (w i : ℕ) → eqb (bit_and (w / 2 ^ i) 1) 1 ≡ bit w i
unfolding bit
bit_test w i = ap (λ (n : ℕ). eqb n 1) (and_mask (w / 2 ^ i) 1)

pub has_with : (w i d : ℕ) → i < 64 → has (bit_or w ((1 * 2 ^ i) % 18446744073709551616)) d ≡ (has w d || eqb d (suc i))
has_with w i zero l = sym (eqb-zero-suc i)
has_with w i (suc j) l =
    ap (λ (n : ℕ). bit (bit_or w n) j) (one_shl i 64 l) ∙ bit-bit_or w (2 ^ i) j ∙ ap (λ (b : Bool). bit w j || b) (bit_one i j ∙ sym (eqb-suc-suc j i))
