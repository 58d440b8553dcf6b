-- What a scale is: a total order with a lowest value.
use Rattle.std.specs.Prelude.{◌≡◌, Bool, true, false}

-- the lowest value is below all, the order is one, and of any two values one stands below the other
pub record IsScale {S : Type 0} (low : S) (leq : S → S → Bool) : Type 0 where
  pub least : (x : S) → leq low x ≡ true
  pub same : (x : S) → leq x x ≡ true
  pub both : (x y : S) → leq x y ≡ true → leq y x ≡ true → x ≡ y
  pub chain : (x y z : S) → leq x y ≡ true → leq y z ≡ true → leq x z ≡ true
  pub total : (x y : S) → leq x y ≡ false → leq y x ≡ true
