-- What a payload may hold, step by step.
use Rattle.std.proofs.Common.{◌≡◌, ℕ, zero, suc, ◌-◌, ◌<◌, ◌≤◌, Bool, true, false, ◌&&◌, Option, Some, None, Ok, List, [], ◌∷◌, length, get_or, drop, arith}
use Rattle.std.proofs.lemmas.Bool.{le-leb}
use Rattle.reader.specs.declared.payload.Wrong.{Wrong}
use Rattle.std.specs.Option.{ok_or}
use Rattle.reader.specs.Payloads.{adjustments_fit}

pub behind_true : (a b x : Bool) → a ≡ true → x ≡ b → x ≡ a && b
behind_true true b x e h = h
behind_true false b x e h = absurd (let z : ◌≡◌ {A = ℕ} 0 1 = cc in omega arith)

pub adjustments_on : (k : ℕ) (bs : List ℕ) → 0 < k → 3 ≤ length bs → get_or bs 0 0 ≤ 6 → adjustments_fit (k - 1) (drop 3 bs) ≡ adjustments_fit k bs
adjustments_on zero bs p h l = absurd (omega arith)
adjustments_on (suc k) [] p h l = absurd (omega arith)
adjustments_on (suc k) (a ∷ []) p h l = absurd (omega arith)
adjustments_on (suc k) (a ∷ b ∷ []) p h l = absurd (omega arith)
adjustments_on (suc k) (a ∷ b ∷ c ∷ bs) p h l = let e : suc k - 1 ≡ k = omega arith in rw (e, le-leb a 6 l)

-- what came through `ok_or` was there
pub known : {X : Type 0} (o : Option X) (w : Wrong) (x : X) → Ok x ≡ ok_or o w → o ≡ Some x
known None w x e = absurd (let z : ◌≡◌ {A = ℕ} 0 1 = cc in omega arith)
known (Some y) w x e = cc
