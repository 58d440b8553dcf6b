-- The first record of a file, by its bytes.
use Rattle.std.proofs.Common.{◌≡◌, ℕ, suc, ◌+◌, ◌*◌, ◌≤◌, Bool, true, false, cond, leb, List, [], ◌∷◌, length, take, drop, Some, None, Option, sym, refl, ap, ◌∙◌, arith}
use Rattle.std.proofs.lemmas.List.{length-take-le, length-drop}
use Rattle.std.proofs.lemmas.Bool.{leb-true}
use Rattle.std.proofs.lemmas.Option.{none-some}
use Rattle.reader.specs.Pieces.{Parsed, parse}

abbrev payload_of : Option Parsed → List ℕ
payload_of None = []
payload_of (Some p) = p.payload

abbrev rest_of : Option Parsed → List ℕ
rest_of None = []
rest_of (Some p) = p.rest

-- a record is its three bytes of header, its payload, and then the rest
pub parse_length : (bs : List ℕ) (p : Parsed) → parse bs ≡ Some p → 3 + length p.payload + length p.rest ≡ length bs
parse_length [] p e = absurd (none-some _ e)
parse_length (a ∷ []) p e = absurd (none-some _ e)
parse_length (a ∷ b ∷ []) p e = absurd (none-some _ e)
parse_length (a ∷ b ∷ c ∷ bs) p e = go (leb (b * 256 + c) (length bs)) refl e
  where
    go : (t : Bool) → leb (b * 256 + c) (length bs) ≡ t
        → cond t (Some (record { tag = a; payload = take (b * 256 + c) bs; rest = drop (b * 256 + c) bs })) None ≡ Some p
        → 3 + length p.payload + length p.rest ≡ suc (suc (suc (length bs)))
    go true h q =
        let front : take (b * 256 + c) bs ≡ p.payload = ap payload_of q in
        let back : drop (b * 256 + c) bs ≡ p.rest = ap rest_of q in
        let fits : b * 256 + c ≤ length bs = leb-true (b * 256 + c) (length bs) h in
        omega (arith, ap length front, ap length back, length-take-le (b * 256 + c) bs fits, length-drop (b * 256 + c) bs)
    go false h q = absurd (none-some _ q)

pub parse_rest : (bs : List ℕ) (p : Parsed) → parse bs ≡ Some p → p.rest ≡ drop (3 + length p.payload) bs
parse_rest [] p e = absurd (none-some _ e)
parse_rest (a ∷ []) p e = absurd (none-some _ e)
parse_rest (a ∷ b ∷ []) p e = absurd (none-some _ e)
parse_rest (a ∷ b ∷ c ∷ bs) p e = go (leb (b * 256 + c) (length bs)) refl e
  where
    go : (t : Bool) → leb (b * 256 + c) (length bs) ≡ t
        → cond t (Some (record { tag = a; payload = take (b * 256 + c) bs; rest = drop (b * 256 + c) bs })) None ≡ Some p
        → p.rest ≡ drop (3 + length p.payload) (a ∷ b ∷ c ∷ bs)
    go true h q =
        let fits : b * 256 + c ≤ length bs = leb-true (b * 256 + c) (length bs) h in
        let long : length p.payload ≡ b * 256 + c = ap length (sym (ap payload_of q)) ∙ length-take-le (b * 256 + c) bs fits in
        let three : 3 + length p.payload ≡ suc (suc (suc (b * 256 + c))) = omega arith in
        sym (ap rest_of q) ∙ ap (λ n. drop n (a ∷ b ∷ c ∷ bs)) (sym three)
    go false h q = absurd (none-some _ q)
