-- The prefixes at which the rules stop a path are the longest of their sort.
use Rattle.std.proofs.Common.{◌≡◌, ℕ, zero, suc, ◌<◌, ◌≤◌, Bool, true, false, cond, eqb, List, [], ◌∷◌, length, take, Some, None, Option, sym, refl, ap, ◌∙◌, subst, ap₂, ⊎_elim, not-suc-le-zero, arith}
use Rattle.std.proofs.lemmas.List.{length-take-le, take-take}
use Rattle.std.proofs.lemmas.Bool.{cases_lt, cond_both}
use Rattle.world.specs.Meaning.{Meaning}
use Rattle.world.specs.Shapes.{is_pointer, is_stop}
use Rattle.world.specs.declared.shapes.Pointer.TheVariants.{ToShared}
use Rattle.place.specs.Places.{begins}
use Rattle.place.proofs.Prefixes.{begins_far, begins_take, begins_is_take, begins_le}
use Rattle.narrow.specs.Walks.{type_after, unsafe_at, until_deref, behind, last_deref, shared_at, until_shared}
use Rattle.narrow.specs.Laws.{Settled, Plain, Longest}
use Rattle.narrow.proofs.Walked.{last_lt}

-- one step of a walk that stops where a test b passes: N steps of the rest pass, M of a prefix that has L
none_passed : (b : Bool) (k N M L : ℕ) → suc k ≤ cond b 0 (suc N) → (k ≤ N → M ≡ L) → cond b 0 (suc M) ≡ suc L
none_passed true k N M L h f = absurd (not-suc-le-zero h)
none_passed false k N M L h f = ap suc (f (omega arith))

all_passed : (b : Bool) (N M L : ℕ) → cond b 0 (suc M) ≡ suc L → (M ≡ L → L ≤ N) → suc L ≤ cond b 0 (suc N)
all_passed true N M L h f = omega arith
all_passed false N M L h f = let k = f (omega arith) in omega arith

within : (b : Bool) (N L : ℕ) → N ≤ L → cond b 0 (suc N) ≤ suc L
within true N L h = omega arith
within false N L h = omega arith

unsafe_take : (m : Meaning) (t : ℕ) (path : List ℕ) (k : ℕ) → k ≤ unsafe_at m t path → unsafe_at m t (take k path) ≡ length (take k path)
unsafe_take m t path zero h = refl
unsafe_take m t [] (suc k) h = refl
unsafe_take m t (x ∷ path) (suc k) h =
    none_passed (is_stop (m.shape t)) k (unsafe_at m (m.step t x) path) (unsafe_at m (m.step t x) (take k path)) (length (take k path)) h (unsafe_take m (m.step t x) path k)

unsafe_most : (m : Meaning) (t : ℕ) (path : List ℕ) (k : ℕ) → unsafe_at m t (take k path) ≡ length (take k path) → length (take k path) ≤ unsafe_at m t path
unsafe_most m t path zero h = omega arith
unsafe_most m t [] (suc k) h = omega arith
unsafe_most m t (x ∷ path) (suc k) h =
    all_passed (is_stop (m.shape t)) (unsafe_at m (m.step t x) path) (unsafe_at m (m.step t x) (take k path)) (length (take k path)) h (unsafe_most m (m.step t x) path k)

deref_take : (path : List ℕ) (k : ℕ) → k ≤ until_deref path → until_deref (take k path) ≡ length (take k path)
deref_take path zero h = refl
deref_take [] (suc k) h = refl
deref_take (x ∷ path) (suc k) h = none_passed (eqb x 0) k (until_deref path) (until_deref (take k path)) (length (take k path)) h (deref_take path k)

deref_most : (path : List ℕ) (k : ℕ) → until_deref (take k path) ≡ length (take k path) → length (take k path) ≤ until_deref path
deref_most path zero h = omega arith
deref_most [] (suc k) h = omega arith
deref_most (x ∷ path) (suc k) h = all_passed (eqb x 0) (until_deref path) (until_deref (take k path)) (length (take k path)) h (deref_most path k)

no_some : {A B : Type 0} (x : A) → ◌≡◌ {A = Option A} None (Some x) → B
no_some x e =
    let z : ◌≡◌ {A = ℕ} 0 1 = cc in
    let bad : ⊥ = omega arith in
    absurd bad

-- the last dereference of a prefix
none_behind : (b : Bool) (o : Option ℕ) → behind b o ≡ None → (b ≡ false) × (o ≡ None)
none_behind true None e = no_some 0 (sym e)
none_behind false None e = (refl, refl)
none_behind b (Some k) e = no_some (suc k) (sym e)

last_take_none : (path : List ℕ) (j : ℕ) → last_deref path ≡ None → last_deref (take j path) ≡ None
last_take_none path zero e = refl
last_take_none [] (suc j) e = refl
last_take_none (x ∷ path) (suc j) e =
    let a = none_behind (eqb x 0) (last_deref path) e in
    ap₂ behind a.0 (last_take_none path j a.1)

some_behind : (b : Bool) (o p : Option ℕ) (j k : ℕ) → behind b o ≡ Some k → k < suc j → (o ≡ None → p ≡ None) → ((i : ℕ) → o ≡ Some i → i < j → p ≡ Some i) → behind b p ≡ Some k
some_behind true None p j k e h f g = ap (behind true) (f refl) ∙ e
some_behind false None p j k e h f g = no_some k e
some_behind b (Some i) p j k e h f g = let z : suc i ≡ k = cc in ap (behind b) (g i refl (omega arith)) ∙ e

last_take : (path : List ℕ) (j k : ℕ) → last_deref path ≡ Some k → k < j → last_deref (take j path) ≡ Some k
last_take path zero k e h = absurd (not-suc-le-zero h)
last_take [] (suc j) k e h = no_some k e
last_take (x ∷ path) (suc j) k e h =
    some_behind (eqb x 0) (last_deref path) (last_deref (take j path)) j k e h (last_take_none path j) (λ i f g. last_take path j i f g)

-- the third rule, by the index o of the last dereference: at k the type is a shared reference where b is true
shared_le : (m : Meaning) (t : ℕ) (path : List ℕ) (o : Option ℕ) → last_deref path ≡ o → shared_at m t path o ≤ length path
shared_le m t path None e = omega arith
shared_le m t path (Some k) e = cond_both (is_pointer (m.shape (type_after m t (take k path))) ToShared) (suc k) (length path) (λ n. n ≤ length path) (λ _. last_lt path k e) (λ _. omega arith)

-- a prefix of j steps that holds the last dereference
shared_at_take : (m : Meaning) (t : ℕ) (path : List ℕ) (j k : ℕ) → last_deref path ≡ Some k → k < j → until_shared m t (take j path) ≡ cond (is_pointer (m.shape (type_after m t (take k path))) ToShared) (suc k) (length (take j path))
shared_at_take m t path j k e h =
    ap (shared_at m t (take j path)) (last_take path j k e h) ∙ ap (λ l. cond (is_pointer (m.shape (type_after m t l)) ToShared) (suc k) (length (take j path))) (take-take k j path (omega arith))

shared_take_by : (m : Meaning) (t : ℕ) (path : List ℕ) (k : ℕ) (b : Bool) → last_deref path ≡ Some k → is_pointer (m.shape (type_after m t (take k path))) ToShared ≡ b → until_shared m t (take (cond b (suc k) (length path)) path) ≡ length (take (cond b (suc k) (length path)) path)
shared_take_by m t path k true e is =
    shared_at_take m t path (suc k) k e (omega arith) ∙ ap (λ b. cond b (suc k) (length (take (suc k) path))) is ∙ sym (length-take-le (suc k) path (last_lt path k e))
shared_take_by m t path k false e is =
    shared_at_take m t path (length path) k e (last_lt path k e) ∙ ap (λ b. cond b (suc k) (length (take (length path) path))) is

shared_take : (m : Meaning) (t : ℕ) (path : List ℕ) (o : Option ℕ) → last_deref path ≡ o → until_shared m t (take (shared_at m t path o) path) ≡ length (take (shared_at m t path o) path)
shared_take m t path None e = ap (shared_at m t (take (length path) path)) (last_take_none path (length path) e)
shared_take m t path (Some k) e = shared_take_by m t path k _ e refl

shared_most_by : (b : Bool) (j k n : ℕ) → j ≤ n → cond b (suc k) j ≡ j → k < j → j ≤ cond b (suc k) n
shared_most_by true j k n h e l = omega arith
shared_most_by false j k n h e l = h

shared_most : (m : Meaning) (t : ℕ) (path : List ℕ) (o : Option ℕ) (j : ℕ) → last_deref path ≡ o → j ≤ length path → until_shared m t (take j path) ≡ j → j ≤ shared_at m t path o
shared_most m t path None j e h is = h
shared_most m t path (Some k) j e h is =
    let b = is_pointer (m.shape (type_after m t (take k path))) ToShared in
    ⊎_elim
    (λ l. shared_most_by b j k (length path) h (ap (cond b (suc k)) (sym (length-take-le j path h)) ∙ sym (shared_at_take m t path j k e l) ∙ is) l)
    (λ l. cond_both b (suc k) (length path) (λ n. j ≤ n) (λ _. omega arith) (λ _. h))
    (cases_lt k j)

-- a prefix of the whole that is no longer than n steps is a prefix of the first n
begins_part : (q path : List ℕ) (n : ℕ) → begins q path ≡ true → length q ≤ n → begins q (take n path) ≡ true
begins_part q path n h l =
    let P : List ℕ → Type 0 = λ r. begins r (take n path) ≡ true in
    subst P (take-take (length q) n path l ∙ sym (begins_is_take q path h)) (begins_take (length q) (take n path))

-- what holds of a prefix holds of as many first steps
module _ (q path : List ℕ) (h : begins q path ≡ true) where
  at_take : (F : List ℕ → ℕ) → F q ≡ length q → F (take (length q) path) ≡ length (take (length q) path)
  at_take F e = let P : List ℕ → Type 0 = λ r. F r ≡ length r in subst P (begins_is_take q path h) e

  long_take : length (take (length q) path) ≡ length q
  long_take = sym (ap length (begins_is_take q path h))

pub plain_longest : (path : List ℕ) → Longest Plain path (take (until_deref path) path)
plain_longest path = record {
  begins_whole = begins_take (until_deref path) path;
  has = deref_take path (until_deref path) (omega arith);
  most = λ q h e. begins_part q path (until_deref path) h (omega (arith, deref_most path (length q) (at_take q path h until_deref e), long_take q path h));
}

module _ (m : Meaning) (t : ℕ) (path : List ℕ) where
  abbrev safe : List ℕ
  safe = take (unsafe_at m t path) path

  settled : Settled m t (take (until_shared m t safe) safe)
  settled =
      let whole = unsafe_take m t path (unsafe_at m t path) (omega arith) in
      let le = shared_le m t safe (last_deref safe) refl in
      (unsafe_take m t safe (until_shared m t safe) (omega arith), shared_take m t safe (last_deref safe) refl)

  settled_most : (q : List ℕ) → begins q path ≡ true → Settled m t q → begins q (take (until_shared m t safe) safe) ≡ true
  settled_most q h e =
      let one : length q ≤ unsafe_at m t path = omega (arith, unsafe_most m t path (length q) (at_take q path h (unsafe_at m t) e.0), long_take q path h) in
      let in_safe = begins_part q path (unsafe_at m t path) h one in
      let two = shared_most m t safe (last_deref safe) (length q) refl (begins_le q safe in_safe) (at_take q safe in_safe (until_shared m t) e.1 ∙ long_take q safe in_safe) in
      begins_part q safe (until_shared m t safe) in_safe two

  pub settled_longest : Longest (Settled m t) path (take (until_shared m t safe) safe)
  settled_longest = record {
    begins_whole = begins_far (take (until_shared m t safe) safe) safe path (begins_take (until_shared m t safe) safe) (begins_take (unsafe_at m t path) path);
    has = settled;
    most = settled_most;
  }
