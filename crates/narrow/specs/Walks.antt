-- Walks along a path from a type, in a world of meaning m: the type that is reached, and where the path dereferences.
use Rattle.std.specs.Prelude.{ℕ, suc, Bool, true, false, cond, ◌&&◌, ◌||◌, List, [], ◌∷◌, fold, length, take, Some, None, Option, ◌==◌}
use Rattle.world.specs.Meaning.{Meaning}
use Rattle.world.specs.Shapes.{is_pointer, is_stop}
use Rattle.world.specs.declared.shapes.Pointer.{Pointer}
use Rattle.world.specs.declared.shapes.Pointer.TheVariants.{ToShared}

-- the type to which the steps lead from the type t
abbrev pub type_after : Meaning → ℕ → List ℕ → ℕ
type_after m t ss = fold m.step t ss

-- whether the step s dereferences a pointer of the sort p, from the type t
abbrev pub derefs : Meaning → Pointer → ℕ → ℕ → Bool
derefs m p t s = s == 0 && is_pointer (m.shape t) p

-- whether one of the steps does
abbrev pub meets : Meaning → Pointer → ℕ → List ℕ → Bool
meets m p t [] = false
meets m p t (s ∷ ss) = derefs m p t s || meets m p (m.step t s) ss

-- the length of the shortest prefix whose type is a raw pointer or a union; of the whole path, where none is
abbrev pub unsafe_at : Meaning → ℕ → List ℕ → ℕ
unsafe_at m t [] = 0
unsafe_at m t (s ∷ ss) = cond (is_stop (m.shape t)) 0 (suc (unsafe_at m (m.step t s) ss))

-- the number of steps before the first dereference; of all, where there is none
abbrev pub until_deref : List ℕ → ℕ
until_deref [] = 0
until_deref (s ∷ ss) = cond (s == 0) 0 (suc (until_deref ss))

-- the index of the last dereference: the later one, if the steps behind the first hold one
abbrev pub behind : Bool → Option ℕ → Option ℕ
behind true None = Some 0
behind false None = None
behind b (Some k) = Some (suc k)

abbrev pub last_deref : List ℕ → Option ℕ
last_deref [] = None
last_deref (s ∷ ss) = behind (s == 0) (last_deref ss)

-- the number of steps up to and with the last dereference, if that is of a shared reference; else of all
abbrev pub shared_at : Meaning → ℕ → List ℕ → Option ℕ → ℕ
shared_at m t ss None = length ss
shared_at m t ss (Some k) = cond (is_pointer (m.shape (type_after m t (take k ss))) ToShared) (suc k) (length ss)

abbrev pub until_shared : Meaning → ℕ → List ℕ → ℕ
until_shared m t ss = shared_at m t ss (last_deref ss)
