-- How a use is cut to a prefix of its path, and the four rules that narrow a use, in a world of meaning m, from its binding's type t.
use Rattle.std.specs.Prelude.{ℕ, Bool, true, false, cond, ◌||◌, List, length, take, drop}
use Rattle.world.specs.Meaning.{Meaning}
use Rattle.world.specs.declared.shapes.Pointer.TheVariants.{ToMutable, ToRaw}
use Rattle.scale.specs.declared.modes.Mode.{Mode}
use Rattle.scale.specs.declared.modes.Mode.TheVariants.{Imm, Unique, Mut, Move}
use Rattle.place.specs.Places.{Spot}
use Rattle.narrow.specs.Walks.{type_after, meets, unsafe_at, until_deref, until_shared}

-- a use as the rules see it: the place's binding and path, the mode and the site
pub record Used : Type 0 where
  pub binding : ℕ
  pub path : List ℕ
  pub mode : Mode
  pub site : ℕ

abbrev pub with_mode : Used → Mode → Used
with_mode u x = record { binding = u.binding; path = u.path; mode = x; site = u.site }

-- the first n steps of a use, with a mode
abbrev pub kept : Used → ℕ → Mode → Used
kept u n x = record { binding = u.binding; path = take n u.path; mode = x; site = u.site }

-- whether the part of a path behind its first n steps dereferences a mutable reference
abbrev pub cuts_through : Meaning → ℕ → List ℕ → ℕ → Bool
cuts_through m t path n = meets m ToMutable (type_after m t (take n path)) (drop n path)

-- A mutable borrow behind a mutable reference needs only a unique borrow of the reference: if the part cut away
-- dereferences a mutable reference, mut becomes unique. Every other mode stays.
abbrev pub cut_mode : Bool → Mode → Mode
cut_mode through Imm = Imm
cut_mode through Unique = Unique
cut_mode through Mut = cond through Unique Mut
cut_mode through Move = Move

abbrev pub mode_cut : Meaning → ℕ → List ℕ → ℕ → Mode → Mode
mode_cut m t path n x = cut_mode (cuts_through m t path n) x

-- a use cut to its first n steps
abbrev pub cut : Meaning → ℕ → Used → ℕ → Used
cut m t u n = kept u n (mode_cut m t u.path n u.mode)

-- a mode at the place p, cut to a place q that p lies under; types gives each binding's type
abbrev pub cut_to : Meaning → (ℕ → ℕ) → Spot → Spot → Mode → Mode
cut_to m types p q x = mode_cut m (types p.binding) p.path (length q.path) x

-- 1. A value that is Copy is not moved out of its place, but read: move becomes imm, if the place's type copies.
abbrev pub copy_mode : Bool → Mode → Mode
copy_mode copies Imm = Imm
copy_mode copies Unique = Unique
copy_mode copies Mut = Mut
copy_mode copies Move = cond copies Imm Move

abbrev pub copy_read : Bool → Used → Used
copy_read copies u = with_mode u (copy_mode copies u.mode)

-- 2. What lies behind a raw pointer is reached by reading the pointer: if the path dereferences one, the mode
-- becomes imm. Fields of a union share their memory, and a raw pointer may point anywhere: the path stops at the
-- first type, the binding's included, that is a raw pointer or a union. A union that is written stays mut.
abbrev pub raw_read : Meaning → ℕ → Used → Used
raw_read m t u = with_mode u (cond (meets m ToRaw t u.path) Imm u.mode)

abbrev pub stop_at_unsafe : Meaning → ℕ → Used → Used
stop_at_unsafe m t u = cut m t (raw_read m t u) (unsafe_at m t u.path)

-- 3. What a shared reference points to is borrowed through the reference: if the last dereference of the path is of
-- a shared reference, the path stops just behind it.
abbrev pub behind_shared : Meaning → ℕ → Used → Used
behind_shared m t u = cut m t u (until_shared m t u.path)

-- 4. What is moved into a closure is moved whole: a move closure's uses, and elsewhere the uses that move, stop
-- before the first dereference and move.
abbrev pub is_move : Mode → Bool
is_move Imm = false
is_move Unique = false
is_move Mut = false
is_move Move = true

abbrev pub moved_out : Used → Used
moved_out u = kept u (until_deref u.path) Move

abbrev pub before_dereference : Bool → Used → Used
before_dereference by_move u = cond (by_move || is_move u.mode) (moved_out u) u

-- after the first three rules, where the closure's kind is read; copies says whether the place's type is Copy
abbrev pub reached : Bool → Meaning → ℕ → Used → Used
reached copies m t u = behind_shared m t (stop_at_unsafe m t (copy_read copies u))

-- after all four; by_move says whether the closure is a move closure
abbrev pub narrowed : Bool → Bool → Meaning → ℕ → Used → Used
narrowed by_move copies m t u = before_dereference by_move (reached copies m t u)
