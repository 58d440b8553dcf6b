-- The kind of a closure: the highest that its uses, as they stand after the first three rules, call for.
use Rattle.std.specs.Prelude.{List, Some, Option, filter_map}
use Rattle.scale.specs.declared.sited.Sited.{Sited}
use Rattle.scale.specs.declared.modes.Mode.{Mode}
use Rattle.scale.specs.declared.modes.Mode.TheVariants.{Imm, Unique, Mut, Move}
use Rattle.scale.specs.declared.modes.Kind.{Kind}
use Rattle.scale.specs.declared.modes.Kind.TheVariants.{Fn, FnMut, FnOnce}
use Rattle.scale.specs.Modes.{kind_leq}
use Rattle.scale.specs.Highest.{highest}
use Rattle.narrow.specs.Narrowing.{Used}

-- a closure that moves out of what it captures can be called once, one that writes it needs a mutable reference
abbrev pub kind_of_mode : Mode → Kind
kind_of_mode Imm = Fn
kind_of_mode Unique = FnMut
kind_of_mode Mut = FnMut
kind_of_mode Move = FnOnce

-- what a use calls for, at its site
abbrev pub kind_entry : Used → Option (Sited Kind)
kind_entry u = Some (record { value = kind_of_mode u.mode; site = u.site })

abbrev pub closure_kind : List Used → Sited Kind
closure_kind us = highest Fn kind_leq (filter_map kind_entry us)
