-- What a walk of one closure looks at: the meaning of the type world, the body, the closure, and what is told of others.
use Rattle.std.specs.Prelude.{ℕ}
use Rattle.body.specs.Bodies.{body_of}
use Rattle.indexing.specs.Opening.{Draft}
use Rattle.world.specs.Meaning.{Meaning}
use Rattle.scene.specs.declared.scenes.Scene.{Scene}
use Rattle.scene.specs.Inner.{Told}

pub record Setting : Type 0 where
  pub means : Meaning
  pub body : Draft
  pub closure : ℕ
  pub told : Told

abbrev pub looked_at : Meaning → Draft → ℕ → Told → Setting
looked_at m d k t = record { means = m; body = d; closure = k; told = t }

-- what the values of the code say
abbrev pub setting : {W I : Type 0} → (W → Meaning) → (I → Told) → Scene W I → Setting
setting means tells s = record { means = means s.world.now; body = body_of s.body.now; closure = s.closure; told = tells s.inner.now }
