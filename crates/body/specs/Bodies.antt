-- What an opened body holds, and what comes of opening a file.
use Rattle.std.specs.Prelude.{◌≡◌, length, take, Ok, Err, Result}
use Rattle.body.specs.declared.bodies.Body.{Body}
use Rattle.indexing.specs.declared.faults.BodyFault.{BodyFault}
use Rattle.body.specs.Drafts.{drafted}
use Rattle.indexing.specs.Opening.{Draft, rows_of}

abbrev pub body_of : Body → Draft
body_of b = drafted b.rows.now b.file.now

-- A file that opens gives its body, with a row a record at the front of the index table; a refused one gives its fault.
abbrev pub Opens : Result Draft BodyFault → Result Body BodyFault → Type 0
Opens (Ok d) (Ok b) = (body_of b ≡ d) × (take (length (rows_of d)) b.rows.now ≡ rows_of d)
Opens (Ok d) (Err f) = ⊥
Opens (Err e) r = r ≡ Err e
