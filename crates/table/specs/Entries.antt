-- The type records of a file: where each begins and what it says, or why the file is refused.
use Rattle.std.specs.Prelude.{ℕ, zero, suc, List, [], ◌∷◌, ◌++◌, map, Some, None, Ok, Err, Result}
use Rattle.reader.specs.declared.faults.ReaderFault.{ReaderFault}
use Rattle.reader.specs.declared.faults.ReaderFault.TheVariants.{TooMany}
use Rattle.reader.specs.declared.payload.Item.{Item}
use Rattle.reader.specs.declared.payload.Item.TheVariants as item
use Rattle.reader.specs.Pieces.{payload_at}
use Rattle.reader.specs.Reading.{State, start, Found, Answer, reads}
use Rattle.reader.specs.Types.{TypeRow, type_of}
use Rattle.table.specs.declared.tables.TableWorld.{TableWorld}

pub record TypeEntry : Type 0 where
  pub offset : ℕ
  pub type : TypeRow

abbrev pub Listing : Type 0
Listing = Result (List TypeEntry) ReaderFault

-- a type record is put behind those before it; any other record is passed over
abbrev pub with_item : Item → ℕ → List ℕ → List TypeEntry → List TypeEntry
with_item item.«Type» o p es = es ++ record { offset = o; type = type_of p } ∷ []
with_item item.Binding o p es = es
with_item item.Node o p es = es
with_item item.Closure o p es = es

abbrev pub with_record : Found → List TypeEntry → List TypeEntry
with_record f es = with_item f.item f.offset f.payload es

abbrev pub after : (State → List TypeEntry → Listing) → List TypeEntry → State → Answer → Listing
after more es s (Err e) = Err e
after more es s (Ok None) = Ok es
after more es s (Ok (Some f)) = more s (with_record f es)

-- what comes of the rest of a file, with so many index rows left
abbrev pub scan : ℕ → State → List TypeEntry → Listing
scan zero s es = after (λ t fs. Err (TooMany s.offset)) es (reads zero s).state (reads zero s).answer
scan (suc room) s es = after (scan room) es (reads (suc room) s).state (reads (suc room) s).answer

-- a whole file, with so many index rows: its type records in order, or its earliest refusal, of whichever record
abbrev pub type_entries : ℕ → List ℕ → Listing
type_entries rows file = scan rows (start file) []

abbrev pub entry_at : List ℕ → ℕ → TypeEntry
entry_at file o = record { offset = o; type = type_of (payload_at file o) }

-- the type records of a world, and what they say
abbrev pub entries_in : TableWorld → List TypeEntry
entries_in w = map (entry_at w.file.now) w.offsets.now

abbrev pub types_in : TableWorld → List TypeRow
types_in w = map (λ (e : TypeEntry). e.type) (entries_in w)

abbrev pub view_world : Result TableWorld ReaderFault → Listing
view_world (Err e) = Err e
view_world (Ok w) = Ok (entries_in w)
