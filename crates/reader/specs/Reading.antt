-- One step of a reader: the next record, or why it is refused.
use Rattle.std.specs.Prelude.{ℕ, ◌+◌, cond, List, [], ◌∷◌, length, Some, None, Ok, Err, Option, Result, nat_lt}
use Rattle.reader.specs.declared.counts.Counts.{Counts}
use Rattle.reader.specs.declared.faults.ReaderFault.{ReaderFault}
use Rattle.reader.specs.declared.faults.ReaderFault.TheVariants as fault
use Rattle.reader.specs.declared.payload.Item.{Item}
use Rattle.reader.specs.declared.payload.Wrong.{Wrong}
use Rattle.reader.specs.declared.payload.Wrong.TheVariants.{Unknown, Misfit}
use Rattle.reader.specs.declared.records.Reader.{Reader}
use Rattle.reader.specs.declared.records.Record.{Record}
use Rattle.reader.specs.Counting.{none_yet, one_more}
use Rattle.reader.specs.Payloads.{item_of}
use Rattle.reader.specs.Pieces.{Parsed, parse}

-- where a reader stands: what is left of the file, the offset of that, the tag before it and the records so far
pub record State : Type 0 where
  pub bytes : List ℕ
  pub offset : ℕ
  pub last : ℕ
  pub counts : Counts

abbrev pub start : List ℕ → State
start file = record { bytes = file; offset = 0; last = 0; counts = none_yet }

-- a record: where it begins, what it counts as, and its payload
pub record Found : Type 0 where
  pub offset : ℕ
  pub item : Item
  pub payload : List ℕ

abbrev pub Answer : Type 0
Answer = Result (Option Found) ReaderFault

pub record Step : Type 0 where
  pub answer : Answer
  pub state : State

abbrev pub blamed : Wrong → ℕ → ReaderFault
blamed Unknown o = fault.Unknown o
blamed Misfit o = fault.Misfit o

-- an item is one too many where no index row is left for it, or where its sort has no more
abbrev pub admitted : ℕ → ℕ → Item → Option Counts → Result (Item × Counts) ReaderFault
admitted rows o i None = Err (fault.TooMany o)
admitted rows o i (Some c) = cond (nat_lt 0 rows) (Ok (i, c)) (Err (fault.TooMany o))

abbrev pub sorted : ℕ → State → Result Item Wrong → Result (Item × Counts) ReaderFault
sorted rows s (Err w) = Err (blamed w s.offset)
sorted rows s (Ok i) = admitted rows s.offset i (one_more s.counts i)

-- tags rise; then the payload is looked at, then the counts
abbrev pub checks : ℕ → State → ℕ → List ℕ → Result (Item × Counts) ReaderFault
checks rows s tag payload = cond (nat_lt tag s.last) (Err (fault.Unknown s.offset)) (sorted rows s (item_of tag payload))

abbrev pub stays : State → Answer → Step
stays s a = record { answer = a; state = s }

abbrev pub moves : State → Parsed → Result (Item × Counts) ReaderFault → Step
moves s p (Err e) = stays s (Err e)
moves s p (Ok x) = record {
  answer = Ok (Some (record { offset = s.offset; item = x.0; payload = p.payload }));
  state = record { bytes = p.rest; offset = s.offset + 3 + length p.payload; last = p.tag; counts = x.1 };
}

abbrev pub of_piece : ℕ → State → Option Parsed → Step
of_piece rows s None = stays s (Err (fault.PastEnd s.offset))
of_piece rows s (Some p) = moves s p (checks rows s p.tag p.payload)

abbrev pub of_bytes : ℕ → State → List ℕ → Step
of_bytes rows s [] = stays s (Ok None)
of_bytes rows s (b ∷ bs) = of_piece rows s (parse (b ∷ bs))

-- the next record, with so many index rows left; none at the end of the file
abbrev pub reads : ℕ → State → Step
reads rows s = of_bytes rows s s.bytes

-- what the values of the code say
abbrev pub state : Reader → State
state r = record { bytes = r.rest.now; offset = r.offset; last = r.last; counts = r.counts }

abbrev pub view_record : Record → Found
view_record r = record { offset = r.offset; item = r.item; payload = r.payload.now }

abbrev pub view_answer : Result (Option Record) ReaderFault → Answer
view_answer (Err e) = Err e
view_answer (Ok None) = Ok None
view_answer (Ok (Some r)) = Ok (Some (view_record r))
