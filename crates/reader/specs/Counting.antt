-- How many records of each sort a file may have: 1,024 types, 512 bindings, 2,048 nodes, and 64 of them closures.
use Rattle.std.specs.Prelude.{ℕ, ◌+◌, cond, ◌&&◌, Some, None, Option, nat_lt}
use Rattle.reader.specs.declared.counts.Counts.{Counts}
use Rattle.reader.specs.declared.payload.Item.{Item}
use Rattle.reader.specs.declared.payload.Item.TheVariants.{«Type», Binding, Node, Closure}

abbrev pub counting : ℕ → ℕ → ℕ → ℕ → Counts
counting t b n k = record { types = t; bindings = b; nodes = n; closures = k }

abbrev pub none_yet : Counts
none_yet = counting 0 0 0 0

-- one more of an item, unless it is one too many
abbrev pub one_more : Counts → Item → Option Counts
one_more c «Type» = cond (nat_lt c.types 1024) (Some (counting (c.types + 1) c.bindings c.nodes c.closures)) None
one_more c Binding = cond (nat_lt c.bindings 512) (Some (counting c.types (c.bindings + 1) c.nodes c.closures)) None
one_more c Node = cond (nat_lt c.nodes 2048) (Some (counting c.types c.bindings (c.nodes + 1) c.closures)) None
one_more c Closure =
    cond (nat_lt c.nodes 2048 && nat_lt c.closures 64) (Some (counting c.types c.bindings (c.nodes + 1) (c.closures + 1))) None
