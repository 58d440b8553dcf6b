use Rattle.std.proofs.Common.{◌≡◌, ◌+◌, ◌^◌, ◌<◌, length, sym, ap, ◌∙◌, arith, rules}
use Rattle.reader.specs.Pieces.{view}
use Rattle.reader.proofs.Parsing.{parse_length}
use Rattle.reader.proofs.records.Reader.next.Goals as goal

pub overflow_add-self-2 : goal.overflow_add-self-2
overflow_add-self-2 c =
    let l : 3 + length c.in_ok-piece.piece.payload.now + length c.in_ok-piece.piece.rest.now ≡ length c.args.self.now.rest.now =
    parse_length _ _ (sym c.first_record.ensures ∙ ap view c.in_ok-piece.ensures.ok_part) in
    search rules

pub invariant_of-self : goal.invariant_of-self
invariant_of-self c =
    let l : 3 + length c.in_ok-piece.piece.payload.now + length c.in_ok-piece.piece.rest.now ≡ length c.args.self.now.rest.now =
    parse_length _ _ (sym c.first_record.ensures ∙ ap view c.in_ok-piece.ensures.ok_part) in
    let w : c.args.self.now.offset + length c.args.self.now.rest.now < 2 ^ 64 = c.args.self.now.within in
    record { within = omega arith }
