use Rattle.std.proofs.Common.{refl, sym, ap, subst}
use Rattle.std.specs.Option.{IsSome, option_and_then}
use Rattle.unit_table.specs.Piece.{unit_in}
use Rattle.value_core.specs.Named.{same_name}
use Rattle.world_steps.proofs.Acting.{claims-stay, turned-so}
use Rattle.world_steps.specs.Kept.{shared_of}
use Rattle.world_steps.proofs.kept.Kept.put_becoming.Goals as goal

pub turn_into-requires : goal.turn_into-requires
turn_into-requires c =
    let is = c.requires.unit in
    subst IsSome (sym (ap (option_and_then unit_in) (c.in_ok-given.ensures.row is.unit is.there).set.here)) refl

pub returns : goal.returns
returns c =
    let old = shared_of c.args.self.now in
    let mid = shared_of c.reply.new.self in
    let new = record mid { board = c.turn_into.new.self } in
    record {
      row = λ x there. turned-so old mid new c.args.name.now x c.args.next c.in_ok-given.given (c.in_ok-given.ensures.row x there) c.turn_into.ensures.turned refl;
      claims = claims-stay (λ q. same_name q c.args.name.now) old mid new refl c.turn_into.ensures.claims c.in_ok-given.ensures.claims;
    }
