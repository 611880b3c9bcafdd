use Rattle.attempt_commits.proofs.Letters.{vacant-turned}
use Rattle.unit_table.proofs.Wakes.{same_claims_more}
use Rattle.attempt_commits.proofs.doing.do_deeds.Goals as goal

pub add_actors-requires : goal.add_actors-requires
add_actors-requires c = record {
  vacant = λ a some.
      let vacant = c.requires.actors a some in
      record {
        none = c.settle_letters.ensures.settled.none a (vacant-turned c.args.owner.now c.args.kept.now.units c.turn_into.new.units c.args.deeds.becomes c.requires.there c.turn_into.ensures.turned a vacant.none);
        place = c.settle_letters.ensures.places a (c.turn_into.ensures.places a vacant.place);
      };
}

pub returns-clause-done : goal.returns-clause-done
returns-clause-done c =
    let old = c.args.kept.now.units in
    let turned = c.turn_into.new.units in
    let reached = c.settle_letters.new.units in
    record {
      board = turned;
      unit = c.turn_into.ensures.turned;
      reached = reached;
      settled = c.settle_letters.ensures.settled;
      pieces = c.add_actors.ensures.pieces;
      turned = c.turn_into.ensures.claims;
      claims = same_claims_more old reached c.add_actors.new.units (same_claims_more old turned reached c.turn_into.ensures.claims c.settle_letters.ensures.claims) c.add_actors.ensures.claims;
    }
