use Rattle.std.proofs.Common.{◌∙◌, ap, subst}
use Rattle.attempt_commits.proofs.Letters.{VacantBut, vacant-made}
use Rattle.serial_model.specs.declared.actor_state.ActorState.{ActorState}
use Rattle.shared_world.specs.Shared.{Shared}
use Rattle.unit_table.proofs.Wakes.{same_claims_more}
use Rattle.value_core.specs.Named.{Named}
use Rattle.world_steps.specs.declared.kept.Kept.{Kept}
use Rattle.attempt_commits.proofs.doing.room_for_actors.Goals as goal

pub loop-name-preserved : goal.loop-name-preserved
loop-name-preserved c =
    let was = c.loop-name.invariant in
    let is = c.reserve_new.ensures in
    record {
      same = record {
        pieces = λ n. is.same.pieces n ∙ was.same.pieces n;
        claims = same_claims_more c.args.kept.now.units c.loop-name.kept.units c.reserve_new.new.self.units was.same.claims is.same.claims;
        rest = is.same.rest ∙ ap (λ (s : Shared). record s { board = c.reserve_new.new.self.units }) was.same.rest;
      };
      others = is.others ∙ ap (λ (k : Kept). record k { units = c.reserve_new.new.self.units }) was.others;
      vacant = vacant-made c.args.actors.now.entries c.next.new.self c.in-Some.name.now c.in-Some._actor.now c.loop-name.kept.units c.reserve_new.new.self.units
          (subst (λ (left : Named ActorState). VacantBut c.args.actors.now.entries left c.loop-name.kept.units) c.in-Some.ensures.steps was.vacant) is.same.pieces is.places
          (record { none = c.in_ok-reserve_new.ensures.none; place = c.in_ok-reserve_new.ensures.place });
    }
