use Rattle.std.proofs.Common.{rules, ◌≡◌, ◌∙◌, ℕ, ap, subst, sym}
use Rattle.attempt_commits.specs.Settling.{AreTurns}
use Rattle.ref_store.specs.Store.{HasRoomFor}
use Rattle.world_steps.specs.declared.kept.Kept.{Kept}
use Rattle.value_core.specs.Named.{Named}
use Rattle.value_core.specs.Placed.{filled}
use Rattle.attempt_commits.proofs.commits.prepare.Goals as goal

pub returns-clause-prepared : goal.returns-clause-prepared
returns-clause-prepared c = record {
  number = search rules;
  made = search rules;
  gathered = search rules;
  turns =
      let g = c.in-Ok-gather.gathered in
      let same = c.in-Ok-ready_unit.ensures.others ∙ ap (λ (k : Kept). record k { history = c.ready_unit.new.kept.history }) c.in-Ok-gather.ensures.others in
      subst (λ (k : Kept). AreTurns g.root g.deeds.counts.entries (filled k.taken) k.units c.in-Ok-turns_with_room.turns.entries) same c.in-Ok-turns_with_room.ensures.turns;
  store = subst (λ (room : Named ℕ). HasRoomFor c.in-Ok-gather.gathered.writes.items room) (sym same) c.in-Ok-gather.ensures.room;
  ready = search rules;
  letters = search rules;
  actors = search rules;
}
  where
    same : c.turns_with_room.new.kept.store.room ≡ c.gather.new.kept.store.room
    same = ap (λ (k : Kept). k.store.room) c.in-Ok-turns_with_room.ensures.others ∙ ap (λ (k : Kept). k.store.room) c.in-Ok-ready_unit.ensures.others
