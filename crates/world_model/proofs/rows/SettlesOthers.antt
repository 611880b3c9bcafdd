-- Settled, where it is a held effect that is neither a print nor a send.
use Rattle.std.proofs.Common.{◌≡◌, ◌∙◌, ℕ, suc, ◌==◌, Bool, true, false, List, [], ◌∷◌, ◌++◌, refl, sym, ap}
use Rattle.std.specs.Prelude.{Option, None, Some, if◌then◌else◌}
use Rattle.value_core.proofs.NamedLaws.{same_name-equal}
use Rattle.value_core.specs.Named.{Name, with_named, same_name}
use Rattle.value_core.specs.Place.{Spot}
use Rattle.value_core.specs.declared.value.Value.TheVariants as value
use Rattle.value_core.specs.declared.value.Value.{Value}
use Rattle.core_syntax.specs.declared.node_id.NodeId.{NodeId}
use Rattle.serial_model.proofs.runs.Made.{IsMade}
use Rattle.serial_model.specs.Ahead.{of_turn, self_of}
use Rattle.serial_model.specs.State.{Setup, UnitState, State, new_unit}
use Rattle.serial_model.specs.Step.{with_unit, answered, with_made, next_made, becoming, idle, spawned, gives, ended}
use Rattle.serial_model.specs.declared.answer.Answer.TheVariants as answer
use Rattle.serial_model.specs.declared.end.End.TheVariants as end
use Rattle.serial_model.specs.declared.entry.Entry.TheVariants.{Run}
use Rattle.serial_model.specs.declared.request.Request.TheVariants as request
use Rattle.serial_model.specs.declared.request.Request.{Request}
use Rattle.world_model.specs.Ahead.{after_answer}
use Rattle.world_model.specs.StandsFor.{StandsFor}
use Rattle.world_model.specs.World.{LiveUnit, World, with_at}
use Rattle.world_model.specs.rows.Effects.{SettlesHeld, effect_settled, ref_settled, spawn_settled, fork_settled, new_live}
use Rattle.world_model.proofs.records.Elsewhere.{with-ref, with-actor, with-child}
use Rattle.world_model.proofs.records.Frames.{at-other}
use Rattle.world_model.proofs.records.Names.{new-actor, new-unit}
use Rattle.world_model.proofs.records.Steps.{Settles}
use Rattle.world_model.proofs.rows.SettlesHeld.{is-next, answers, settles-steps}

some_same : {X : Type 0} (a b : X) → Some a ≡ Some b → a ≡ b
some_same a b e = cc

module _ (setup : Setup) (w : World) (s : State) (u : Name) (x : LiveUnit) (rest : List Request) (after : UnitState) (st : StandsFor setup w s) (made : IsMade s) where
  pub settles-ref : (v : Value) → SettlesHeld w u x (request.NewRef v) rest after → Settles setup s (Run u) (ref_settled w u x rest after v)
  settles-ref v row =
      let r = request.NewRef v in
      let is = is-next setup w s u x r rest after st row in
      let same : after ≡ answered (with_made x.from) (value.Ref (next_made u x.from)) = sym (some_same _ after row.gives) in
      let w1 = record w { refs = with_at w.refs (next_made u x.from) (Some v) } in
      let s1 = record s { refs = with_named s.refs (next_made u x.from) v } in
      let row1 : SettlesHeld w1 u x r rest after = record { going = row.going; there = row.there; takes = row.takes; held = row.held; gives = row.gives } in
      let st1 = with-ref setup w s st (next_made u x.from) v in
      record {
        after = with_unit s1 u after;
        steps = settles-steps setup w s u x r rest after st row is ∙ ap (λ unit. Some (with_unit s1 u unit)) (sym same);
        stands = answers setup w1 s1 u x r rest after st1 row1 (is-next setup w1 s1 u x r rest after st1 row1) (w.history ++ Run u ∷ []) s.bytes w.bytes st.bytes (λ b. refl);
      }

  pub settles-spawn : (behaviour : ℕ) (state : List Value) → SettlesHeld w u x (request.Spawn behaviour state) rest after → Settles setup s (Run u) (spawn_settled w u x rest after behaviour state)
  settles-spawn behaviour state row =
      let r = request.Spawn behaviour state in
      let is = is-next setup w s u x r rest after st row in
      let same : after ≡ answered (with_made x.from) (value.Actor (next_made u x.from)) = sym (some_same _ after row.gives) in
      let w1 = record w { actors = with_at w.actors (next_made u x.from) (Some (idle behaviour state)) } in
      let s1 = spawned s (next_made u x.from) behaviour state in
      let row1 : SettlesHeld w1 u x r rest after = record { going = row.going; there = row.there; takes = row.takes; held = row.held; gives = row.gives } in
      let st1 = with-actor setup w s st (next_made u x.from) (idle behaviour state) (new-actor setup w s st made u x x.from row.there is.there) in
      record {
        after = with_unit s1 u after;
        steps = settles-steps setup w s u x r rest after st row is ∙ ap (λ unit. Some (with_unit s1 u unit)) (sym same);
        stands = answers setup w1 s1 u x r rest after st1 row1 (is-next setup w1 s1 u x r rest after st1 row1) (w.history ++ Run u ∷ []) s.bytes w.bytes st.bytes (λ b. refl);
      }

  pub settles-fork : (body : NodeId) (values : List Value) → (w.made == setup.limits.units) ≡ false → SettlesHeld w u x (request.Fork body values) rest after
      → Settles setup s (Run u) (fork_settled w u x rest after body values)
  settles-fork body values room row =
      let r = request.Fork body values in
      let is = is-next setup w s u x r rest after st row in
      let same : after ≡ answered (with_made x.from) (value.Future (next_made u x.from)) = sym (some_same _ after row.gives) in
      let child = next_made u x.from in
      let none = new-unit setup w s st made u x x.from row.there is.there in
      let w1 = record w { units = with_at w.units child (Some (new_live body values)); made = suc w.made } in
      let s1 = record s { units = with_named s.units child (new_unit None body values); made = suc s.made } in
      let row1 : SettlesHeld w1 u x r rest after = record { going = row.going; there = at-other w.units child u (Some (new_live body values)) (apart none) ∙ row.there; takes = row.takes; held = row.held; gives = row.gives } in
      let st1 = with-child setup w s st child body values none in
      record {
        after = with_unit s1 u after;
        steps = settles-steps setup w s u x r rest after st row is
            ∙ ap (λ full. Some (if full then ended s end.UnitsSpent else with_unit s1 u (answered (with_made x.from) (value.Future (next_made u x.from))))) (ap (λ n. n == setup.limits.units) (sym st.made) ∙ room)
            ∙ ap (λ unit. Some (with_unit s1 u unit)) (sym same);
        stands = answers setup w1 s1 u x r rest after st1 row1 (is-next setup w1 s1 u x r rest after st1 row1) (w.history ++ Run u ∷ []) s.bytes w.bytes st.bytes (λ b. refl);
      }
    where
      apart : w.units (next_made u x.from) ≡ None → same_name u (next_made u x.from) ≡ false
      apart none = on (same_name u (next_made u x.from)) refl
        where
          on : (c : Bool) → same_name u (next_made u x.from) ≡ c → c ≡ false
          on false e = refl
          on true e = let no : Some x ≡ None = sym row_there ∙ ap w.units (same_name-equal u (next_made u x.from) e) ∙ none in cc
            where
              row_there : w.units u ≡ Some x
              row_there = row.there

  pub settles-become : (behaviour : ℕ) (state : List Value) → SettlesHeld w u x (request.Become behaviour state) rest after → Settles setup s (Run u) (effect_settled w u x rest after)
  settles-become behaviour state row =
      let r = request.Become behaviour state in
      let is = is-next setup w s u x r rest after st row in
      record {
        after = with_unit s u after;
        steps = settles-steps setup w s u x r rest after st row is ∙ acts is.at x.from.actor row.gives;
        stands = answers setup w s u x r rest after st row is (w.history ++ Run u ∷ []) s.bytes w.bytes st.bytes (λ b. refl);
      }
    where
      acts : (at : Spot) (actor : Option Name) → after_answer (becoming x.from behaviour state) (Some (of_turn actor (answer.Value value.Nil))) ≡ Some after
          → Some (gives s u (becoming x.from behaviour state) at (of_turn actor (answer.Value value.Nil))) ≡ Some (with_unit s u after)
      acts at None e = cc
      acts at (Some a) e = ap (λ unit. Some (with_unit s u unit)) (some_same _ after e)

  pub settles-self : SettlesHeld w u x request.SelfActor rest after → Settles setup s (Run u) (effect_settled w u x rest after)
  settles-self row =
      let r = request.SelfActor in
      let is = is-next setup w s u x r rest after st row in
      record {
        after = with_unit s u after;
        steps = settles-steps setup w s u x r rest after st row is ∙ acts is.at x.from.actor row.gives;
        stands = answers setup w s u x r rest after st row is (w.history ++ Run u ∷ []) s.bytes w.bytes st.bytes (λ b. refl);
      }
    where
      acts : (at : Spot) (actor : Option Name) → after_answer x.from (Some (self_of actor)) ≡ Some after
          → Some (gives s u x.from at (self_of actor)) ≡ Some (with_unit s u after)
      acts at None e = cc
      acts at (Some a) e = ap (λ unit. Some (with_unit s u unit)) (some_same _ after e)
