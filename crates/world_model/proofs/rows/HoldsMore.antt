-- Held, where a unit's effect is held: nothing of what the world stands for changes.
use Rattle.std.proofs.Common.{◌≡◌, ◌∙◌, Bool, true, false, cond, List, [], ◌∷◌, ◌++◌, map, append-nil, refl, sym, ap, ap₂, subst}
use Rattle.std.specs.Prelude.{Option, None, Some}
use Rattle.value_core.proofs.NamedLaws.{same_name-equal, same_name-itself}
use Rattle.value_core.specs.Named.{Name, named, same_name}
use Rattle.value_core.specs.Place.{Spot}
use Rattle.value_core.specs.declared.value.Value.{Value}
use Rattle.serial_model.specs.State.{Setup, State, UnitState}
use Rattle.serial_model.specs.Step.{queue_of}
use Rattle.serial_model.specs.declared.request.Request.TheVariants as request
use Rattle.serial_model.specs.declared.request.Request.{Request}
use Rattle.actor_mailbox.specs.declared.message.Message.{Message}
use Rattle.serial_model.specs.Sends.{request_sends, sends_to}
use Rattle.world_model.specs.Message.{tentative}
use Rattle.world_model.specs.StandsFor.{LiveStands, UnitStands, QueueStands, AttemptStands, StandsFor}
use Rattle.world_model.specs.World.{LiveUnit, is_some, is_empty, put_last, World, sends, kept_sends, held_sends, attempt_sends}
use Rattle.world_model.specs.rows.Effects.{HoldsMore, mails_held, with_held, held_more}
use Rattle.world_model.proofs.lists.Lists.{map-append, flat_map-append}
use Rattle.world_model.proofs.records.Frames.{runs-more, holds-no-attempt, taken-again}
use Rattle.world_model.proofs.records.MoreSends.{kept-line, put-line}

some_same : {X : Type 0} (a b : X) → Some a ≡ Some b → a ≡ b
some_same a b e = cc

module _ (setup : Setup) (w : World) (s : State) (u : Name) (x : LiveUnit) (r : Request) (at : Spot) (after : UnitState) (st : StandsFor setup w s) (row : HoldsMore setup w u x r at after) where
  quiet : w.attempts u ≡ None
  quiet = holds-no-attempt setup u x r at after (w.attempts u) (subst (λ live. AttemptStands setup u live (w.attempts u)) row.there (st.attempts u)) row.held

  grows : (takes : Option Name) (found : Option UnitState) → LiveStands setup w.actors w.taken u x takes found → LiveStands setup w.actors w.taken u (with_held x r after) takes found
  grows None None stands = stands
  grows None (Some unit) stands = (stands.0, runs-more setup u x.from x.held x.now r at after stands.1 row.held)
  grows (Some a) None t = record {
    actor = t.actor;
    behaviour = t.behaviour;
    message = t.message;
    there = t.there;
    idle = t.idle;
    behaves = t.behaves;
    called = t.called;
    took = t.took;
    starts = t.starts;
    runs = runs-more setup u x.from x.held x.now r at after t.runs row.held;
  }
  grows (Some a) (Some unit) stands = stands

  -- the rest of the world, whatever the mailboxes come to be
  pub holds-with : (mails : Name → List Message) → ((b v : Name) → QueueStands v (w.taken b ++ mails b) (sends (held_more w u x r after mails) v b) (queue_of s.queues b v))
      → StandsFor setup (held_more w u x r after mails) s
  holds-with mails queues = record {
    refs = st.refs;
    units = λ q. unit q (same_name q u) refl;
    actors = st.actors;
    queues = queues;
    attempts = λ v. attempt v (same_name v u) refl;
    bytes = st.bytes;
    made = st.made;
    end = st.end;
    turns = λ b. taken-again w.actors w.actors w.units b u (with_held x r after) (w.taken b) (w.taken b) (λ y there takes. let same : y ≡ x = some_same y x (sym there ∙ row.there) in subst (λ (z : LiveUnit). z.takes ≡ Some b) same takes) (λ o there. there) (λ e. e) (st.turns b);
  }
    where
      here : LiveStands setup w.actors w.taken u x x.takes (named u s.units)
      here = subst (λ live. UnitStands setup w.actors w.taken u live (named u s.units)) row.there (st.units u)

      unit : (q : Name) (c : Bool) → same_name q u ≡ c → UnitStands setup w.actors w.taken q (cond c (Some (with_held x r after)) (w.units q)) (named q s.units)
      unit q true e = subst (λ n. UnitStands setup w.actors w.taken n (Some (with_held x r after)) (named n s.units)) (sym (same_name-equal q u e)) (grows x.takes (named u s.units) here)
      unit q false e = st.units q

      attempt : (v : Name) (c : Bool) → same_name v u ≡ c → AttemptStands setup v (cond c (Some (with_held x r after)) (w.units v)) (w.attempts v)
      attempt v true e = rw (ap w.attempts (same_name-equal v u e) ∙ quiet) tt
      attempt v false e = st.attempts v

  -- the unit's own sends, and those of the others
  own-sends : (mails : Name → List Message) (b : Name) → sends w u b ++ map (tentative u u) (request_sends b r) ≡ sends (held_more w u x r after mails) u b
  own-sends mails b =
      ap₂ (λ live found. (held_sends u b live ++ attempt_sends u b found) ++ map (tentative u u) (request_sends b r)) row.there quiet
      ∙ ap (λ l. l ++ map (tentative u u) (request_sends b r)) (append-nil (map (tentative u u) (sends_to b x.held)))
      ∙ sym (map-append (tentative u u) (sends_to b x.held) (request_sends b r))
      ∙ ap (map (tentative u u)) (ap (λ l. sends_to b x.held ++ l) (sym (append-nil (request_sends b r))) ∙ sym (flat_map-append (request_sends b) x.held (r ∷ [])))
      ∙ sym (append-nil (map (tentative u u) (sends_to b (x.held ++ r ∷ []))))
      ∙ sym (ap₂ (λ c found. held_sends u b (cond c (Some (with_held x r after)) (w.units u)) ++ attempt_sends u b found) (same_name-itself u) quiet)

  other-sends : (mails : Name → List Message) (b v : Name) → same_name v u ≡ false → sends w v b ≡ sends (held_more w u x r after mails) v b
  other-sends mails b v not = sym (ap (λ c. held_sends v b (cond c (Some (with_held x r after)) (w.units v)) ++ attempt_sends v b (w.attempts v)) not)

  -- the effect is held, and no mailbox changes
  pub holds-more : StandsFor setup (held_more w u x r after w.mails) s
  holds-more = holds-with w.mails (kept-line setup w s u st (λ v b. sends (held_more w u x r after w.mails) v b) (λ b. map (tentative u u) (request_sends b r)) (own-sends w.mails) (other-sends w.mails))

-- a send that is put at once
pub puts : (setup : Setup) (w : World) (s : State) (u : Name) (x : LiveUnit) (to : Name) (args : List Value) (at : Spot) (after : UnitState) → StandsFor setup w s
    → HoldsMore setup w u x (request.Send to args) at after → kept_sends w u to ≡ [] → StandsFor setup (held_more w u x (request.Send to args) after (put_last w to (tentative u u args))) s
puts setup w s u x to args at after st row none =
    let mails = put_last w to (tentative u u args) in
    let r = request.Send to args in
    holds-with setup w s u x r at after st row mails
    (put-line setup w s u st (λ v b. sends (held_more w u x r after mails) v b) (λ b. map (tentative u u) (request_sends b r)) (own-sends setup w s u x r at after st row mails) (other-sends setup w s u x r at after st row mails)
    to (tentative u u args) refl (ap (λ c. map (tentative u u) (cond c (args ∷ []) [])) (same_name-itself to)) none)

none-kept : (ms : List Message) → is_empty ms ≡ true → ms ≡ []
none-kept [] is = refl
none-kept (m ∷ ms) is = cc

-- each effect that is held
pub holds : (setup : Setup) (w : World) (s : State) (u : Name) (x : LiveUnit) (r : Request) (at : Spot) (after : UnitState) → StandsFor setup w s
    → HoldsMore setup w u x r at after → StandsFor setup (held_more w u x r after (mails_held w u r)) s
holds setup w s u x (request.Send to args) at after st row = on (is_some (w.actors to)) (is_empty (kept_sends w u to)) refl
  where
    on : (p q : Bool) → is_empty (kept_sends w u to) ≡ q
        → StandsFor setup (held_more w u x (request.Send to args) after (cond p (cond q (put_last w to (tentative u u args)) w.mails) w.mails)) s
    on false q is = holds-more setup w s u x (request.Send to args) at after st row
    on true false is = holds-more setup w s u x (request.Send to args) at after st row
    on true true is = puts setup w s u x to args at after st row (none-kept (kept_sends w u to) is)
holds setup w s u x (request.Print text) at after st row = holds-more setup w s u x (request.Print text) at after st row
holds setup w s u x (request.NewRef v) at after st row = holds-more setup w s u x (request.NewRef v) at after st row
holds setup w s u x (request.Deref ref) at after st row = holds-more setup w s u x (request.Deref ref) at after st row
holds setup w s u x (request.RefSet ref v) at after st row = holds-more setup w s u x (request.RefSet ref v) at after st row
holds setup w s u x (request.Fork body values) at after st row = holds-more setup w s u x (request.Fork body values) at after st row
holds setup w s u x (request.Join future) at after st row = holds-more setup w s u x (request.Join future) at after st row
holds setup w s u x (request.Dosync body values) at after st row = holds-more setup w s u x (request.Dosync body values) at after st row
holds setup w s u x (request.Spawn behaviour state) at after st row = holds-more setup w s u x (request.Spawn behaviour state) at after st row
holds setup w s u x (request.Become behaviour state) at after st row = holds-more setup w s u x (request.Become behaviour state) at after st row
holds setup w s u x request.SelfActor at after st row = holds-more setup w s u x request.SelfActor at after st row
