-- The root of an attempt does more, and what it sends is kept, whatever of what it has sent is put: the world stands for the same.
use Rattle.std.proofs.Common.{◌≡◌, ◌∙◌, Bool, true, false, cond, List, ◌++◌, map, append_assoc, refl, sym, ap, subst}
use Rattle.std.specs.Prelude.{Option, None, Some}
use Rattle.serial_model.specs.declared.effect.Effect.{Effect}
use Rattle.serial_model.specs.Sends.{effects_to, what_sends}
use Rattle.serial_model.specs.State.{Setup, State}
use Rattle.value_core.proofs.NamedLaws.{same_name-equal}
use Rattle.value_core.specs.Named.{Name, same_name}
use Rattle.world_model.proofs.lists.Lists.{flat_map-append, map-append}
use Rattle.world_model.proofs.records.Frames.{at-here}
use Rattle.world_model.proofs.records.MoreSends.{kept-line}
use Rattle.world_model.proofs.records.Ranks.{ranks-less}
use Rattle.world_model.specs.IsWorld.{IsSnapshot, IsWorld}
use Rattle.world_model.specs.Message.{tentative}
use Rattle.world_model.specs.rows.Attempts.{with_attempt}
use Rattle.world_model.specs.StandsFor.{AttemptStands, StandsFor}
use Rattle.world_model.specs.World.{Attempt, LiveUnit, World, attempt_sends, held_sends, sends}

-- the attempt, of which the root has done these, and is not at its end
abbrev pub having_done : Attempt → List Effect → Attempt
having_done tried es = record tried { effects = es; ended = None }

module _ (setup : Setup) (w : World) (is : IsWorld setup w) (u : Name) (tried : Attempt) (there : w.attempts u ≡ Some tried) (es : List Effect) where
  abbrev s : State
  s = is.state

  abbrev more : Attempt
  more = having_done tried (tried.effects ++ es)

  abbrev after : World
  after = with_attempt w u more

  own : (b : Name) → sends w u b ++ map (tentative u tried.root) (effects_to b es) ≡ sends after u b
  own b =
      append_assoc (held_sends u b (w.units u)) (attempt_sends u b (w.attempts u)) (map (tentative u tried.root) (effects_to b es))
      ∙ ap (λ l. held_sends u b (w.units u) ++ l)
      (ap (λ found. attempt_sends u b found ++ map (tentative u tried.root) (effects_to b es)) there
      ∙ sym (map-append (tentative u tried.root) (effects_to b tried.effects) (effects_to b es))
      ∙ ap (map (tentative u tried.root)) (sym (flat_map-append (λ (e : Effect). what_sends b e.what) tried.effects es))
      ∙ ap (attempt_sends u b) (sym (at-here w.attempts u (Some more))))

  other : (b v : Name) → same_name v u ≡ false → sends w v b ≡ sends after v b
  other b v not = sym (ap (λ c. held_sends v b (w.units v) ++ attempt_sends v b (cond c (Some more) (w.attempts v))) not)

  attempt : (v : Name) (c : Bool) → same_name v u ≡ c → AttemptStands setup v (w.units v) (cond c (Some more) (w.attempts v))
  attempt v true e = subst (λ n. AttemptStands setup n (w.units n) (Some more)) (sym (same_name-equal v u e)) (on (w.units u) (subst (AttemptStands setup u (w.units u)) there (is.stands.attempts u)))
    where
      on : (live : Option LiveUnit) → AttemptStands setup u live (Some tried) → AttemptStands setup u live (Some more)
      on None stands = absurd stands
      on (Some x) stands = record { asks = stands.asks; root = stands.root; unfinished = stands.unfinished; end = tt }
  attempt v false e = is.stands.attempts v

  stands : StandsFor setup after s
  stands = record {
    refs = is.stands.refs;
    units = is.stands.units;
    actors = is.stands.actors;
    turns = is.stands.turns;
    queues = kept-line setup w s u is.stands (λ v b. sends after v b) (λ b. map (tentative u tried.root) (effects_to b es)) own other;
    attempts = λ v. attempt v (same_name v u) refl;
    bytes = is.stands.bytes;
    made = is.stands.made;
    end = is.stands.end;
  }

  snapshots : (v : Name) (found : Attempt) (c : Bool) → cond c (Some more) (w.attempts v) ≡ Some found → IsSnapshot setup w.history s found
  snapshots v found true e =
      let same : more ≡ found = cc in
      let was = is.snapshots u tried there in
      subst (IsSnapshot setup w.history s) same (record { within = was.within; state = was.state; replays = was.replays; refs = was.refs; over = was.over })
  snapshots v found false e = is.snapshots v found e

  tries : (v : Name) (found : Attempt) (c : Bool) → same_name v u ≡ c → cond c (Some more) (w.attempts v) ≡ Some found → (before : Attempt) × (w.attempts v ≡ Some before) × (before.root ≡ found.root)
  tries v found true e at = let same : more ≡ found = cc in (tried, ap w.attempts (same_name-equal v u e) ∙ there, ap (λ (k : Attempt). k.root) same)
  tries v found false e at = (found, at, refl)

  pub does-more : IsWorld setup after
  does-more = record {
    state = s;
    replays = is.replays;
    stands = stands;
    snapshots = λ v found at. snapshots v found (same_name v u) at;
    ranks = ranks-less w.actors w.actors w.taken w.taken w.attempts after.attempts is.ranks (λ a actor m on at took depends. record { message = m; there = at; took = took; depends = depends }) (λ v found at. tries v found (same_name v u) refl at);
  }
