-- Each row keeps what the world stands for.
use Rattle.std.proofs.Common.{◌≡◌, ◌∙◌, ◌≤◌, ℕ, zero, suc, Bool, true, false, cond, length, take, take_all, le_refl, length-append, not-suc-le-zero, le_of_suc-le-suc, arith, List, [], ◌∷◌, ◌++◌, refl, sym, ap, subst, inl, inr}
use Rattle.std.specs.Option.{option_and_then}
use Rattle.std.specs.Prelude.{Option, None, Some, Contains, ◌⊎◌}
use Rattle.value_core.proofs.NamedLaws.{same_name-equal}
use Rattle.value_core.specs.Named.{Name, named, made_by, same_name}
use Rattle.value_core.specs.declared.value.Value.{Value}
use Rattle.core_syntax.specs.WellFormed.{IsWellFormed}
use Rattle.serial_model.proofs.runs.FinishedValues.{value-stays}
use Rattle.serial_model.proofs.runs.LastTurns.{IsSounder, replay-sounder}
use Rattle.serial_model.proofs.runs.Replays.{replay_from-step}
use Rattle.serial_model.proofs.runs.Stuck.{IsSound}
use Rattle.serial_model.specs.Replay.{replay}
use Rattle.serial_model.specs.State.{Setup, UnitState, State, opening}
use Rattle.serial_model.specs.Step.{next_made, value_of}
use Rattle.serial_model.specs.declared.actor_state.ActorState.{ActorState}
use Rattle.serial_model.specs.declared.effect.Effect.{Effect}
use Rattle.serial_model.specs.declared.entry.Entry.TheVariants.{Run, Take}
use Rattle.serial_model.specs.declared.entry.Entry.{Entry}
use Rattle.world_model.specs.Gave as row
use Rattle.world_model.specs.Gave.{Gave}
use Rattle.world_model.specs.IsWorld.{IsSnapshot, Ranks, IsWorld}
use Rattle.world_model.specs.Laws.{GaveKeeps}
use Rattle.actor_mailbox.specs.declared.message.Message.{Message}
use Rattle.world_model.specs.Message.{settled}
use Rattle.world_model.specs.StandsFor.{StandsFor, TakenStands}
use Rattle.world_model.specs.World.{LiveUnit, AttemptEnd, Attempt, World, with_at}
use Rattle.world_model.specs.rows.Attempts.{Begins, Learns, learned, with_attempt, local, does_local, with_done}
use Rattle.world_model.specs.rows.Effects.{Stands}
use Rattle.world_model.specs.rows.Undone.{unless_gone}
use Rattle.world_model.proofs.records.Frames.{at-here}
use Rattle.world_model.proofs.records.Names.{maker, root, not-actor, no-unit-of-root, new-turn, new-actor}
use Rattle.world_model.proofs.records.Ranks.{ranks-learned, ranks-begun, ranks-begins, ranks-local, ranks-undone, ranks-take, ranks-actor, ranks-send, ranks-commit, took-one}
use Rattle.world_model.proofs.records.SettledUnits.{settled-unit}
use Rattle.world_model.proofs.records.Steps.{Settles}
use Rattle.world_model.proofs.rows.Aborts.{aborts}
use Rattle.world_model.proofs.rows.Attempts.{begins, learns, locals}
use Rattle.world_model.proofs.rows.BeginsAhead.{begins-ahead}
use Rattle.world_model.proofs.rows.Commits.{commits-stands, fresh}
use Rattle.world_model.proofs.rows.Ends.{ends-steps}
use Rattle.world_model.proofs.rows.HoldsMore.{holds}
use Rattle.world_model.proofs.rows.MovesOn.{same as still_from, spawns, forks, becomes, selves, busy-free, derefs, joins, prints, new-ref, ends-plain, ends-turn, ends, there}
use Rattle.world_model.proofs.rows.Reset.{reset-stands}
use Rattle.world_model.proofs.rows.SendsNow.{sends-now}
use Rattle.world_model.proofs.rows.SettlesHeld.{settles-print, settles-send}
use Rattle.world_model.proofs.rows.SettlesOthers.{settles-ref, settles-spawn, settles-fork, settles-become, settles-self}
use Rattle.world_model.proofs.rows.SettlesTake.{settles-take}
use Rattle.world_model.proofs.rows.TakesNow.{takes-now}

-- a longer history has the same first entries
later : (setup : Setup) (history more : List Entry) (s t : State) (at : Attempt) → ((f : Name) (v : Value) → value_of s f ≡ Some v → value_of t f ≡ Some v) → IsSnapshot setup history s at
    → IsSnapshot setup (history ++ more) t at
later setup history more s t at stay is =
    let lengths = length-append history more in
    record { within = omega (arith, is.within); state = is.state; replays = ap (replay setup) (take_of-append at.snapshot history more is.within) ∙ is.replays; refs = is.refs; over = λ f v known. stay f v (is.over f v known) }
  where
    take_of-append : (n : ℕ) (xs ys : List Entry) → n ≤ length xs → take n (xs ++ ys) ≡ take n xs
    take_of-append zero xs ys less = refl
    take_of-append (suc n) [] ys less = absurd (not-suc-le-zero less)
    take_of-append (suc n) (x ∷ xs) ys less = ap (λ zs. x ∷ zs) (take_of-append n xs ys (le_of_suc-le-suc less))

local-history : (w : World) (u : Name) (at : Attempt) (effects : List Effect) → (local w u at effects).history ≡ w.history
local-history w u at [] = refl
local-history w u at (e ∷ es) = local-history (does_local w u at e) u (with_done at e) es

module _ (setup : Setup) (formed : IsWellFormed setup.program) (w : World) (is_world : IsWorld setup w) where
  abbrev is : IsWorld setup w
  is = is_world

  abbrev s : State
  s = is.state

  sounder : IsSounder setup s
  sounder = replay-sounder setup formed w.history s is.replays

  sound : IsSound setup s
  sound = sounder.sound

  -- nothing comes into the history
  stays : (after : World) → after.history ≡ w.history → ((u : Name) (at : Attempt) → after.attempts u ≡ Some at → IsSnapshot setup w.history s at) → Ranks after.actors after.taken after.attempts → StandsFor setup after s → IsWorld setup after
  stays after same snapshots ranks stands = record {
    state = s;
    replays = ap (replay setup) same ∙ is.replays;
    stands = stands;
    ranks = ranks;
    snapshots = λ u at there. subst (λ h. IsSnapshot setup h s at) (sym same) (snapshots u at there);
  }

  -- one entry does
  goes : (after : World) (entry : Entry) → after.history ≡ w.history ++ entry ∷ [] → ((u : Name) (at : Attempt) → after.attempts u ≡ Some at → IsSnapshot setup w.history s at) → Ranks after.actors after.taken after.attempts → Settles setup s entry after → IsWorld setup after
  goes after entry same snapshots ranks settles = record {
    state = settles.after;
    replays = ap (replay setup) same ∙ replay_from-step setup (opening setup) s settles.after w.history entry is.replays settles.steps;
    stands = settles.stands;
    ranks = ranks;
    snapshots = λ u at there. subst (λ h. IsSnapshot setup h settles.after at) (sym same) (later setup w.history (entry ∷ []) s settles.after at (value-stays setup s settles.after entry sound.made settles.steps) (snapshots u at there));
  }

  -- an attempt that begins, one that does more, one that commits, and those that are undone
  begun : (u : Name) (at : Attempt) → at.snapshot ≡ length w.history → at.store ≡ w.refs → at.joined ≡ [] → (v : Name) (found : Attempt) → with_at w.attempts u (Some at) v ≡ Some found → IsSnapshot setup w.history s found
  begun u at snapshot store joined v found there = on (same_name v u) there
    where
      nothing : (f : Name) (v : Value) → Contains {X = Name × Value} [] (f, v) → ⊥
      nothing f v known = not-suc-le-zero known.1

      new : IsSnapshot setup w.history s at
      new = record {
        within = omega arith;
        state = s;
        replays = ap (replay setup) (ap (λ n. take n w.history) snapshot ∙ take_all (length w.history) w.history (le_refl (length w.history))) ∙ is.replays;
        refs = λ r. ap (λ f. f r) store ∙ is.stands.refs r;
        over = λ f v known. absurd (nothing f v (subst (λ (all : List (Name × Value)). Contains all (f, v)) joined known));
      }

      on : (c : Bool) → cond c (Some at) (w.attempts v) ≡ Some found → IsSnapshot setup w.history s found
      on true e = let same : at ≡ found = cc in subst (IsSnapshot setup w.history s) same new
      on false e = is.snapshots v found e

  more : (w2 : World) (u : Name) (at : Attempt) (effects : List Effect) → IsSnapshot setup w.history s at → ((v : Name) (found : Attempt) → w2.attempts v ≡ Some found → IsSnapshot setup w.history s found)
      → (v : Name) (found : Attempt) → (local w2 u at effects).attempts v ≡ Some found → IsSnapshot setup w.history s found
  more w2 u at [] kept all v found there = all v found there
  more w2 u at (e ∷ es) kept all v found there =
      let done : IsSnapshot setup w.history s (with_done at e) = record { within = kept.within; state = kept.state; replays = kept.replays; refs = kept.refs; over = kept.over } in
      more (does_local w2 u at e) u (with_done at e) es done (λ v found is. on v found (same_name v u) done (all v found) is) v found there
    where
      on : (v : Name) (found : Attempt) (c : Bool) → IsSnapshot setup w.history s (with_done at e) → (w2.attempts v ≡ Some found → IsSnapshot setup w.history s found)
          → cond c (Some (with_done at e)) (w2.attempts v) ≡ Some found → IsSnapshot setup w.history s found
      on v found true done all is = let same : with_done at e ≡ found = cc in subst (IsSnapshot setup w.history s) same done
      on v found false done all is = all is

  undone_snapshots : (gone : Name → Bool) (v : Name) (at : Attempt) → unless_gone gone (w.attempts v) ≡ Some at → IsSnapshot setup w.history s at
  undone_snapshots gone v at there = on (w.attempts v) refl there
    where
      on : (found : Option Attempt) → w.attempts v ≡ found → unless_gone gone found ≡ Some at → IsSnapshot setup w.history s at
      on None is e = cc
      on (Some other) is e = left (gone other.root) e
        where
          left : (c : Bool) → cond c None (Some other) ≡ Some at → IsSnapshot setup w.history s at
          left true e = cc
          left false e = let same : other ≡ at = cc in is_snapshot same
            where
              is_snapshot : other ≡ at → IsSnapshot setup w.history s at
              is_snapshot same = is_world.snapshots v at (is ∙ ap (λ a. Some a) same)

  committed_one : (u v : Name) (at : Attempt) → with_at w.attempts u None v ≡ Some at → IsSnapshot setup w.history s at
  committed_one u v at there = on (same_name v u) there
    where
      on : (c : Bool) → cond c None (w.attempts v) ≡ Some at → IsSnapshot setup w.history s at
      on true e = cc
      on false e = is.snapshots v at e

  -- what an attempt was answered with is so
  known : (u : Name) (at : Attempt) → w.attempts u ≡ Some at → (f : Name) (v : Value) → Contains at.joined (f, v) → value_of s f ≡ Some v
  known u at there = (is.snapshots u at there).over

  learned_snapshots : (u : Name) (x : LiveUnit) (at : Attempt) (reads : List Name) (joined : List (Name × Value)) (ended : Option AttemptEnd) → Learns setup w u x at reads joined ended
      → (v : Name) (found : Attempt) → with_at w.attempts u (Some (learned at reads joined ended)) v ≡ Some found → IsSnapshot setup w.history s found
  learned_snapshots u x at reads joined ended r v found there = on (same_name v u) there
    where
      old : IsSnapshot setup w.history s at
      old = is.snapshots u at r.attempt

      over : (f : Name) (v : Value) → Contains at.joined (f, v) ⊎ ((y : LiveUnit) × (w.units f ≡ Some y) × (y.takes ≡ None) × (y.from.finished ≡ Some v)) → value_of s f ≡ Some v
      over f v (inl before) = old.over f v before
      over f v (inr y) = ap (option_and_then (λ (unit : UnitState). unit.finished)) (settled-unit setup w s f y.0 is.stands y.1 y.2).there ∙ y.3

      new : IsSnapshot setup w.history s (learned at reads joined ended)
      new = record { within = old.within; state = old.state; replays = old.replays; refs = old.refs; over = λ f v has. over f v (r.over f v has) }

      on : (c : Bool) → cond c (Some (learned at reads joined ended)) (w.attempts v) ≡ Some found → IsSnapshot setup w.history s found
      on true e = let same : learned at reads joined ended ≡ found = cc in subst (IsSnapshot setup w.history s) same new
      on false e = is.snapshots v found e

  -- names that are new
  turn-roots : (a : Name) (actor : ActorState) → w.actors a ≡ Some actor → (v : Name) (at : Attempt) → w.attempts v ≡ Some at → same_name at.root (made_by a actor.turns) ≡ false
  turn-roots a actor there v at found = on (same_name at.root (made_by a actor.turns)) refl
    where
      on : (c : Bool) → same_name at.root (made_by a actor.turns) ≡ c → c ≡ false
      on false e = refl
      on true e =
          let of = root setup w s is.stands v at found in
          let makers : v ≡ a = maker v a of.0.now.made actor.turns (sym of.2 ∙ same_name-equal at.root (made_by a actor.turns) e) in
          absurd (not-actor setup w s is.stands sound.made v of.0 actor of.1 (ap (λ n. named n s.actors) makers ∙ sym (is.stands.actors a) ∙ there))

  begun-roots : (u : Name) (x : LiveUnit) (at : Attempt) → Begins setup w u x at → (v : Name) (other : Attempt) → w.attempts v ≡ Some other → same_name other.root at.root ≡ false
  begun-roots u x at r v other found = on (same_name other.root at.root) refl
    where
      on : (c : Bool) → same_name other.root at.root ≡ c → c ≡ false
      on false e = refl
      on true e =
          let of = root setup w s is.stands v other found in
          let makers : v ≡ u = maker v u of.0.now.made x.now.made (sym of.2 ∙ same_name-equal other.root at.root e ∙ r.root) in
          let no : Some other ≡ None = sym found ∙ ap w.attempts makers ∙ r.none in cc

  spawn-free : (u : Name) (x : LiveUnit) → w.units u ≡ Some x → x.takes ≡ None → w.taken (next_made u x.from) ≡ []
  spawn-free u x there takes = on (w.taken (next_made u x.from)) refl (is.stands.turns (next_made u x.from))
    where
      on : (ms : List Message) → w.taken (next_made u x.from) ≡ ms → TakenStands w.actors w.units (next_made u x.from) ms → ms ≡ []
      on [] e t = refl
      on (m ∷ ms) e t =
          let found = (settled-unit setup w s u x is.stands there takes).there in
          let no : Some t.actor ≡ None = sym t.there ∙ is.stands.actors (next_made u x.from) ∙ new-actor setup w s is.stands sound.made u x x.from there found in cc

  made-free : (u : Name) (x : LiveUnit) → Stands setup w u x → w.taken (next_made u x.now) ≡ []
  made-free u x r = subst (λ unit. w.taken (next_made u unit) ≡ []) (still_from setup w s u x is.stands r) (spawn-free u x r.there r.takes)

  pub keeps : (given : Option Entry) (after : World) → Gave setup w given after → IsWorld setup after
  keeps given after (row.takes_ahead a m ms actor behaviour r unsettled) = stays after refl is.snapshots (ranks-begun setup w s is.stands sound.made is.ranks (made_by a actor.turns) (new-turn setup w s is.stands sound.made a actor r.there r.free) (turn-roots a actor r.there) a actor m ms r.there refl r.front) (begins-ahead setup w s a _ m ms actor behaviour is.stands sound.made r)
  keeps given after (row.holds u x r at next held) = stays after refl is.snapshots is.ranks (holds setup w s u x r at next is.stands held)
  keeps given after (row.begins_attempt u x at r) = stays after refl (begun u at r.snapshot r.store r.joined) (ranks-begins setup w s is.stands sound.made is.ranks at.root (no-unit-of-root setup (with_attempt w u at) s (begins setup w s u x at is.stands r) sound.made u at (at-here w.attempts u (Some at))) (begun-roots u x at r) u x at r.there refl) (begins setup w s u x at is.stands r)
  keeps given after (row.learns u x at reads joined ended r) = stays after refl (learned_snapshots u x at reads joined ended r) (ranks-learned w u at (learned at reads joined ended) r.attempt refl is.ranks) (learns setup w s u x at reads joined ended is.stands r)
  keeps given after (row.goes_on u at effects there) = stays after (local-history w u at effects) (more w u at effects (is.snapshots u at there) is.snapshots) (ranks-local w u at effects there is.ranks) (locals setup w s u at effects is.stands there)
  keeps given after (row.aborts u at gone r) = stays after refl (undone_snapshots gone) (ranks-undone w gone (took-one setup w s is.stands) is.ranks) (aborts setup w s u at gone is.stands sound.made r)
  keeps given after (row.settles_take a x m actor r room) = goes after (Take a m.sender) refl is.snapshots (ranks-take w a _ is.ranks) (settles-take setup w s a x m actor is.stands r room)
  keeps given after (row.takes a m ms actor behaviour r going definite room) = goes after (Take a m.sender) refl is.snapshots (ranks-actor w a _ r.free is.ranks) (takes-now setup w s a m ms actor behaviour is.stands sound.made r going definite room)
  keeps given after (row.settles_print u x text rest next r) = goes after (Run u) refl is.snapshots is.ranks (settles-print setup w s u x text rest next is.stands r)
  keeps given after (row.settles_send u x to args rest next r) = goes after (Run u) refl is.snapshots (ranks-send w u to (settled u args) (took-one setup w s is.stands) is.ranks) (settles-send setup w s u x to args rest next is.stands sound.made r)
  keeps given after (row.settles_ref u x v rest next r) = goes after (Run u) refl is.snapshots is.ranks (settles-ref setup w s u x rest next is.stands sound.made v r)
  keeps given after (row.settles_spawn u x behaviour state rest next r) = goes after (Run u) refl is.snapshots (ranks-actor w _ _ (spawn-free u x r.there r.takes) is.ranks) (settles-spawn setup w s u x rest next is.stands sound.made behaviour state r)
  keeps given after (row.settles_fork u x body values rest next room r) = goes after (Run u) refl is.snapshots is.ranks (settles-fork setup w s u x rest next is.stands sound.made body values room r)
  keeps given after (row.settles_become u x behaviour state rest next r) = goes after (Run u) refl is.snapshots is.ranks (settles-become setup w s u x rest next is.stands sound.made behaviour state r)
  keeps given after (row.settles_self u x rest next r) = goes after (Run u) refl is.snapshots is.ranks (settles-self setup w s u x rest next is.stands sound.made r)
  keeps given after (row.commits u x at result v r) = goes after (Run u) refl (committed_one u) (ranks-commit setup w s u (same_name at.root) _ is.stands (fresh setup w s u x at result formed is.stands sound r.over (known u at r.over.attempt) v r.value) is.ranks) (commits-stands setup w s u x at result formed is.stands sound r.over (known u at r.over.attempt) v r.value)
  keeps given after (row.derefs u x ref at v r asks found) = goes after (Run u) refl is.snapshots is.ranks (derefs setup w s u x is.stands r ref at v asks found)
  keeps given after (row.joins u x f y at v r asks other takes over) = goes after (Run u) refl is.snapshots is.ranks (joins setup w s u x is.stands r f y at v asks other takes over)
  keeps given after (row.prints u x text at r asks) = goes after (Run u) refl is.snapshots is.ranks (prints setup w s u x is.stands r text at asks)
  keeps given after (row.makes_ref u x v at r asks) = goes after (Run u) refl is.snapshots is.ranks (new-ref setup w s u x is.stands r v at asks)
  keeps given after (row.sends u x to args at r asks) = goes after (Run u) refl is.snapshots is.ranks (sends-now setup w s u x to args at is.stands r asks)
  keeps given after (row.spawns u x behaviour state at r asks) = goes after (Run u) refl is.snapshots (ranks-actor w _ _ (made-free u x r) is.ranks) (spawns setup w s u x is.stands r sound.made behaviour state at asks)
  keeps given after (row.forks u x body values at r asks room) = goes after (Run u) refl is.snapshots is.ranks (forks setup w s u x is.stands r sound.made body values at asks room)
  keeps given after (row.becomes u x behaviour state at actor r asks of) = goes after (Run u) refl is.snapshots is.ranks (becomes setup w s u x is.stands r behaviour state at actor asks of)
  keeps given after (row.selves u x at actor r asks of) = goes after (Run u) refl is.snapshots is.ranks (selves setup w s u x is.stands r at actor asks of)
  keeps given after (row.finishes u x v r at_end plain) = goes after (Run u) refl is.snapshots is.ranks (ends-plain setup w s u x is.stands r v at_end plain)
  keeps given after (row.finishes_turn u a x actor v r at_end of found) =
      let last = sounder.last u x.now a (there setup w s u x is.stands r) of r.unfinished in
      let both : Some last.state ≡ Some actor = sym last.there ∙ sym (is.stands.actors a) ∙ found in
      let same : last.state ≡ actor = cc in
      let is_busy : actor.busy ≡ true = ap (λ (o : ActorState). o.busy) (sym same) ∙ last.busy in
      goes after (Run u) refl is.snapshots (ranks-actor w a _ (busy-free setup w s a actor is.stands found is_busy) is.ranks) (ends-turn setup w s u a x actor v is.stands r at_end of found (ap (λ (o : ActorState). o.busy) (sym same) ∙ last.busy))
  keeps given after (row.ends entry end r) = goes after entry refl is.snapshots is.ranks (ends setup w s entry end is.stands (ends-steps setup formed w s entry end is.stands sound known r))
  keeps given after row.resets = stays after refl (λ u at e. cc) (record { rank = λ n. 0; turns = λ a actor m on there took depends. cc; attempts_above = λ v at e. cc }) (reset-stands setup w s is.stands)

pub gave-keeps : (setup : Setup) → IsWellFormed setup.program → GaveKeeps setup
gave-keeps setup formed w after given is gave = keeps setup formed w is given after gave
