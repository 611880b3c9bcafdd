-- What the root of an attempt has put and what it kept, where its unit stands where the history left it.
use Rattle.std.proofs.Common.{◌≡◌, ◌∙◌, ℕ, zero, suc, Bool, true, false, cond, drop, filter, length, List, [], ◌∷◌, ◌++◌, map, refl, sym, ap, ap₂}
use Rattle.std.specs.Prelude.{None, Some}
use Rattle.actor_mailbox.specs.declared.message.Message.{Message}
use Rattle.actor_mailbox.specs.Messages.{depends_on, from, is_from, passes}
use Rattle.serial_model.proofs.runs.LastTurns.{replay-sounder}
use Rattle.serial_model.proofs.runs.Made.{IsMade}
use Rattle.serial_model.specs.Sends.{effects_to}
use Rattle.serial_model.specs.State.{State, UnitState}
use Rattle.serial_model.specs.Step.{queue_of}
use Rattle.shared_world.proofs.Gone.{SeenAs, seen-as}
use Rattle.shared_world.proofs.Leading.{level-there}
use Rattle.shared_world.specs.rows.Leading.{line_at}
use Rattle.shared_world.specs.rows.Unsettled.{held_to, kept_to, sent_to}
use Rattle.shared_world.specs.Seen.{done_by_root}
use Rattle.shared_world.specs.Shared.{Shared, is_going}
use Rattle.shared_world.specs.Stands.{IsUnderWay, Stands}
use Rattle.task_fork_join.specs.Attempt.{Attempt}
use Rattle.value_core.proofs.NamedLaws.{same_name-equal, same_name-itself}
use Rattle.value_core.specs.declared.value.Value.{Value}
use Rattle.value_core.specs.Named.{Name, named, same_name}
use Rattle.world_model.proofs.lists.Lists.{filter-append, filter-all, filter-none, each-map}
use Rattle.world_model.proofs.lists.Queues.{AreOwn, queue-kept}
use Rattle.world_model.proofs.records.Names.{maker, no-unit-of-root, root}
use Rattle.world_model.proofs.records.Sends.{line-each, sends-each, sends-tentative}
use Rattle.world_model.specs.Message.{settled, tentative, unsettled}
use Rattle.world_model.specs.StandsFor.{QueueStands}
use Rattle.world_model.specs.World as world
use Rattle.world_model.specs.World.{LiveUnit, World, attempt_sends, held_sends, line, sends, still}

-- ---- lists
-- what is dropped of messages of one sender are the last of its sends
dropped-sends : (f : List Value → Message) (n : ℕ) (sent : List (List Value)) → (all : List (List Value)) × (drop n (map f sent) ≡ map f all)
dropped-sends f zero sent = (sent, refl)
dropped-sends f (suc n) [] = ([], refl)
dropped-sends f (suc n) (args ∷ sent) = dropped-sends f n sent

-- sends that are the first and the last of some
pub record IsSplit (f : List Value → Message) (sent : List (List Value)) (put kept : List Message) : Type 0 where
  pub first : List (List Value)
  pub rest : List (List Value)
  pub whole : sent ≡ first ++ rest
  pub put_is : put ≡ map f first
  pub kept_is : kept ≡ map f rest

split-sends : (f : List Value → Message) (sent : List (List Value)) (put kept : List Message) → map f sent ≡ put ++ kept → IsSplit f sent put kept
split-sends f sent [] kept e = record { first = []; rest = sent; whole = refl; put_is = refl; kept_is = sym e }
split-sends f [] (m ∷ ms) kept e = cc
split-sends f (args ∷ sent) (m ∷ ms) kept e =
    let head : f args ≡ m = cc in
    let tail : map f sent ≡ ms ++ kept = cc in
    let more = split-sends f sent ms kept tail in
    record { first = args ∷ more.first; rest = more.rest; whole = ap (λ all. args ∷ all) more.whole; put_is = ap₂ (λ k ks. k ∷ ks) (sym head) more.put_is; kept_is = more.kept_is }

-- where those that depend on a name are of one sender, they are found among its messages
own-found : (test : Name → Bool) (u : Name) (ms : List Message) → AreOwn test u ms → filter (depends_on test) ms ≡ filter (depends_on test) (from u ms)
own-found test u [] own = refl
own-found test u (m ∷ ms) own = on (depends_on test m) (is_from u m) refl refl (own-found test u ms own.1)
  where
    on : (d f : Bool) → depends_on test m ≡ d → is_from u m ≡ f → filter (depends_on test) ms ≡ filter (depends_on test) (from u ms)
        → cond d (m ∷ filter (depends_on test) ms) (filter (depends_on test) ms) ≡ filter (depends_on test) (cond f (m ∷ from u ms) (from u ms))
    on true true de fe rest = rw de (ap (λ (zs : List Message). m ∷ zs) rest)
    on true false de fe rest = let no : is_from u m ≡ true = own.0 de in cc
    on false true de fe rest = rw de rest
    on false false de fe rest = rest

-- none of the settled ones depends on a name
settled-apart : (test : Name → Bool) (u : Name) (queue : List (List Value)) → filter (depends_on test) (map (settled u) queue) ≡ []
settled-apart test u queue = filter-none (depends_on test) (map (settled u) queue) (each-map (λ m. depends_on test m ≡ false) (settled u) queue (λ args. refl))

-- ---- what is seen
module _ (old : Shared) (st : Stands old) (u : Name) (unit : UnitState) (tree : Attempt) (tried : world.Attempt) (level : named u old.aheads ≡ None) (live : st.world.units u ≡ Some (still unit)) (same_root : tried.root ≡ tree.root) (same_effects : tried.effects ≡ done_by_root tree) where
  -- what the unit and its attempt have sent, as the world has it
  pub sent-seen : (a : Name) → held_sends u a (st.world.units u) ++ attempt_sends u a (Some tried) ≡ sent_to old u tree a
  sent-seen a = ap₂ (λ held sent. held ++ sent) (ap (held_sends u a) live ∙ sym (ap (held_to u a) level)) (ap₂ (λ n es. map (tentative u n) (effects_to a es)) same_root same_effects)

  -- and what of it is kept
  pub kept-seen : (a : Name) → drop (length (unsettled u (line st.world a))) (held_sends u a (st.world.units u) ++ attempt_sends u a (Some tried)) ≡ kept_to old u tree a
  kept-seen a = ap₂ (λ ms all. drop (length (unsettled u ms)) all) (ap₂ (λ taken mail. taken ++ mail) (st.seen.taken a) (st.seen.mails a)) (sent-seen a)

-- all of it depends on the attempt
pub kept-so : (old : Shared) (u : Name) (tree : Attempt) → named u old.aheads ≡ None → (a : Name) → (all : List (List Value)) × (kept_to old u tree a ≡ map (tentative u tree.root) all)
kept-so old u tree level a =
    let some = dropped-sends (tentative u tree.root) (length (unsettled u (line_at old a))) (effects_to a (done_by_root tree)) in
    (some.0, ap (λ held. drop (length (unsettled u (line_at old a))) (held_to u a held ++ map (tentative u tree.root) (effects_to a (done_by_root tree)))) level ∙ some.1)

-- ---- what an actor is still to answer for
module _ (old : Shared) (st : Stands old) (going : is_going old.end ≡ true) (u : Name) (tree : Attempt) (there : named u old.attempts ≡ Some tree) (level : named u old.aheads ≡ None) where
  abbrev w : World
  w = st.world

  abbrev s : State
  s = st.is_world.state

  abbrev test : Name → Bool
  test = same_name tree.root

  seen : SeenAs old w u tree
  seen = seen-as old st going u tree there

  way : IsUnderWay old u tree
  way = st.attempts going u tree there

  live : w.units u ≡ Some (still way.unit)
  live = level-there old st u way.unit level way.there

  made : IsMade s
  made = (replay-sounder old.setup st.formed w.history s st.is_world.replays).sound.made

  -- a message that depends on the attempt was sent by its unit
  own-of : (a : Name) → AreOwn test u (line w a)
  own-of a = line-each old.setup w s st.is_world.stands made a (λ v m. passes test m.depends ≡ true → same_name u v ≡ true) (λ v args is. cc)
      (λ v. sends-each w v a (λ m. passes test m.depends ≡ true → same_name u v ≡ true) (λ x args at is. absurd (no-unit v x at is)) (λ other args at is. same-unit v other at is))
    where
      no-unit : (v : Name) (x : LiveUnit) → w.units v ≡ Some x → same_name tree.root v ≡ true → ⊥
      no-unit v x at is =
          let no : None ≡ Some x = sym (no-unit-of-root old.setup w s st.is_world.stands made u seen.tried seen.there) ∙ ap w.units (seen.is.root ∙ same_name-equal tree.root v is) ∙ at in cc

      same-unit : (v : Name) (other : world.Attempt) → w.attempts v ≡ Some other → same_name tree.root other.root ≡ true → same_name u v ≡ true
      same-unit v other at is =
          let of = root old.setup w s st.is_world.stands v other at in
          let mine = root old.setup w s st.is_world.stands u seen.tried seen.there in
          let same : u ≡ v = maker u v mine.0.now.made of.0.now.made (sym mine.2 ∙ seen.is.root ∙ same_name-equal tree.root other.root is ∙ of.2) in
          ap (same_name u) (sym same) ∙ same_name-itself u

  -- Those that depend on the attempt are the first of what its root has sent to the actor, and what is kept is the rest.
  pub record IsPutFirst (a : Name) : Type 0 where
    pub first : List (List Value)
    pub rest : List (List Value)
    pub whole : effects_to a (done_by_root tree) ≡ first ++ rest
    pub put : filter (depends_on test) (line_at old a) ≡ map (tentative u tree.root) first
    pub kept : kept_to old u tree a ≡ map (tentative u tree.root) rest

  pub put-first : (a : Name) → IsPutFirst a
  put-first a = record {
    first = split.first;
    rest = split.rest;
    whole = split.whole;
    put = ap (filter (depends_on test)) (sym (ap₂ (λ taken mail. taken ++ mail) (st.seen.taken a) (st.seen.mails a)))
        ∙ own-found test u (line w a) (own-of a)
        ∙ ap (filter (depends_on test)) (at.stands ∙ ap (λ put. map (settled u) queue ++ put) split.put_is)
        ∙ filter-append (depends_on test) (map (settled u) queue) (map (tentative u tree.root) split.first)
        ∙ ap₂ (λ l r. l ++ r) (settled-apart test u queue) (filter-all (depends_on test) (map (tentative u tree.root) split.first) (each-map (λ m. depends_on test m ≡ true) (tentative u tree.root) split.first (λ args. same_name-itself tree.root)));
    kept = sym (kept-seen old st u way.unit tree seen.tried level live seen.is.root seen.is.effects a)
        ∙ ap (λ found. drop (length (unsettled u (line w a))) (held_sends u a (w.units u) ++ attempt_sends u a found)) (sym seen.there)
        ∙ queue-kept u (line w a) (sends w u a) queue (sends-tentative w u a) at
        ∙ split.kept_is;
  }
    where
      queue : List (List Value)
      queue = queue_of s.queues a u

      at : QueueStands u (line w a) (sends w u a) queue
      at = st.is_world.stands.queues a u

      all-sent : map (tentative u tree.root) (effects_to a (done_by_root tree)) ≡ sends w u a
      all-sent =
          sym (sent-seen old st u way.unit tree seen.tried level live seen.is.root seen.is.effects a ∙ ap (λ held. held_to u a held ++ map (tentative u tree.root) (effects_to a (done_by_root tree))) level)
          ∙ ap (λ found. held_sends u a (w.units u) ++ attempt_sends u a found) (sym seen.there)

      split : IsSplit (tentative u tree.root) (effects_to a (done_by_root tree)) at.put at.kept
      split = split-sends (tentative u tree.root) (effects_to a (done_by_root tree)) at.put at.kept (all-sent ∙ at.whole)
