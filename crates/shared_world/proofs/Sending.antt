-- A step of a task leaves what is kept standing, where what its root sends by it is put at once or kept.
use Rattle.std.proofs.Common.{◌≡◌, ◌∙◌, Bool, true, false, cond, drop, length, le_refl, inl, inr, List, [], ◌∷◌, ◌++◌, append-nil, append_assoc, map, refl, sym, ap, ap₂, subst}
use Rattle.std.specs.Option.{option_and_then, option_map}
use Rattle.std.specs.Prelude.{◌⊎◌, Option, None, Some}
use Rattle.actor_mailbox.specs.declared.message.Message.{Message}
use Rattle.actor_mails.specs.Mails.{mail_at}
use Rattle.eval_step.specs.Evaluation.{Evaluation}
use Rattle.serial_model.specs.declared.actor_state.ActorState.{ActorState}
use Rattle.serial_model.specs.declared.effect.Effect.{Effect}
use Rattle.serial_model.specs.declared.effect.What.{What}
use Rattle.serial_model.specs.declared.effect.What.TheVariants as what
use Rattle.serial_model.specs.State.{UnitState}
use Rattle.shared_world.proofs.ActorPieces.{not-same}
use Rattle.shared_world.proofs.Doing.{does-more, having_done}
use Rattle.shared_world.proofs.Gone.{SeenAs, seen-as}
use Rattle.shared_world.proofs.Leading.{ahead-still}
use Rattle.shared_world.proofs.Posting.{IsPosting, args-in, posting, posting-one, posting-rest, sends-append}
use Rattle.shared_world.proofs.Standing.{under-way}
use Rattle.shared_world.proofs.Steps.{seen-stepped, step-way}
use Rattle.shared_world.proofs.Steps.{stepped as stepped-on}
use Rattle.shared_world.specs.Ahead.{Ahead}
use Rattle.shared_world.specs.rows.Sending as row
use Rattle.shared_world.specs.rows.Sending.{IsPosted, Posts, PutOrKept, Send, args_to, kept_by, send_in, sends_in}
use Rattle.shared_world.specs.rows.Unsettled.{held_to}
use Rattle.shared_world.specs.rows.Tasks.{HasStepped, StepPosts}
use Rattle.shared_world.specs.Seen.{AttemptSeen, done_by_root, live_with, one_or_none}
use Rattle.shared_world.specs.Shared.{Shared, finished_at, is_going}
use Rattle.shared_world.specs.Stands.{IsUnderWay, Stands}
use Rattle.task_fork_join.specs.Attempt.{Attempt, machine_of}
use Rattle.task_fork_join.specs.declared.task_end.TaskEnd.{TaskEnd}
use Rattle.unit_table.specs.Board.{actor_at}
use Rattle.value_core.proofs.NamedLaws.{named-with_named, same_name-equal, same_name-itself}
use Rattle.value_core.specs.declared.value.Value.{Value}
use Rattle.value_core.specs.Named.{Name, named, same_name, with_named}
use Rattle.world_model.proofs.Kept.{gave-keeps}
use Rattle.world_model.specs.Gave as model
use Rattle.world_model.specs.IsWorld.{IsWorld}
use Rattle.world_model.specs.Message.{tentative, unsettled}
use Rattle.world_model.specs.rows.Attempts.{does_local, mails_done}
use Rattle.world_model.specs.World as world
use Rattle.world_model.specs.World.{World, attempt_sends, held_sends, is_empty, kept_sends, line, put_last, with_at}
use Rattle.world_model.specs.World.{is_some as is_there}

module _ (old : Shared) (st : Stands old) (on_going : is_going old.end ≡ true) (u task : Name) (tree : Attempt) (there : named u old.attempts ≡ Some tree) (machine : Evaluation) (is : machine_of tree task ≡ Some machine) (g : HasStepped old task tree machine) where
  abbrev w : World
  w = st.world

  abbrev way : IsUnderWay old u tree
  way = st.attempts on_going u tree there

  abbrev seen-tried : SeenAs old w u tree
  seen-tried = seen-as old st on_going u tree there

  abbrev tried : world.Attempt
  tried = seen-tried.tried

  -- the unit, as it is seen
  live : w.units u ≡ Some (live_with (named u old.aheads) way.unit)
  live = st.seen.units u ∙ ap (option_map (live_with (named u old.aheads))) way.there

  held-so : (to : Name) (h : Option Ahead) → held_sends u to (Some (live_with h way.unit)) ≡ held_to u to h
  held-so to None = refl
  held-so to (Some h) = refl

  -- the world, where the root has done these, with the mail of what is kept
  record IsAlong (s : Shared) (es : List Effect) : Type 0 where
    at : World
    is_world : IsWorld old.setup at
    rest : at ≡ record w { attempts = at.attempts; mails = at.mails }
    here : at.attempts u ≡ Some (having_done tried es)
    others : (v : Name) → same_name v u ≡ false → at.attempts v ≡ w.attempts v
    mails : (a : Name) → at.mails a ≡ mail_at s.mails a
    taken : s.taken ≡ old.taken
    aheads : s.aheads ≡ old.aheads
    actors : (a : Name) → actor_at s.board a ≡ actor_at old.board a

  -- before the step
  first : IsAlong old (done_by_root tree)
  first = record {
    at = record w { attempts = with_at w.attempts u (Some (having_done tried (done_by_root tree))) };
    is_world = subst (λ (es : List Effect). IsWorld old.setup (record w { attempts = with_at w.attempts u (Some (having_done tried es)) })) (append-nil tried.effects ∙ seen-tried.is.effects) (does-more old.setup w st.is_world u tried seen-tried.there []);
    rest = refl;
    here = ap (λ c. cond c (Some (having_done tried (done_by_root tree))) (w.attempts u)) (same_name-itself u);
    others = λ v not. ap (λ c. cond c (Some (having_done tried (done_by_root tree))) (w.attempts v)) not;
    mails = st.seen.mails;
    taken = refl;
    aheads = refl;
    actors = λ a. refl;
  }

  -- the root has done one effect more, and the mail is that of the world which is there then
  module _ (s new : Shared) (es : List Effect) (e : Effect) (along : IsAlong s es) (taken : new.taken ≡ s.taken) (aheads : new.aheads ≡ s.aheads) (actors : (a : Name) → actor_at new.board a ≡ actor_at s.board a) where
    abbrev after : World
    after = does_local along.at u (having_done tried es) e

    next : ((a : Name) → after.mails a ≡ mail_at new.mails a) → IsAlong new (es ++ e ∷ [])
    next mails = record {
      at = after;
      is_world = gave-keeps old.setup st.formed along.at after None along.is_world (model.goes_on u (having_done tried es) (e ∷ []) along.here);
      rest = ap (λ (k : World). record k { attempts = after.attempts; mails = after.mails }) along.rest;
      here = ap (λ c. cond c (Some (having_done tried (es ++ e ∷ []))) (along.at.attempts u)) (same_name-itself u);
      others = λ v not. ap (λ c. cond c (Some (having_done tried (es ++ e ∷ []))) (along.at.attempts v)) not ∙ along.others v not;
      mails = mails;
      taken = taken ∙ along.taken;
      aheads = aheads ∙ along.aheads;
      actors = λ a. actors a ∙ along.actors a;
    }

  -- ---- a send
  module _ (s : Shared) (es : List Effect) (along : IsAlong s es) (sends : List Send) (sends_are : sends ≡ sends_in es) (to : Name) (args : List Value) where
    abbrev message : Message
    message = tentative u tree.root args

    line-so : line along.at to ≡ one_or_none (named to s.taken) ++ mail_at s.mails to
    line-so = ap₂ (λ ts ms. ts ++ ms) (ap (λ (k : World). k.taken to) along.rest ∙ st.seen.taken to ∙ ap (λ ts. one_or_none (named to ts)) (sym along.taken)) (along.mails to)

    pending : held_sends u to (along.at.units u) ++ attempt_sends u to (along.at.attempts u) ≡ held_to u to (named u s.aheads) ++ map (tentative u tree.root) (args_to to sends)
    pending =
        ap₂ (λ own sent. own ++ sent)
        (ap (held_sends u to) (ap (λ (k : World). k.units u) along.rest ∙ live) ∙ held-so to (named u old.aheads) ∙ ap (λ hs. held_to u to (named u hs)) (sym along.aheads))
        (ap (attempt_sends u to) along.here ∙ ap₂ (λ n all. map (tentative u n) all) seen-tried.is.root (sym (args-in to es) ∙ ap (args_to to) (sym sends_are)))

    kept-so : kept_sends along.at u to ≡ kept_by s u tree.root sends to
    kept-so = ap₂ (λ ms all. drop (length (unsettled u ms)) all) line-so pending

    actor-so : along.at.actors to ≡ actor_at s.board to
    actor-so = ap (λ (k : World). k.actors to) along.rest ∙ st.seen.actors to ∙ sym (along.actors to)

    -- where it comes to
    abbrev put_at : Option ActorState → List Message → Name → List Message
    put_at found kept = cond (is_there found) (cond (is_empty kept) (put_last along.at to (tentative u tried.root args)) along.at.mails) along.at.mails

    put-so : (new : Shared) → IsPosted s u tree.root sends to args new → (a : Name) → put_at (along.at.actors to) (kept_sends along.at u to) a ≡ mail_at new.mails a
    put-so new p a = ap₂ (λ found kept. put_at found kept a) (actor-so ∙ p.there) (kept-so ∙ p.none_kept) ∙ in-mail (same_name a to) refl ∙ ap (λ (k : Shared). mail_at k.mails a) (sym p.others)
      where
        in-mail : (c : Bool) → same_name a to ≡ c → cond c (along.at.mails to ++ tentative u tried.root args ∷ []) (along.at.mails a) ≡ mail_at p.mails a
        in-mail true e = ap₂ (λ ms n. ms ++ tentative u n args ∷ []) (along.mails to) seen-tried.is.root ∙ sym p.mailed.here ∙ ap (mail_at p.mails) (sym (same_name-equal a to e))
        in-mail false e = along.mails a ∙ sym (p.mailed.others a (not-same a to e))

    keep-so : (new : Shared) → (actor_at s.board to ≡ None) ⊎ (kept_by s u tree.root sends to ≡ [] → ⊥) → new ≡ s → (a : Name) → put_at (along.at.actors to) (kept_sends along.at u to) a ≡ mail_at new.mails a
    keep-so new why same a = stays why ∙ along.mails a ∙ ap (λ (k : Shared). mail_at k.mails a) (sym same)
      where
        full : (kept : List Message) → (kept ≡ [] → ⊥) → cond (is_empty kept) (put_last along.at to (tentative u tried.root args)) along.at.mails a ≡ along.at.mails a
        full [] some = absurd (some refl)
        full (m ∷ ms) some = refl

        there-or-not : (found : Option ActorState) → (kept_sends along.at u to ≡ [] → ⊥) → put_at found (kept_sends along.at u to) a ≡ along.at.mails a
        there-or-not None some = refl
        there-or-not (Some actor) some = full (kept_sends along.at u to) some

        stays : (actor_at s.board to ≡ None) ⊎ (kept_by s u tree.root sends to ≡ [] → ⊥) → put_at (along.at.actors to) (kept_sends along.at u to) a ≡ along.at.mails a
        stays (inl none) = ap (λ found. put_at found (kept_sends along.at u to) a) (actor-so ∙ none)
        stays (inr some) = there-or-not (along.at.actors to) (λ e. some (sym kept-so ∙ e))

  -- ---- one effect after another
  abbrev GoesAlong : List Effect → Type 0
  GoesAlong es = (done : List Effect) (s new : Shared) → IsAlong s done → (sends : List Send) → sends ≡ sends_in done → Posts s u tree.root sends (sends_in es) new → IsAlong new (done ++ es)

  along-next : (e : Effect) (es : List Effect) → GoesAlong es → GoesAlong (e ∷ es)
  along-next e es goes-on done s new along sends same is = on e.what refl is
    where
      then : (mid : Shared) → IsAlong mid (done ++ e ∷ []) → (sent : List Send) → sent ≡ sends_in (done ++ e ∷ []) → Posts mid u tree.root sent (sends_in es) new → IsAlong new (done ++ e ∷ es)
      then mid there sent sent_is rest = subst (λ l. IsAlong new l) (append_assoc done (e ∷ []) es) (goes-on (done ++ e ∷ []) mid new there sent sent_is rest)

      quiet : (w : What) → e.what ≡ w → ((a : Name) → (does_local along.at u (having_done tried done) e).mails a ≡ along.at.mails a) → send_in w ≡ [] → Posts s u tree.root sends (sends_in es) new → IsAlong new (done ++ e ∷ es)
      quiet w is_w no_mail none rest = then s (next s s done e along refl refl (λ a. refl) (λ a. no_mail a ∙ along.mails a)) sends
          (same ∙ sym (append-nil (sends_in done)) ∙ ap (λ l. sends_in done ++ l) (sym (append-nil (send_in e.what) ∙ ap send_in is_w ∙ none)) ∙ sym (sends-append done (e ∷ []))) rest

      on : (w : What) → e.what ≡ w → Posts s u tree.root sends (send_in w ++ sends_in es) new → IsAlong new (done ++ e ∷ es)
      on (what.Bytes text) is_w rest = quiet (what.Bytes text) is_w (λ a. ap (λ k. mails_done along.at u (having_done tried done) k a) is_w) refl rest
      on (what.Spawn name behaviour state) is_w rest = quiet (what.Spawn name behaviour state) is_w (λ a. ap (λ k. mails_done along.at u (having_done tried done) k a) is_w) refl rest
      on (what.Become behaviour state) is_w rest = quiet (what.Become behaviour state) is_w (λ a. ap (λ k. mails_done along.at u (having_done tried done) k a) is_w) refl rest
      on (what.Send to args) is_w rest = by rest.1
        where
          way_to : IsPosting s rest.0
          way_to = posting-one s u tree.root sends to args rest.0 rest.1

          mails_so : ((a : Name) → put_at s done along sends same to args (along.at.actors to) (kept_sends along.at u to) a ≡ mail_at rest.0.mails a) → (a : Name) → (does_local along.at u (having_done tried done) e).mails a ≡ mail_at rest.0.mails a
          mails_so so a = ap (λ k. mails_done along.at u (having_done tried done) k a) is_w ∙ so a

          go : ((a : Name) → (does_local along.at u (having_done tried done) e).mails a ≡ mail_at rest.0.mails a) → IsAlong new (done ++ e ∷ es)
          go mails = then rest.0
              (next s rest.0 done e along (ap (λ (k : Shared). k.taken) (posting-rest s rest.0 way_to)) (ap (λ (k : Shared). k.aheads) (posting-rest s rest.0 way_to)) way_to.actors mails)
              (sends ++ (to, args) ∷ []) (ap (λ l. l ++ (to, args) ∷ []) same ∙ ap (λ k. sends_in done ++ k) (sym (append-nil (send_in e.what) ∙ ap send_in is_w)) ∙ sym (sends-append done (e ∷ []))) rest.2

          by : PutOrKept s u tree.root sends to args rest.0 → IsAlong new (done ++ e ∷ es)
          by (row.put p) = go (mails_so (put-so s done along sends same to args rest.0 p))
          by (row.keep why is_same) = go (mails_so (keep-so s done along sends same to args rest.0 why is_same))

  along-posts : (es : List Effect) → GoesAlong es
  along-posts [] = λ done s new along sends same is. subst (λ l. IsAlong new l) (sym (append-nil done)) (subst (λ k. IsAlong k done) (sym is) along)
  along-posts (e ∷ es) = along-next e es (along-posts es)

  -- ---- what stands then
  module _ (mid : Shared) (posts : Posts old u tree.root (sends_in (done_by_root tree)) (sends_in g.more) mid) where
    abbrev p : IsPosting old mid
    p = posting old u tree.root (sends_in (done_by_root tree)) (sends_in g.more) mid posts

    abbrev along : IsAlong mid (done_by_root tree ++ g.more)
    along = along-posts g.more (done_by_root tree) old mid first (sends_in (done_by_root tree)) refl posts

    abbrev stepped : Shared
    stepped = record old { attempts = with_named old.attempts u g.after; mails = mid.mails; board = mid.board }

    seen : (v : Name) (c : Bool) → same_name v u ≡ c → AttemptSeen old.versions (cond c (Some g.after) (named v old.attempts)) (along.at.attempts v)
    seen v true e = subst (AttemptSeen old.versions (Some g.after)) (sym (ap along.at.attempts (same_name-equal v u e) ∙ along.here)) (seen-stepped old.versions tree g.after tried (done_by_root tree ++ g.more) g.step.stays seen-tried.is (sym g.does))
    seen v false e = subst (AttemptSeen old.versions (named v old.attempts)) (sym (along.others v e)) (st.seen.attempts on_going v)

    grows : (f : Name) (v : Value) → finished_at old.board f ≡ Some v → finished_at mid.board f ≡ Some v
    grows f v fin = ap (option_and_then (λ (k : UnitState). k.finished)) (p.states f) ∙ fin

    own : IsUnderWay stepped u g.after
    own = under-way (record old { attempts = with_named old.attempts u g.after }) stepped u g.after refl (p.states u) (λ ref. refl) grows (le_refl (length old.history)) (step-way old st.formed u task tree way machine g.moved is g.same g.of g.after g.went g.step)

    attempts : (v : Name) (other : Attempt) (c : Bool) → same_name v u ≡ c → cond c (Some g.after) (named v old.attempts) ≡ Some other → IsUnderWay stepped v other
    attempts v other true is_u e = let so : g.after ≡ other = cc in subst (λ q. IsUnderWay stepped q other) (sym (same_name-equal v u is_u)) (subst (IsUnderWay stepped u) so own)
    attempts v other false is_u e = under-way old stepped v other refl (p.states v) (λ ref. refl) grows (le_refl (length old.history)) (st.attempts on_going v other e)

    stands : Stands stepped
    stands = record {
      formed = st.formed;
      world = along.at;
      is_world = along.is_world;
      seen = record {
        history = ap (λ (k : World). k.history) along.rest ∙ st.seen.history;
        refs = λ r. ap (λ (k : World). k.refs r) along.rest ∙ st.seen.refs r;
        units = λ q. ap (λ (k : World). k.units q) along.rest ∙ st.seen.units q ∙ sym (ap (option_map (live_with (named q old.aheads))) (p.states q));
        actors = λ a. ap (λ (k : World). k.actors a) along.rest ∙ st.seen.actors a ∙ sym (p.actors a);
        taken = λ a. ap (λ (k : World). k.taken a) along.rest ∙ st.seen.taken a;
        mails = along.mails;
        attempts = λ go v. subst (λ f. AttemptSeen old.versions f (along.at.attempts v)) (sym (named-with_named v u g.after old.attempts)) (seen v (same_name v u) refl);
        bytes = ap (λ (k : World). k.bytes) along.rest ∙ st.seen.bytes;
        made = ap (λ (k : World). k.made) along.rest ∙ st.seen.made;
        end = ap (λ (k : World). k.end) along.rest ∙ st.seen.end;
      };
      machines = p.machines st.machines;
      attempts = λ go v other at. attempts v other (same_name v u) refl (sym (named-with_named v u g.after old.attempts) ∙ at);
      numbers = st.numbers;
      aheads = λ v h leads. ahead-still old.board mid.board v h (p.states v) (st.aheads v h leads);
    }

    -- what is kept stands, once the task has taken the step and what its root sent by it is put or kept
    pub posted : Stands (record mid { attempts = with_named mid.attempts u g.after })
    posted = subst (λ (k : Shared). Stands (record k { attempts = with_named k.attempts u g.after })) (sym (posting-rest old mid p)) stands

  -- by a step, whatever that ends
  pub posted-by : (ended : Option TaskEnd) (ahead : Option Ahead) (mid : Shared) → StepPosts ended ahead old u tree.root (sends_in (done_by_root tree)) (sends_in g.more) mid → Stands (record mid { attempts = with_named mid.attempts u g.after })
  posted-by None ahead mid posts = posted mid posts
  posted-by (Some e) (Some h) mid posts = posted mid posts
  posted-by (Some e) None mid same = subst (λ (k : Shared). Stands (record k { attempts = with_named k.attempts u g.after })) (sym same) (stepped-on old st on_going u task tree there machine g.moved is g.same g.of g.after g.went g.step)
