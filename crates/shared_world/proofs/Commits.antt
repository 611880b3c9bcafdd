-- An attempt whose root is at its end keeps what is kept standing: it commits, or ends the run.
use Rattle.std.proofs.Common.{◌≡◌, ◌∙◌, ◌≤◌, ℕ, suc, Bool, true, false, cond, drop, length, length-append, List, [], ◌∷◌, ◌++◌, inr, refl, sym, ap, ap₂, subst, arith}
use Rattle.std.specs.Option.{option_and_then, option_map, option_or}
use Rattle.std.specs.Prelude.{Option, None, Some, All, Contains, IfSome}
use Rattle.actor_mailbox.specs.declared.message.Message.{Message}
use Rattle.actor_mailbox.specs.Messages.{settle, settle_one}
use Rattle.actor_mails.specs.Mails.{mail_at}
use Rattle.ref_store.proofs.StoreLaws.{above_committed, above_pruned, read_below}
use Rattle.ref_store.specs.declared.version.Version.{Version}
use Rattle.ref_store.specs.Store.{IsAbove, committed, versions_of}
use Rattle.serial_model.proofs.runs.LastTurns.{replay-sounder}
use Rattle.serial_model.proofs.runs.Made.{IsMade}
use Rattle.serial_model.specs.declared.end.End.{End}
use Rattle.serial_model.specs.declared.end.End.TheVariants as ending
use Rattle.serial_model.specs.declared.entry.Entry.TheVariants.{Run}
use Rattle.serial_model.specs.declared.halt.Halt.TheVariants as halt
use Rattle.serial_model.specs.declared.request.Request.TheVariants as request
use Rattle.serial_model.specs.Standing.{Agrees, Start}
use Rattle.serial_model.specs.State.{UnitState}
use Rattle.serial_model.specs.Step.{answered, next_made, next_of, with_made}
use Rattle.serial_model.specs.Task as outcome
use Rattle.serial_model.specs.Task.{Result, transaction}
use Rattle.shared_world.proofs.ActorPieces.{actor_of_piece}
use Rattle.shared_world.proofs.Effects.{act-actors, act-machines, act-states, spawned-over}
use Rattle.shared_world.proofs.Gone.{SeenAs, go-actors, go-machines, go-same, now-stays, reads-stay, seen-as, seen-stay, stayed}
use Rattle.shared_world.proofs.Lists.{among-contains, named-among, names_of, none-there, over-read, values-all, values-so, values_of}
use Rattle.shared_world.proofs.Leading.{finished-is-level, leads-apart, level-there, live_on, seen-here, seen-same, ahead-still}
use Rattle.shared_world.proofs.Live.{state-there}
use Rattle.shared_world.proofs.Posted.{kept-seen}
use Rattle.shared_world.proofs.Standing.{Grows, ref-committed, root-in, under-way}
use Rattle.shared_world.proofs.States.{machines-same, same-pieces}
use Rattle.shared_world.specs.declared.given.Given.{Given}
use Rattle.shared_world.specs.rows.Actors.{spawned}
use Rattle.shared_world.specs.rows.Commits.{Commits}
use Rattle.shared_world.specs.rows.Pieces.{Ends}
use Rattle.shared_world.specs.rows.Tasks.{EndGives}
use Rattle.shared_world.specs.rows.Unsettled.{kept_to}
use Rattle.shared_world.specs.Seen.{done_in, one_or_none}
use Rattle.shared_world.specs.Shared.{Shared, finished_at, is_going, ref_now, state_at, unit_state}
use Rattle.shared_world.specs.Stands.{IsMachine, IsUnderWay, Stands, start_of}
use Rattle.task_fork_join.proofs.Ends.{ends_are_of_transactions}
use Rattle.task_fork_join.specs.Attempt.{Attempt, end_at, outcome_of}
use Rattle.task_fork_join.specs.declared.task.Task.{Task}
use Rattle.task_fork_join.specs.declared.task_end.TaskEnd.{TaskEnd}
use Rattle.task_fork_join.specs.declared.task_end.TaskEnd.TheVariants as end
use Rattle.task_fork_join.specs.Running.{EndsAs}
use Rattle.txn_commit.specs.Conflict.{IsUnchanged}
use Rattle.txn_snapshot.specs.SnapshotAnswer.{snapshot_of}
use Rattle.txn_snapshot.specs.SnapshotTask.{SnapshotTask}
use Rattle.ref_store.proofs.VersionLaws.{late_at}
use Rattle.unit_table.specs.Board.{actor_at, unit_at}
use Rattle.unit_table.specs.declared.record.Record.{Record}
use Rattle.unit_table.specs.declared.unit.Unit.{Unit}
use Rattle.value_core.proofs.NamedLaws.{same_name-equal, same_name-itself}
use Rattle.value_core.specs.declared.code.Code.{Code}
use Rattle.value_core.specs.declared.value.Value.{Value}
use Rattle.value_core.specs.Named.{Name, Named, Rises, is_among, named, same_name}
use Rattle.value_core.specs.Place.{Spot}
use Rattle.world_model.proofs.Kept.{gave-keeps}
use Rattle.world_model.specs.Gave as row
use Rattle.world_model.specs.IsWorld.{IsWorld}
use Rattle.world_model.specs.rows.Attempts.{Learns, learned, with_attempt}
use Rattle.world_model.specs.rows.Commits.{IsOver, committed as committed_world, effects_bytes, effects_unit}
use Rattle.world_model.specs.rows.Endings as end_row
use Rattle.world_model.specs.rows.Endings.{EndsRun, ended_by}
use Rattle.world_model.specs.StandsFor.{AttemptStands, IsAttempt, IsEnd}
use Rattle.world_model.specs.World as world
use Rattle.world_model.specs.World.{AttemptEnd, LiveUnit, World, attempt_sends, held_sends, line, still, with_at}
use Rattle.world_model.specs.Message.{unsettled}
use Rattle.serial_model.specs.Log.{Log}
use Rattle.unit_table.specs.Piece.{unit_in}

-- a ref with no version above the snapshot reads now as it does there
unchanged-reads : (versions : Named (List Version)) (snapshot : ℕ) (r : Name) → IsUnchanged versions snapshot r → ref_now versions r ≡ snapshot_of versions snapshot r
unchanged-reads versions snapshot r is = sym (ap (option_map (λ (v : Version). v.value)) (late_at snapshot (versions_of versions r) is))

module _ (old : Shared) (st : Stands old) (on_going : old.end ≡ None) (u : Name) (x : Unit) (tree : Attempt) (unit_there : unit_at old.board u ≡ Some x) (there : named u old.attempts ≡ Some tree) (level : named u old.aheads ≡ None)
    (ended : TaskEnd) (is_ended : end_at tree ≡ Some ended) (valid : All (IsUnchanged old.versions tree.snapshot) tree.reads) (writes : Named Value)
    (so : (v : Value) → outcome_of ended ≡ outcome.Value v → (t : Task) → named tree.root tree.tasks ≡ Some t → t.log.log.writes ≡ writes) where
  abbrev w : World
  w = st.world

  abbrev unit : UnitState
  unit = unit_state x

  going : is_going old.end ≡ true
  going = ap is_going on_going

  seen : SeenAs old w u tree
  seen = seen-as old st going u tree there

  abbrev tried : world.Attempt
  tried = seen.tried

  way : IsUnderWay old u tree
  way = st.attempts going u tree there

  same_unit : way.unit ≡ unit
  same_unit = let both : Some way.unit ≡ Some unit = sym way.there ∙ state-there old.board u x unit_there in cc

  live : w.units u ≡ Some (still unit)
  live = level-there old st u unit level (state-there old.board u x unit_there)

  attempt : IsAttempt old.setup u (still unit) tried
  attempt = subst (λ found. AttemptStands old.setup u (Some (still unit)) found) seen.there (subst (λ found. AttemptStands old.setup u found (w.attempts u)) live (st.is_world.stands.attempts u))

  asks : next_of old.setup unit ≡ halt.Ask (request.Dosync way.body way.values) way.at
  asks = subst (λ (k : UnitState). next_of old.setup k ≡ halt.Ask (request.Dosync way.body way.values) way.at) same_unit way.asks

  same_body : tried.body ≡ way.body
  same_body = let both = sym attempt.asks ∙ asks in cc

  same_values : tried.values ≡ way.values
  same_values = let both = sym attempt.asks ∙ asks in cc

  same_at : tried.at ≡ way.at
  same_at = let both = sym attempt.asks ∙ asks in cc

  -- the values of the units that are finished
  abbrev names : List Name
  names = names_of old.board.records

  abbrev joined : List (Name × Value)
  joined = values_of (finished_at old.board) names

  finished-joined : (f : Name) (v : Value) → finished_at old.board f ≡ Some v → Contains joined (f, v)
  finished-joined f v is = values-all (finished_at old.board) names f v (among (named f old.board.records) refl) is
    where
      among : (found : Option Record) → named f old.board.records ≡ found → is_among f names ≡ true
      among None none = let no : None ≡ Some v = sym (nothing none) ∙ is in cc
        where
          nothing : named f old.board.records ≡ None → finished_at old.board f ≡ None
          nothing none = ap (λ (found : Option Record). option_and_then (λ (k : UnitState). k.finished) (option_map unit_state (option_and_then unit_in (option_and_then (λ (r : Record). r.piece) found)))) none
      among (Some r) some = named-among f r old.board.records some

  abbrev result : AttemptEnd
  result = record { outcome = outcome_of ended; writes = writes }

  abbrev tried2 : world.Attempt
  tried2 = learned tried tree.reads joined (Some result)

  abbrev w2 : World
  w2 = with_attempt w u tried2

  made : IsMade st.is_world.state
  made = (replay-sounder old.setup st.formed w.history st.is_world.state st.is_world.replays).sound.made

  root_task : (t : Task) × (named tree.root tree.tasks ≡ Some t)
  root_task = root-in old u tree way

  -- what the root has done
  root-done : tried.effects ≡ root_task.0.log.log.effects
  root-done = seen.is.effects ∙ ap done_in root_task.1

  -- the attempt ended as its transaction does
  is_end : IsEnd old.setup unit.actor tried2 (Some result)
  is_end around agrees = record {
    outcome = transacted (λ (k : Result). k.outcome ≡ outcome_of ended) ends.outcome;
    writes = λ v value. transacted (λ (k : Result). k.log.writes ≡ writes) (ap (λ (k : Log). k.writes) logs ∙ so v value root_task.0 root_task.1);
    effects_same = λ v value. transacted (λ (k : Result). k.log.effects ≡ tried.effects) (ap (λ (k : Log). k.effects) logs ∙ sym root-done);
  }
    where
      start : Start
      start = start_of old.setup u way.unit way.body way.values

      agree : Agrees start (snapshot_of old.versions tree.snapshot) tree.reads (finished_at old.board) around
      agree = record {
        program = agrees.program;
        fuel = agrees.fuel;
        actor = agrees.actor ∙ ap (λ (k : UnitState). k.actor) (sym same_unit);
        store = λ r among. agrees.reads r (among-contains r tree.reads among) ∙ seen.is.store r;
        finished_so = λ f v is. agrees.joined f v (finished-joined f v is);
      }

      ends : EndsAs start way.at tree ended around
      ends = ends_are_of_transactions start way.at (snapshot_of old.versions tree.snapshot) (finished_at old.board) tree ended way.runs is_ended around agree

      logs : (transaction around start.name way.at way.body way.values).log ≡ root_task.0.log.log
      logs = ends.log root_task.0 root_task.1

      transacted : (P : Result → Type 0) → P (transaction around start.name way.at way.body way.values) → P (transaction around tried.root tried.at tried.body tried.values)
      transacted P is =
          subst (λ n. P (transaction around n tried.at tried.body tried.values)) (ap (next_made u) same_unit ∙ sym attempt.root)
          (subst (λ s. P (transaction around start.name s tried.body tried.values)) (sym same_at)
          (subst (λ b. P (transaction around start.name way.at b tried.values)) (sym same_body)
          (subst (λ vs. P (transaction around start.name way.at way.body vs)) (sym same_values) is)))

  learns : Learns old.setup w u (still unit) tried tree.reads joined (Some result)
  learns = record {
    there = live;
    attempt = seen.there;
    stays = λ r has. absurd (none-there r (subst (λ all. Contains all r) seen.is.reads has));
    over = λ f v has. inr (finished f v (values-so (finished_at old.board) names f v has));
    end = is_end;
  }
    where
      finished : (f : Name) (v : Value) → finished_at old.board f ≡ Some v → (y : LiveUnit) × (w.units f ≡ Some y) × (y.takes ≡ None) × (y.from.finished ≡ Some v)
      finished f v is = on (state_at old.board f) refl is
        where
          on : (found : Option UnitState) → state_at old.board f ≡ found → option_and_then (λ (k : UnitState). k.finished) found ≡ Some v
              → (y : LiveUnit) × (w.units f ≡ Some y) × (y.takes ≡ None) × (y.from.finished ≡ Some v)
          on None e so = cc
          on (Some k) e so = (still k, level-there old st f k (finished-is-level old st f v is) e, refl, so)

  is_w2 : IsWorld old.setup w2
  is_w2 = gave-keeps old.setup st.formed w w2 None st.is_world (row.learns u (still unit) tried tree.reads joined (Some result) learns)

  over : IsOver old.setup w2 u (still unit) tried2 result
  over = record {
    going = st.seen.end ∙ on_going;
    there = live;
    takes = refl;
    held = refl;
    attempt = ap (λ c. cond c (Some tried2) (w.attempts u)) (same_name-itself u);
    ended = refl;
    valid = λ r has. st.seen.refs r ∙ unchanged-reads old.versions tree.snapshot r (unchanged r has) ∙ sym (seen.is.store r);
  }
    where
      unchanged : (r : Name) → Contains tree.reads r → IsUnchanged old.versions tree.snapshot r
      unchanged r has = subst (IsUnchanged old.versions tree.snapshot) has.2 (valid has.0 r has.1)

  -- the run ends by the attempt
  ends-run : (e : End) (found : Given) (new : Shared) → Ends old u e found new → EndsRun old.setup w2 (Run u) e → Stands new
  ends-run e found new r end_so = subst Stands (sym r.others) (record {
    formed = st.formed;
    world = ended_by w2 (Run u) e;
    is_world = gave-keeps old.setup st.formed w2 (ended_by w2 (Run u) e) (Some (Run u)) is_w2 (row.ends (Run u) e end_so);
    seen = record {
      history = ap (λ h. h ++ Run u ∷ []) st.seen.history;
      refs = st.seen.refs;
      units = λ q. seen-same old st new.board q (same-pieces old.board new.board r.pieces q);
      actors = λ a. st.seen.actors a ∙ sym (ap actor_of_piece (r.pieces a));
      taken = st.seen.taken;
      mails = st.seen.mails;
      attempts = λ g v. cc;
      bytes = st.seen.bytes;
      made = st.seen.made;
      end = refl;
    };
    machines = machines-same (IsMachine old.setup) old.board new.board r.pieces st.machines;
    attempts = λ g v t is. cc;
    numbers = λ q k d in_range. let long = length-append old.history (Run u ∷ []) in let below = st.numbers q k d in_range in omega (arith, long, below);
    aheads = λ k h leads. ahead-still old.board new.board k h (same-pieces old.board new.board r.pieces k) (st.aheads k h leads);
  })

  -- the attempt commits
  module _ (v : Value) (found : Given) (new : Shared) (is_value : ended ≡ end.Value v) (r : Commits old u x tree v found new) (same_writes : r.log.log.writes ≡ writes) where
    abbrev versions : Named (List Version)
    versions = committed old.versions r.log.log.writes (suc (length old.history))

    rises : Rises r.log.log.writes
    rises = r.done.rises

    abbrev after : Shared
    after = record old { history = old.history ++ Run u ∷ []; versions = new.versions; attempts = new.attempts; bytes = old.bytes ++ effects_bytes r.log.log.effects; board = new.board; mails = new.mails; taken = new.taken }

    abbrev w3 : World
    w3 = committed_world w2 u (still unit) tried2 result v

    all_effects : tried.effects ≡ r.log.log.effects
    all_effects = root-done ∙ ap (λ (k : SnapshotTask). k.log.effects) (sym (subst (λ found. IfSome found (λ (k : Task). r.log ≡ k.log)) root_task.1 r.done.root))

    longer : length old.history ≤ length (old.history ++ Run u ∷ [])
    longer = let long = length-append old.history (Run u ∷ []) in omega (arith, long)

    refs : (q : Name) → w3.refs q ≡ ref_now new.versions q
    refs q =
        over-read writes w2.refs (subst Rises same_writes rises) q
        ∙ ap (λ found. option_or (named q writes) found) (st.seen.refs q)
        ∙ ap (λ (ws : Named Value). option_or (named q ws) (ref_now old.versions q)) (sym same_writes)
        ∙ sym (ref-committed old.versions r.log.log.writes (suc (length old.history)) rises q)
        ∙ sym (now-stays old st going u new.attempts r.goes.attempts versions new.versions r.versions q)

    abbrev unit_after : UnitState
    unit_after = answered (with_made (effects_unit r.log.log.effects unit)) v

    states : (q : Name) → state_at new.board q ≡ cond (same_name q u) (Some unit_after) (state_at old.board q)
    states = act-states r.log.log.effects u tree old new r.board r.acts x unit_there unit_after (go-same u x r.unit tree old.board r.board unit_there r.goes.tasks unit_after r.stands.state)

    units : (q : Name) → w3.units q ≡ live_on old st new.board q
    units q = on (same_name q u) refl (states q)
      where
        on : (c : Bool) → same_name q u ≡ c → state_at new.board q ≡ cond c (Some unit_after) (state_at old.board q)
            → cond c (Some (still (answered (with_made (effects_unit tried.effects unit)) v))) (w2.units q) ≡ live_on old st new.board q
        on true same e = ap (λ es. Some (still (answered (with_made (effects_unit es unit)) v))) all_effects ∙ seen-here old st new.board u q unit_after level same e
        on false other e = seen-same old st new.board q e

    actors : (a : Name) → w3.actors a ≡ actor_at new.board a
    actors a =
        spawned-over tried.effects w2.actors a
        ∙ ap₂ (λ es below. option_or (spawned es a) below) all_effects (st.seen.actors a)
        ∙ sym (act-actors r.log.log.effects u tree old new r.board r.acts (go-actors u x r.unit tree old.board r.board unit_there r.goes.tasks) a)

    abbrev test : Name → Bool
    test = same_name tree.root

    -- what was put is settled in its place, and what was kept comes last
    mails : (a : Name) → w3.mails a ≡ mail_at new.mails a
    mails a =
        ap₂ (λ n ms. settle (same_name n) (w.mails a ++ ms)) seen.is.root
        (ap (λ found. drop (length (unsettled u (line w a))) (held_sends u a (w.units u) ++ attempt_sends u a found)) (ap (λ c. cond c (Some tried2) (w.attempts u)) (same_name-itself u)) ∙ kept-seen old st u unit tree tried2 level live seen.is.root seen.is.effects a)
        ∙ ap (λ ms. settle test (ms ++ kept_to old u tree a)) (st.seen.mails a)
        ∙ sym (r.sends.mails a)

    taken : (a : Name) → w3.taken a ≡ one_or_none (named a new.taken)
    taken a = ap₂ (λ n ms. settle (same_name n) ms) seen.is.root (st.seen.taken a) ∙ one (named a old.taken) ∙ sym (ap one_or_none (r.sends.taken a))
      where
        one : (o : Option Message) → settle test (one_or_none o) ≡ one_or_none (option_map (settle_one test) o)
        one None = refl
        one (Some m) = refl

    others : (k : Name) → (k ≡ u → ⊥) → with_at w2.attempts u None k ≡ w.attempts k
    others k other = on (same_name k u) refl
      where
        on : (c : Bool) → same_name k u ≡ c → cond c None (cond c (Some tried2) (w.attempts k)) ≡ w.attempts k
        on true e = absurd (other (same_name-equal k u e))
        on false e = refl

    before : (k : Name) (t : Attempt) → named k new.attempts ≡ Some t → (q : Name) → snapshot_of versions t.snapshot q ≡ snapshot_of old.versions t.snapshot q
    before k t is q =
        let stay = stayed old st going u new.attempts r.goes.attempts k t is in
        let within = (st.attempts going k t stay.1).within in
        read_below old.versions r.log.log.writes (suc (length old.history)) t.snapshot rises (omega (arith, within)) q

    apart : (k : Name) → (k ≡ u → ⊥) → state_at new.board k ≡ state_at old.board k
    apart k other = states k ∙ on (same_name k u) refl
      where
        on : (c : Bool) → same_name k u ≡ c → cond c (Some unit_after) (state_at old.board k) ≡ state_at old.board k
        on true e = absurd (other (same_name-equal k u e))
        on false e = refl

    grows : Grows (finished_at old.board) (finished_at new.board)
    grows f val is = on (same_name f u) refl (states f)
      where
        on : (c : Bool) → same_name f u ≡ c → state_at new.board f ≡ cond c (Some unit_after) (state_at old.board f) → finished_at new.board f ≡ Some val
        on true e so =
            let no : None ≡ Some val = sym attempt.unfinished ∙ sym (ap (option_and_then (λ (k : UnitState). k.finished)) (ap (state_at old.board) (same_name-equal f u e) ∙ state-there old.board u x unit_there)) ∙ is in cc
        on false e so = ap (option_and_then (λ (k : UnitState). k.finished)) so ∙ is

    above : IsAbove (suc (length (old.history ++ Run u ∷ []))) versions
    above =
        let long = length-append old.history (Run u ∷ []) in
        above_committed old.versions versions r.log.log.writes (suc (length old.history)) rises refl st.numbers (suc (length (old.history ++ Run u ∷ []))) (omega (arith, long))

    commits : Stands new
    commits = subst Stands (sym r.others) (record {
      formed = st.formed;
      world = w3;
      is_world = gave-keeps old.setup st.formed w2 w3 (Some (Run u)) is_w2 (row.commits u (still unit) tried2 result v (record { over = over; value = ap outcome_of is_value }));
      seen = record {
        history = ap (λ h. h ++ Run u ∷ []) st.seen.history;
        refs = refs;
        units = units;
        actors = actors;
        taken = taken;
        mails = mails;
        attempts = λ g k. seen-stay old st going u new.attempts r.goes.attempts versions new.versions before r.versions (λ q. with_at w2.attempts u None q) others (ap (λ c. cond c None (w2.attempts u)) (same_name-itself u)) k;
        bytes = ap (λ b. b ++ effects_bytes tried.effects) st.seen.bytes ∙ ap (λ es. old.bytes ++ effects_bytes es) all_effects;
        made = st.seen.made;
        end = st.seen.end;
      };
      machines = act-machines r.log.log.effects u tree old new r.board r.acts (IsMachine old.setup) (go-machines (IsMachine old.setup) u r.unit tree old.board r.board r.stands.machine r.goes.tasks st.machines);
      attempts = λ g k t is.
          let stay = stayed old st going u new.attempts r.goes.attempts k t is in
          under-way old after k t refl (apart k stay.0) (λ q. reads-stay old st going u new.attempts r.goes.attempts versions new.versions r.versions k t is q ∙ before k t is q) grows longer (st.attempts going k t stay.1);
      numbers = above_pruned r.versions.live versions new.versions r.versions.pruned (suc (length (old.history ++ Run u ∷ []))) above;
      aheads = λ k h leads. ahead-still old.board new.board k h (apart k (leads-apart old st u level k h leads)) (st.aheads k h leads);
    })

-- what a valid attempt comes to
module _ (old : Shared) (st : Stands old) (on_going : old.end ≡ None) (u : Name) (x : Unit) (tree : Attempt) (unit_there : unit_at old.board u ≡ Some x) (there : named u old.attempts ≡ Some tree) (level : named u old.aheads ≡ None)
    (valid : All (IsUnchanged old.versions tree.snapshot) tree.reads) where
  -- without a value nothing is done
  module _ (ended : TaskEnd) (is_ended : end_at tree ≡ Some ended) (no_value : (v : Value) → outcome_of ended ≡ outcome.Value v → ⊥) where
    nothing : (v : Value) → outcome_of ended ≡ outcome.Value v → (t : Task) → named tree.root tree.tasks ≡ Some t → t.log.log.writes ≡ []
    nothing v is t there = absurd (no_value v is)

    pub failed : (failed : Code) (place : Spot) → outcome_of ended ≡ outcome.Fault failed place → (found : Given) (new : Shared) → Ends old u (ending.Fault failed place u) found new → Stands new
    failed code place is found new r =
        ends-run old st on_going u x tree unit_there there level ended is_ended valid [] nothing (ending.Fault code place u) found new r
        (end_row.attempt_fault u (still (unit_state x)) _ _ code place (over old st on_going u x tree unit_there there level ended is_ended valid [] nothing) is)

    pub spent : outcome_of ended ≡ outcome.Spent → (found : Given) (new : Shared) → Ends old u (ending.Spent u) found new → Stands new
    spent is found new r =
        ends-run old st on_going u x tree unit_there there level ended is_ended valid [] nothing (ending.Spent u) found new r
        (end_row.attempt_spent u (still (unit_state x)) _ _ (over old st on_going u x tree unit_there there level ended is_ended valid [] nothing) is)

  pub end-keeps : (ended : TaskEnd) → end_at tree ≡ Some ended → (found : Given) (new : Shared) → EndGives old u x tree ended found new → Stands new
  end-keeps (end.Fault code place) is found new r = failed (end.Fault code place) is (λ v e. cc) code place refl found new r
  end-keeps end.Spent is found new r = spent end.Spent is (λ v e. cc) refl found new r
  end-keeps (end.Value v) is found new r =
      commits old st on_going u x tree unit_there there level (end.Value v) is valid r.log.log.writes done v found new refl r refl
    where
      done : (k : Value) → outcome.Value v ≡ outcome.Value k → (t : Task) → named tree.root tree.tasks ≡ Some t → t.log.log.writes ≡ r.log.log.writes
      done k e t is_t =
          let same : r.log ≡ t.log = subst (λ found. IfSome found (λ (k : Task). r.log ≡ k.log)) is_t r.done.root in
          ap (λ (k : SnapshotTask). k.log.writes) (sym same)
