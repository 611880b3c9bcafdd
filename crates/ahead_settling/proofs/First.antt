-- Turns whose first request is settled.
use Rattle.std.proofs.Common.{◌≡◌, ◌∙◌, ◌<◌, ◌==◌, ◌++◌, ◌∷◌, [], ℕ, Bool, true, false, length, List, refl, sym, ap, subst, suc}
use Rattle.std.specs.Option.{IsSome, option_and_then}
use Rattle.std.specs.Prelude.{Err, None, Ok, Option, Result, Some}
use Rattle.std.specs.declared.alloc.AllocError.{AllocError}
use Rattle.ahead_settling.proofs.Lefts.{left-settles}
use Rattle.ahead_settling.proofs.Wakes.{claims-then, waiters-put, waiters-same}
use Rattle.ahead_settling.specs.First.{FirstComes, FirstSettled, ForksOr, HasForked, IsChild, IsNextMade, IsOpen, is_told_alone}
use Rattle.ahead_settling.specs.declared.requests.Child.{Child}
use Rattle.ahead_settling.specs.Leaving.{LeavesFirst, WaitersAmong}
use Rattle.actor_mails.specs.Mails.{mail_at}
use Rattle.core_syntax.specs.declared.node_id.NodeId.{NodeId}
use Rattle.core_syntax.specs.Table.{Table}
use Rattle.eval_step.specs.Evaluation.{Evaluation, IsOf}
use Rattle.ref_store.specs.declared.version.Version.{Version}
use Rattle.ref_store.specs.Store.{committed, versions_of}
use Rattle.serial_model.proofs.evaluation.Carries.{ask-is-there}
use Rattle.serial_model.specs.declared.actor_state.ActorState.{ActorState}
use Rattle.serial_model.specs.declared.end.End.{End}
use Rattle.serial_model.specs.declared.end.End.TheVariants as ending
use Rattle.serial_model.specs.declared.entry.Entry.TheVariants.{Run}
use Rattle.serial_model.specs.declared.request.Request.{Request}
use Rattle.serial_model.specs.declared.request.Request.TheVariants as request
use Rattle.serial_model.specs.State.{Setup, new_unit}
use Rattle.serial_model.specs.Step.{idle}
use Rattle.shared_world.proofs.Leads as leads
use Rattle.shared_world.proofs.Live.{unit-piece}
use Rattle.shared_world.specs.Ahead.{Ahead}
use Rattle.shared_world.specs.declared.given.Given.{Given}
use Rattle.shared_world.specs.rows.Actors.{actor_with}
use Rattle.shared_world.specs.rows.Leading.{FirstSettles, ForkSettles, ForksHeld, LeadSettles, SpawnsHeld, left_after}
use Rattle.shared_world.specs.rows.Pieces.{ClaimsEnd, IsUnitAt}
use Rattle.shared_world.specs.Seen.{left_at}
use Rattle.shared_world.specs.Shared.{Shared, claimed, finished_by, is_going, unit_state}
use Rattle.shared_world.specs.Stands.{IsMachine}
use Rattle.unit_table.specs.Board.{Board, IsPutAt, IsUnlent, SameClaims, piece_at, unit_at}
use Rattle.unit_table.specs.declared.mark.Mark.{Mark}
use Rattle.unit_table.specs.declared.mark.Mark.TheVariants as mark
use Rattle.unit_table.specs.declared.mark.WaitOn.TheVariants as wait
use Rattle.unit_table.specs.declared.mark.Work.TheVariants as work
use Rattle.unit_table.specs.declared.piece.Piece.{Piece}
use Rattle.unit_table.specs.declared.piece.Piece.TheVariants as piece
use Rattle.unit_table.specs.declared.unit.Unit.{Unit}
use Rattle.unit_table.specs.declared.unit.UnitKind.TheVariants as kind
use Rattle.unit_table.specs.Piece.{unit_in}
use Rattle.value_core.specs.declared.value.Value.{Value}
use Rattle.turns_ahead.specs.Leading.{Leading, ahead_of}
use Rattle.value_core.proofs.NamedViews.{view_found}
use Rattle.value_core.specs.Named.{Name, Named, each_as, made_by, named, same_name}
use Rattle.world_model.specs.Ahead.{RunsAhead}
use Rattle.world_steps.proofs.Acting.{apart-from, unit-apart}
use Rattle.world_steps.proofs.Forking.{claims-again, same-after, same-stands}
use Rattle.world_steps.proofs.Settling.{claims-end, same-claims, unlent-after}
use Rattle.world_steps.specs.Kept.{IsSameBut}
use Rattle.world_steps.specs.Moved.{IsPlainPut}
use Rattle.world_steps.specs.Rows.{EndsOr}

-- at an end no claim is out
pub none-out : (gone : Name → Bool) (old new : Shared) (e : End) → new.end ≡ Some e → ClaimsEnd gone old new
none-out gone old new e is going ticket = let no : false ≡ true = sym (ap is_going is) ∙ going in cc

-- a unit of the same state, with the same machine
pub record IsStill (b : Board) (u : Name) (x : Unit) : Type 0 where
  pub unit : Unit
  pub there : unit_at b u ≡ Some unit
  pub state : unit_state unit ≡ unit_state x
  pub machine : unit.machine ≡ x.machine

pub still-same : (b : Board) (u : Name) (x : Unit) → unit_at b u ≡ Some x → IsStill b u x
still-same b u x there = record { unit = x; there = there; state = refl; machine = refl }

-- What the request does leaves the turn as it was, and then it is left.
module _ (old base before new : Shared) (u : Name) (found : Given) (opened : IsOpen old u) (same_setup : base.setup ≡ old.setup) (same_aheads : base.aheads ≡ old.aheads) (same_end : new.end ≡ old.end)
    (kept : SameClaims old.board base.board) (at_base : before ≡ base) (leaves : LeavesFirst before u new found) (unlent : IsUnlent u before.board new.board) (still : (x : Unit) → unit_at old.board u ≡ Some x → IsStill base.board u x) where
  pub first-left : (r : Request) (x : Unit) (h : Ahead) (rest : List Request) → unit_at old.board u ≡ Some x → named u old.aheads ≡ Some h → h.held ≡ r ∷ rest → LeadSettles base u x (left_after h r rest) (Run u) found new
  first-left r x h rest there leading held =
      let st = still x there in
      left-settles base new u x st.unit (left_after h r rest) (Run u) found ((subst (λ (s : Shared). LeavesFirst s u new found) at_base leaves) h r rest (ap (named u) same_aheads ∙ leading) held) st.there st.state
      (leads.unfinished old opened.stands opened.going u x there h leading)
      (subst (λ (s : Setup). IsMachine s st.unit.machine) (sym same_setup) (subst (λ (m : Evaluation). IsMachine old.setup m) (sym st.machine) (opened.stands.machines u x there)))

  pub first-claims : ClaimsEnd (λ q. same_name q u) old new
  first-claims = claims-end u old new same_end (unlent-after u old.board base.board new.board kept (subst (λ (s : Shared). IsUnlent u s.board new.board) at_base unlent))

-- ---- an actor and a unit that are made
-- what is put after what is the same but for room
put-again : (n : Name) (p : Option Piece) (old mid new : Board) → ((q : Name) → piece_at mid q ≡ piece_at old q) → IsPutAt n p mid new → IsPutAt n p old new
put-again n p old mid new same put = record { here = put.here; others = λ q ne. put.others q ne ∙ same q }

-- nothing stood there, so the turn stands as it did
pub still-apart : (old new : Board) (n u : Name) (p : Option Piece) → piece_at old n ≡ None → IsPutAt n p old new → (x : Unit) → unit_at old u ≡ Some x → IsStill new u x
still-apart old new n u p none put x there = still-same new u x (unit-apart old new n p u x (apart-from old n u x None there none refl) there put)

pub spawned-first : (old mid prep new : Shared) (u made : Name) (behaviour : ℕ) (state : List Value) (board : Board) (found : Given) → IsOpen old u → IsSameBut old mid → prep ≡ mid → piece_at mid.board made ≡ None → IsNextMade old u made
    → IsPutAt made (Some (actor_with (idle behaviour state) (mail_at prep.mails made))) prep.board board → SameClaims prep.board board → LeavesFirst (record prep { board = board }) u new found → IsUnlent u board new.board → new.end ≡ prep.end
    → FirstSettled old u (request.Spawn behaviour state) new found
spawned-first old mid prep new u made behaviour state board found opened same prep_is none called put claims leaves unlent same_end = record {
  row = λ x h rest there leading held. (base, subst (λ n. SpawnsHeld old n behaviour state base) (called h leading) spawns, row_left x h rest there leading held);
  claims = first-claims old base before new u found opened refl refl end_is kept at_base leaves unlent still;
}
  where
    base : Shared
    base = record old { board = board }

    before : Shared
    before = record prep { board = board }

    is_old : prep ≡ record old { board = mid.board }
    is_old = prep_is ∙ same.rest

    at_base : before ≡ base
    at_base = ap (λ (s : Shared). record s { board = board }) is_old

    end_is : new.end ≡ old.end
    end_is = same_end ∙ ap (λ (s : Shared). s.end) is_old

    put_mid : IsPutAt made (Some (actor_with (idle behaviour state) (mail_at old.mails made))) mid.board board
    put_mid = subst (λ (s : Shared). IsPutAt made (Some (actor_with (idle behaviour state) (mail_at s.mails made))) s.board board) is_old put

    kept : SameClaims old.board board
    kept = claims-then old.board mid.board board same.claims (subst (λ (s : Shared). SameClaims s.board board) is_old claims)

    none_old : piece_at old.board made ≡ None
    none_old = sym (same.pieces made) ∙ none

    put_old : IsPutAt made (Some (actor_with (idle behaviour state) (mail_at old.mails made))) old.board board
    put_old = put-again made _ old.board mid.board board same.pieces put_mid

    spawns : SpawnsHeld old made behaviour state base
    spawns = record { none = none_old; put = put_old; others = refl }

    still : (x : Unit) → unit_at old.board u ≡ Some x → IsStill board u x
    still = still-apart old.board board made u _ none_old put_old

    row_left : (x : Unit) (h : Ahead) (rest : List Request) → unit_at old.board u ≡ Some x → named u old.aheads ≡ Some h → h.held ≡ request.Spawn behaviour state ∷ rest → LeadSettles base u x (left_after h (request.Spawn behaviour state) rest) (Run u) found new
    row_left = first-left old base before new u found opened refl refl end_is kept at_base leaves unlent still (request.Spawn behaviour state)

-- a body that a turn holds to be forked is in the table
held-body : (old : Shared) (u : Name) → IsOpen old u → (x : Unit) (h : Ahead) (rest : List Request) (body : NodeId) (values : List Value) → unit_at old.board u ≡ Some x → named u old.aheads ≡ Some h → h.held ≡ request.Fork body values ∷ rest
    → body.index < length old.setup.program.nodes
held-body old u opened x h rest body values there leading held =
    let runs : RunsAhead old.setup u (left_at h (unit_state x)) (request.Fork body values ∷ rest) (unit_state x) = subst (λ rs. RunsAhead old.setup u (left_at h (unit_state x)) rs (unit_state x)) held (leads.runs old opened.stands opened.going u x there h leading) in
    let from = left_at h (unit_state x) in
    ask-is-there old.setup.program opened.stands.formed from.body from.values false from.answers old.setup.limits.fuel (request.Fork body values) runs.0 runs.2.asks

-- the plain unit that begins with that machine
abbrev pub plain-unit : Name → Evaluation → Unit
plain-unit name machine = record { name = name; kind = kind.Plain; machine = machine; made = 0; becomes = None; mark = mark.Ready work.Eval }

pub forked-first : (old prep new : Shared) (u made : Name) (machine : Evaluation) (units : ℕ) (board : Board) (found : Given) → IsOpen old u → prep ≡ old → piece_at old.board made ≡ None → IsNextMade old u made
    → machine.inside ≡ false → machine.fuel ≡ old.setup.limits.fuel → ((table : Table) → machine.body.index < length table.nodes → IsOf table machine) → machine.answers ≡ [] → units ≡ suc old.made
    → IsPlainPut made machine prep.board board → SameClaims prep.board board → LeavesFirst (record prep { made = units; board = board }) u new found → IsUnlent u board new.board → new.end ≡ prep.end
    → HasForked old u machine.body machine.values new found
forked-first old prep new u made machine units board found opened prep_is none called inside fuel of answers units_are put claims leaves unlent same_end = record {
  row = λ x h rest there leading held. (base, subst (λ n. ForksHeld old n machine.body machine.values base) (called h leading) (forks (held-body old u opened x h rest machine.body machine.values there leading held)), row_left x h rest there leading held);
  claims = first-claims old base before new u found opened refl refl end_is kept at_base leaves unlent still;
}
  where
    base : Shared
    base = record old { made = suc old.made; board = board }

    before : Shared
    before = record prep { made = units; board = board }

    at_base : before ≡ base
    at_base = ap (λ (s : Shared). record s { made = units; board = board }) prep_is ∙ ap (λ n. record old { made = n; board = board }) units_are

    end_is : new.end ≡ old.end
    end_is = same_end ∙ ap (λ (s : Shared). s.end) prep_is

    put_old : IsPutAt made (Some (piece.Unit (plain-unit made machine))) old.board board
    put_old = subst (λ (s : Shared). IsPlainPut made machine s.board board) prep_is put

    kept : SameClaims old.board board
    kept = subst (λ (s : Shared). SameClaims s.board board) prep_is claims

    forks : machine.body.index < length old.setup.program.nodes → ForksHeld old made machine.body machine.values base
    forks below = record {
      none = none;
      child = plain-unit made machine;
      begins = record { state = λ i. record (new_unit None machine.body machine.values) { answers = answers i }; machine = record { inside = inside; fuel = fuel; of = of old.setup.program below }; mark = refl };
      put = put_old;
      others = refl;
    }

    still : (x : Unit) → unit_at old.board u ≡ Some x → IsStill board u x
    still = still-apart old.board board made u _ none put_old

    row_left : (x : Unit) (h : Ahead) (rest : List Request) → unit_at old.board u ≡ Some x → named u old.aheads ≡ Some h → h.held ≡ request.Fork machine.body machine.values ∷ rest → LeadSettles base u x (left_after h (request.Fork machine.body machine.values) rest) (Run u) found new
    row_left = first-left old base before new u found opened refl refl end_is kept at_base leaves unlent still (request.Fork machine.body machine.values)

-- ---- a line, a ref, and what is told alone
pub told-first : (old prep new : Shared) (u : Name) (r : Request) (found : Given) → IsOpen old u → prep ≡ old → is_told_alone r ≡ true → LeavesFirst prep u new found → IsUnlent u prep.board new.board → new.end ≡ prep.end → FirstSettled old u r new found
told-first old prep new u r found opened prep_is told leaves unlent same_end = record {
  row = λ x h rest there leading held. on r told x h rest (row_left x h rest there leading held);
  claims = first-claims old old prep new u found opened refl refl end_is (same-claims old.board) prep_is leaves unlent (still-same old.board u);
}
  where
    end_is : new.end ≡ old.end
    end_is = same_end ∙ ap (λ (s : Shared). s.end) prep_is

    row_left : (x : Unit) (h : Ahead) (rest : List Request) → unit_at old.board u ≡ Some x → named u old.aheads ≡ Some h → h.held ≡ r ∷ rest → LeadSettles old u x (left_after h r rest) (Run u) found new
    row_left = first-left old old prep new u found opened refl refl end_is (same-claims old.board) prep_is leaves unlent (still-same old.board u) r

    on : (q : Request) → is_told_alone q ≡ true → (x : Unit) (h : Ahead) (rest : List Request) → LeadSettles old u x (left_after h q rest) (Run u) found new → FirstSettles old u x h q rest found new
    on (request.Become behaviour state) is x h rest row = row
    on request.SelfActor is x h rest row = row
    on (request.Print text) is x h rest row = cc
    on (request.NewRef v) is x h rest row = cc
    on (request.Deref ref) is x h rest row = cc
    on (request.RefSet ref v) is x h rest row = cc
    on (request.Fork body values) is x h rest row = cc
    on (request.Join f) is x h rest row = cc
    on (request.Dosync body values) is x h rest row = cc
    on (request.Spawn behaviour state) is x h rest row = cc
    on (request.Send to args) is x h rest row = cc

pub printed-first : (old prep new : Shared) (u : Name) (text bytes : List ℕ) (found : Given) → IsOpen old u → prep ≡ old → bytes ≡ old.bytes ++ text → LeavesFirst (record prep { bytes = bytes }) u new found → IsUnlent u prep.board new.board → new.end ≡ prep.end
    → FirstSettled old u (request.Print text) new found
printed-first old prep new u text bytes found opened prep_is bytes_are leaves unlent same_end = record {
  row = first-left old base before new u found opened refl refl end_is (same-claims old.board) at_base leaves unlent (still-same old.board u) (request.Print text);
  claims = first-claims old base before new u found opened refl refl end_is (same-claims old.board) at_base leaves unlent (still-same old.board u);
}
  where
    base : Shared
    base = record old { bytes = old.bytes ++ text }

    before : Shared
    before = record prep { bytes = bytes }

    at_base : before ≡ base
    at_base = ap (λ (s : Shared). record s { bytes = bytes }) prep_is ∙ ap (λ b. record old { bytes = b }) bytes_are

    end_is : new.end ≡ old.end
    end_is = same_end ∙ ap (λ (s : Shared). s.end) prep_is

pub ref-first : (old prep new : Shared) (u made : Name) (v : Value) (versions : Named (List Version)) (found : Given) → IsOpen old u → prep ≡ old → IsNextMade old u made → versions_of old.versions made ≡ [] → versions ≡ committed old.versions ((made, v) ∷ []) (suc (length old.history))
    → LeavesFirst (record prep { versions = versions }) u new found → IsUnlent u prep.board new.board → new.end ≡ prep.end → FirstSettled old u (request.NewRef v) new found
ref-first old prep new u made v versions found opened prep_is called none versions_are leaves unlent same_end = record {
  row = λ x h rest there leading held. record {
    none = subst (λ n. versions_of old.versions n ≡ []) (called h leading) none;
    settles = subst (λ n. LeadSettles (record old { versions = committed old.versions ((n, v) ∷ []) (suc (length old.history)) }) u x (left_after h (request.NewRef v) rest) (Run u) found new) (called h leading) (row_left x h rest there leading held);
  };
  claims = first-claims old base before new u found opened refl refl end_is (same-claims old.board) at_base leaves unlent (still-same old.board u);
}
  where
    base : Shared
    base = record old { versions = committed old.versions ((made, v) ∷ []) (suc (length old.history)) }

    before : Shared
    before = record prep { versions = versions }

    at_base : before ≡ base
    at_base = ap (λ (s : Shared). record s { versions = versions }) prep_is ∙ ap (λ b. record old { versions = b }) versions_are

    end_is : new.end ≡ old.end
    end_is = same_end ∙ ap (λ (s : Shared). s.end) prep_is

    row_left : (x : Unit) (h : Ahead) (rest : List Request) → unit_at old.board u ≡ Some x → named u old.aheads ≡ Some h → h.held ≡ request.NewRef v ∷ rest → LeadSettles base u x (left_after h (request.NewRef v) rest) (Run u) found new
    row_left = first-left old base before new u found opened refl refl end_is (same-claims old.board) at_base leaves unlent (still-same old.board u) (request.NewRef v)

-- ---- the unit is there still, and what waits for it are tasks of its attempt
record IsSomeUnit (b : Board) (u : Name) : Type 0 where
  x : Unit
  there : unit_at b u ≡ Some x

some-unit : (b : Board) (u : Name) → IsSome (unit_at b u) → IsSomeUnit b u
some-unit b u is = on (unit_at b u) refl is
  where
    on : (o : Option Unit) → unit_at b u ≡ o → IsSome o → IsSomeUnit b u
    on None e absent = cc
    on (Some x) e there = record { x = x; there = e }

is-some : {X : Type 0} (o : Option X) (x : X) → o ≡ Some x → IsSome o
is-some o x e = subst IsSome (sym e) refl

pub there-again : (old new : Shared) (u : Name) → IsOpen old u → new ≡ old → IsSome (unit_at new.board u)
there-again old new u opened same = subst (λ (s : Shared). IsSome (unit_at s.board u)) (sym same) opened.there

pub waiters-again : (old new : Shared) (u : Name) → IsOpen old u → new ≡ old → WaitersAmong new.board u (named u new.attempts)
waiters-again old new u opened same = subst (λ (s : Shared). WaitersAmong s.board u (named u s.attempts)) (sym same) opened.waiters

-- where each unit stands as it did
pub there-still : (old : Shared) (u : Name) (board : Board) → IsOpen old u → ((x : Unit) → unit_at old.board u ≡ Some x → IsStill board u x) → IsSome (unit_at board u)
there-still old u board opened still =
    let at = some-unit old.board u opened.there in
    let st = still at.x at.there in is-some (unit_at board u) st.unit st.there

-- where something is put that is no task
pub waiters-then : (old mid prep : Shared) (u n : Name) (p : Piece) (board : Board) → IsOpen old u → IsSameBut old mid → prep ≡ mid → ((m : Mark) → p ≡ piece.Task m → ⊥) → IsPutAt n (Some p) prep.board board → WaitersAmong board u (named u prep.attempts)
waiters-then old mid prep u n p board opened same prep_is no_task put =
    waiters-put u n (Some p) (named u prep.attempts) prep.board board (λ e. absurd (no_task (mark.Waiting (wait.Definite u)) (some-same p (piece.Task (mark.Waiting (wait.Definite u))) e))) put
    (subst (λ (s : Shared). WaitersAmong s.board u (named u s.attempts)) (sym prep_is)
    (subst (λ a. WaitersAmong mid.board u (named u a)) (sym (ap (λ (s : Shared). s.attempts) same.rest)) (waiters-same u (named u old.attempts) old.board mid.board same.pieces opened.waiters)))
  where
    some-same : {X : Type 0} (x y : X) → Some x ≡ Some y → x ≡ y
    some-same x y e = cc

pub same-but : (s : Shared) → IsSameBut s s
same-but s = record { pieces = λ n. refl; claims = same-claims s.board; rest = refl }

pub spawned-there : (old mid prep : Shared) (u made : Name) (actor : ActorState) (board : Board) → IsOpen old u → IsSameBut old mid → prep ≡ mid → piece_at mid.board made ≡ None → IsPutAt made (Some (actor_with actor (mail_at prep.mails made))) prep.board board → IsSome (unit_at board u)
spawned-there old mid prep u made actor board opened same prep_is none put =
    there-still old u board opened (still-apart old.board board made u _ (sym (same.pieces made) ∙ none) (put-again made _ old.board prep.board board (λ q. ap (λ (s : Shared). piece_at s.board q) prep_is ∙ same.pieces q) put))

pub spawned-waiters : (old mid prep : Shared) (u made : Name) (actor : ActorState) (board : Board) → IsOpen old u → IsSameBut old mid → prep ≡ mid → IsPutAt made (Some (actor_with actor (mail_at prep.mails made))) prep.board board → WaitersAmong board u (named u prep.attempts)
spawned-waiters old mid prep u made actor board opened same prep_is put = waiters-then old mid prep u made (actor_with actor (mail_at prep.mails made)) board opened same prep_is (λ m e. let no : actor_with actor (mail_at prep.mails made) ≡ piece.Task m = e in cc) put

pub forked-there : (old prep : Shared) (u made : Name) (machine : Evaluation) (board : Board) → IsOpen old u → prep ≡ old → piece_at old.board made ≡ None → IsPlainPut made machine prep.board board → IsSome (unit_at board u)
forked-there old prep u made machine board opened prep_is none put = there-still old u board opened (still-apart old.board board made u _ none (subst (λ (s : Shared). IsPlainPut made machine s.board board) prep_is put))

pub forked-waiters : (old prep : Shared) (u made : Name) (machine : Evaluation) (board : Board) → IsOpen old u → prep ≡ old → IsPlainPut made machine prep.board board → WaitersAmong board u (named u prep.attempts)
forked-waiters old prep u made machine board opened prep_is put = waiters-then old old prep u made (piece.Unit (plain-unit made machine)) board opened (same-but old) prep_is (λ m e. let no : piece.Unit (plain-unit made machine) ≡ piece.Task m = e in cc) put

-- ---- a fork, whether or not the limit allows it
pub forks-full : (old new : Shared) (u : Name) (body : NodeId) (values : List Value) (result : Result Given AllocError) → (old.made == old.setup.limits.units) ≡ true → EndsOr old u ending.UnitsSpent new result → FirstComes old u (request.Fork body values) new result
forks-full old new u body values (Err e) full r = r
forks-full old new u body values (Ok found) full r = record {
  row = λ x h rest there leading held. subst (λ c. ForkSettles old u x h body values rest c found new) (sym full) r;
  claims = none-out (λ q. same_name q u) old new ending.UnitsSpent (ap (λ (s : Shared). s.end) r.others);
}

pub open-again : (old mid : Shared) (u : Name) → IsSameBut old mid → IsOpen old u → IsOpen mid u
open-again old mid u is opened = record {
  stands = same-stands old mid opened.stands is;
  going = ap (λ (s : Shared). s.end) is.rest ∙ opened.going;
  there = there-still old u mid.board opened (λ x there. still-same mid.board u x (ap (option_and_then unit_in) (is.pieces u) ∙ there));
  waiters = subst (λ a. WaitersAmong mid.board u (named u a)) (sym (ap (λ (s : Shared). s.attempts) is.rest)) (waiters-same u (named u old.attempts) old.board mid.board is.pieces opened.waiters);
}

pub child-again : (s : Shared) (u : Name) (body : NodeId) (values : List Value) (c : Child) → IsChild s u body values c → IsChild s u c.machine.body c.machine.values c
child-again s u body values c is = record {
  called = is.called;
  none = is.none;
  place = is.place;
  inside = is.inside;
  fuel = is.fuel;
  of = subst (λ b. (table : Table) → b.index < length table.nodes → IsOf table c.machine) (sym is.body_is) is.of;
  body_is = refl;
  values_are = refl;
  answers = is.answers;
  units = is.units;
}

forks-again : (old mid : Shared) (n : Name) (body : NodeId) (values : List Value) (base : Shared) → IsSameBut old mid → ForksHeld mid n body values base → ForksHeld old n body values base
forks-again old mid n body values base is r = record {
  none = sym (is.pieces n) ∙ r.none;
  child = r.child;
  begins = subst (λ (s : Shared). IsUnitAt s.setup r.child r.child (new_unit None body values) (mark.Ready work.Eval)) is.rest r.begins;
  put = put-again n _ old.board mid.board base.board is.pieces r.put;
  others = r.others ∙ ap (λ (s : Shared). record s { made = suc s.made; board = base.board }) is.rest;
}

pub forks-came : (old mid new : Shared) (u : Name) (body : NodeId) (values : List Value) (b : NodeId) (vs : List Value) (result : Result Given AllocError) → b ≡ body → vs ≡ values → IsSameBut old mid → (old.made == old.setup.limits.units) ≡ false
    → ForksOr mid u b vs new result → FirstComes old u (request.Fork body values) new result
forks-came old mid new u body values b vs (Err e) is_b is_vs is room r = same-after old mid new is r
forks-came old mid new u body values b vs (Ok found) is_b is_vs is room r = record {
  row = λ x h rest there leading held. subst (λ c. ForkSettles old u x h body values rest c found new) (sym room) (came.row x h rest there leading held);
  claims = claims-again (λ q. same_name q u) old mid new is r.claims;
}
  where
    forked : HasForked mid u body values new found
    forked = subst (λ k. HasForked mid u k values new found) is_b (subst (λ ks. HasForked mid u b ks new found) is_vs r)

    came : HasForked old u body values new found
    came = record {
      row = λ x h rest there leading held.
          let row = forked.row x h rest (ap (option_and_then unit_in) (is.pieces u) ∙ there) (ap (λ (s : Shared). named u s.aheads) is.rest ∙ leading) held in
          (row.0, forks-again old mid _ body values row.0 is row.1, row.2);
      claims = claims-again (λ q. same_name q u) old mid new is r.claims;
    }

-- ---- the names of what a turn makes
pub made-there : (s : Shared) (u made : Name) (n : ℕ) (all : Named Leading) (l : Leading) → s.aheads ≡ each_as ahead_of all → named u all ≡ Some l → n ≡ l.made → made ≡ made_by u n → IsNextMade s u made
made-there s u made n all l is there n_is called h leading =
    let both : Some (ahead_of l) ≡ Some h = sym (ap (named u) is ∙ view_found ahead_of u all l there) ∙ leading in
    let same : ahead_of l ≡ h = cc in
    called ∙ ap (made_by u) (n_is ∙ ap (λ (k : Ahead). k.made) same)

pub next-again : (old mid : Shared) (u made : Name) → IsSameBut old mid → IsNextMade old u made → IsNextMade mid u made
next-again old mid u made is called h leading = called h (sym (ap (λ (s : Shared). named u s.aheads) is.rest) ∙ leading)
