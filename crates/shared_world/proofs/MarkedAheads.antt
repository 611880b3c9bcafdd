-- How the marks stay right, whatever a turn comes to that runs ahead of the history, and where one is begun.
use Rattle.std.proofs.Common.{◌≡◌, ◌∙◌, ◌==◌, ℕ, suc, Bool, true, false, cond, List, [], ◌∷◌, ◌++◌, inr, length, refl, sym, ap, ap₂, subst}
use Rattle.std.specs.Option.{option_and_then, option_map}
use Rattle.std.specs.Prelude.{◌||◌, ◌&&◌, Option, None, Some, is_some}
use Rattle.actor_mailbox.specs.declared.message.Message.{Message}
use Rattle.actor_mailbox.specs.Messages.{definite as definite_of, passes}
use Rattle.actor_mails.specs.Mails.{mail_at}
use Rattle.core_syntax.specs.declared.node_id.NodeId.{NodeId}
use Rattle.ref_store.specs.declared.version.Version.{Version}
use Rattle.ref_store.specs.Store.{committed}
use Rattle.serial_model.specs.declared.actor_state.ActorState.{ActorState}
use Rattle.serial_model.specs.declared.entry.Entry.TheVariants.{Run}
use Rattle.serial_model.specs.declared.halt.Halt.{Halt}
use Rattle.serial_model.specs.declared.halt.Halt.TheVariants as halt
use Rattle.serial_model.specs.declared.request.Request.{Request}
use Rattle.serial_model.specs.declared.request.Request.TheVariants as request
use Rattle.serial_model.specs.State.{UnitState}
use Rattle.serial_model.specs.Step.{idle, next_made, next_of}
use Rattle.shared_world.proofs.ActorPieces.{actor_of_piece}
use Rattle.shared_world.proofs.Besides.{apart-of}
use Rattle.shared_world.proofs.Leading.{asks-no-attempt}
use Rattle.shared_world.proofs.Leads.{unfinished as unfinished-of}
use Rattle.shared_world.proofs.LeadsFirst.{same-unit as same-unit-settles}
use Rattle.shared_world.proofs.Live.{state-there, unit-piece}
use Rattle.shared_world.proofs.MarkedActors.{actor-placed, actor-put, actor-sent, has-last, put-mark}
use Rattle.shared_world.proofs.MarkedLeads.{changed-here, changed-others, holds-marked, open-ahead, settles-marked, settles-so, turn-no-task, waits-marked}
use Rattle.shared_world.proofs.MarkedUnits.{begun-marked, ends-going, marked-put, no-attempt-of}
use Rattle.shared_world.proofs.Marks.{AreMarkedBut, IsSameButActors, IsStill, but-one, but_actor, come-again, marked-actors, marked-same, root-again, SameRoot, same-root, same-task, still-ahead, task-again, unit-again}
use Rattle.shared_world.proofs.Takings.{IsTakenBy, none-taken, taken-by, takes-called, takes-taken}
use Rattle.shared_world.specs.Ahead.{Ahead}
use Rattle.shared_world.specs.declared.given.Given.{Given}
use Rattle.shared_world.specs.Marks as marks
use Rattle.shared_world.specs.Marks.{AreMarked, IsTaskPiece, UnitSays}
use Rattle.shared_world.specs.rows.Actors.{actor_mark, has_turn}
use Rattle.shared_world.specs.rows.Leading as lead
use Rattle.shared_world.specs.rows.Leading.{FirstSettles, ForkSettles, GaveLead, GaveTentative, IsChanged, LeadGives, LeadGoes, LeadTries, NextSettles, Puts, SendsHeld, SettlesBegin, SpawnsHeld, TakeSettles, TakeSettlesIfAllowed, begun_by, can_settle, is_definite, is_settled, is_to_settle, leads_on, left_after, mark_ahead, mark_settles, settles_next, settles_now}
use Rattle.shared_world.specs.Seen.{left_at}
use Rattle.shared_world.specs.Shared.{Shared, finished_at, is_going, unit_state}
use Rattle.shared_world.specs.Stands.{Stands}
use Rattle.task_fork_join.specs.Attempt.{Attempt}
use Rattle.unit_table.specs.Board.{IsPutAt, actor_at, lent_at, piece_at, unit_at}
use Rattle.unit_table.specs.declared.mark.Mark.{Mark}
use Rattle.unit_table.specs.declared.mark.Mark.TheVariants as mark
use Rattle.unit_table.specs.declared.mark.WaitOn.TheVariants as wait
use Rattle.unit_table.specs.declared.mark.Work.{Work}
use Rattle.unit_table.specs.declared.mark.Work.TheVariants as work
use Rattle.unit_table.specs.declared.piece.Actor.{Actor}
use Rattle.unit_table.specs.declared.piece.Piece.{Piece}
use Rattle.unit_table.specs.declared.piece.Piece.TheVariants as piece
use Rattle.unit_table.specs.declared.unit.Unit.{Unit as Doing}
use Rattle.unit_table.specs.Piece.{unit_in}
use Rattle.value_core.proofs.NamedLaws.{same_name-equal}
use Rattle.value_core.specs.declared.value.Value.{Value}
use Rattle.value_core.specs.Named.{Name, Named, made_by, named, same_name}
use Rattle.value_core.specs.Place.{Spot}
use Rattle.world_model.specs.Message.{settle_or_put, settled, tentative}
use Rattle.world_model.specs.rows.Turns.{busy_with}

-- ---- what is taken of one actor changes
-- whether a turn is definite stays, where that actor is none of its own or is settled as before
definite-by : (before after : Named Message) (a : Name) → ((b : Name) → (b ≡ a → ⊥) → named b after ≡ named b before) → (takes : Option Name) → (takes ≡ Some a → is_settled (named a after) ≡ is_settled (named a before))
    → is_definite after takes ≡ is_definite before takes
definite-by before after a others None same = refl
definite-by before after a others (Some b) same = on (same_name b a) refl
  where
    on : (c : Bool) → same_name b a ≡ c → is_settled (named b after) ≡ is_settled (named b before)
    on true e =
        let is : b ≡ a = same_name-equal b a e in
        ap (λ n. is_settled (named n after)) is ∙ same (ap (λ n. Some n) is) ∙ ap (λ n. is_settled (named n before)) (sym is)
    on false e = ap is_settled (others b (apart-of b a e))

settles-by : (before after : Named Message) (a : Name) → ((b : Name) → (b ≡ a → ⊥) → named b after ≡ named b before) → (o : Option Ahead)
    → ((h : Ahead) → o ≡ Some h → h.takes ≡ Some a → is_settled (named a after) ≡ is_settled (named a before)) → settles_next after o ≡ settles_next before o
settles-by before after a others None same = refl
settles-by before after a others (Some h) same = definite-by before after a others h.takes (same h refl)

-- a turn that holds one request less and whose begin is not held, where it holds more
left-definite : (h : Ahead) (held : List Request) (k : Ahead) → leads_on (record h { takes = None; held = held }) ≡ Some k → k.takes ≡ None
left-definite h [] k e = cc
left-definite h (r ∷ rs) k e = let same : record h { takes = None; held = r ∷ rs } ≡ k = cc in ap (λ (j : Ahead). j.takes) (sym same)

-- mail to which something is sent, or in which it is settled, is not empty
not-empty : (test : Name → Bool) (last : Message) (ms : List Message) → settle_or_put test last ms ≡ [] → ⊥
not-empty test last [] e = cc
not-empty test last (m ∷ ms) e = on (passes test m.depends) e
  where
    on : (c : Bool) → cond c (definite_of m ∷ ms) (m ∷ settle_or_put test last ms) ≡ [] → ⊥
    on true e = cc
    on false e = cc

-- ---- a turn becomes definite
-- what a turn says, once it can settle what it holds
pub says-definite : (old base : Shared) (u : Name) (x y : Doing) (lent : Bool) → can_settle base u ≡ true → (named u old.attempts ≡ None → named u base.attempts ≡ None) → (m : Mark) → UnitSays old u x m → UnitSays base u y (mark_settles lent m)
says-definite old base u x y true can none (mark.Ready work.Eval) says = none says
says-definite old base u x y false can none (mark.Ready work.Eval) says = inr can
says-definite old base u x y true can none (mark.Ready work.Settle) says = inr can
says-definite old base u x y false can none (mark.Ready work.Settle) says = inr can
says-definite old base u x y lent can none (mark.Ready work.Begin) says = absurd says
says-definite old base u x y lent can none (mark.Waiting on) says = inr can
says-definite old base u x y lent can none mark.Resting says = absurd says
says-definite old base u x y lent can none (mark.Finished v) says = none says
says-definite old base u x y lent can none mark.Dropped says = absurd says

-- a unit that stands there now stood there, but for its mark
pub settles-unit : (lent : Bool) (found : Option Piece) (z : Doing) → option_and_then unit_in (option_map (settles_now lent) found) ≡ Some z → (y : Doing) × (option_and_then unit_in found ≡ Some y) × (z ≡ record y { mark = mark_settles lent y.mark })
settles-unit lent None z e = cc
settles-unit lent (Some (piece.Unit y)) z e = (y, refl, (let same : record y { mark = mark_settles lent y.mark } ≡ z = cc in sym same))
settles-unit lent (Some (piece.Task m)) z e = cc
settles-unit lent (Some (piece.Actor a)) z e = cc

pub settles-task : (lent : Bool) (found : Option Piece) (m : Mark) → option_map (settles_now lent) found ≡ Some (piece.Task m) → found ≡ Some (piece.Task m)
settles-task lent None m e = cc
settles-task lent (Some (piece.Unit y)) m e = cc
settles-task lent (Some (piece.Task k)) m e = e
settles-task lent (Some (piece.Actor a)) m e = cc

pub settles-actor : (lent : Bool) (found : Option Piece) (z : Actor) → option_map (settles_now lent) found ≡ Some (piece.Actor z) → found ≡ Some (piece.Actor z)
settles-actor lent None z e = cc
settles-actor lent (Some (piece.Unit y)) z e = cc
settles-actor lent (Some (piece.Task k)) z e = cc
settles-actor lent (Some (piece.Actor a)) z e = e

-- The message is settled that was taken of an actor, and its turn is definite.
module _ (old : Shared) (st : Stands old) (all : AreMarked old) (to : Name) (message : Message) (actor : ActorState) (took : named to old.taken ≡ Some message) (there : actor_at old.board to ≡ Some actor) (base : Shared)
    (changed : IsChanged to (Some (definite_of message)) old.taken base.taken)
    (put : IsPutAt (made_by to actor.turns) (option_map (settles_now (is_some (lent_at old.board (made_by to actor.turns)))) (piece_at old.board (made_by to actor.turns))) old.board base.board)
    (rest : base ≡ record old { taken = base.taken; board = base.board }) where
  abbrev turn : Name
  turn = made_by to actor.turns

  abbrev lent : Bool
  lent = is_some (lent_at old.board turn)

  attempts : (v : Name) → named v base.attempts ≡ named v old.attempts
  attempts v = ap (λ (s : Shared). named v s.attempts) rest

  aheads : (v : Name) → named v base.aheads ≡ named v old.aheads
  aheads v = ap (λ (s : Shared). named v s.aheads) rest

  by : IsTakenBy old st to actor
  by = taken-by old st to message actor took there

  can : can_settle base turn ≡ true
  can = ap (settles_next base.taken) (aheads turn ∙ by.leads) ∙ ap (is_definite base.taken) by.takes ∙ ap is_settled (changed-here to (Some (definite_of message)) old.taken base.taken changed)

  settles-other : (v : Name) → (v ≡ turn → ⊥) → can_settle base v ≡ can_settle old v
  settles-other v other =
      ap (settles_next base.taken) (aheads v)
      ∙ settles-by old.taken base.taken to (changed-others to (Some (definite_of message)) old.taken base.taken changed) (named v old.aheads)
      (λ h leads takes. absurd (other (takes-called old st v to h actor leads takes there)))

  still : (v : Name) → (v ≡ turn → ⊥) → IsStill old base v
  still v other = record {
    root = subst (λ o. SameRoot (named v old.attempts) o) (sym (attempts v)) (same-root (named v old.attempts));
    ahead = aheads v;
    settles = settles-other v other;
  }

  finished : (f : Name) → finished_at base.board f ≡ finished_at old.board f
  finished f = on (same_name f turn) refl
    where
      on : (c : Bool) → same_name f turn ≡ c → finished_at base.board f ≡ finished_at old.board f
      on true e =
          ap (finished_at base.board) (same_name-equal f turn e)
          ∙ ap (λ p. option_and_then (λ (k : UnitState). k.finished) (option_map unit_state (option_and_then unit_in p))) put.here
          ∙ ap (option_and_then (λ (k : UnitState). k.finished)) (same-unit-settles lent (piece_at old.board turn))
          ∙ ap (finished_at old.board) (sym (same_name-equal f turn e))
      on false e = ap (λ p. option_and_then (λ (k : UnitState). k.finished) (option_map unit_state (option_and_then unit_in p))) (put.others f (apart-of f turn e))

  units : (v : Name) (z : Doing) (c : Bool) → same_name v turn ≡ c → unit_at base.board v ≡ Some z → UnitSays base v z z.mark
  units v z true e at =
      let same : v ≡ turn = same_name-equal v turn e in
      let was = settles-unit lent (piece_at old.board turn) z (sym (ap (unit_at base.board) same ∙ ap (option_and_then unit_in) put.here) ∙ at) in
      subst (λ n. UnitSays base n z z.mark) (sym same)
      (subst (λ k. UnitSays base turn z k) (sym (ap (λ (k : Doing). k.mark) was.2)) (says-definite old base turn was.0 z lent can (λ none. attempts turn ∙ none) was.0.mark (all.units turn was.0 was.1)))
  units v z false e at =
      unit-again old base v z z.mark (ap (λ (s : Shared). s.setup) rest) (still v (apart-of v turn e)) (λ f waits none. finished f ∙ none)
      (all.units v z (sym (ap (option_and_then unit_in) (put.others v (apart-of v turn e))) ∙ at))

  task-was : (n : Name) (m : Mark) (c : Bool) → same_name n turn ≡ c → piece_at base.board n ≡ Some (piece.Task m) → piece_at old.board n ≡ Some (piece.Task m)
  task-was n m true e at =
      let same : n ≡ turn = same_name-equal n turn e in
      ap (piece_at old.board) same ∙ settles-task lent (piece_at old.board turn) m (sym (ap (piece_at base.board) same ∙ put.here) ∙ at)
  task-was n m false e at = sym (put.others n (apart-of n turn e)) ∙ at

  task-stays : (n : Name) (m : Mark) (c : Bool) → same_name n turn ≡ c → piece_at old.board n ≡ Some (piece.Task m) → piece_at base.board n ≡ Some (piece.Task m)
  task-stays n m true e at =
      let same : n ≡ turn = same_name-equal n turn e in
      ap (piece_at base.board) same ∙ put.here ∙ ap (option_map (settles_now lent)) (ap (piece_at old.board) (sym same) ∙ at)
  task-stays n m false e at = put.others n (apart-of n turn e) ∙ at

  tasks : (n : Name) (m : Mark) → IsTaskPiece old n m → IsTaskPiece base n m
  tasks n m is = record {
    owner = is.owner;
    of = ap (λ (s : Shared). named n s.owners) rest ∙ is.of;
    tree = is.tree;
    attempt = attempts is.owner ∙ is.attempt;
    task = is.task;
    among = is.among;
    hangs = is.hangs;
    says = λ unended. task-again old base (ap (λ (s : Shared). s.setup) rest) is.owner is.tree.tasks is.tree.tasks is.task m (λ e. still-ahead old base is.owner (aheads is.owner)) (λ f e. come-again old.board base.board is.tree.tasks is.task f (λ none. finished f ∙ none)) (is.says unended);
    decides = λ ended e root. root-again old base is.owner m is.hangs (λ waits. still-ahead old base is.owner (aheads is.owner)) (is.decides ended e root);
  }

  actor-was : (a : Name) (z : Actor) (c : Bool) → same_name a turn ≡ c → piece_at base.board a ≡ Some (piece.Actor z) → piece_at old.board a ≡ Some (piece.Actor z)
  actor-was a z true e at =
      let same : a ≡ turn = same_name-equal a turn e in
      ap (piece_at old.board) same ∙ settles-actor lent (piece_at old.board turn) z (sym (ap (piece_at base.board) same ∙ put.here) ∙ at)
  actor-was a z false e at = sym (put.others a (apart-of a turn e)) ∙ at

  -- of each actor a message is taken where one was
  taken-same : (a : Name) → is_some (named a base.taken) ≡ is_some (named a old.taken)
  taken-same a = on (same_name a to) refl
    where
      on : (c : Bool) → same_name a to ≡ c → is_some (named a base.taken) ≡ is_some (named a old.taken)
      on true e =
          let same : a ≡ to = same_name-equal a to e in
          ap (λ n. is_some (named n base.taken)) same ∙ ap is_some (changed-here to (Some (definite_of message)) old.taken base.taken changed) ∙ sym (ap (λ n. is_some (named n old.taken)) same ∙ ap is_some took)
      on false e = ap is_some (changed-others to (Some (definite_of message)) old.taken base.taken changed a (apart-of a to e))

  taken-marked : AreMarked base
  taken-marked = record {
    units = λ v z at. units v z (same_name v turn) refl at;
    tasks = λ n m at. tasks n m (all.tasks n m (task-was n m (same_name n turn) refl at));
    actors = λ a z at. all.actors a z (actor-was a z (same_name a turn) refl at) ∙ sym (ap₂ (λ begun mail. actor_mark (begun || z.state.busy) mail) (taken-same a) (ap (λ (s : Shared). mail_at s.mails a) rest));
    pieces = λ v tree at n t among. let has = all.pieces v tree (sym (attempts v) ∙ at) n t among in record {
      mark = has.mark;
      there = task-stays n has.mark (same_name n turn) refl has.there;
      of = ap (λ (s : Shared). named n s.owners) rest ∙ has.of;
    };
  }

-- ---- a turn that runs ahead
module _ (old : Shared) (st : Stands old) (all : AreMarked old) (on_going : old.end ≡ None) (u : Name) (x : Doing) (at_u : unit_at old.board u ≡ Some x) (h : Ahead) (leads : named u old.aheads ≡ Some h) (found : Given) (new : Shared) (goes_on : is_going new.end ≡ true) where
  abbrev unit : UnitState
  unit = unit_state x

  going : is_going old.end ≡ true
  going = ap is_going on_going

  unfinished : unit.finished ≡ None
  unfinished = unfinished-of old st on_going u x at_u h leads

  -- it is no task, whatever comes first
  apart-by : (base : Shared) → IsSameButActors old base → (k : Mark) → piece_at base.board u ≡ Some (piece.Task k) → ⊥
  apart-by base same k at = turn-no-task old u x at_u h leads unfinished k (same-task old base same u k at)

  -- what it holds first is settled, on what comes of that
  settles : (base : Shared) → AreMarked base → ((k : Mark) → piece_at base.board u ≡ Some (piece.Task k) → ⊥) → (left : Ahead) → ((k : Ahead) → leads_on left ≡ Some k → k.takes ≡ None) → (entry : _) → lead.LeadSettles base u x left entry found new → AreMarked new
  settles base marked apart left definite entry g = settles-marked old u x at_u h leads unfinished base (but-one base u false marked) left definite apart entry found new g

  -- where only actors change
  settles-acted : (base : Shared) → IsSameButActors old base → (left : Ahead) → ((k : Ahead) → leads_on left ≡ Some k → k.takes ≡ None) → (entry : _) → lead.LeadSettles base u x left entry found new → AreMarked new
  settles-acted base same left definite entry g = settles base (marked-actors old base same all) (apart-by base same) left definite entry g

  plainly : (base : Shared) → base ≡ record old { bytes = base.bytes; versions = base.versions } → AreMarked base
  plainly base rest = marked-same old base (record {
    setup = ap (λ (s : Shared). s.setup) rest;
    attempts = λ v. ap (λ (s : Shared). named v s.attempts) rest;
    owners = ap (λ (s : Shared). s.owners) rest;
    aheads = ap (λ (s : Shared). s.aheads) rest;
    taken = ap (λ (s : Shared). s.taken) rest;
    pieces = λ n. ap (λ (s : Shared). piece_at s.board n) rest;
    mails = λ a. ap (λ (s : Shared). mail_at s.mails a) rest;
  }) all

  plain-apart : (k : Mark) → piece_at old.board u ≡ Some (piece.Task k) → ⊥
  plain-apart = turn-no-task old u x at_u h leads unfinished

  left-so : (r : Request) (rest : List Request) (k : Ahead) → leads_on (left_after h r rest) ≡ Some k → k.takes ≡ None
  left-so r rest k = left-definite (left_after h r rest) rest k

  -- an actor is made
  spawns : (behaviour : ℕ) (state : List Value) (rest : List Request) (name : Name) (base : Shared) → SpawnsHeld old name behaviour state base → lead.LeadSettles base u x (left_after h (request.Spawn behaviour state) rest) (Run u) found new → AreMarked new
  spawns behaviour state rest name base s g = settles-acted base
      (subst (IsSameButActors old) (sym s.others) (actor-placed old all name (idle behaviour state) base.board (ap but_actor s.none) (none-taken old st name (ap actor_of_piece s.none)) s.put))
      (left_after h (request.Spawn behaviour state) rest) (left-so (request.Spawn behaviour state) rest) _ g

  -- a plain unit is there
  forks : (body : NodeId) (values : List Value) (rest : List Request) (name : Name) (base : Shared) → lead.ForksHeld old name body values base → lead.LeadSettles base u x (left_after h (request.Fork body values) rest) (Run u) found new → AreMarked new
  forks body values rest name base f g = settles base
      (marked-put old base all name f.child (ap (λ (s : Shared). s.setup) f.others) (ap (λ (s : Shared). s.attempts) f.others) (ap (λ (s : Shared). s.owners) f.others) (λ v other. ap (λ (s : Shared). named v s.aheads) f.others) (ap (λ (s : Shared). s.taken) f.others)
      (λ a. ap (λ (s : Shared). mail_at s.mails a) f.others) f.none (no-attempt-of old st going name f.none) f.begins.mark f.put)
      (λ k at. plain-apart k (sym (f.put.others u apart) ∙ at)) (left_after h (request.Fork body values) rest) (left-so (request.Fork body values) rest) _ g
    where
      apart : u ≡ name → ⊥
      apart same = let no : None ≡ Some (piece.Unit x) = sym f.none ∙ ap (piece_at old.board) (sym same) ∙ unit-piece old.board u x at_u in cc

  -- a message is settled
  sends : (to : Name) (args : List Value) (rest : List Request) (base : Shared) → SendsHeld old u to args base → lead.LeadSettles base u x (left_after h (request.Send to args) rest) (Run u) found new → AreMarked new
  sends to args rest base (lead.taken message actor took depends there changed put is) g = settles base (taken-marked old st all to message actor took there base changed put is)
      (λ k at. plain-apart k (task-was old st all to message actor took there base changed put is u k (same_name u (made_by to actor.turns)) refl at)) (left_after h (request.Send to args) rest) (left-so (request.Send to args) rest) _ g
  sends to args rest base (lead.mailed none mailed put is) g = settles-acted base
      (subst (IsSameButActors old) (sym is) (actor-sent old all to base.mails base.board (λ empty. not-empty (same_name u) (settled u args) (mail_at old.mails to) (sym mailed.here ∙ empty)) mailed.others put))
      (left_after h (request.Send to args) rest) (left-so (request.Send to args) rest) _ g

  -- the versions with a ref that is made
  abbrev with_ref : Value → Named (List Version)
  with_ref v = committed old.versions ((next_made u (left_at h unit), v) ∷ []) (suc (length old.history))

  first : (r : Request) (rest : List Request) → FirstSettles old u x h r rest found new → AreMarked new
  first (request.Print text) rest g = settles (record old { bytes = old.bytes ++ text }) (plainly (record old { bytes = old.bytes ++ text }) refl) plain-apart (left_after h (request.Print text) rest) (left-so (request.Print text) rest) _ g
  first (request.NewRef v) rest g = settles (record old { versions = with_ref v }) (plainly (record old { versions = with_ref v }) refl) plain-apart (left_after h (request.NewRef v) rest) (left-so (request.NewRef v) rest) _ g.settles
  first (request.Deref ref) rest g = absurd g
  first (request.RefSet ref v) rest g = absurd g
  first (request.Fork body values) rest g = on (old.made == old.setup.limits.units) g
    where
      on : (full : Bool) → ForkSettles old u x h body values rest full found new → AreMarked new
      on true r = absurd (ends-going old _ _ found new r goes_on)
      on false r = forks body values rest _ r.0 r.1 r.2
  first (request.Join future) rest g = absurd g
  first (request.Dosync body values) rest g = absurd g
  first (request.Spawn behaviour state) rest g = spawns behaviour state rest _ g.0 g.1 g.2
  first (request.Send to args) rest g = sends to args rest g.0 g.1 g.2
  first (request.Become behaviour state) rest g = settles old all plain-apart (left_after h (request.Become behaviour state) rest) (left-so (request.Become behaviour state) rest) _ g
  first request.SelfActor rest g = settles old all plain-apart (left_after h request.SelfActor rest) (left-so request.SelfActor rest) _ g

  -- Its begin is settled: the actor is busy, and its message is taken no more.
  module _ (a : Name) (g : SettlesBegin old u x h a) (r : TakeSettles old u x h a g.actor g.message found new) where
    abbrev busy : Actor
    busy = record { state = busy_with g.actor.state; mark = mark.Resting }

    abbrev mid : Shared
    mid = record old { board = r.board; made = suc old.made }

    abbrev begun-base : Shared
    begun-base = record old { board = r.board; taken = r.taken; made = suc old.made }

    -- with a turn an actor rests
    resting : (c : Bool) (mail : List Message) → mark.Resting ≡ actor_mark (c || true) mail
    resting true mail = refl
    resting false mail = refl

    busy-same : IsSameButActors old mid
    busy-same = actor-put a (Some (piece.Actor busy)) old mid (record {
      setup = refl;
      attempts = refl;
      owners = refl;
      aheads = refl;
      settles = λ v. refl;
      put = r.busy;
      but = sym (ap but_actor g.there);
      right = λ z e. put-mark (is_some (named a old.taken)) busy z (mail_at old.mails a) e (resting (is_some (named a old.taken)) (mail_at old.mails a));
      taken = λ b other. refl;
      mails = λ b other. refl;
    }) all

    busy-marked : AreMarked mid
    busy-marked = marked-actors old mid busy-same all

    untaken : (b : Name) → (b ≡ a → ⊥) → named b r.taken ≡ named b old.taken
    untaken = changed-others a None old.taken r.taken r.takes

    -- another turn is no turn of that actor
    settles-still : (v : Name) → (v ≡ u → ⊥) → can_settle begun-base v ≡ can_settle mid v
    settles-still v other = settles-by old.taken r.taken a untaken (named v old.aheads)
        (λ k leads_k takes. absurd (other (takes-called old st v a k g.actor.state leads_k takes (ap actor_of_piece g.there) ∙ sym g.called)))

    busy-actors : (b : Name) (z : Actor) (c : Bool) → same_name b a ≡ c → piece_at r.board b ≡ Some (piece.Actor z) → z.mark ≡ actor_mark (has_turn r.taken b z.state) (mail_at old.mails b)
    busy-actors b z true e at =
        put-mark (is_some (named b r.taken)) busy z (mail_at old.mails b) (sym r.busy.here ∙ ap (piece_at r.board) (sym (same_name-equal b a e)) ∙ at) (resting (is_some (named b r.taken)) (mail_at old.mails b))
    busy-actors b z false e at = busy-marked.actors b z at ∙ ap (λ o. actor_mark (is_some o || z.state.busy) (mail_at old.mails b)) (sym (untaken b (apart-of b a e)))

    begun-but : AreMarkedBut u false begun-base
    begun-but = record {
      units = λ v z other at. unit-again mid begun-base v z z.mark refl (record { root = same-root (named v old.attempts); ahead = refl; settles = settles-still v other }) (λ f e none. none) (busy-marked.units v z at);
      tasks = λ n m other at. let is = busy-marked.tasks n m at in record {
        owner = is.owner;
        of = is.of;
        tree = is.tree;
        attempt = is.attempt;
        task = is.task;
        among = is.among;
        hangs = is.hangs;
        says = λ unended why. task-again mid begun-base refl is.owner is.tree.tasks is.tree.tasks is.task m (λ e. still-ahead mid begun-base is.owner refl) (λ f e come. come) (is.says unended);
        decides = λ ended e root. root-again mid begun-base is.owner m is.hangs (λ waits. still-ahead mid begun-base is.owner refl) (is.decides ended e root);
      };
      actors = λ b z at. busy-actors b z (same_name b a) refl at;
      pieces = λ v tree at n t among. let has = busy-marked.pieces v tree at n t among in record { mark = has.mark; there = has.there; of = has.of };
    }

    begin-settles : AreMarked new
    begin-settles = settles-marked old u x at_u h leads unfinished begun-base begun-but (record h { takes = None }) (left-definite h h.held) (apart-by mid busy-same) _ found new r.settles

  begin : (a : Name) (g : SettlesBegin old u x h a) (full : Bool) → TakeSettlesIfAllowed old u x h a g.actor g.message full found new → AreMarked new
  begin a g true r = absurd (ends-going old _ _ found new r goes_on)
  begin a g false r = begin-settles a g r

  next : (takes : Option Name) (held : List Request) → NextSettles old u x h takes held found new → AreMarked new
  next (Some a) held g = begin a g.0 (old.made == old.setup.limits.units) g.1
  next None (r ∷ rest) g = first r rest g
  next None [] g = absurd g

  -- ---- it goes on
  none-by : ((body : NodeId) (values : List Value) (at : Spot) → next_of old.setup unit ≡ halt.Ask (request.Dosync body values) at → ⊥) → named u old.attempts ≡ None
  none-by other = on (named u old.attempts) refl
    where
      on : (o : Option Attempt) → named u old.attempts ≡ o → o ≡ None
      on None is = refl
      on (Some tree) is = absurd (asks-no-attempt old st going u unit (state-there old.board u x at_u) other tree is)

  holds : (r : Request) → named u old.attempts ≡ None → lead.HoldsOn old u x h r found new → AreMarked new
  holds r none g = holds-marked old u x at_u h leads unfinished none r old all refl plain-apart found new g

  sends-ahead : (to : Name) (args : List Value) → named u old.attempts ≡ None → lead.SendsAhead old u x h to args found new → AreMarked new
  sends-ahead to args none g = by g.puts
    where
      base : Shared
      base = record old { mails = g.mails; board = g.board }

      acted : IsSameButActors old base → AreMarked new
      acted same = holds-marked old u x at_u h leads unfinished none (request.Send to args) base (marked-actors old base same all) refl (apart-by base same) found new g.holds

      by : Puts old u h to args g.mails g.board → AreMarked new
      by (lead.put actor there none_kept mailed rouses) = acted (actor-sent old all to g.mails g.board (λ empty. has-last (mail_at old.mails to) (tentative u u args) [] (sym mailed.here ∙ empty)) mailed.others rouses)
      by (lead.keep why same pieces) = holds-marked old u x at_u h leads unfinished none (request.Send to args) base
          (marked-same old base (record { setup = refl; attempts = λ v. refl; owners = refl; aheads = refl; taken = refl; pieces = pieces; mails = same }) all) refl (λ k at. plain-apart k (sym (pieces u) ∙ at)) found new g.holds

  tries : (body : NodeId) (values : List Value) (at : Spot) (attempt : Option Attempt) → named u old.attempts ≡ attempt → LeadTries old u x h body values at attempt found new → AreMarked new
  tries body values at (Some tree) is g = absurd g
  tries body values at None none g = begun-marked old all u x at_u (mark_ahead (is_definite old.taken h.takes) root) body values at none found new g (open-ahead (is_definite old.taken h.takes) root refl) (λ has z. says has z (is_definite old.taken h.takes) refl)
    where
      root : Mark
      root = mark.Waiting (wait.Finish (next_made u unit))

      can : can_settle new u ≡ is_definite old.taken h.takes
      can = ap (λ (s : Shared). can_settle s u) g.others ∙ settles-so old u x at_u h leads unfinished

      says : named u new.attempts ≡ Some g.tree → (z : Doing) (c : Bool) → is_definite old.taken h.takes ≡ c → UnitSays new u z (mark_ahead c root)
      says has z true is = inr (can ∙ is)
      says has z false is = marks.root (can ∙ is) g.tree has g.fresh.new.root_is

  waits : lead.WaitsDefinite old u x h found new → AreMarked new
  waits g = waits-marked old u x at_u h leads unfinished all found new g

  goes : (halted : Halt) → next_of old.setup unit ≡ halted → LeadGoes old u x h halted found new → AreMarked new
  goes (halt.Ask (request.Dosync body values) at) asks g = tries body values at (named u old.attempts) refl g
  goes (halt.Ask (request.Deref ref) at) asks g = waits g
  goes (halt.Ask (request.RefSet ref v) at) asks g = waits g
  goes (halt.Ask (request.Join future) at) asks g = waits g
  goes (halt.Ask (request.Print text) at) asks g = holds (request.Print text) (none-by (λ body values spot e. let no = sym asks ∙ e in cc)) g
  goes (halt.Ask (request.NewRef v) at) asks g = holds (request.NewRef v) (none-by (λ body values spot e. let no = sym asks ∙ e in cc)) g
  goes (halt.Ask (request.Fork body values) at) asks g = holds (request.Fork body values) (none-by (λ b vs spot e. let no = sym asks ∙ e in cc)) g
  goes (halt.Ask (request.Spawn behaviour state) at) asks g = holds (request.Spawn behaviour state) (none-by (λ body values spot e. let no = sym asks ∙ e in cc)) g
  goes (halt.Ask (request.Send to args) at) asks g = sends-ahead to args (none-by (λ body values spot e. let no = sym asks ∙ e in cc)) g
  goes (halt.Ask (request.Become behaviour state) at) asks g = holds (request.Become behaviour state) (none-by (λ body values spot e. let no = sym asks ∙ e in cc)) g
  goes (halt.Ask request.SelfActor at) asks g = holds request.SelfActor (none-by (λ body values spot e. let no = sym asks ∙ e in cc)) g
  goes (halt.Value v) asks g = waits g
  goes (halt.Fault failed at) asks g = waits g
  goes halt.Spent asks g = waits g

  gives : (settling : Bool) → LeadGives old u x h settling found new → AreMarked new
  gives true g = next h.takes h.held g
  gives false g = goes (next_of old.setup unit) refl g

-- what a turn that runs ahead comes to
pub marked-lead : (old : Shared) → Stands old → AreMarked old → old.end ≡ None → (name : Name) (claimed : Work) (found : Given) (new : Shared) → is_going new.end ≡ true → GaveLead old name claimed found new → AreMarked new
marked-lead old st all on_going name claimed found new goes_on g =
    gives old st all on_going name g.unit g.there g.ahead g.leads found new goes_on (is_definite old.taken g.ahead.takes && is_to_settle claimed) g.gives

-- a turn is begun ahead
module _ (old : Shared) (st : Stands old) (all : AreMarked old) (going : is_going old.end ≡ true) (a : Name) (found : Given) (new : Shared) (g : GaveTentative old a found new) where
  abbrev begun : Name
  begun = made_by a g.actor.state.turns

  abbrev rests : Actor
  rests = record { state = g.actor.state; mark = mark.Resting }

  abbrev base : Shared
  base = record old { board = g.takes.board; mails = new.mails; taken = new.taken }

  others : (b : Name) → (b ≡ a → ⊥) → named b new.taken ≡ named b old.taken
  others = changed-others a (Some g.first) old.taken new.taken g.takes.taken

  base-marked : AreMarked base
  base-marked = marked-actors old base (actor-put a (Some (piece.Actor rests)) old base (record {
    setup = refl;
    attempts = refl;
    owners = refl;
    aheads = refl;
    settles = λ v. settles-by old.taken new.taken a others (named v old.aheads) (λ h leads takes. let took = takes-taken old st v a h leads takes in let no : None ≡ Some took.0 = sym g.free ∙ took.1 in cc);
    put = g.takes.rests;
    but = sym (ap but_actor g.there);
    right = λ z e. put-mark (is_some (named a new.taken)) rests z (mail_at new.mails a) e (ap (λ o. actor_mark (is_some o || g.actor.state.busy) (mail_at new.mails a)) (sym (changed-here a (Some g.first) old.taken new.taken g.takes.taken)));
    taken = others;
    mails = g.takes.mailed.others;
  }) all) all

  pub marked-tentative : AreMarked new
  marked-tentative = marked-put base new base-marked begun g.takes.turn (ap (λ (s : Shared). s.setup) g.takes.others) (ap (λ (s : Shared). s.attempts) g.takes.others) (ap (λ (s : Shared). s.owners) g.takes.others)
      (changed-others begun (Some (begun_by a)) old.aheads new.aheads g.takes.aheads) refl (λ b. refl) nothing (no-attempt-of old st going begun g.takes.none) g.takes.begins.mark g.takes.put
    where
      nothing : piece_at g.takes.board begun ≡ None
      nothing = g.takes.rests.others begun (λ same. let no : None ≡ Some (piece.Actor g.actor) = sym g.takes.none ∙ ap (piece_at old.board) same ∙ g.there in cc) ∙ g.takes.none
