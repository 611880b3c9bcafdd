-- What a turn comes to that runs ahead of the history: it holds one effect more, it waits, or the first that it holds is settled.
use Rattle.std.specs.Prelude.{◌≡◌, ◌⊎◌, ◌&&◌, ◌+◌, ◌==◌, ◌++◌, ◌∷◌, [], ℕ, List, Option, None, Some, Bool, true, false, cond, drop, is_some, length, map, not, suc}
use Rattle.std.specs.List.{slice_get}
use Rattle.std.specs.Option.{option_map}
use Rattle.actor_mailbox.specs.declared.message.Message.{Message}
use Rattle.actor_mailbox.specs.Messages.{definite}
use Rattle.actor_mails.specs.Mails.{Mail, IsMailed, SameMail, mail_at}
use Rattle.core_syntax.specs.declared.behaviour.Behaviour.{Behaviour}
use Rattle.core_syntax.specs.declared.node_id.NodeId.{NodeId}
use Rattle.ref_store.specs.Store.{committed, versions_of}
use Rattle.serial_model.specs.declared.actor_state.ActorState.{ActorState}
use Rattle.serial_model.specs.declared.end.End.TheVariants as ending
use Rattle.serial_model.specs.declared.entry.Entry.{Entry}
use Rattle.serial_model.specs.declared.entry.Entry.TheVariants.{Run, Take}
use Rattle.serial_model.specs.declared.halt.Halt.{Halt}
use Rattle.serial_model.specs.declared.halt.Halt.TheVariants as halt
use Rattle.serial_model.specs.declared.request.Request.{Request}
use Rattle.serial_model.specs.declared.request.Request.TheVariants as request
use Rattle.serial_model.specs.Sends.{sends_to}
use Rattle.serial_model.specs.State.{UnitState, new_unit}
use Rattle.serial_model.specs.Step.{idle, next_made, next_of}
use Rattle.shared_world.specs.Ahead.{Ahead}
use Rattle.shared_world.specs.declared.given.Given.{Given}
use Rattle.shared_world.specs.declared.given.Given.TheVariants as given
use Rattle.shared_world.specs.rows.Actors.{actor_with, roused_unless}
use Rattle.shared_world.specs.rows.Attempts.{BeginsMarked}
use Rattle.shared_world.specs.rows.Pieces.{ClaimsEnd, Ends, EndsBy, IsUnitAt}
use Rattle.shared_world.specs.Seen.{left_at, one_or_none}
use Rattle.shared_world.specs.Shared.{Shared, unit_state}
use Rattle.task_fork_join.specs.Attempt.{Attempt}
use Rattle.unit_table.specs.Board.{Board, IsPutAt, SamePieces, actor_at, lent_at, piece_at, unit_at}
use Rattle.unit_table.specs.declared.mark.Mark.{Mark}
use Rattle.unit_table.specs.declared.mark.Mark.TheVariants as mark
use Rattle.unit_table.specs.declared.mark.WaitOn.TheVariants as wait
use Rattle.unit_table.specs.declared.mark.Work.{Work}
use Rattle.unit_table.specs.declared.mark.Work.TheVariants as work
use Rattle.unit_table.specs.declared.piece.Actor.{Actor}
use Rattle.unit_table.specs.declared.piece.Piece.{Piece}
use Rattle.unit_table.specs.declared.piece.Piece.TheVariants as piece
use Rattle.unit_table.specs.declared.unit.Becoming.{Becoming}
use Rattle.unit_table.specs.declared.unit.Unit.{Unit}
use Rattle.value_core.specs.declared.value.Value.{Value}
use Rattle.value_core.specs.Named.{Name, Named, made_by, named, same_name}
use Rattle.value_core.specs.Place.{Spot}
use Rattle.world_model.specs.Ahead.{ahead}
use Rattle.world_model.specs.Message.{is_tentative, settle_or_put, settled, tentative, unsettled}
use Rattle.world_model.specs.rows.Effects.{has_put}
use Rattle.world_model.specs.rows.Turns.{busy_with}

-- a name has that now, and every other name what it had
abbrev pub IsChanged : {X : Type 0} → Name → Option X → Named X → Named X → Type 0
IsChanged {X} name found old new = (other : Name) → named other new ≡ cond (same_name other name) found (named other old)

-- ---- whether a turn is definite
-- its message is settled
abbrev pub is_settled : Option Message → Bool
is_settled None = false
is_settled (Some m) = not (is_some m.depends)

-- its begin is not held, or the message that it took is settled
abbrev pub is_definite : Named Message → Option Name → Bool
is_definite taken None = true
is_definite taken (Some actor) = is_settled (named actor taken)

-- it runs ahead and is definite: what it holds can be settled
abbrev pub settles_next : Named Message → Option Ahead → Bool
settles_next taken None = false
settles_next taken (Some h) = is_definite taken h.takes

abbrev pub can_settle : Shared → Name → Bool
can_settle s u = settles_next s.taken (named u s.aheads)

-- a definite turn that holds something settles that next; another one has that mark
abbrev pub mark_ahead : Bool → Mark → Mark
mark_ahead true m = mark.Ready work.Settle
mark_ahead false m = m

-- ---- one effect more is held
-- what an actor is still to answer for: the message of the turn whose begin is held, and its mail
abbrev pub line_at : Shared → Name → List Message
line_at s actor = one_or_none (named actor s.taken) ++ mail_at s.mails actor

-- those of the turn's sends to an actor that are kept: they are the last
abbrev pub kept_of_turn : Shared → Name → Ahead → Name → List Message
kept_of_turn s u h to = drop (length (unsettled u (line_at s to))) (map (tentative u u) (sends_to to h.held))

-- A send is put at once where its receiver is there and no earlier send of the turn to it is kept. Else it is kept.
pub data Puts (old : Shared) (u : Name) (h : Ahead) (to : Name) (args : List Value) (mails : Mail) (board : Board) : Type 0 where
  put : (actor : ActorState) → actor_at old.board to ≡ Some actor → kept_of_turn old u h to ≡ [] → IsMailed to (mail_at old.mails to ++ tentative u u args ∷ []) old.mails mails
      → IsPutAt to (roused_unless (is_some (named to old.taken)) (piece_at old.board to)) old.board board → Puts old u h to args mails board
  keep : (actor_at old.board to ≡ None) ⊎ (kept_of_turn old u h to ≡ [] → ⊥) → SameMail old.mails mails → SamePieces old.board board → Puts old u h to args mails board

-- Held: the turn goes on with its answer, and the request is the last that it holds
pub record HoldsOn (base : Shared) (u : Name) (x : Unit) (h : Ahead) (r : Request) (found : Given) (new : Shared) : Type 0 where
  pub found_is : found ≡ given.Held
  pub after : UnitState
  pub gives : ahead u (unit_state x) r ≡ Some after
  pub unit : Unit
  pub stands : IsUnitAt base.setup x unit after (mark_ahead (is_definite base.taken h.takes) (mark.Ready work.Eval))
  pub put : IsPutAt u (Some (piece.Unit unit)) base.board new.board
  pub aheads : IsChanged u (Some (record h { held = h.held ++ r ∷ []; waits = false })) base.aheads new.aheads
  pub others : new ≡ record base { board = new.board; aheads = new.aheads }

-- what a send puts comes first
pub record SendsAhead (old : Shared) (u : Name) (x : Unit) (h : Ahead) (to : Name) (args : List Value) (found : Given) (new : Shared) : Type 0 where
  pub mails : Mail
  pub board : Board
  pub puts : Puts old u h to args mails board
  pub holds : HoldsOn (record old { mails = mails; board = board }) u x h (request.Send to args) found new

-- what the turn holds that asks for that
abbrev pub LeadHolds : Shared → Name → Unit → Ahead → Request → Given → Shared → Type 0
LeadHolds old u x h (request.Send to args) found new = SendsAhead old u x h to args found new
LeadHolds old u x h r found new = HoldsOn old u x h r found new

-- Waiting: the turn waits until it is definite, or settles what it holds where it is; all else stays
pub record WaitsDefinite (old : Shared) (u : Name) (x : Unit) (h : Ahead) (found : Given) (new : Shared) : Type 0 where
  pub found_is : found ≡ given.Waiting (wait.Definite u)
  pub unit : Unit
  pub stands : IsUnitAt old.setup x unit (unit_state x) (mark_ahead (is_definite old.taken h.takes) (mark.Waiting (wait.Definite u)))
  pub put : IsPutAt u (Some (piece.Unit unit)) old.board new.board
  pub aheads : IsChanged u (Some (record h { waits = true })) old.aheads new.aheads
  pub others : new ≡ record old { board = new.board; aheads = new.aheads }

-- ---- the first that is held is settled
-- how many things the request makes
abbrev pub things_made : Request → ℕ
things_made (request.NewRef content) = 1
things_made (request.Fork body values) = 1
things_made (request.Spawn behaviour state) = 1
things_made _ = 0

-- what the actor becomes once the request is settled
abbrev pub becomes_after : Request → Option Becoming → Option Becoming
becomes_after (request.Become behaviour state) before = Some (record { behaviour = behaviour; state = state })
becomes_after _ before = before

-- where the history leaves the turn once it has done that request, of which it holds the rest
abbrev pub left_after : Ahead → Request → List Request → Ahead
left_after h r rest = record { answers = suc h.answers; made = h.made + things_made r; becomes = becomes_after r h.becomes; takes = None; held = rest; waits = h.waits }

-- a turn that holds nothing runs ahead no more
abbrev pub leads_on : Ahead → Option Ahead
leads_on h = of h.takes h.held
  where
    of : Option Name → List Request → Option Ahead
    of None [] = None
    of _ _ = Some h

-- where it does, it settles the next; else it waits for the root of its attempt, or what it waited for has come, or it goes on
abbrev pub mark_left : Option Ahead → Option Attempt → Bool → Mark
mark_left (Some h) tree waited = mark.Ready work.Settle
mark_left None (Some tree) waited = mark.Waiting (wait.Finish tree.root)
mark_left None None true = mark.Ready work.Settle
mark_left None None false = mark.Ready work.Eval

-- a task that waits until that turn is definite and holds nothing is ready to settle, once it is and does not
abbrev pub mark_definite : Name → Mark → Mark
mark_definite u (mark.Waiting (wait.Definite turn)) = cond (same_name turn u) (mark.Ready work.Settle) (mark.Waiting (wait.Definite turn))
mark_definite u m = m

abbrev pub definite_now : Name → Piece → Piece
definite_now u (piece.Task m) = piece.Task (mark_definite u m)
definite_now u p = p

abbrev pub beside_left : Name → Option Ahead → Option Piece → Option Piece
beside_left u (Some h) found = found
beside_left u None found = option_map (definite_now u) found

-- Settled: that entry is appended, and the turn stands where it did
pub record LeadSettles (base : Shared) (u : Name) (x : Unit) (left : Ahead) (entry : Entry) (found : Given) (new : Shared) : Type 0 where
  pub found_is : found ≡ given.Settled entry
  pub unit : Unit
  pub stands : IsUnitAt base.setup x unit (unit_state x) (mark_left (leads_on left) (named u base.attempts) left.waits)
  pub here : piece_at new.board u ≡ Some (piece.Unit unit)
  pub beside : (other : Name) → (other ≡ u → ⊥) → piece_at new.board other ≡ beside_left u (leads_on left) (piece_at base.board other)
  pub aheads : IsChanged u (leads_on left) base.aheads new.aheads
  pub others : new ≡ record base { history = base.history ++ entry ∷ []; board = new.board; aheads = new.aheads }

-- Settled: its begin; the actor is busy with the turn, which is one unit more
pub record TakeSettles (old : Shared) (u : Name) (x : Unit) (h : Ahead) (a : Name) (actor : Actor) (m : Message) (found : Given) (new : Shared) : Type 0 where
  pub board : Board
  pub busy : IsPutAt a (Some (piece.Actor (record { state = busy_with actor.state; mark = mark.Resting }))) old.board board
  pub taken : Named Message
  pub takes : IsChanged a None old.taken taken
  pub settles : LeadSettles (record old { board = board; taken = taken; made = suc old.made }) u x (record h { takes = None }) (Take a m.sender) found new

abbrev pub TakeSettlesIfAllowed : Shared → Name → Unit → Ahead → Name → Actor → Message → Bool → Given → Shared → Type 0
TakeSettlesIfAllowed old u x h a actor m true found new = EndsBy old (Take a m.sender) ending.UnitsSpent found new
TakeSettlesIfAllowed old u x h a actor m false found new = TakeSettles old u x h a actor m found new

-- the begin of the turn, whose message is settled
pub record SettlesBegin (old : Shared) (u : Name) (x : Unit) (h : Ahead) (a : Name) : Type 0 where
  pub message : Message
  pub took : named a old.taken ≡ Some message
  pub definite : message.depends ≡ None
  pub actor : Actor
  pub there : piece_at old.board a ≡ Some (piece.Actor actor)
  pub called : u ≡ made_by a actor.state.turns

-- ---- what a request does once it is settled, of a turn that the history left there
-- an idle actor is there
pub record SpawnsHeld (old : Shared) (name : Name) (behaviour : ℕ) (state : List Value) (base : Shared) : Type 0 where
  pub none : piece_at old.board name ≡ None
  pub put : IsPutAt name (Some (actor_with (idle behaviour state) (mail_at old.mails name))) old.board base.board
  pub others : base ≡ record old { board = base.board }

-- a plain unit is there, which is one unit more
pub record ForksHeld (old : Shared) (name : Name) (body : NodeId) (values : List Value) (base : Shared) : Type 0 where
  pub none : piece_at old.board name ≡ None
  pub child : Unit
  pub begins : IsUnitAt old.setup child child (new_unit None body values) (mark.Ready work.Eval)
  pub put : IsPutAt name (Some (piece.Unit child)) old.board base.board
  pub others : base ≡ record old { made = suc old.made; board = base.board }

-- a turn that holds something is ready to settle once it is definite; where a claim on it is out it stays ready for what it was
abbrev pub mark_settles : Bool → Mark → Mark
mark_settles lent (mark.Waiting on) = mark.Ready work.Settle
mark_settles false (mark.Ready work.Eval) = mark.Ready work.Settle
mark_settles lent m = m

abbrev pub settles_now : Bool → Piece → Piece
settles_now lent (piece.Unit x) = piece.Unit (record x { mark = mark_settles lent x.mark })
settles_now lent p = p

-- The first message that depends on the turn is settled: the one that its receiver took for a turn whose begin is held, which is
-- definite then; or one of the mail, in its place. Where there is none the message is the last of the mail.
pub data SendsHeld (old : Shared) (u to : Name) (args : List Value) (base : Shared) : Type 0 where
  taken : (m : Message) (actor : ActorState) → named to old.taken ≡ Some m → m.depends ≡ Some u → actor_at old.board to ≡ Some actor → IsChanged to (Some (definite m)) old.taken base.taken
      → IsPutAt (made_by to actor.turns) (option_map (settles_now (is_some (lent_at old.board (made_by to actor.turns)))) (piece_at old.board (made_by to actor.turns))) old.board base.board
      → base ≡ record old { taken = base.taken; board = base.board } → SendsHeld old u to args base
  mailed : has_put u (one_or_none (named to old.taken)) ≡ false → IsMailed to (settle_or_put (same_name u) (settled u args) (mail_at old.mails to)) old.mails base.mails
      → IsPutAt to (roused_unless (is_some (named to old.taken)) (piece_at old.board to)) old.board base.board → base ≡ record old { mails = base.mails; board = base.board } → SendsHeld old u to args base

-- ---- what the turn comes to
-- a fork, where the limit allows one unit more
abbrev pub ForkSettles : Shared → Name → Unit → Ahead → NodeId → List Value → List Request → Bool → Given → Shared → Type 0
ForkSettles old u x h body values rest true found new = Ends old u ending.UnitsSpent found new
ForkSettles old u x h body values rest false found new =
    (base : Shared) × ForksHeld old (next_made u (left_at h (unit_state x))) body values base × LeadSettles base u x (left_after h (request.Fork body values) rest) (Run u) found new

-- a ref that had no version has its first
pub record RefSettles (old : Shared) (u : Name) (x : Unit) (h : Ahead) (v : Value) (rest : List Request) (found : Given) (new : Shared) : Type 0 where
  pub none : versions_of old.versions (next_made u (left_at h (unit_state x))) ≡ []
  pub settles : LeadSettles (record old { versions = committed old.versions ((next_made u (left_at h (unit_state x)), v) ∷ []) (suc (length old.history)) }) u x (left_after h (request.NewRef v) rest) (Run u) found new

-- Settled: the first request that it holds is done
abbrev pub FirstSettles : Shared → Name → Unit → Ahead → Request → List Request → Given → Shared → Type 0
FirstSettles old u x h (request.Print text) rest found new = LeadSettles (record old { bytes = old.bytes ++ text }) u x (left_after h (request.Print text) rest) (Run u) found new
FirstSettles old u x h (request.NewRef v) rest found new = RefSettles old u x h v rest found new
FirstSettles old u x h (request.Spawn behaviour state) rest found new =
    (base : Shared) × SpawnsHeld old (next_made u (left_at h (unit_state x))) behaviour state base × LeadSettles base u x (left_after h (request.Spawn behaviour state) rest) (Run u) found new
FirstSettles old u x h (request.Fork body values) rest found new = ForkSettles old u x h body values rest (old.made == old.setup.limits.units) found new
FirstSettles old u x h (request.Send to args) rest found new = (base : Shared) × SendsHeld old u to args base × LeadSettles base u x (left_after h (request.Send to args) rest) (Run u) found new
FirstSettles old u x h (request.Become behaviour state) rest found new = LeadSettles old u x (left_after h (request.Become behaviour state) rest) (Run u) found new
FirstSettles old u x h request.SelfActor rest found new = LeadSettles old u x (left_after h request.SelfActor rest) (Run u) found new
FirstSettles old u x h r rest found new = ⊥

-- its begin, where that is held, and else the first request
abbrev pub NextSettles : Shared → Name → Unit → Ahead → Option Name → List Request → Given → Shared → Type 0
NextSettles old u x h (Some a) held found new = (g : SettlesBegin old u x h a) × TakeSettlesIfAllowed old u x h a g.actor g.message (old.made == old.setup.limits.units) found new
NextSettles old u x h None (r ∷ rest) found new = FirstSettles old u x h r rest found new
NextSettles old u x h None [] found new = ⊥

-- a turn that runs ahead begins an attempt, where it has none, and waits for its root until it is definite
abbrev pub LeadTries : Shared → Name → Unit → Ahead → NodeId → List Value → Spot → Option Attempt → Given → Shared → Type 0
LeadTries old u x h body values at None found new = BeginsMarked old u x (mark_ahead (is_definite old.taken h.takes) (mark.Waiting (wait.Finish (next_made u (unit_state x))))) body values at found new
LeadTries old u x h body values at (Some tree) found new = ⊥

-- what it comes to by where its machine halts, while it is not definite or holds something
abbrev pub LeadGoes : Shared → Name → Unit → Ahead → Halt → Given → Shared → Type 0
LeadGoes old u x h (halt.Ask (request.Dosync body values) at) found new = LeadTries old u x h body values at (named u old.attempts) found new
LeadGoes old u x h (halt.Ask (request.Deref ref) at) found new = WaitsDefinite old u x h found new
LeadGoes old u x h (halt.Ask (request.RefSet ref v) at) found new = WaitsDefinite old u x h found new
LeadGoes old u x h (halt.Ask (request.Join future) at) found new = WaitsDefinite old u x h found new
LeadGoes old u x h (halt.Ask r at) found new = LeadHolds old u x h r found new
LeadGoes old u x h halted found new = WaitsDefinite old u x h found new

-- A turn that runs ahead: where it is definite and was claimed to settle, the next that it holds is settled; else it goes on.
abbrev pub LeadGives : Shared → Name → Unit → Ahead → Bool → Given → Shared → Type 0
LeadGives old u x h true found new = NextSettles old u x h h.takes h.held found new
LeadGives old u x h false found new = LeadGoes old u x h (next_of old.setup (unit_state x)) found new

abbrev pub is_to_settle : Work → Bool
is_to_settle work.Settle = true
is_to_settle _ = false

pub record GaveLead (old : Shared) (name : Name) (claimed : Work) (found : Given) (new : Shared) : Type 0 where
  pub unit : Unit
  pub there : unit_at old.board name ≡ Some unit
  pub ahead : Ahead
  pub leads : named name old.aheads ≡ Some ahead
  pub gives : LeadGives old name unit ahead (is_definite old.taken ahead.takes && is_to_settle claimed) found new
  pub claims : ClaimsEnd (λ q. same_name q name) old new

-- ---- how a turn comes to run ahead
-- a turn that has just begun, and whose begin is held
abbrev pub begun_by : Name → Ahead
begun_by a = record { answers = 0; made = 0; becomes = None; takes = Some a; held = []; waits = false }

-- Held: an idle actor takes the first message of its mail, which is not settled. Its turn on that can go on, and the actor rests.
pub record TakesAhead (old : Shared) (a : Name) (actor : ActorState) (m : Message) (rest : List Message) (behaviour : Behaviour) (found : Given) (new : Shared) : Type 0 where
  pub found_is : found ≡ given.Held
  pub none : piece_at old.board (made_by a actor.turns) ≡ None
  pub turn : Unit
  pub begins : IsUnitAt old.setup turn turn (new_unit (Some a) behaviour.body (actor.state ++ m.args)) (mark.Ready work.Eval)
  pub board : Board
  pub rests : IsPutAt a (Some (piece.Actor (record { state = actor; mark = mark.Resting }))) old.board board
  pub put : IsPutAt (made_by a actor.turns) (Some (piece.Unit turn)) board new.board
  pub mailed : IsMailed a rest old.mails new.mails
  pub taken : IsChanged a (Some m) old.taken new.taken
  pub aheads : IsChanged (made_by a actor.turns) (Some (begun_by a)) old.aheads new.aheads
  pub others : new ≡ record old { board = new.board; mails = new.mails; taken = new.taken; aheads = new.aheads }

-- an idle actor without a turn, whose first message is not settled
pub record GaveTentative (old : Shared) (a : Name) (found : Given) (new : Shared) : Type 0 where
  pub actor : Actor
  pub there : piece_at old.board a ≡ Some (piece.Actor actor)
  pub first : Message
  pub rest : List Message
  pub mail : mail_at old.mails a ≡ first ∷ rest
  pub idle : actor.state.busy ≡ false
  pub free : named a old.taken ≡ None
  pub tentative : is_tentative first ≡ true
  pub behaviour : Behaviour
  pub behaves : slice_get old.setup.program.behaviours actor.state.behaviour ≡ Some behaviour
  pub takes : TakesAhead old a actor.state first rest behaviour found new
  pub claims : ClaimsEnd (λ q. same_name q a) old new
