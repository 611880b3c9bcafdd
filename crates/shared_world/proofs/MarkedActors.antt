-- How the marks stay right where actors are made, roused and freed.
use Rattle.std.proofs.Common.{◌≡◌, ◌∙◌, Bool, true, false, List, [], ◌∷◌, ◌++◌, refl, sym, ap, ap₂, subst}
use Rattle.std.specs.Prelude.{◌||◌, Option, None, Some, is_some}
use Rattle.actor_mailbox.specs.declared.message.Message.{Message}
use Rattle.actor_mails.specs.Mails.{Mail, SameMailBut, mail_at}
use Rattle.serial_model.specs.declared.actor_state.ActorState.{ActorState}
use Rattle.shared_world.proofs.Besides.{apart-of}
use Rattle.shared_world.proofs.Marks.{IsSameButActors, but_actor}
use Rattle.shared_world.specs.Marks.{AreMarked}
use Rattle.shared_world.specs.rows.Actors.{actor_mark, actor_with, has_turn, mark_roused, roused_unless}
use Rattle.shared_world.specs.rows.Leading.{can_settle}
use Rattle.shared_world.specs.Shared.{Shared}
use Rattle.unit_table.specs.Board.{Board, IsPutAt, piece_at}
use Rattle.unit_table.specs.declared.piece.Actor.{Actor}
use Rattle.unit_table.specs.declared.piece.Piece.{Piece}
use Rattle.unit_table.specs.declared.piece.Piece.TheVariants as piece
use Rattle.value_core.proofs.NamedLaws.{same_name-equal}
use Rattle.value_core.specs.Named.{Name, named, same_name}

-- the mark of an actor that stands there is that of the one that was put
pub put-mark : (begun : Bool) (x z : Actor) (mail : List Message) → Some (piece.Actor x) ≡ Some (piece.Actor z) → x.mark ≡ actor_mark (begun || x.state.busy) mail → z.mark ≡ actor_mark (begun || z.state.busy) mail
put-mark begun x z mail e right = let same : x ≡ z = cc in subst (λ (k : Actor). k.mark ≡ actor_mark (begun || k.state.busy) mail) same right

-- once it has mail an actor is roused
roused-mark : (busy : Bool) (before mail : List Message) → (mail ≡ [] → ⊥) → mark_roused busy (actor_mark busy before) ≡ actor_mark busy mail
roused-mark true before mail some = refl
roused-mark false before [] some = absurd (some refl)
roused-mark false [] (m ∷ ms) some = refl
roused-mark false (first ∷ rest) (m ∷ ms) some = refl

-- the mark of an actor that was roused, unless a turn of it is begun, is right once it has mail
pub rouses-right : (begun : Bool) (before mail : List Message) (found : Option Piece) (z : Actor) → ((x : Actor) → found ≡ Some (piece.Actor x) → x.mark ≡ actor_mark (begun || x.state.busy) before)
    → (mail ≡ [] → ⊥) → roused_unless begun found ≡ Some (piece.Actor z) → z.mark ≡ actor_mark (begun || z.state.busy) mail
rouses-right true before mail found z right some e = right z e
rouses-right false before mail None z right some e = cc
rouses-right false before mail (Some (piece.Unit x)) z right some e = cc
rouses-right false before mail (Some (piece.Task m)) z right some e = cc
rouses-right false before mail (Some (piece.Actor x)) z right some e = put-mark false (record x { mark = mark_roused x.state.busy x.mark }) z mail e
    (ap (mark_roused x.state.busy) (right x refl) ∙ roused-mark x.state.busy before mail some)

-- with a message behind it no mail is empty
pub has-last : (before : List Message) (m : Message) (ms : List Message) → before ++ m ∷ ms ≡ [] → ⊥
has-last [] m ms e = cc
has-last (first ∷ rest) m ms e = cc

pub roused-but : (begun : Bool) (found : Option Piece) → but_actor (roused_unless begun found) ≡ but_actor found
roused-but true found = refl
roused-but false None = refl
roused-but false (Some (piece.Unit x)) = refl
roused-but false (Some (piece.Task m)) = refl
roused-but false (Some (piece.Actor a)) = refl

-- no message is taken of an actor that is not there
abbrev pub NoneTaken : Shared → Type 0
NoneTaken s = (a : Name) → piece_at s.board a ≡ None → named a s.taken ≡ None

-- What stands under that name is the same to the marks, but where it is an actor, whose mark is right; and everything else stays.
pub record IsActorPut (a : Name) (now : Option Piece) (old new : Shared) : Type 0 where
  pub setup : new.setup ≡ old.setup
  pub attempts : new.attempts ≡ old.attempts
  pub owners : new.owners ≡ old.owners
  pub aheads : new.aheads ≡ old.aheads
  pub settles : (v : Name) → can_settle new v ≡ can_settle old v
  pub put : IsPutAt a now old.board new.board
  pub but : but_actor now ≡ but_actor (piece_at old.board a)
  pub right : (x : Actor) → now ≡ Some (piece.Actor x) → x.mark ≡ actor_mark (has_turn new.taken a x.state) (mail_at new.mails a)
  pub taken : (b : Name) → (b ≡ a → ⊥) → named b new.taken ≡ named b old.taken
  pub mails : SameMailBut a old.mails new.mails

module _ (a : Name) (now : Option Piece) (old new : Shared) (is : IsActorPut a now old new) (marked : AreMarked old) where
  pieces : (n : Name) (c : Bool) → same_name n a ≡ c → but_actor (piece_at new.board n) ≡ but_actor (piece_at old.board n)
  pieces n true e = ap but_actor (ap (piece_at new.board) (same_name-equal n a e) ∙ is.put.here) ∙ is.but ∙ ap (λ q. but_actor (piece_at old.board q)) (sym (same_name-equal n a e))
  pieces n false e = ap but_actor (is.put.others n (apart-of n a e))

  actors : (b : Name) (x : Actor) (c : Bool) → same_name b a ≡ c → piece_at new.board b ≡ Some (piece.Actor x) → x.mark ≡ actor_mark (has_turn new.taken b x.state) (mail_at new.mails b)
  actors b x true e there = is.right x (sym is.put.here ∙ ap (piece_at new.board) (sym (same_name-equal b a e)) ∙ there) ∙ ap (λ q. actor_mark (has_turn new.taken q x.state) (mail_at new.mails q)) (sym (same_name-equal b a e))
  actors b x false e there =
      marked.actors b x (sym (is.put.others b (apart-of b a e)) ∙ there)
      ∙ sym (ap₂ (λ found mail. actor_mark (is_some found || x.state.busy) mail) (is.taken b (apart-of b a e)) (is.mails b (apart-of b a e)))

  pub actor-put : IsSameButActors old new
  actor-put = record {
    setup = is.setup;
    attempts = λ v. ap (named v) is.attempts;
    owners = is.owners;
    aheads = is.aheads;
    settles = is.settles;
    pieces = λ n. pieces n (same_name n a) refl;
    actors = λ b x there. actors b x (same_name b a) refl there;
  }

-- an actor is there with the mark that its state and its mail say, where nothing stood but an actor of which no message is taken
pub actor-placed : (old : Shared) → AreMarked old → (a : Name) (state : ActorState) (board : Board) → but_actor (piece_at old.board a) ≡ None → named a old.taken ≡ None
    → IsPutAt a (Some (actor_with state (mail_at old.mails a))) old.board board → IsSameButActors old (record old { board = board })
actor-placed old marked a state board none free put = actor-put a (Some (actor_with state (mail_at old.mails a))) old (record old { board = board }) (record {
  setup = refl;
  attempts = refl;
  owners = refl;
  aheads = refl;
  settles = λ v. refl;
  put = put;
  but = sym none;
  right = λ x e. put-mark (is_some (named a old.taken)) (record { state = state; mark = actor_mark state.busy (mail_at old.mails a) }) x (mail_at old.mails a) e (ap (λ found. actor_mark (is_some found || state.busy) (mail_at old.mails a)) (sym free));
  taken = λ b other. refl;
  mails = λ b other. refl;
}) marked

-- an actor that has mail now is roused
pub actor-sent : (old : Shared) → AreMarked old → (to : Name) (mails : Mail) (board : Board) → (mail_at mails to ≡ [] → ⊥) → SameMailBut to old.mails mails → IsPutAt to (roused_unless (is_some (named to old.taken)) (piece_at old.board to)) old.board board
    → IsSameButActors old (record old { board = board; mails = mails })
actor-sent old marked to mails board some others put = actor-put to (roused_unless begun (piece_at old.board to)) old (record old { board = board; mails = mails }) (record {
  setup = refl;
  attempts = refl;
  owners = refl;
  aheads = refl;
  settles = λ v. refl;
  put = put;
  but = roused-but begun (piece_at old.board to);
  right = λ x e. rouses-right begun (mail_at old.mails to) (mail_at mails to) (piece_at old.board to) x (marked.actors to) some e;
  taken = λ b other. refl;
  mails = others;
}) marked
  where
    begun : Bool
    begun = is_some (named to old.taken)
