-- Sends that are put, or kept.
use Rattle.std.specs.Prelude.{◌≡◌, ◌≤◌, ◌∷◌, [], ℕ, List, Option, None, Some, IfSome, IsSome, drop, length, take, ⊤}
use Rattle.actor_mails.specs.Mails.{Boxes, room_at}
use Rattle.attempt_sends.specs.declared.letters.Letter.{Letter}
use Rattle.attempt_sends.specs.Letters.{letter_of, letters_of}
use Rattle.serial_model.specs.declared.actor_state.ActorState.{ActorState}
use Rattle.shared_world.specs.Ahead.{Ahead}
use Rattle.shared_world.specs.rows.Leading.{line_at}
use Rattle.shared_world.specs.rows.Sending.{Posts, PutOrKept, Send, sends_in}
use Rattle.shared_world.specs.Seen.{done_by_root}
use Rattle.shared_world.specs.Shared.{Shared}
use Rattle.task_fork_join.specs.Attempt.{Attempt}
use Rattle.unit_table.specs.Board.{Board, actor_at}
use Rattle.value_core.specs.Named.{Name, Named, named}
use Rattle.world_model.specs.Message.{unsettled}

-- where its receiver is there, there is room for so many messages to it
abbrev pub HasRoom : ℕ → Letter → Board → Boxes → Type 0
HasRoom n l board boxes = IsSome (actor_at board l.to) → n ≤ room_at boxes l.to

-- and so for each
abbrev pub HaveRoom : ℕ → List Letter → Board → Boxes → Type 0
HaveRoom n [] board boxes = ⊤
HaveRoom n (l ∷ letters) board boxes = HasRoom n l board boxes × HaveRoom n letters board boxes

-- its receiver is there, and each earlier send to that is put
pub record CanPut (s : Shared) (l : Letter) : Type 0 where
  pub actor : ActorState
  pub there : actor_at s.board l.to ≡ Some actor
  pub all_put : l.earlier ≤ length (unsettled l.message.sender (line_at s l.to))

-- the message is put, or kept, whoever's send it is
abbrev pub PutsOrKeeps : Shared → Letter → Shared → Type 0
PutsOrKeeps old l new = (u root : Name) (sends : List Send) (s : Send) → l ≡ letter_of u root (named u old.aheads) sends s → PutOrKept old u root sends s.0 s.1 new

-- the messages of what the root of the unit's attempt has sent since it had done so much
abbrev pub AreSince : Shared → Name → ℕ → List Letter → Type 0
AreSince s u before letters =
    IfSome (named u s.attempts) (λ (tree : Attempt). IsSome (named tree.root tree.tasks) → letters ≡ letters_of u tree.root (named u s.aheads) (sends_in (take before (done_by_root tree))) (sends_in (drop before (done_by_root tree))))

-- they are put or kept, one after another, whoever's sends they are
abbrev pub PutAll : Shared → List Letter → Shared → Type 0
PutAll old letters new = (u root : Name) (sends more : List Send) → letters ≡ letters_of u root (named u old.aheads) sends more → Posts old u root sends more new

-- What the root of the unit's attempt has done since it had done so much is sent: it is put at once, or kept.
abbrev pub ArePosted : Shared → Name → ℕ → Shared → Type 0
ArePosted old u before new =
    (tree : Attempt) → named u old.attempts ≡ Some tree → IsSome (named tree.root tree.tasks) → Posts old u tree.root (sends_in (take before (done_by_root tree))) (sends_in (drop before (done_by_root tree))) new
