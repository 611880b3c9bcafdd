-- Sends that are put or kept, one after another.
use Rattle.std.proofs.Common.{◌≡◌, ◌∙◌, ◌⊎◌, ◌+◌, ◌-◌, ◌≤◌, ◌<◌, ℕ, zero, suc, Bool, true, false, inl, inr, length, length-append, map, take, le_of_suc-le-suc, not-suc-le-zero, slice_index_or, le_trans, List, [], ◌∷◌, ◌++◌, refl, sym, ap, ap₂, subst, arith}
use Rattle.std.proofs.lemmas.List.{drop_all, length-map}
use Rattle.std.proofs.lemmas.List.Elements.{filter-append}
use Rattle.std.specs.Option.{IsSome}
use Rattle.std.specs.Prelude.{Err, IfOk, IfSome, None, Ok, Option, Result, Some, drop, filter, is_some, ◌↔◌}
use Rattle.actor_mailbox.specs.declared.message.Message.{Message}
use Rattle.actor_mailbox.specs.Messages.{from, is_from}
use Rattle.actor_mails.specs.Mails.{Boxes, IsMailed, KeepsRoom, KeepsRoomBut, Mail, mail_at, room_at}
use Rattle.attempt_sends.specs.declared.letters.Letter.{Letter}
use Rattle.attempt_sends.specs.Letters.{count_sent, held_sends, letter_of, letters_of}
use Rattle.attempt_sends.specs.Putting.{AreSince, CanPut, HasRoom, HaveRoom, PutAll, PutsOrKeeps}
use Rattle.serial_model.specs.declared.actor_state.ActorState.{ActorState}
use Rattle.serial_model.specs.declared.effect.Effect.{Effect}
use Rattle.serial_model.specs.Sends.{sends_to}
use Rattle.shared_world.proofs.ActorPieces.{actors-put, roused-same}
use Rattle.shared_world.specs.Ahead.{Ahead}
use Rattle.shared_world.specs.rows.Actors.{roused_unless}
use Rattle.shared_world.specs.rows.Leading.{line_at}
use Rattle.shared_world.specs.rows.Sending as row
use Rattle.shared_world.specs.rows.Sending.{Posts, PutOrKept, Send, args_to, kept_by, sends_in, sent_by}
use Rattle.shared_world.specs.rows.Unsettled.{held_to}
use Rattle.shared_world.specs.Seen.{done_by_root, done_in, one_or_none}
use Rattle.shared_world.specs.Shared.{Shared}
use Rattle.task_fork_join.specs.Attempt.{Attempt, IsRootLog}
use Rattle.task_fork_join.specs.declared.task.Task.{Task}
use Rattle.txn_snapshot.specs.SnapshotTask.{SnapshotTask}
use Rattle.unit_table.specs.Board.{Board, HasPlace, IsPutAt, SameClaims, actor_at, piece_at}
use Rattle.value_core.proofs.NamedLaws.{same_name-equal, same_name-itself}
use Rattle.value_core.specs.Named.{Name, named, same_name}
use Rattle.world_model.specs.Message.{is_tentative, tentative, unsettled}
use Rattle.world_steps.proofs.Settling.{same-claims}
use Rattle.world_steps.specs.declared.kept.Kept.{Kept}
use Rattle.world_steps.specs.Kept.{shared_of}

-- ---- whether a send is put
-- what is not settled of a line
unsettled-line : (u : Name) (taken mail : List Message) → length (unsettled u (taken ++ mail)) ≡ length (unsettled u taken) + length (unsettled u mail)
unsettled-line u taken mail =
    ap (λ ms. length (filter is_tentative ms)) (filter-append (is_from u) taken mail) ∙ ap length (filter-append is_tentative (from u taken) (from u mail))
    ∙ length-append (unsettled u taken) (unsettled u mail)

-- so many are there exactly where the line has them
pub all-there : (s : Shared) (u to : Name) (earlier taken mailed : ℕ) → taken ≡ length (unsettled u (one_or_none (named to s.taken))) → mailed ≡ length (unsettled u (mail_at s.mails to)) → (earlier - taken ≤ mailed) ↔ (earlier ≤ length (unsettled u (line_at s to)))
all-there s u to earlier taken mailed taken_is mailed_is =
    let whole = unsettled-line u (one_or_none (named to s.taken)) (mail_at s.mails to) in (λ is. omega (arith, is, taken_is, mailed_is, whole), λ is. omega (arith, is, taken_is, mailed_is, whole))

held-count : (u to : Name) (held : Option Ahead) → length (held_to u to held) ≡ length (held_sends to held)
held-count u to None = refl
held-count u to (Some h) = length-map (sends_to to h.held) (tentative u u)

sent-count : (s : Shared) (u root : Name) (sends : List Send) (to : Name) → length (sent_by s u root sends to) ≡ count_sent (named u s.aheads) sends to
sent-count s u root sends to =
    length-append (held_to u to (named u s.aheads)) (map (tentative u root) (args_to to sends)) ∙ ap₂ (λ a b. a + b) (held-count u to (named u s.aheads)) (length-map (args_to to sends) (tentative u root))

length-drop-none : {X : Type 0} (n : ℕ) (xs : List X) → drop n xs ≡ [] → length xs ≤ n
length-drop-none n [] is = omega arith
length-drop-none zero (x ∷ xs) is = cc
length-drop-none (suc n) (x ∷ xs) is = let rest = length-drop-none n xs is in omega (arith, rest)

-- none of the earlier ones is kept exactly where they are all there
none-kept : (s : Shared) (u root : Name) (sends : List Send) (to : Name) → (count_sent (named u s.aheads) sends to ≤ length (unsettled u (line_at s to))) ↔ (kept_by s u root sends to ≡ [])
none-kept s u root sends to = let count = sent-count s u root sends to in (
  λ all. drop_all (length (unsettled u (line_at s to))) (sent_by s u root sends to) (omega (arith, all, count)),
  λ none. let few = length-drop-none (length (unsettled u (line_at s to))) (sent_by s u root sends to) none in omega (arith, few, count),
)

-- a message that can be put is
pub puts-so : (old new : Shared) (l : Letter) (mails : Mail) (board : Board) → CanPut old l → IsMailed l.to (mail_at old.mails l.to ++ l.message ∷ []) old.mails mails
    → IsPutAt l.to (roused_unless (is_some (named l.to old.taken)) (piece_at old.board l.to)) old.board board → new ≡ record old { mails = mails; board = board } → PutsOrKeeps old l new
puts-so old new l mails board can mailed rouses others u root sends s is = row.put (record {
  actor = can.actor;
  there = sym (ap (λ (k : Letter). actor_at old.board k.to) is) ∙ can.there;
  none_kept = (none-kept old u root sends s.0).0 (subst (λ (k : Letter). k.earlier ≤ length (unsettled k.message.sender (line_at old k.to))) is can.all_put);
  mails = mails;
  mailed = subst (λ (k : Letter). IsMailed k.to (mail_at old.mails k.to ++ k.message ∷ []) old.mails mails) is mailed;
  board = board;
  rouses = subst (λ (k : Letter). IsPutAt k.to (roused_unless (is_some (named k.to old.taken)) (piece_at old.board k.to)) old.board board) is rouses;
  others = others;
})

-- another one is kept
pub keeps-so : (old new : Shared) (l : Letter) → (CanPut old l → ⊥) → new ≡ old → PutsOrKeeps old l new
keeps-so old new l not same u root sends s is = row.keep (on (actor_at old.board s.0) refl) same
  where
    on : (found : Option ActorState) → actor_at old.board s.0 ≡ found → (actor_at old.board s.0 ≡ None) ⊎ (kept_by old u root sends s.0 ≡ [] → ⊥)
    on None e = inl e
    on (Some actor) e = inr (λ none. not (record {
      actor = actor;
      there = ap (λ (k : Letter). actor_at old.board k.to) is ∙ e;
      all_put = subst (λ (k : Letter). k.earlier ≤ length (unsettled k.message.sender (line_at old k.to))) (sym is) ((none-kept old u root sends s.0).1 none);
    }))

-- ---- one after another
pub put-none : (s : Shared) → PutAll s [] s
put-none s u root sends [] is = refl
put-none s u root sends (m ∷ more) is = cc

pub put-next : (old mid new : Shared) (l : Letter) (letters : List Letter) → PutsOrKeeps old l mid → mid.aheads ≡ old.aheads → PutAll mid letters new → PutAll old (l ∷ letters) new
put-next old mid new l letters one aheads rest u root sends [] is = cc
put-next old mid new l letters one aheads rest u root sends (m ∷ more) is =
    let first : l ≡ letter_of u root (named u old.aheads) sends m = cc in
    let others : letters ≡ letters_of u root (named u old.aheads) (sends ++ m ∷ []) more = cc in
    (mid, one u root sends m first, rest u root (sends ++ m ∷ []) more (others ∙ ap (λ hs. letters_of u root (named u hs) (sends ++ m ∷ []) more) (sym aheads)))

-- ---- room
-- there is room for the others, once one is put or kept
pub room-left : (n : ℕ) (to : Name) (letters : List Letter) (old new : Board) (boxes after : Boxes) → ((a : Name) → actor_at new a ≡ actor_at old a) → room_at boxes to ≤ room_at after to + 1 → KeepsRoomBut to boxes after → HaveRoom (suc n) letters old boxes
    → HaveRoom n letters new after
room-left n to [] old new boxes after same less kept room = tt
room-left n to (l ∷ letters) old new boxes after same less kept room = (one (same_name l.to to) refl, room-left n to letters old new boxes after same less kept room.1)
  where
    one : (c : Bool) → same_name l.to to ≡ c → HasRoom n l new after
    one true e some =
        let is_to = same_name-equal l.to to e in
        let had : suc n ≤ room_at boxes l.to = room.0 (subst IsSome (same l.to) some) in
        let here = ap (room_at boxes) is_to in
        let now = ap (room_at after) is_to in omega (arith, had, here, now, less)
    one false e some =
        let had : suc n ≤ room_at boxes l.to = room.0 (subst IsSome (same l.to) some) in
        let still = kept l.to (λ is. let no : true ≡ false = sym (same_name-itself to) ∙ ap (λ k. same_name k to) (sym is) ∙ e in cc) in omega (arith, had, still)

-- no room is lost
pub room-kept : (n : ℕ) (letters : List Letter) (board : Board) (boxes after : Boxes) → KeepsRoom boxes after → HaveRoom n letters board boxes → HaveRoom n letters board after
room-kept n [] board boxes after kept room = tt
room-kept n (l ∷ letters) board boxes after kept room = (λ some. let had : n ≤ room_at boxes l.to = room.0 some in let still = kept l.to in omega (arith, had, still), room-kept n letters board boxes after kept room.1)

-- there is room for one message more, and no room was lost
pub room-next : (n i : ℕ) (letters : List Letter) (l d : Letter) (board : Board) (boxes after : Boxes) → i < length letters → l ≡ slice_index_or letters i d → KeepsRoom boxes after → HaveRoom n (take i letters) board boxes → HasRoom n l board after
    → HaveRoom n (take (i + 1) letters) board after
room-next n i [] l d board boxes after in_it is kept room one = absurd (not-suc-le-zero in_it)
room-next n zero (x ∷ letters) l d board boxes after in_it is kept room one = (subst (λ (k : Letter). HasRoom n k board after) is one, tt)
room-next n (suc i) (x ∷ letters) l d board boxes after in_it is kept room one =
    subst (λ k. HaveRoom n (take k (x ∷ letters)) board after) more
    (λ some. let had : n ≤ room_at boxes x.to = room.0 some in let still = kept x.to in omega (arith, had, still), room-next n i letters l d board boxes after (le_of_suc-le-suc in_it) is kept room.1 one)
  where
    more : suc (i + 1) ≡ suc i + 1
    more = omega arith

-- ---- the loop
-- The messages but these are put or kept: what comes of these comes of all.
pub record ArePutting (start now : Kept) (all rest : List Letter) : Type 0 where
  pub room : HaveRoom (length rest) rest now.units now.mails
  pub put : (new : Shared) → PutAll (shared_of now) rest new → PutAll (shared_of start) all new
  pub others : now ≡ record start { units = now.units; mails = now.mails }
  pub claims : SameClaims start.units now.units
  pub places : (other : Name) → HasPlace start.units other → HasPlace now.units other

pub putting-none : (k : Kept) (all : List Letter) → HaveRoom (length all) all k.units k.mails → ArePutting k k all all
putting-none k all room = record { room = room; put = λ new is. is; others = refl; claims = same-claims k.units; places = λ other place. place }

pub putting-next : (start mid new : Kept) (all rest : List Letter) (l : Letter) → ArePutting start mid all (l ∷ rest) → PutsOrKeeps (shared_of mid) l (shared_of new) → new ≡ record mid { units = new.units; mails = new.mails }
    → room_at mid.mails l.to ≤ room_at new.mails l.to + 1 → KeepsRoomBut l.to mid.mails new.mails → SameClaims mid.units new.units → ((other : Name) → HasPlace mid.units other → HasPlace new.units other)
    → ((a : Name) → actor_at new.units a ≡ actor_at mid.units a) → ArePutting start new all rest
putting-next start mid new all rest l is one others less kept claims places actors = record {
  room = room-left (length rest) l.to rest mid.units new.units mid.mails new.mails actors less kept is.room.1;
  put = λ last more. is.put last (put-next (shared_of mid) (shared_of new) last l rest one (ap (λ (k : Kept). (shared_of k).aheads) others) more);
  others = others ∙ ap (λ (k : Kept). record k { units = new.units; mails = new.mails }) is.others;
  claims = record { lent = λ name. claims.lent name ∙ is.claims.lent name; to = λ claim. claims.to claim ∙ is.claims.to claim; later = λ slot. le_trans (is.claims.later slot) (claims.later slot) };
  places = λ other place. places other (is.places other place);
}

-- at last they all are
pub all-put : (start now : Kept) (all : List Letter) → ArePutting start now all [] → PutAll (shared_of start) all (shared_of now)
all-put start now all is = is.put (shared_of now) (put-none (shared_of now))

-- there is room for the first of them
pub first-room : (l : Letter) (rest : List Letter) (k : Kept) {start : Kept} {all : List Letter} → ArePutting start k all (l ∷ rest) → IsSome (actor_at k.units l.to) → 0 < room_at k.mails l.to
first-room l rest k is some = let had : suc (length rest) ≤ room_at k.mails l.to = is.room.0 some in omega (arith, had)

-- a message that is put leaves the actors
pub roused-actors : (s : Shared) (to : Name) (begun : Bool) (new : Board) → IsPutAt to (roused_unless begun (piece_at s.board to)) s.board new → (a : Name) → actor_at new a ≡ actor_at s.board a
roused-actors s to begun new put = actors-put to (roused_unless begun (piece_at s.board to)) s.board new (roused-same begun (piece_at s.board to)) put

-- ---- what was sent since
root-done : (tree : Attempt) (log : SnapshotTask) (effects : List Effect) → IsRootLog tree log → effects ≡ log.log.effects → IsSome (named tree.root tree.tasks) → effects ≡ done_by_root tree
root-done tree log effects is same = on (named tree.root tree.tasks) is
  where
    on : (o : Option Task) → IfSome o (λ t. log ≡ t.log) → IsSome o → effects ≡ done_in o
    on None so some = absurd (cc)
    on (Some t) so some = same ∙ ap (λ (l : SnapshotTask). l.log.effects) so

pub since-so : {V E : Type 0} (items : V → List Letter) (result : Result V E) (s : Shared) (u root : Name) (before : ℕ) (tree : Attempt) (held : Option Ahead) (effects : List Effect) (log : SnapshotTask) → named u s.attempts ≡ Some tree
    → held ≡ named u s.aheads → root ≡ tree.root → IsRootLog tree log → effects ≡ log.log.effects → IfOk result (λ letters. items letters ≡ letters_of u root held (sends_in (take before effects)) (sends_in (drop before effects)))
    → IfOk result (λ letters. AreSince s u before (items letters))
since-so items (Err e) s u root before tree held effects log there held_is root_is is same listed = tt
since-so items (Ok letters) s u root before tree held effects log there held_is root_is is same listed =
    subst (λ (o : Option Attempt). IfSome o (λ (t : Attempt). IsSome (named t.root t.tasks) → items letters ≡ letters_of u t.root (named u s.aheads) (sends_in (take before (done_by_root t))) (sends_in (drop before (done_by_root t))))) (sym there)
    (λ rooted. listed ∙ ap₂ (λ n h. letters_of u n h (sends_in (take before effects)) (sends_in (drop before effects))) root_is held_is
    ∙ ap (λ es. letters_of u tree.root (named u s.aheads) (sends_in (take before es)) (sends_in (drop before es))) (root-done tree log effects is same rooted))
