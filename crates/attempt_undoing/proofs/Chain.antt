-- From the attempt to all that hangs on it, one turn after another.
use Rattle.std.proofs.Common.{◌≡◌, ◌∙◌, ◌⊎◌, Bool, true, false, cond, inl, inr, List, [], ◌∷◌, ◌++◌, reverse, refl, sym, ap, ap₂, subst}
use Rattle.std.specs.Option.{IfSome, option_and_then, option_map}
use Rattle.std.specs.Prelude.{None, Option, Some, ◌&&◌, ◌||◌, is_some, not}
use Rattle.actor_mailbox.specs.declared.message.Message.{Message}
use Rattle.actor_mailbox.specs.Messages.{passes, without}
use Rattle.actor_mails.specs.Mails.{mail_at}
use Rattle.attempt_undoing.proofs.Goes.{none-ends}
use Rattle.attempt_undoing.proofs.Lists.{and-both, among-append, or-one, or-right, receivers-turned, sent-append, sent-each, sent-more, sent-under}
use Rattle.attempt_undoing.proofs.Sought.{IsSought, began-by, gone-message, message-gone, sought-more, sought-turn, taken-by, took-on, turn-hangs}
use Rattle.attempt_undoing.proofs.Unwinding.{IsUndoing, left_by, marked-like, undoing-none, undoing-sends, undoing-tasks, undoing-unit}
use Rattle.attempt_undoing.specs.Dropping.{has_task, task_gone_where}
use Rattle.attempt_undoing.specs.Hanging.{Sent, depends_in, effect_receivers, is_sent, next_turn, sends_on, turn_on, HeldFound, IsAll, IsTurnOn, TriedFound}
use Rattle.attempt_undoing.specs.Sends.{ActorsMarked, IsEnded, SendsGone, marked_now}
use Rattle.attempt_undoing.specs.Turns.{Going, NoneHangs, TreeGone, TreeGoneOf, TurnGone, hangs_by, still_hangs}
use Rattle.attempt_undoing.specs.Turns as gone_by
use Rattle.attempt_undoing.specs.Undoing.{IsTaken}
use Rattle.serial_model.specs.State.{UnitState}
use Rattle.shared_world.proofs.Live.{unit-piece}
use Rattle.shared_world.proofs.Standing.{root-in}
use Rattle.shared_world.specs.Ahead.{Ahead}
use Rattle.shared_world.specs.Dependence as depends
use Rattle.shared_world.specs.Dependence.{DependsIn}
use Rattle.shared_world.specs.Gave.{is_gone}
use Rattle.shared_world.specs.rows.Attempts.{IsWithout}
use Rattle.shared_world.specs.rows.Pieces.{but_gone}
use Rattle.shared_world.specs.rows.Undoing.{message_left}
use Rattle.shared_world.specs.Seen.{done_by_root, done_in}
use Rattle.shared_world.specs.Shared.{Shared, is_going, unit_state}
use Rattle.shared_world.specs.Stands.{Stands}
use Rattle.task_fork_join.specs.Attempt.{Attempt}
use Rattle.tentative_turn.specs.Sending.{request_receivers}
use Rattle.unit_table.specs.Board.{actor_at, lent_to, piece_at, unit_at}
use Rattle.unit_table.specs.declared.piece.Piece.{Piece}
use Rattle.unit_table.specs.declared.piece.Piece.TheVariants as piece
use Rattle.unit_table.specs.declared.unit.Unit.{Unit}
use Rattle.unit_table.specs.Piece.{unit_in}
use Rattle.value_core.proofs.NamedLaws.{same_name-equal, same_name-itself}
use Rattle.value_core.specs.declared.ticket.Ticket.{Ticket}
use Rattle.value_core.specs.Named.{Name, Named, is_among, made_by, named, same_name}

-- ---- the same sends elsewhere
pub sends-like : (sends : List Sent) (a b c d : Shared) → c.board ≡ a.board → c.mails ≡ a.mails → c.taken ≡ a.taken → d.board ≡ b.board → d.mails ≡ b.mails → d.taken ≡ b.taken → SendsGone sends a b → SendsGone sends c d
sends-like sends a b c d board mails taken board2 mails2 taken2 gone = record {
  mails = λ n. ap (λ all. mail_at all n) mails2 ∙ gone.mails n ∙ ap (λ all. without (is_sent sends n) (mail_at all n)) (sym mails);
  taken = λ n. ap (named n) taken2 ∙ gone.taken n ∙ ap (λ all. message_left (is_sent sends n) (named n all)) (sym taken);
  pieces = λ n. ap (λ q. piece_at q n) board2 ∙ gone.pieces n ∙ marked-like b d taken2 mails2 n (piece_at a.board n) ∙ ap (λ q. marked_now d n (piece_at q n)) (sym board);
  claims = λ t. claims t (gone.claims t);
}
  where
    claims : (t : Ticket) → (lent_to b.board t ≡ lent_to a.board t) ⊎ (IsEnded a b t) → (lent_to d.board t ≡ lent_to c.board t) ⊎ (IsEnded c d t)
    claims t (inl same) = inl (ap (λ q. lent_to q t) board2 ∙ same ∙ ap (λ q. lent_to q t) (sym board))
    claims t (inr e) = inr (record {
      name = e.name;
      was = ap (λ q. lent_to q t) board ∙ e.was;
      now = ap (λ q. lent_to q t) board2 ∙ e.now;
      actor = e.actor;
      there = ap (λ q. piece_at q e.name) board2 ∙ e.there;
      mail = ap (λ all. mail_at all e.name) mails2 ∙ e.mail;
    })

never : false ≡ true → ⊥
never e = cc

stays-not : (found : Option Piece) → found ≡ task_gone_where false found
stays-not None = refl
stays-not (Some (piece.Unit x)) = refl
stays-not (Some (piece.Task m)) = refl
stays-not (Some (piece.Actor x)) = refl

-- ---- the attempt of a unit goes
module _ (s : Shared) (tried turns : List Name) (sends : List Sent) (now : Shared) (way : IsUndoing s tried turns sends now) (v : Name) where
  pub tree-step : (t : Attempt) → named v now.attempts ≡ Some t → (start next : Shared) → start.board ≡ now.board → start.mails ≡ now.mails → start.taken ≡ now.taken → IsWithout v now.attempts start.attempts
      → (gone : TreeGone t start next) → IsUndoing s (v ∷ tried) turns (sends ++ sends_on t.root (effect_receivers (reverse gone.effects))) next
  tree-step t there start next board mails taken out gone =
      undoing-tasks s tried turns (sends ++ more) mid (undoing-sends s tried turns sends now way more mid sent refl) v next
      (λ q. ap (named q) (ap (λ (k : Shared). k.attempts) gone.new_is ∙ ap (λ (k : Shared). k.attempts) gone.mid_is) ∙ out q)
      (λ n. gone.pieces n ∙ ap (λ f. task_gone_where (has_task n f) (piece_at gone.mid.board n)) (sym there)) gone.claims (ap (λ (k : Shared). k.taken) gone.new_is) (ap (λ (k : Shared). k.mails) gone.new_is)
    where
      more : List Sent
      more = sends_on t.root (effect_receivers (reverse gone.effects))

      mid : Shared
      mid = record gone.mid { attempts = now.attempts }

      sent : SendsGone more now mid
      sent = sends-like more start gone.mid now mid (sym board) (sym mails) (sym taken) refl refl refl gone.sends

  -- where it has none, nothing more goes
  pub none-step : named v now.attempts ≡ None → (next : Shared) → next ≡ record now { attempts = next.attempts } → IsWithout v now.attempts next.attempts → IsUndoing s (v ∷ tried) turns sends next
  none-step none next same out = undoing-tasks s tried turns sends now way v next out
      (λ n. ap (λ (k : Shared). piece_at k.board n) same ∙ stays-not (piece_at now.board n) ∙ ap (λ f. task_gone_where (has_task n f) (piece_at now.board n)) (sym none))
      (λ t. ap (λ (k : Shared). lent_to k.board t) same ∙ subst (λ b. lent_to now.board t ≡ but_gone (is_gone now.board b) (lent_to now.board t)) (sym (ap (λ (k : Shared). k.board) same)) (none-ends now.board (lent_to now.board t)))
      (ap (λ (k : Shared). k.taken) same) (ap (λ (k : Shared). k.mails) same)

-- ---- what is found by it
module _ (s : Shared) (st : Stands s) (going : is_going s.end ≡ true) (v : Name) (t : Attempt) (there : named v s.attempts ≡ Some t) (start next : Shared) (gone : TreeGone t start next) where
  effects-are : gone.effects ≡ done_by_root t
  effects-are =
      let of = root-in s v t (st.attempts going v t there) in
      subst (λ f. IfSome f (λ k. gone.effects ≡ k.log.log.effects)) of.1 gone.done ∙ sym (ap done_in of.1)

  abbrev more : List Sent
  more = sends_on t.root (effect_receivers (reverse gone.effects))

  pub tree-found : (sends : List Sent) → TriedFound s v (sends ++ more)
  tree-found sends tree at to heard =
      let both : Some t ≡ Some tree = sym there ∙ at in
      let same : t ≡ tree = cc in
      subst (λ (k : Attempt). is_sent (sends ++ more) to k.root ≡ true) same (sent-append sends more to t.root ∙ or-right (is_sent sends to t.root) (is_sent more to t.root) (sent-each t.root (effect_receivers (reverse gone.effects)) to
      (sym (receivers-turned to gone.effects) ∙ subst (λ es. is_among to (effect_receivers es) ≡ true) (sym effects-are) (subst (λ (k : Attempt). is_among to (effect_receivers (done_by_root k)) ≡ true) (sym same) heard))))

  pub tree-hangs : (root : Name) → DependsIn s root t.root → (to on : Name) → is_sent more to on ≡ true → DependsIn s root on
  tree-hangs root hangs to on is = subst (DependsIn s root) (sym (sent-under t.root (effect_receivers (reverse gone.effects)) to on is)) hangs

-- ---- the whole way
module _ (s : Shared) (st : Stands s) (going : is_going s.end ≡ true) (u : Name) (tree : Attempt) (own : named u s.attempts ≡ Some tree) where
  -- so far these turns have gone
  pub record IsWay (turns : List Name) (now : Shared) : Type 0 where
    pub sends : List Sent
    pub undoing : IsUndoing s (turns ++ u ∷ []) turns sends now
    pub sought : IsSought s u tree.root turns sends

  -- the attempt of the unit goes first
  pub first-way : ActorsMarked s → (taken : Shared) → IsTaken s u tree taken → (mid : Shared) → TreeGone tree (record taken { aheads = [] }) mid → IsWay [] mid
  first-way right taken is mid gone = record {
    sends = [] ++ sends_on tree.root (effect_receivers (reverse gone.effects));
    undoing = tree-step s [] [] [] s (undoing-none s right) u tree own (record taken { aheads = [] }) mid (ap (λ (k : Shared). k.board) is.taken_is) (ap (λ (k : Shared). k.mails) is.taken_is) (ap (λ (k : Shared). k.taken) is.taken_is) is.attempts gone;
    sought = record {
      turns_hang = λ t is. absurd (never is);
      sends_hang = λ to on is. tree-hangs s st going u tree own (record taken { aheads = [] }) mid gone tree.root (depends.itself refl) to on is;
      own = tree-found s st going u tree own (record taken { aheads = [] }) mid gone [];
      tried = λ t is. absurd (never is);
      held = λ t is. absurd (never is);
    };
  }

  -- then a turn
  module _ (turns : List Name) (mid : Shared) (way : IsWay turns mid) (v : Name) (h : Ahead) (leads : named v s.aheads ≡ Some h) (hangs : still_hangs mid.taken mid.board v h ≡ true) (new : Shared) (gone : TurnGone v h mid new) where
    -- its begin is held, and what its actor took is gone
    by-actor : (a : Name) × (h.takes ≡ Some a) × (named a mid.taken ≡ None)
    by-actor = on h.takes refl (and-both (hangs_by mid.taken h.takes) (is_some (unit_at mid.board v)) hangs).0
      where
        on : (takes : Option Name) → h.takes ≡ takes → hangs_by mid.taken takes ≡ true → (a : Name) × (h.takes ≡ Some a) × (named a mid.taken ≡ None)
        on None e is = cc
        on (Some a) e is = (a, e, none (named a mid.taken) refl is)
          where
            none : (found : Option Message) → named a mid.taken ≡ found → not (is_some found) ≡ true → named a mid.taken ≡ None
            none None at is = at
            none (Some m) at is = cc

    turn-is : IsTurnOn s tree.root v
    turn-is =
        let a = by-actor in
        let began = began-by s st going v a.0 h leads a.1 in
        let why = gone-message (is_sent way.sends a.0) began.message (sym (ap (message_left (is_sent way.sends a.0)) began.took) ∙ sym (way.undoing.taken a.0) ∙ a.2) in
        let took : depends_in why.0 (named a.0 s.taken) ≡ true = ap (depends_in why.0) began.took ∙ ap (passes (same_name why.0)) why.1 ∙ same_name-itself why.0 in
        record {
          on = why.0;
          to = a.0;
          is = ap (λ c. cond c (next_turn a.0 (actor_at s.board a.0)) None) took ∙ ap (next_turn a.0) began.there ∙ ap (λ q. Some q) (sym began.called);
          hangs = way.sought.sends_hang a.0 why.0 why.2;
        }

    v-hangs : DependsIn s tree.root v
    v-hangs = turn-hangs s tree.root v turn-is

    abbrev held_sends : List Sent
    held_sends = sends_on v (request_receivers h.held)

    held-way : IsUndoing s (turns ++ u ∷ []) turns (way.sends ++ held_sends) gone.held
    held-way = undoing-sends s (turns ++ u ∷ []) turns way.sends mid way.undoing held_sends gone.held gone.sends (ap (λ (k : Shared). k.attempts) gone.held_is)

    held-sought : IsSought s u tree.root turns (way.sends ++ held_sends)
    held-sought = sought-more s u tree.root turns way.sends way.sought held_sends (λ to on is. subst (DependsIn s tree.root) (sym (sent-under v (request_receivers h.held) to on is)) v-hangs)

    held-found : HeldFound s v (way.sends ++ held_sends)
    held-found k at to heard =
        let both : Some h ≡ Some k = sym leads ∙ at in
        let same : h ≡ k = cc in
        sent-append way.sends held_sends to v ∙ or-right (is_sent way.sends to v) (is_sent held_sends to v) (sent-each v (request_receivers h.held) to (subst (λ (j : Ahead). is_among to (request_receivers j.held) ≡ true) (sym same) heard))

    -- all that an attempt has sent which has gone before
    before : (sends : List Sent) → IsSought s u tree.root turns sends → is_among v (turns ++ u ∷ []) ≡ true → TriedFound s v sends
    before sends sought is = by (or-one (is_among v turns) (is_among v (u ∷ [])) (sym (among-append v turns (u ∷ [])) ∙ is))
      where
        by : (is_among v turns ≡ true) ⊎ (is_among v (u ∷ []) ≡ true) → TriedFound s v sends
        by (inl turn) = sought.tried v turn
        by (inr last) = one (or-one (same_name v u) false last)
          where
            one : (same_name v u ≡ true) ⊎ (false ≡ true) → TriedFound s v sends
            one (inl same) = subst (λ n. TriedFound s n sends) (sym (same_name-equal v u same)) sought.own
            one (inr never-so) = cc

    -- its attempt goes, where it has one
    record IsTriedWay (next : Shared) : Type 0 where
      pub sends : List Sent
      pub undoing : IsUndoing s (v ∷ (turns ++ u ∷ [])) turns sends next
      pub sought : IsSought s u tree.root turns sends
      pub tried : TriedFound s v sends
      pub held : HeldFound s v sends

    tried-way : IsTriedWay gone.tried
    tried-way = by (named v gone.held.attempts) refl gone.attempt.tree
      where
        start : Shared
        start = record gone.held { attempts = gone.tried.attempts }

        by : (found : Option Attempt) → named v gone.held.attempts ≡ found → TreeGoneOf found start gone.tried → IsTriedWay gone.tried
        by None none same = record {
          sends = way.sends ++ held_sends;
          undoing = none-step s (turns ++ u ∷ []) turns (way.sends ++ held_sends) gone.held held-way v none gone.tried same gone.attempt.attempts;
          sought = held-sought;
          tried = at (is_among v (turns ++ u ∷ [])) refl;
          held = held-found;
        }
          where
            at : (c : Bool) → is_among v (turns ++ u ∷ []) ≡ c → TriedFound s v (way.sends ++ held_sends)
            at true e = before (way.sends ++ held_sends) held-sought e
            at false e = λ k there to heard. let no : None ≡ Some k = sym none ∙ held-way.attempts v ∙ ap (λ c. cond c None (named v s.attempts)) e ∙ there in cc
        by (Some t) some goes = record {
          sends = (way.sends ++ held_sends) ++ sends_on t.root (effect_receivers (reverse goes.effects));
          undoing = tree-step s (turns ++ u ∷ []) turns (way.sends ++ held_sends) gone.held held-way v t some start gone.tried refl refl refl gone.attempt.attempts goes;
          sought = sought-more s u tree.root turns (way.sends ++ held_sends) held-sought (sends_on t.root (effect_receivers (reverse goes.effects))) (tree-hangs s st going v t at start gone.tried goes tree.root (depends.attempt v t at refl v-hangs));
          tried = tree-found s st going v t at start gone.tried goes (way.sends ++ held_sends);
          held = λ k there to heard. sent-more (way.sends ++ held_sends) (sends_on t.root (effect_receivers (reverse goes.effects))) to v (held-found k there to heard);
        }
          where
            at : named v s.attempts ≡ Some t
            at = on (is_among v (turns ++ u ∷ [])) (sym (held-way.attempts v) ∙ some)
              where
                on : (c : Bool) → cond c None (named v s.attempts) ≡ Some t → named v s.attempts ≡ Some t
                on true e = cc
                on false e = e

    pub next-way : IsWay (v ∷ turns) new
    next-way = record {
      sends = tried-way.sends;
      undoing = undoing-unit s (v ∷ (turns ++ u ∷ [])) turns tried-way.sends gone.tried tried-way.undoing v new (ap (λ (k : Shared). k.attempts) gone.new_is) gone.unit (ap (λ (k : Shared). k.taken) gone.new_is) (ap (λ (k : Shared). k.mails) gone.new_is);
      sought = sought-turn s u tree.root turns tried-way.sends tried-way.sought v turn-is tried-way.tried tried-way.held;
    }

  -- and one after another
  pub going-way : (aheads : Named Ahead) → aheads ≡ s.aheads → (mid : Shared) → IsWay [] mid → (turns : List Name) (now : Shared) → Going aheads mid turns now → IsWay turns now
  going-way aheads same mid first turns now (gone_by.none is at) = subst (λ ts. IsWay ts now) (sym is) (subst (IsWay []) (sym at) first)
  going-way aheads same mid first turns now (gone_by.next turn h rest before is went hangs gone) =
      subst (λ ts. IsWay ts now) (sym is) (next-way rest before (going-way aheads same mid first rest before went) turn h (ap (named turn) (sym same) ∙ hangs.0) hangs.1 now gone)

  -- at last all is found
  pub all-found : (turns : List Name) (now : Shared) (way : IsWay turns now) → NoneHangs s.aheads now.taken now.board → IsAll s u tree.root turns way.sends
  all-found turns now way none = record {
    found = record { turns_hang = way.sought.turns_hang; sends_hang = way.sought.sends_hang; took = took };
    own = way.sought.own;
    tried = way.sought.tried;
    held = way.sought.held;
  }
    where
      took : (to on t : Name) → is_sent way.sends to on ≡ true → turn_on s on to ≡ Some t → is_among t turns ≡ true
      took to on t sent is =
          let k = took-on s on to t is in
          let by = taken-by s st going to k.actor k.message k.there k.took in
          let left : named to now.taken ≡ None = way.undoing.taken to ∙ ap (message_left (is_sent way.sends to)) k.took ∙ message-gone (is_sent way.sends to) k.message on k.depends sent in
          subst (λ n. is_among n turns ≡ true) (sym k.called) (gone (made_by to k.actor.turns) to by.ahead by.takes by.leads left (unit_at s.board (made_by to k.actor.turns)) refl by.stands)
        where
          gone : (v actor : Name) (h : Ahead) → h.takes ≡ Some actor → named v s.aheads ≡ Some h → named actor now.taken ≡ None → (x : Option Unit) → unit_at s.board v ≡ x → {k : UnitState} → option_map unit_state x ≡ Some k → is_among v turns ≡ true
          gone v actor h takes leads left None at stands = cc
          gone v actor h takes leads left (Some x) at stands = by_turn (is_among v turns) refl
            where
              hangs : hangs_by now.taken h.takes ≡ true
              hangs = ap (hangs_by now.taken) takes ∙ ap (λ f. not (is_some f)) left

              by_turn : (c : Bool) → is_among v turns ≡ c → is_among v turns ≡ true
              by_turn true e = e
              by_turn false e =
                  let there : unit_at now.board v ≡ Some x = ap (option_and_then unit_in) (way.undoing.pieces v ∙ ap (λ p. marked_now now v (left_by s.attempts (turns ++ u ∷ []) turns v p)) (unit-piece s.board v x at) ∙ ap (λ c. marked_now now v (cond c None (Some (piece.Unit x)))) e) in
                  let no : true ≡ false = sym (ap₂ (λ a b. a && b) hangs (ap is_some there)) ∙ none v h leads in
                  cc
