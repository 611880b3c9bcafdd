-- What a turn sends that runs ahead.
use Rattle.std.proofs.Common.{◌≡◌, ◌≤◌, ◌-◌, ◌+◌, ◌∙◌, ◌⊎◌, ◌++◌, ◌∷◌, [], ℕ, Bool, true, false, IsTrue, inl, inr, List, drop, is_some, length, length-append, length-drop, map, refl, sym, ap, ap₂, subst, arith}
use Rattle.std.proofs.lemmas.List.{drop_all, length-map}
use Rattle.std.proofs.lemmas.List.Elements.{filter-append}
use Rattle.std.specs.Prelude.{IfSome, None, Option, Some, filter, ◌↔◌}
use Rattle.actor_mailbox.specs.declared.message.Message.{Message}
use Rattle.actor_mailbox.specs.Messages.{from, is_from}
use Rattle.actor_mails.specs.Mails.{IsMailed, mail_at}
use Rattle.ahead_steps.proofs.Came.{came-so}
use Rattle.ahead_steps.proofs.Held.{held-claims, holds-base}
use Rattle.ahead_steps.specs.declared.holding.Going.{Going}
use Rattle.ahead_steps.specs.Going.{GoesOn, HoldsLast, IsGoingAt}
use Rattle.ahead_steps.specs.Leads.{Came}
use Rattle.ahead_steps.specs.Sending.{CanPut}
use Rattle.eval_step.specs.Evaluation.{Evaluation}
use Rattle.serial_model.specs.declared.actor_state.ActorState.{ActorState}
use Rattle.serial_model.specs.declared.request.Request.TheVariants as request
use Rattle.serial_model.specs.Sends.{sends_to}
use Rattle.shared_world.specs.Ahead.{Ahead}
use Rattle.shared_world.specs.declared.given.Given.{Given}
use Rattle.shared_world.specs.declared.given.Given.TheVariants as given
use Rattle.shared_world.specs.rows.Actors.{roused_unless}
use Rattle.shared_world.specs.rows.Leading as rows
use Rattle.shared_world.specs.rows.Leading.{HoldsOn, SendsAhead, kept_of_turn, line_at}
use Rattle.shared_world.specs.Seen.{one_or_none}
use Rattle.shared_world.specs.Shared.{Shared}
use Rattle.shared_world.specs.Stands.{Stands}
use Rattle.unit_table.specs.Board.{IsPutAt, SameClaims, actor_at, piece_at, unit_at}
use Rattle.unit_table.specs.declared.unit.Unit.{Unit}
use Rattle.value_core.specs.declared.value.Value.{Value}
use Rattle.value_core.specs.Named.{Name, named}
use Rattle.world_model.specs.Message.{is_tentative, tentative, unsettled}
use Rattle.world_steps.proofs.Acting.{roused-units}
use Rattle.world_steps.proofs.Settling.{same-claims}
use Rattle.world_steps.specs.Kept.{IsSameBut, IsUnitOf}

-- what is not settled of a line
unsettled-line : (u : Name) (taken mail : List Message) → length (unsettled u (taken ++ mail)) ≡ length (unsettled u taken) + length (unsettled u mail)
unsettled-line u taken mail =
    ap (λ ms. length (filter is_tentative ms)) (filter-append (is_from u) taken mail) ∙ ap length (filter-append is_tentative (from u taken) (from u mail))
    ∙ length-append (unsettled u taken) (unsettled u mail)

-- none is dropped but those that are there
none-dropped : {X : Type 0} (put : ℕ) (all : List X) (sent taken mailed : ℕ) → put ≡ taken + mailed → length all ≡ sent → (sent - taken ≤ mailed) ↔ (drop put all ≡ [])
none-dropped put all sent taken mailed put_is all_is = (
  λ few. drop_all put all (omega (arith, few, put_is, all_is)),
  λ none. let rest : length all - put ≡ 0 = sym (length-drop put all) ∙ ap length none in omega (arith, rest, put_is, all_is),
)

-- each send is put exactly where as many of them are not settled
pub none-kept : (s : Shared) (u : Name) (h : Ahead) (to : Name) (sent taken mailed : ℕ) → sent ≡ length (sends_to to h.held) → taken ≡ length (unsettled u (one_or_none (named to s.taken))) → mailed ≡ length (unsettled u (mail_at s.mails to))
    → (sent - taken ≤ mailed) ↔ (kept_of_turn s u h to ≡ [])
none-kept s u h to sent taken mailed sent_is taken_is mailed_is =
    none-dropped (length (unsettled u (line_at s to))) (map (tentative u u) (sends_to to h.held)) sent taken mailed
    (unsettled-line u (one_or_none (named to s.taken)) (mail_at s.mails to) ∙ ap₂ (λ a b. a + b) (sym taken_is) (sym mailed_is)) (length-map (sends_to to h.held) (tentative u u) ∙ sym sent_is)

-- a send that is not put is kept
pub sends-kept : (old new : Shared) (name : Name) (x : Unit) (h : Ahead) (to : Name) (args : List Value) (found : Given) → (CanPut old name h to → ⊥) → HoldsOn old name x h (request.Send to args) found new → SendsAhead old name x h to args found new
sends-kept old new name x h to args found not holds = record {
  mails = old.mails;
  board = old.board;
  puts = rows.keep (on (actor_at old.board to) refl) (λ a. refl) (λ n. refl);
  holds = holds;
}
  where
    on : (found_actor : Option ActorState) → actor_at old.board to ≡ found_actor → (actor_at old.board to ≡ None) ⊎ (kept_of_turn old name h to ≡ [] → ⊥)
    on None is = inl is
    on (Some actor) is = inr (λ none. not (record { actor = actor; there = is; none_kept = none }))

-- what is the same is the same but for room
pub same-but : (old new : Shared) → new ≡ old → IsSameBut old new
same-but old new is = record {
  pieces = λ n. ap (λ (s : Shared). piece_at s.board n) is;
  claims = subst (λ (s : Shared). SameClaims old.board s.board) (sym is) (same-claims old.board);
  rest = is ∙ ap (λ b. record old { board = b }) (sym (ap (λ (s : Shared). s.board) is));
}

-- its message is put, and its receiver roused
pub sent-came : (old mid new : Shared) (name : Name) (moved : Evaluation) (to receiver : Name) (args : List Value) (m : Message) (g : Going) (found : Given) → Stands old → (is : IsUnitOf old name moved)
    → ((h : Ahead) → named name old.aheads ≡ Some h → CanPut old name h to) → receiver ≡ to → m ≡ tentative name name args → IsGoingAt old name moved (request.Send to args) g → HoldsLast name (request.Send to args) old.aheads mid.aheads
    → mid ≡ record old { mails = mid.mails; board = mid.board; aheads = mid.aheads } → IsMailed receiver (mail_at old.mails receiver ++ m ∷ []) old.mails mid.mails
    → IsPutAt receiver (roused_unless (is_some (named receiver old.taken)) (piece_at old.board receiver)) old.board mid.board → SameClaims old.board mid.board → found ≡ given.Held
    → IfSome (unit_at mid.board name) (λ x. GoesOn name x g mid.board new.board) → new ≡ record mid { board = new.board } → Came old name (λ x lead found_so after. SendsAhead old name x lead to args found_so after) new found
sent-came old mid new name moved to receiver args m g found st is puts to_is m_is going holds mid_is mailed rouses kept found_is goes new_is =
    came-so old new name (λ x lead found_so after. SendsAhead old name x lead to args found_so after) found is.unit going.lead.lead is.there going.lead.leads
    (let can = puts going.lead.lead going.lead.leads in record {
      mails = mid.mails;
      board = mid.board;
      puts = rows.put can.actor can.there can.none_kept
          (subst (λ n. IsMailed n (mail_at old.mails n ++ tentative name name args ∷ []) old.mails mid.mails) to_is (subst (λ k. IsMailed receiver (mail_at old.mails receiver ++ k ∷ []) old.mails mid.mails) m_is mailed))
          (subst (λ n. IsPutAt n (roused_unless (is_some (named n old.taken)) (piece_at old.board n)) old.board mid.board) to_is rouses);
      holds = holds-base old mid new name moved (request.Send to args) g found st is going holds mid_is there kept found_is goes new_is;
    })
    (held-claims old mid new name moved (request.Send to args) g found st is going holds mid_is there kept found_is goes new_is)
  where
    there : unit_at mid.board name ≡ Some is.unit
    there = roused-units (is_some (named receiver old.taken)) old.board mid.board receiver rouses name ∙ is.there

-- the actor is there
pub can-put : (s : Shared) (name : Name) (h : Ahead) (to : Name) (actor : ActorState) (b : Bool) → actor_at s.board to ≡ Some actor → IsTrue b ↔ (kept_of_turn s name h to ≡ []) → IsTrue b ↔ CanPut s name h to
can-put s name h to actor b there put = (λ is. record { actor = actor; there = there; none_kept = put.0 is }, λ can. put.1 can.none_kept)

pub cannot-put : (s : Shared) (name : Name) (h : Ahead) (to : Name) → actor_at s.board to ≡ None → IsTrue false ↔ CanPut s name h to
cannot-put s name h to none = (λ is. let no : false ≡ true = is in cc, λ can. let no : None ≡ Some can.actor = sym none ∙ can.there in cc)
