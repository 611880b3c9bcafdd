use Rattle.std.proofs.Common.{◌≡◌, ◌∙◌, ◌≤◌, ℕ, sym, ap, subst, arith}
use Rattle.std.specs.Prelude.{Result, Ok, Err, OnErr, OnOk}
use Rattle.std.proofs.lemmas.Result.{on_ok_weaker}
use Rattle.value_core.specs.Named.{Name, with_named}
use Rattle.actor_mails.specs.Mails.{held, room_at, room_in, Boxes, KeepsRoom}
use Rattle.actor_mails.proofs.BoxLaws.{keeps_room, room_here}
use Rattle.actor_mails.proofs.Held.{held_made}
use Rattle.actor_mails.proofs.mails.add_box.Goals as goal

either_way : {A E : Type 0} (r : Result A E) (P Q R : Type 0) → OnOk r P → OnErr r Q → (P → R) → (Q → R) → R
either_way (Ok a) P Q R p q ok err = ok p
either_way (Err e) P Q R p q ok err = err q

-- the new box goes under the actor's name
put_there : (c : goal.After-put) → c.put.new.map.entries ≡ with_named c.args.boxes.now.entries c.in_ok-copy.field-0 c.reserve.new.self → c.put.new.map.entries ≡ with_named c.args.boxes.now.entries c.args.to.now c.reserve.new.self
put_there c put = put ∙ ap (λ (name : Name). with_named c.args.boxes.now.entries name c.reserve.new.self) c.in_ok-copy.ensures

pub returns-clause-mail : goal.returns-clause-mail
returns-clause-mail c =
    let old = c.args.boxes.now.entries in
    let new = c.put.new.map.entries in
    either_way c.put.result _ _ (held new ≡ held old) c.put.ensures.put c.put.ensures.same
    (λ put. ap (λ (boxes : Boxes). held boxes) (put_there c put) ∙ held_made c.args.to.now c.reserve.new.self old (c.in_ok-reserve.ensures.items ∙ c.new-mailbox.ensures) c.requires)
    (ap (λ (boxes : Boxes). held boxes))

pub returns-clause-room : goal.returns-clause-room
returns-clause-room c =
    on_ok_weaker c.put.result (λ put. subst (λ (room : ℕ). c.args.room ≤ room) (sym (room_here c.args.to.now c.reserve.new.self c.args.boxes.now.entries c.put.new.map.entries (put_there c put))) c.in_ok-reserve.ensures.room) c.put.ensures.put

pub returns-clause-kept : goal.returns-clause-kept
returns-clause-kept c =
    let old = c.args.boxes.now.entries in
    let new = c.put.new.map.entries in
    either_way c.put.result _ _ (KeepsRoom old new) c.put.ensures.put c.put.ensures.same
    (λ put. keeps_room c.args.to.now c.reserve.new.self old new (put_there c put) (let none : room_at old c.args.to.now ≡ 0 = ap room_in c.requires in omega arith))
    (λ same actor. subst (λ (boxes : Boxes). room_at old actor ≤ room_at boxes actor) (sym same) (omega arith))
