-- All that hangs on an attempt is found, and nothing else.
use Rattle.std.proofs.Common.{◌≡◌, ◌∙◌, ◌⊎◌, Bool, true, false, inl, inr, List, [], ◌∷◌, ◌++◌, refl, sym, ap, subst}
use Rattle.std.specs.Prelude.{None, Option, Some, ◌||◌, cond}
use Rattle.actor_mailbox.specs.declared.message.Message.{Message}
use Rattle.actor_mailbox.specs.Messages.{passes}
use Rattle.attempt_undoing.proofs.Sought.{took-on, turn-hangs}
use Rattle.attempt_undoing.proofs.Lists.{or-left, or-one, or-right}
use Rattle.attempt_undoing.specs.Hanging.{Sent, depends_in, effect_receiver, effect_receivers, goes_with, is_root_in, is_root_of, is_sent, next_turn, turn_on, IsAll}
use Rattle.serial_model.specs.declared.effect.Effect.{Effect}
use Rattle.serial_model.specs.declared.effect.What.{What}
use Rattle.serial_model.specs.declared.effect.What.TheVariants as what
use Rattle.serial_model.specs.declared.request.Request.{Request}
use Rattle.serial_model.specs.declared.request.Request.TheVariants as request
use Rattle.serial_model.specs.Sends.{effects_to, sends_to, what_sends}
use Rattle.shared_world.proofs.Gone.{seen-as}
use Rattle.shared_world.proofs.Hangs.{IsSentBy, no-unit-at, same-unit, sent-by, turn-there, unit-of}
use Rattle.shared_world.proofs.Hangs as by_whom
use Rattle.shared_world.specs.Ahead.{Ahead}
use Rattle.shared_world.specs.Dependence as depends
use Rattle.shared_world.specs.Dependence.{AreGone, DependsIn}
use Rattle.shared_world.specs.Seen.{done_by_root, live_with, one_or_none}
use Rattle.shared_world.specs.Shared.{Shared, is_going}
use Rattle.shared_world.specs.Stands.{Stands}
use Rattle.std.specs.Option.{option_map}
use Rattle.task_fork_join.specs.Attempt.{Attempt}
use Rattle.tentative_turn.specs.Sending.{request_receivers}
use Rattle.unit_table.specs.Board.{actor_at}
use Rattle.value_core.proofs.NamedLaws.{same_name-equal, same_name-itself}
use Rattle.value_core.specs.Named.{Name, is_among, named, same_name}
use Rattle.world_model.proofs.lists.Lists.{Each}
use Rattle.world_model.specs.World.{LiveUnit, World}

-- ---- who is sent something is a receiver
pub heard-request : (a : Name) (rs : List Request) → (sends_to a rs ≡ [] → ⊥) → is_among a (request_receivers rs) ≡ true
heard-request a [] some = absurd (some refl)
heard-request a (request.Send to args ∷ rs) some = by (same_name a to) refl (heard-request a rs)
  where
    by : (c : Bool) → same_name a to ≡ c → ((sends_to a rs ≡ [] → ⊥) → is_among a (request_receivers rs) ≡ true) → (c || is_among a (request_receivers rs)) ≡ true
    by true e rest = refl
    by false e rest = rest (λ none. some (ap (λ c. cond c (args ∷ []) [] ++ sends_to a rs) e ∙ none))
heard-request a (request.Print text ∷ rs) some = heard-request a rs some
heard-request a (request.NewRef v ∷ rs) some = heard-request a rs some
heard-request a (request.Deref ref ∷ rs) some = heard-request a rs some
heard-request a (request.RefSet ref v ∷ rs) some = heard-request a rs some
heard-request a (request.Fork body values ∷ rs) some = heard-request a rs some
heard-request a (request.Join f ∷ rs) some = heard-request a rs some
heard-request a (request.Dosync body values ∷ rs) some = heard-request a rs some
heard-request a (request.Spawn behaviour state ∷ rs) some = heard-request a rs some
heard-request a (request.Become behaviour state ∷ rs) some = heard-request a rs some
heard-request a (request.SelfActor ∷ rs) some = heard-request a rs some

pub heard-effect : (a : Name) (es : List Effect) → (effects_to a es ≡ [] → ⊥) → is_among a (effect_receivers es) ≡ true
heard-effect a [] some = absurd (some refl)
heard-effect a (e ∷ es) some = on e.what (λ none. heard-effect a es (λ more. some (ap (λ l. l ++ effects_to a es) none ∙ more)))
  where
    on : (w : What) → (what_sends a w ≡ [] → is_among a (effect_receivers es) ≡ true) → is_among a (effect_receiver w ++ effect_receivers es) ≡ true
    on (what.Bytes text) rest = rest refl
    on (what.Spawn actor behaviour state) rest = rest refl
    on (what.Become behaviour state) rest = rest refl
    on (what.Send to args) rest = by (same_name a to) (λ e. rest (ap (λ c. cond c (args ∷ []) []) e)) refl
      where
        by : (c : Bool) → (same_name a to ≡ false → is_among a (effect_receivers es) ≡ true) → same_name a to ≡ c → (c || is_among a (effect_receivers es)) ≡ true
        by true rest e = refl
        by false rest e = rest e

-- ---- roots
-- a name that is the root of the attempt of one of these is that of that unit
pub record IsRootOfOne (s : Shared) (n : Name) (units : List Name) : Type 0 where
  pub unit : Name
  pub one : is_among unit units ≡ true
  pub tree : Attempt
  pub there : named unit s.attempts ≡ Some tree
  pub root : n ≡ tree.root

pub root-of-one : (s : Shared) (n : Name) (units : List Name) → is_root_in s n units ≡ true → IsRootOfOne s n units
root-of-one s n [] is = cc
root-of-one s n (v ∷ vs) is = by (or-one (is_root_of n (named v s.attempts)) (is_root_in s n vs) is) (root-of-one s n vs)
  where
    by : (is_root_of n (named v s.attempts) ≡ true) ⊎ (is_root_in s n vs ≡ true) → (is_root_in s n vs ≡ true → IsRootOfOne s n vs) → IsRootOfOne s n (v ∷ vs)
    by (inl first) rest = at (named v s.attempts) refl first
      where
        at : (found : Option Attempt) → named v s.attempts ≡ found → is_root_of n found ≡ true → IsRootOfOne s n (v ∷ vs)
        at None e so = cc
        at (Some t) e so = record { unit = v; one = or-left (same_name v v) (is_among v vs) (same_name-itself v); tree = t; there = e; root = same_name-equal n t.root so }
    by (inr later) rest = let o = rest later in record { unit = o.unit; one = or-right (same_name o.unit v) (is_among o.unit vs) o.one; tree = o.tree; there = o.there; root = o.root }

pub root-in : (s : Shared) (v : Name) (t : Attempt) (units : List Name) → is_among v units ≡ true → named v s.attempts ≡ Some t → is_root_in s t.root units ≡ true
root-in s v t [] is there = cc
root-in s v t (k ∷ ks) is there = by (or-one (same_name v k) (is_among v ks) is) (λ later. root-in s v t ks later there)
  where
    by : (same_name v k ≡ true) ⊎ (is_among v ks ≡ true) → (is_among v ks ≡ true → is_root_in s t.root ks ≡ true) → is_root_in s t.root (k ∷ ks) ≡ true
    by (inl same) rest = or-left (is_root_of t.root (named k s.attempts)) (is_root_in s t.root ks)
        (ap (is_root_of t.root) (ap (λ q. named q s.attempts) (sym (same_name-equal v k same)) ∙ there) ∙ same_name-itself t.root)
    by (inr later) rest = or-right (is_root_of t.root (named k s.attempts)) (is_root_in s t.root ks) (rest later)

module _ (s : Shared) (st : Stands s) (going : is_going s.end ≡ true) (u : Name) (tree : Attempt) (own : named u s.attempts ≡ Some tree) (turns : List Name) (sends : List Sent) (all : IsAll s u tree.root turns sends) where
  abbrev w : World
  w = st.world

  abbrev goes : Name → Bool
  goes = goes_with s u turns

  -- a turn that is found is a unit
  pub turn-unit : (t : Name) → is_among t turns ≡ true → w.units t ≡ None → ⊥
  turn-unit t is none =
      let on = all.found.turns_hang t is in
      let took = took-on s on.on on.to t on.is in
      turn-there s st on.to took.actor took.message (st.seen.actors on.to ∙ took.there) (st.seen.taken on.to ∙ ap one_or_none took.took) (ap w.units (sym took.called) ∙ none)

  -- and so is what has an attempt: it is no root
  pub no-root : (n : Name) (x : LiveUnit) → w.units n ≡ Some x → (v : Name) (t : Attempt) → named v s.attempts ≡ Some t → n ≡ t.root → ⊥
  no-root n x there v t is same = let no : Some x ≡ None = sym there ∙ ap w.units same ∙ no-unit-at s st going v t is in cc

  pub ahead-unit : (n : Name) (h : Ahead) → named n s.aheads ≡ Some h → (x : LiveUnit) × (w.units n ≡ Some x)
  ahead-unit n h leads = let a = st.aheads n h leads in (live_with (named n s.aheads) a.unit, st.seen.units n ∙ ap (option_map (live_with (named n s.aheads))) a.there)

  -- what goes under a name that goes is found
  pub sent-found : (a on : Name) → goes on ≡ true → IsSentBy s on a → is_sent sends a on ≡ true
  sent-found a on is (by_whom.held h leads some) = by (or-one (is_among on turns) (is_root_in s on (u ∷ turns)) is)
    where
      by : (is_among on turns ≡ true) ⊎ (is_root_in s on (u ∷ turns) ≡ true) → is_sent sends a on ≡ true
      by (inl turn) = all.held on turn h leads a (heard-request a h.held some)
      by (inr root) = let o = root-of-one s on (u ∷ turns) root in let x = ahead-unit on h leads in absurd (no-root on x.0 x.1 o.unit o.tree o.there o.root)
  sent-found a on is (by_whom.done v t there at_root some) = by (or-one (is_among on turns) (is_root_in s on (u ∷ turns)) is)
    where
      heard : is_among a (effect_receivers (done_by_root t)) ≡ true
      heard = heard-effect a (done_by_root t) some

      of : (k : Name) → k ≡ v → (is_among k (u ∷ turns) ≡ true) → is_sent sends a t.root ≡ true
      of k same one = at (or-one (same_name k u) (is_among k turns) one)
        where
          at : (same_name k u ≡ true) ⊎ (is_among k turns ≡ true) → is_sent sends a t.root ≡ true
          at (inl first) = all.own t (ap (λ q. named q s.attempts) (sym (same_name-equal k u first) ∙ same) ∙ there) a heard
          at (inr later) = all.tried v (subst (λ q. is_among q turns ≡ true) same later) t there a heard

      by : (is_among on turns ≡ true) ⊎ (is_root_in s on (u ∷ turns) ≡ true) → is_sent sends a on ≡ true
      by (inl turn) = absurd (turn-unit on turn (ap w.units (sym at_root) ∙ no-unit-at s st going v t there))
      by (inr root) =
          let o = root-of-one s on (u ∷ turns) root in
          let mine = seen-as s st going v t there in
          let its = seen-as s st going o.unit o.tree o.there in
          let same = same-unit s st o.unit v its.tried mine.tried its.there mine.there (its.is.root ∙ sym o.root ∙ sym at_root ∙ sym mine.is.root) in
          subst (λ n. is_sent sends a n ≡ true) at_root (of o.unit same o.one)

  pub took-by : (a : Name) (m : Message) → named a s.taken ≡ Some m → (on : Name) → m.depends ≡ Some on → IsSentBy s on a
  took-by a m took on dep = (subst (λ ms. Each (λ (k : Message). (o : Name) → k.depends ≡ Some o → IsSentBy s o a) (ms ++ w.mails a)) (st.seen.taken a ∙ ap one_or_none took) (sent-by s st going a)).0 on dep

  goes-all : (n : Name) → DependsIn s tree.root n → goes n ≡ true
  goes-all n (depends.itself same) = or-right (is_among n turns) (is_root_in s n (u ∷ turns))
      (subst (λ q. is_root_in s q (u ∷ turns) ≡ true) (sym same) (root-in s u tree (u ∷ turns) (or-left (same_name u u) (is_among u turns) (same_name-itself u)) own))
  goes-all n (depends.turn a actor m on there took dep called rest) = or-left (is_among n turns) (is_root_in s n (u ∷ turns)) (all.found.took a on n (sent-found a on (goes-all on rest) (took-by a m took on dep)) turn-is)
    where
      taken : depends_in on (named a s.taken) ≡ true
      taken = ap (depends_in on) took ∙ ap (passes (same_name on)) dep ∙ same_name-itself on

      turn-is : turn_on s on a ≡ Some n
      turn-is = ap (λ c. cond c (next_turn a (actor_at s.board a)) None) taken ∙ ap (next_turn a) there ∙ ap (λ q. Some q) (sym called)
  goes-all n (depends.attempt v t there called rest) = by (or-one (is_among v turns) (is_root_in s v (u ∷ turns)) (goes-all v rest))
    where
      by : (is_among v turns ≡ true) ⊎ (is_root_in s v (u ∷ turns) ≡ true) → goes n ≡ true
      by (inl turn) = or-right (is_among n turns) (is_root_in s n (u ∷ turns)) (subst (λ q. is_root_in s q (u ∷ turns) ≡ true) (sym called) (root-in s v t (u ∷ turns) (or-right (same_name v u) (is_among v turns) turn) there))
      by (inr root) = let o = root-of-one s v (u ∷ turns) root in let x = unit-of s st going v t there in absurd (no-root v x.0 x.1 o.unit o.tree o.there o.root)

  goes-only : (n : Name) → goes n ≡ true → DependsIn s tree.root n
  goes-only n is = by (or-one (is_among n turns) (is_root_in s n (u ∷ turns)) is)
    where
      by : (is_among n turns ≡ true) ⊎ (is_root_in s n (u ∷ turns) ≡ true) → DependsIn s tree.root n
      by (inl turn) = turn-hangs s tree.root n (all.found.turns_hang n turn)
      by (inr root) = at (or-one (same_name o.unit u) (is_among o.unit turns) o.one)
        where
          o : IsRootOfOne s n (u ∷ turns)
          o = root-of-one s n (u ∷ turns) root

          at : (same_name o.unit u ≡ true) ⊎ (is_among o.unit turns ≡ true) → DependsIn s tree.root n
          at (inl first) =
              let both : Some o.tree ≡ Some tree = sym o.there ∙ ap (λ q. named q s.attempts) (same_name-equal o.unit u first) ∙ own in
              let same : o.tree ≡ tree = cc in
              depends.itself (o.root ∙ ap (λ (k : Attempt). k.root) same)
          at (inr later) = depends.attempt o.unit o.tree o.there o.root (turn-hangs s tree.root o.unit (all.found.turns_hang o.unit later))

  pub are-gone : AreGone s tree.root goes
  are-gone = record { all = goes-all; only = goes-only }
