-- What stands in a place is changed, and its mark is not.
use Rattle.std.proofs.Common.{◌≡◌, ◌∙◌, ℕ, List, Option, Some, None, IsSome, inl, inr, refl, sym, ap, subst, arith}
use Rattle.std.specs.Option.{IfSome, option_and_then, option_map}
use Rattle.piece_table.specs.declared.piece.Piece.{Piece as Kept}
use Rattle.unit_table.specs.Board.{Board, IsPutAt, SameClaims, actor_at, lent_at, lent_in, mark_at, marks_ready, piece_at, unit_at}
use Rattle.unit_table.specs.Keeping.{IsKept, IsPlace, SameSlots, need_at, waits_for}
use Rattle.unit_table.specs.Piece.{actor_in, awaited, becoming, mark_in, moved, says_ready, unit_in, with_state}
use Rattle.unit_table.specs.declared.piece.Actor.{Actor}
use Rattle.unit_table.specs.declared.piece.Piece.{Piece}
use Rattle.unit_table.specs.declared.piece.Piece.TheVariants as piece
use Rattle.unit_table.specs.declared.record.Record.{Record}
use Rattle.unit_table.specs.declared.unit.Becoming.{Becoming}
use Rattle.unit_table.specs.declared.unit.Unit.{Unit}
use Rattle.eval_step.specs.Evaluation.{Evaluation}
use Rattle.serial_model.specs.declared.actor_state.ActorState.{ActorState}
use Rattle.unit_table.proofs.Changes as changes
use Rattle.unit_table.proofs.Changes.{Changes}
use Rattle.value_core.proofs.NamedLaws.{named-here, named-other, same_or_not}
use Rattle.value_core.specs.Named.{IsChanged, IsChangedTo, Name, Named, named, with_named}

some_same : {X : Type 0} (x y : X) → Some x ≡ Some y → x ≡ y
some_same x y e = cc

none_some : {X P : Type 0} (o : Option X) (x : X) → o ≡ None → o ≡ Some x → P
none_some o x none some = absurd (cc)

-- a place where something stands
pub placed : (b : Board) (name : Name) (p : Piece) → piece_at b name ≡ Some p → (r : Record) × (named name b.records ≡ Some r) × (r.piece ≡ Some p)
placed b name p stands = on (named name b.records) refl
  where
    on : (found : Option Record) → named name b.records ≡ found → (r : Record) × (named name b.records ≡ Some r) × (r.piece ≡ Some p)
    on None none = none_some (piece_at b name) p (ap (option_and_then (λ (r : Record). r.piece)) none) stands
    on (Some r) there = (r, there, sym (ap (option_and_then (λ (x : Record). x.piece)) there) ∙ stands)

-- the records after a change of one
abbrev pub with_records : Board → Named Record → Board
with_records b records = record b { records = records }

module _ (b : Board) (records : Named Record) (waits : List (Option ℕ)) (name : Name) (f : Piece → Piece) (p : Piece)
    (kept : IsKept b waits) (stands : piece_at b name ≡ Some p) (same : mark_in (f p) ≡ mark_in p)
    (changed : IsChanged name b.records records (λ r after. after ≡ record r { piece = option_map f r.piece })) where
  abbrev r : Record
  r = (placed b name p stands).0

  abbrev there : named name b.records ≡ Some r
  there = (placed b name p stands).1

  abbrev has : r.piece ≡ Some p
  has = (placed b name p stands).2

  to : IsChangedTo name b.records records (λ x after. after ≡ record x { piece = option_map f x.piece }) r
  to = changed r there

  after_is : to.item ≡ record r { piece = Some (f p) }
  after_is = to.related ∙ ap (λ o. record r { piece = option_map f o }) has

  now : records ≡ with_named b.records name (record r { piece = Some (f p) })
  now = to.put ∙ ap (with_named b.records name) after_is

  place : IsPlace b waits name r
  place = kept.places name r there

  ready_same : marks_ready (Some (f p)) ≡ marks_ready r.piece
  ready_same = ap says_ready same ∙ ap marks_ready (sym has)

  changes_it : Changes b (with_records b records) waits waits name r (Some (f p)) place.kept.lent
  changes_it = record {
    there = there;
    here = ap (named name) now ∙ named-here name _ b.records;
    others = λ q apart. ap (named q) now ∙ named-other q name _ b.records apart;
    names = refl;
    put = record {
      here = place.there ∙ ap (λ t. Some (record { is_ready = t; lent = place.kept.lent })) (place.ready ∙ sym ready_same);
      others = λ other apart. refl;
      later = λ slot. omega (arith);
    };
    idle = λ no. place.idle (place.ready ∙ sym ready_same ∙ no);
    tied = kept.tied;
    need_here = place.need ∙ ap (need_at b.records) (sym waits_same);
    need_others = λ slot apart. refl;
    room = omega (arith);
    can_wait = subst (λ o. IfSome o (λ q. IsSome (named q b.records))) (sym waits_same) place.awaited;
  }
    where
      waits_same : waits_for (Some (f p)) ≡ waits_for r.piece
      waits_same = ap awaited same ∙ ap waits_for (sym has)

  pub content_keeps : IsKept (with_records b records) waits
  content_keeps = changes.keeps b (with_records b records) waits waits name r (Some (f p)) place.kept.lent kept changes_it

  pub content_put : IsPutAt name (Some (f p)) b (with_records b records)
  content_put = changes.put b (with_records b records) waits waits name r (Some (f p)) place.kept.lent kept changes_it

  pub content_places : (q : Name) → IsSome (named q b.records) → IsSome (named q records)
  content_places = changes.there_still b (with_records b records) waits waits name r (Some (f p)) place.kept.lent kept changes_it

  pub content_slots : SameSlots b (with_records b records)
  content_slots = changes.slot_same b (with_records b records) waits waits name r (Some (f p)) place.kept.lent kept changes_it

  pub content_claims : SameClaims b (with_records b records)
  content_claims = record {
    lent = λ q. elim (same_or_not q name) [
      | inl is ↦
          ap (lent_at (with_records b records)) is ∙ changes.lent_here b (with_records b records) waits waits name r (Some (f p)) place.kept.lent kept changes_it
          ∙ sym (ap (lent_at b) is ∙ ap (option_and_then (λ (x : Record). lent_in b.table x.ticket)) there ∙ ap (option_and_then (λ (k : Kept). k.lent)) place.there)
      | inr apart ↦ changes.lent_other b (with_records b records) waits waits name r (Some (f p)) place.kept.lent kept changes_it q apart
    ];
    to = λ claim. refl;
    later = λ slot. omega (arith);
  }

-- a unit that is found stands there
pub unit_stands : (b : Board) (name : Name) (u : Unit) → unit_at b name ≡ Some u → piece_at b name ≡ Some (piece.Unit u)
unit_stands b name u is = on (piece_at b name) refl
  where
    on : (found : Option Piece) → piece_at b name ≡ found → found ≡ Some (piece.Unit u)
    on None none = none_some (unit_at b name) u (ap (option_and_then unit_in) none) is
    on (Some (piece.Unit v)) stands = ap (λ x. Some (piece.Unit x)) (some_same _ _ (sym (ap (option_and_then unit_in) stands) ∙ is))
    on (Some (piece.Task mark)) stands = none_some (unit_at b name) u (ap (option_and_then unit_in) stands) is
    on (Some (piece.Actor actor)) stands = none_some (unit_at b name) u (ap (option_and_then unit_in) stands) is

-- an actor that is found stands there, with its mark
pub record ActorStands (b : Board) (name : Name) : Type 0 where
  pub kept : Actor
  pub stands : piece_at b name ≡ Some (piece.Actor kept)

pub actor_stands : (b : Board) (name : Name) → IsSome (actor_at b name) → ActorStands b name
actor_stands b name is = on (piece_at b name) refl
  where
    no : (found : Option Piece) → piece_at b name ≡ found → option_and_then actor_in found ≡ None → ActorStands b name
    no found stands none = by_found (actor_at b name) (ap (option_and_then actor_in) stands ∙ none) is
      where
        by_found : (o : Option ActorState) → o ≡ None → IsSome o → ActorStands b name
        by_found None e there = absurd (cc)
        by_found (Some state) e there = none_some (Some state) state e refl

    on : (found : Option Piece) → piece_at b name ≡ found → ActorStands b name
    on None none = no None none refl
    on (Some (piece.Actor actor)) stands = record { kept = actor; stands = stands }
    on (Some (piece.Unit unit)) stands = no (Some (piece.Unit unit)) stands refl
    on (Some (piece.Task mark)) stands = no (Some (piece.Task mark)) stands refl

pub record UnitStands (b : Board) (name : Name) : Type 0 where
  pub kept : Unit
  pub stands : piece_at b name ≡ Some (piece.Unit kept)

pub unit_found : (b : Board) (name : Name) → IsSome (unit_at b name) → UnitStands b name
unit_found b name is = on (unit_at b name) refl is
  where
    on : (found : Option Unit) → unit_at b name ≡ found → IsSome found → UnitStands b name
    on None none there = absurd (cc)
    on (Some u) found there = record { kept = u; stands = unit_stands b name u found }

module _ (b : Board) (records : Named Record) (waits : List (Option ℕ)) (name : Name) (machine : Evaluation) (made : ℕ)
    (kept : IsKept b waits) (there : IsSome (unit_at b name)) (changed : IsChanged name b.records records (λ r after. after ≡ record r { piece = option_map (moved machine made) r.piece })) where
  found : UnitStands b name
  found = unit_found b name there

  pub moved_keeps : IsKept (with_records b records) waits
  moved_keeps = content_keeps b records waits name (moved machine made) (piece.Unit found.kept) kept found.stands refl changed

  pub moved_claims : SameClaims b (with_records b records)
  moved_claims = content_claims b records waits name (moved machine made) (piece.Unit found.kept) kept found.stands refl changed

  pub moved_places : (q : Name) → IsSome (named q b.records) → IsSome (named q records)
  moved_places = content_places b records waits name (moved machine made) (piece.Unit found.kept) kept found.stands refl changed

  pub moved_slots : SameSlots b (with_records b records)
  moved_slots = content_slots b records waits name (moved machine made) (piece.Unit found.kept) kept found.stands refl changed

  pub moved_put : IfSome (unit_at b name) (λ unit. IsPutAt name (Some (piece.Unit (record unit { machine = machine; made = made }))) b (with_records b records))
  moved_put = subst (λ o. IfSome o (λ unit. IsPutAt name (Some (piece.Unit (record unit { machine = machine; made = made }))) b (with_records b records))) (sym (ap (option_and_then unit_in) found.stands))
      (content_put b records waits name (moved machine made) (piece.Unit found.kept) kept found.stands refl changed)

module _ (b : Board) (records : Named Record) (waits : List (Option ℕ)) (name : Name) (next : Option Becoming)
    (kept : IsKept b waits) (there : IsSome (unit_at b name)) (changed : IsChanged name b.records records (λ r after. after ≡ record r { piece = option_map (becoming next) r.piece })) where
  turning : UnitStands b name
  turning = unit_found b name there

  pub turned_keeps : IsKept (with_records b records) waits
  turned_keeps = content_keeps b records waits name (becoming next) (piece.Unit turning.kept) kept turning.stands refl changed

  pub turned_claims : SameClaims b (with_records b records)
  turned_claims = content_claims b records waits name (becoming next) (piece.Unit turning.kept) kept turning.stands refl changed

  pub turned_places : (q : Name) → IsSome (named q b.records) → IsSome (named q records)
  turned_places = content_places b records waits name (becoming next) (piece.Unit turning.kept) kept turning.stands refl changed

  pub turned_slots : SameSlots b (with_records b records)
  turned_slots = content_slots b records waits name (becoming next) (piece.Unit turning.kept) kept turning.stands refl changed

  pub turned_put : IfSome (unit_at b name) (λ unit. IsPutAt name (Some (piece.Unit (record unit { becomes = next }))) b (with_records b records))
  turned_put = subst (λ o. IfSome o (λ unit. IsPutAt name (Some (piece.Unit (record unit { becomes = next }))) b (with_records b records))) (sym (ap (option_and_then unit_in) turning.stands))
      (content_put b records waits name (becoming next) (piece.Unit turning.kept) kept turning.stands refl changed)

module _ (b : Board) (records : Named Record) (waits : List (Option ℕ)) (name : Name) (state : ActorState)
    (kept : IsKept b waits) (there : IsSome (actor_at b name)) (changed : IsChanged name b.records records (λ r after. after ≡ record r { piece = option_map (with_state state) r.piece })) where
  actor : ActorStands b name
  actor = actor_stands b name there

  pub state_keeps : IsKept (with_records b records) waits
  state_keeps = content_keeps b records waits name (with_state state) (piece.Actor actor.kept) kept actor.stands refl changed

  pub state_claims : SameClaims b (with_records b records)
  state_claims = content_claims b records waits name (with_state state) (piece.Actor actor.kept) kept actor.stands refl changed

  pub state_places : (q : Name) → IsSome (named q b.records) → IsSome (named q records)
  state_places = content_places b records waits name (with_state state) (piece.Actor actor.kept) kept actor.stands refl changed

  pub state_slots : SameSlots b (with_records b records)
  state_slots = content_slots b records waits name (with_state state) (piece.Actor actor.kept) kept actor.stands refl changed

  pub state_put : IfSome (mark_at b name) (λ mark. IsPutAt name (Some (piece.Actor (record { state = state; mark = mark }))) b (with_records b records))
  state_put = subst (λ o. IfSome o (λ mark. IsPutAt name (Some (piece.Actor (record { state = state; mark = mark }))) b (with_records b records))) (sym (ap (option_map mark_in) actor.stands))
      (content_put b records waits name (with_state state) (piece.Actor actor.kept) kept actor.stands refl changed)
