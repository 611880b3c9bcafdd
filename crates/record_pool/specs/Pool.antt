-- What a contract sees of a pool.
use Rattle.std.specs.Prelude.{◌≡◌, ◌≢◌, ℕ, ◌+◌, ◌^◌, ◌≤◌, ◌==◌, List, Option, Some, None, if◌then◌else◌, slice_index_or, slice_set, refl}
use Rattle.std.specs.Coded.{Coded, code_by, coded×, coded_ℕ, coded_list, coded_option}
use Rattle.value_core.specs.declared.ticket.Ticket.{Ticket}

-- of each slot its record, and a generation such that it and all above it were not given out; the
-- spare room; and the generation that a slot begins with
pub record Pool (T : Type 0) : Type 0 where
  pub places : List (Option T × ℕ)
  pub room : ℕ
  pub first : ℕ

abbrev pub pool_code : {T : Type 0} → Coded T → Coded (Pool T)
pool_code {T} code = code_by
    (List (Option T × ℕ) × (ℕ × ℕ))
    (coded× (coded_list (coded× (coded_option code) coded_ℕ)) (coded× coded_ℕ coded_ℕ))
    (λ p. (p.places, (p.room, p.first)))
    (λ p. record { places = p.0; room = p.1.0; first = p.1.1 })
    (λ _. refl)

module _ {T : Type 0} where
  -- what the slot has; one that is still to be made has nothing
  abbrev pub place_at : Pool T → ℕ → Option T × ℕ
  place_at p slot = slice_index_or p.places slot (None, p.first)

  -- no generation below this one will be given out for the slot
  abbrev pub next_of : Pool T → ℕ → ℕ
  next_of p slot = (place_at p slot).1

  -- the record in a place, if it is of the generation
  abbrev pub read : Option T × ℕ → ℕ → Option T
  read place generation = if place.1 == generation + 1 then place.0 else None

  -- the record of a live ticket
  abbrev pub find : Pool T → Ticket → Option T
  find p ticket = read (place_at p ticket.slot) ticket.generation

  -- the slot has this now, and every other has what it had
  pub record Puts (old new : Pool T) (slot : ℕ) (place : Option T × ℕ) : Type 0 where
    pub changed : place_at new slot ≡ place
    pub others : (other : ℕ) → other ≢ slot → place_at new other ≡ place_at old other

  -- the ticket is the next one of its slot, which was never given out, and has the record now
  pub record Gives (old new : Pool T) (ticket : Ticket) (value : T) : Type 0 where
    pub vacant : (place_at old ticket.slot).0 ≡ None
    pub fresh : ticket.generation ≡ next_of old ticket.slot
    pub puts : Puts old new ticket.slot (Some value, ticket.generation + 1)
    pub first : new.first ≡ old.first

  -- the pool after a write through `get_mut`
  abbrev pub with_record : Pool T → Ticket → T → Pool T
  with_record p ticket value = record p { places = slice_set p.places ticket.slot (Some value, ticket.generation + 1) }

-- how much room a removal makes: none where the slot is retired
abbrev pub after_removal : Ticket → ℕ
after_removal ticket = if ticket.generation + 1 == 2 ^ 32 then 0 else 1
