-- Where what is kept is not at rest, a unit is not finished or somebody has mail.
use Rattle.std.proofs.Common.{◌≡◌, ◌∙◌, ◌⊎◌, inl, inr, Bool, true, false, List, [], ◌∷◌, refl, sym, ap, subst}
use Rattle.std.specs.Option.{IsSome, option_and_then}
use Rattle.std.specs.Prelude.{Option, None, Some}
use Rattle.actor_mailbox.specs.declared.message.Message.{Message}
use Rattle.actor_mails.specs.Mails.{mail_at, those}
use Rattle.shared_world.specs.Rest.{IsAtRest}
use Rattle.shared_world.specs.Shared.{Shared}
use Rattle.unit_table.specs.Board.{is_unfinished}
use Rattle.unit_table.specs.declared.record.Record.{Record}
use Rattle.unit_table.specs.Piece.{goes_on}
use Rattle.value_core.proofs.NamedLaws.{found_first}
use Rattle.value_core.specs.Named.{Name, Named, named}
use Rattle.value_core.specs.NameSet.{holds_at}

-- a name of the map for which that is so
abbrev pub Some_of : (Name → Bool) → Type 0
Some_of test = (n : Name) × (test n ≡ true)

-- that is so for some name of the map, or for none
some-or-none : {X : Type 0} (test : Name → Bool) (all : Named X) → Some_of test ⊎ ((n : Name) → IsSome (named n all) → test n ≡ false)
some-or-none {X} test [] = inr (λ n there. absurd (cc))
some-or-none {X} test (e ∷ es) = on (test e.0) refl (some-or-none test es)
  where
    first : test e.0 ≡ false → ((n : Name) → IsSome (named n es) → test n ≡ false) → (n : Name) → (found : Option X) → named n (e ∷ es) ≡ found → IsSome found → test n ≡ false
    first not rest n None is there = absurd (cc)
    first not rest n (Some x) is there = by (found_first n x e es is)
      where
        by : ((n ≡ e.0) × (x ≡ e.1)) ⊎ (named n es ≡ Some x) → test n ≡ false
        by (inl same) = ap test same.0 ∙ not
        by (inr behind) = rest n (subst IsSome (sym behind) refl)

    on : (b : Bool) → test e.0 ≡ b → Some_of test ⊎ ((n : Name) → IsSome (named n es) → test n ≡ false) → Some_of test ⊎ ((n : Name) → IsSome (named n (e ∷ es)) → test n ≡ false)
    on true is rest = inl (e.0, is)
    on false is (inl found) = inl found
    on false is (inr none) = inr (λ n there. first is none n (named n (e ∷ es)) refl there)

-- there is a message
abbrev pub has_mail : List Message → Bool
has_mail [] = false
has_mail (m ∷ ms) = true

-- where there is none there are none
no-mail : (ms : List Message) → has_mail ms ≡ false → ms ≡ []
no-mail [] is = refl
no-mail (m ∷ ms) is = cc

-- the search over the pieces, and then over the mails
pub some-is-left : (s : Shared) → (IsAtRest s → ⊥) → Some_of (is_unfinished s.board) ⊎ Some_of (λ a. has_mail (mail_at s.mails a))
some-is-left s restless = units (some-or-none (is_unfinished s.board) s.board.records)
  where
    unit-done : ((u : Name) → IsSome (named u s.board.records) → is_unfinished s.board u ≡ false) → (u : Name) → (found : Option Record) → named u s.board.records ≡ found → is_unfinished s.board u ≡ false
    unit-done none u None is = ap (λ (found : Option Record). holds_at goes_on (option_and_then (λ (r : Record). r.piece) found)) is
    unit-done none u (Some r) is = none u (subst IsSome (sym is) refl)

    mail-none : ((a : Name) → IsSome (named a s.mails) → has_mail (mail_at s.mails a) ≡ false) → (a : Name) → (found : Option (List Message)) → named a s.mails ≡ found → mail_at s.mails a ≡ []
    mail-none none a None is = ap those is
    mail-none none a (Some ms) is = no-mail (mail_at s.mails a) (none a (subst IsSome (sym is) refl))

    mails : ((u : Name) → IsSome (named u s.board.records) → is_unfinished s.board u ≡ false) → Some_of (λ a. has_mail (mail_at s.mails a)) ⊎ ((a : Name) → IsSome (named a s.mails) → has_mail (mail_at s.mails a) ≡ false)
        → Some_of (is_unfinished s.board) ⊎ Some_of (λ a. has_mail (mail_at s.mails a))
    mails none (inl found) = inr found
    mails none (inr empty) = absurd (restless (record { units = λ u. unit-done none u (named u s.board.records) refl; mail = λ a. mail-none empty a (named a s.mails) refl }))

    units : Some_of (is_unfinished s.board) ⊎ ((u : Name) → IsSome (named u s.board.records) → is_unfinished s.board u ≡ false) → Some_of (is_unfinished s.board) ⊎ Some_of (λ a. has_mail (mail_at s.mails a))
    units (inl found) = inl found
    units (inr none) = mails none (some-or-none (λ a. has_mail (mail_at s.mails a)) s.mails)
