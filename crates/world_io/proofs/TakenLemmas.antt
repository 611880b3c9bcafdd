-- What sinks take over calls in a row.
use Rattle.std.proofs.Common.{◌≡◌, ℕ, ◌+◌, ◌≤◌, List, [], ◌++◌, length, take, drop, Option, None, Some, refl, ap, sym, ◌∙◌, append_assoc, append-nil, length-append, arith}
use Rattle.std.proofs.Math.Seq.{take-add, take-append-add}
use Rattle.std.proofs.lemmas.List.{take-append-le}
use Rattle.std.specs.Io.KnownBytes.{append_known}
use Rattle.world_io.specs.Seen.{SinkSeen}
use Rattle.world_io.specs.Taken.{TookPrefix, Said}
use Rattle.world_io.proofs.CountsLemmas.{not_risen-first, not_risen-second}

-- no byte more
pub append_known-nil : (old : Option (List ℕ)) → append_known old [] ≡ old
append_known-nil None = refl
append_known-nil (Some bytes) = ap Some (append-nil bytes)

-- one text, and then another
pub append_known-append : (old : Option (List ℕ)) (front back : List ℕ) → append_known (append_known old front) back ≡ append_known old (front ++ back)
append_known-append None front back = refl
append_known-append (Some bytes) front back = ap Some (append_assoc bytes front back)

-- the front of a text was taken, and then n bytes of the rest
pub taken-more : (old mid new : Option (List ℕ)) (at n : ℕ) (text rest : List ℕ) → rest ≡ drop at text → mid ≡ append_known old (take at text) → new ≡ append_known mid (take n rest)
    → new ≡ append_known old (take (at + n) text)
taken-more old mid new at n text rest is front back =
    back ∙ ap (λ r. append_known mid (take n r)) is ∙ ap (λ t. append_known t (take n (drop at text))) front ∙ append_known-append old (take at text) (take n (drop at text)) ∙ ap (append_known old) (sym (take-add at n text))

-- nothing is a prefix of every text
pub TookPrefix-none : (old new : Option (List ℕ)) (text : List ℕ) → new ≡ old → TookPrefix old new text
TookPrefix-none old new text same = (0, omega arith, same ∙ sym (append_known-nil old))

-- a prefix of a text is one of each longer text
pub TookPrefix-longer : (old new : Option (List ℕ)) (text more : List ℕ) → TookPrefix old new text → TookPrefix old new (text ++ more)
TookPrefix-longer old new text more took =
    (took.0, omega (arith, length-append text more, took.1), took.2 ∙ ap (append_known old) (sym (take-append-le took.0 text more took.1)))

-- a text was taken whole, and then a prefix of another
pub TookPrefix-append : (old mid new : Option (List ℕ)) (front back : List ℕ) → mid ≡ append_known old front → TookPrefix mid new back → TookPrefix old new (front ++ back)
TookPrefix-append old mid new front back whole took = (
  length front + took.0,
  omega (arith, length-append front back, took.1),
  took.2 ∙ ap (λ t. append_known t (take took.0 back)) whole ∙ append_known-append old front (take took.0 back) ∙ ap (append_known old) (sym (take-append-add front back took.0)),
)

-- two lines in a row
pub Said-append : (old mid new : SinkSeen) (front back : List ℕ) → old.faults ≤ mid.faults → mid.faults ≤ new.faults
    → Said old mid front → Said mid new back → Said old new (front ++ back)
Said-append old mid new front back first second said_front said_back calm =
    said_back (not_risen-second old.faults mid.faults new.faults calm first)
    ∙ ap (λ t. append_known t back) (said_front (not_risen-first old.faults mid.faults new.faults calm second))
    ∙ append_known-append old.taken front back
