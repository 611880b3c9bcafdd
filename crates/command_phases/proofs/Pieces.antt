-- A text that is written in pieces.
use Rattle.std.proofs.Common.{◌≡◌, ℕ, ◌+◌, ◌<◌, List, ◌∷◌, ◌++◌, length, get_or, take, drop, refl, sym, ◌∙◌, ap, add-one, drop-cons, append_assoc}
use Rattle.std.specs.Prelude.{Option, flat_map, codes, decimal}
use Rattle.std.specs.Io.KnownBytes.{append_known}
use Rattle.std.proofs.lemmas.List.{take-append-drop}
use Rattle.std.proofs.lemmas.Grind.{flat_map-append}
use Rattle.world_io.specs.Taken.{TookPrefix}
use Rattle.world_io.proofs.TakenLemmas.{TookPrefix-append, TookPrefix-longer}
use Rattle.command_phases.specs.Check.{count_line}

-- the pieces before one, that one, and those after it
split_at : {X : Type 0} (f : X → List ℕ) (xs : List X) (i : ℕ) (d : X) → i < length xs → flat_map f xs ≡ (flat_map f (take i xs) ++ f (get_or xs i d)) ++ flat_map f (drop (i + 1) xs)
split_at f xs i d h =
    let here : drop i xs ≡ get_or xs i d ∷ drop (i + 1) xs = rw (drop-cons xs i d, add-one) refl in
    ap (flat_map f) (sym (take-append-drop i xs)) ∙ flat_map-append f (take i xs) (drop i xs)
    ∙ ap (λ x. flat_map f (take i xs) ++ flat_map f x) here
    ∙ sym (append_assoc (flat_map f (take i xs)) (f (get_or xs i d)) (flat_map f (drop (i + 1) xs)))

-- the pieces before one were taken, and a front of that one
pub TookPrefix-pieces : {X : Type 0} (f : X → List ℕ) (xs : List X) (i : ℕ) (d : X) (old mid new : Option (List ℕ)) → i < length xs
    → mid ≡ append_known old (flat_map f (take i xs)) → TookPrefix mid new (f (get_or xs i d)) → TookPrefix old new (flat_map f xs)
TookPrefix-pieces f xs i d old mid new h whole took =
    rw (split_at f xs i d h) (TookPrefix-longer old new _ (flat_map f (drop (i + 1) xs)) (TookPrefix-append old mid new (flat_map f (take i xs)) (f (get_or xs i d)) whole took))

-- seven pieces, one behind the other
pub seven : (a x b y d z e : List ℕ) → a ++ (x ++ (b ++ (y ++ (d ++ (z ++ e))))) ≡ (((((a ++ x) ++ b) ++ y) ++ d) ++ z) ++ e
seven a x b y d z e =
    sym (append_assoc a x (b ++ (y ++ (d ++ (z ++ e))))) ∙ sym (append_assoc (a ++ x) b (y ++ (d ++ (z ++ e))))
    ∙ sym (append_assoc ((a ++ x) ++ b) y (d ++ (z ++ e))) ∙ sym (append_assoc (((a ++ x) ++ b) ++ y) d (z ++ e))
    ∙ sym (append_assoc ((((a ++ x) ++ b) ++ y) ++ d) z e)

-- the pieces of the line of so many functions, behaviours and globals
pub count_pieces : (functions behaviours globals : ℕ)
    → codes "ok " ++ (decimal functions ++ (codes " functions " ++ (decimal behaviours ++ (codes " behaviours " ++ (decimal globals ++ codes " globals\n"))))) ≡ count_line functions behaviours globals
count_pieces functions behaviours globals = seven (codes "ok ") (decimal functions) (codes " functions ") (decimal behaviours) (codes " behaviours ") (decimal globals) (codes " globals\n")
